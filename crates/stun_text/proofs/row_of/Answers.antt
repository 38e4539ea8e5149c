-- `stun_text::row_of` meets its contract: in each branch the byte is in the first range of one row of the table, or between two.
use mathlib.Core.Path.{refl}
use native.Mathlib.Omega.{arith}
use lib.ListN.{take, drop}
use Rattle.stun_text.specs.Utf8.{table}
use Rattle.stun_text.proofs.Table.{begins, begins_none, begins_either}
use Rattle.stun_text.proofs.row_of.Goals as goal

pub returns-then-b-le127 : goal.returns-then-b-le127
returns-then-b-le127 c = begins (take 0 table) (drop 1 table) 0x00 0x7F _ _ _ _ refl tt tt (omega arith) (omega arith)

pub returns-then-b-le223 : goal.returns-then-b-le223
returns-then-b-le223 c = begins (take 1 table) (drop 2 table) 0xC2 0xDF _ _ _ _ refl tt tt (omega arith) (omega arith)

pub returns-then-b-eq224 : goal.returns-then-b-eq224
returns-then-b-eq224 c = begins (take 2 table) (drop 3 table) 0xE0 0xE0 _ _ _ _ refl tt tt (omega arith) (omega arith)

pub returns-then-b-eq237 : goal.returns-then-b-eq237
returns-then-b-eq237 c = begins (take 4 table) (drop 5 table) 0xED 0xED _ _ _ _ refl tt tt (omega arith) (omega arith)

pub returns-then-b-le239 : goal.returns-then-b-le239
returns-then-b-le239 c = begins_either _ (omega arith) (omega arith) c.if-b-eq237.false

pub returns-then-b-eq240 : goal.returns-then-b-eq240
returns-then-b-eq240 c = begins (take 6 table) (drop 7 table) 0xF0 0xF0 _ _ _ _ refl tt tt (omega arith) (omega arith)

pub returns-then-b-le243 : goal.returns-then-b-le243
returns-then-b-le243 c = begins (take 7 table) (drop 8 table) 0xF1 0xF3 _ _ _ _ refl tt tt (omega arith) (omega arith)

pub returns-then-b-eq244 : goal.returns-then-b-eq244
returns-then-b-eq244 c = begins (take 8 table) (drop 9 table) 0xF4 0xF4 _ _ _ _ refl tt tt (omega arith) (omega arith)

pub returns : goal.returns
returns c = begins_none 0xF5 0xFF _ tt (omega arith) (omega arith)
