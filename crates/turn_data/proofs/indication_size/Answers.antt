-- `turn_data::indication_size` meets its contract, over the limit and by the family.
use mathlib.Core.Path.{refl}
use native.Mathlib.Omega.{arith}
use Rattle.turn_data.specs.Data.{indication_size}
use Rattle.turn_data.proofs.Seals.{size_over, size_at}
use Rattle.turn_data.proofs.indication_size.Goals as goal

pub returns-then-n-gt65535 : goal.returns-then-n-gt65535
returns-then-n-gt65535 c =
    (size_over c.args.n (indication_size c.args.peer c.args.n) (omega arith), omega arith)

pub returns-in-V4 : goal.returns-in-V4
returns-in-V4 c =
    (size_at c.args.peer _ c.args.n 12 _ (omega arith) c.in-V4.is refl (omega arith), omega arith)

pub returns-in-V6 : goal.returns-in-V6
returns-in-V6 c =
    (size_at c.args.peer _ c.args.n 24 _ (omega arith) c.in-V6.is refl (omega arith), omega arith)
