-- `turn_tables::remove` meets its contract: the rows after it moved down, and the last is blank.
use Rattle.std.proofs.Common.{min, length, arith}
use borrow.Author.Tests.{lt-ltb}
use Rattle.turn_tables.proofs.Moves.{taken_out}
use Rattle.turn_tables.proofs.remove.Goals as goal

pub returns-clause-kept : goal.returns-clause-kept
returns-clause-kept g c =
    let a = c.args in
    let n = c.min-n.ensures in
    rw (lt-ltb a.i (min a.len (length a.rows.now)) (omega arith), c.copy_within.ensures.after, n) (taken_out a.rows.now a.i (min a.len (length a.rows.now)) a.blank (omega arith) (omega arith))
