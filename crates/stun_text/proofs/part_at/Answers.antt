-- `stun_text::part_at` meets its contract: the row of the first byte, and how far the bytes after it agree.
use native.Mathlib.Omega.{arith}
use Rattle.stun_text.proofs.Table.{led}
use Rattle.stun_text.proofs.part_at.Goals as goal

pub returns : goal.returns
returns c = led c.args.s.now c.args.i _ _ _ c.follow.result (omega arith) c.row_of.ensures c.follow.ensures
