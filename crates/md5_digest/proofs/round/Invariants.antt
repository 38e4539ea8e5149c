-- From any state from which 16 N operations lead to the first registers, i operations lead to the registers.
use Rattle.std.proofs.Common.{◌≡◌, ◌*◌}
use Rattle.md5_digest.specs.Rfc1321.{State, state, turns}
use Rattle.md5_digest.proofs.round.Given as goal

abbrev pub invariant-loop-i : goal.invariant-loop-i
invariant-loop-i g l = (h : State) → state l.fn.s ≡ turns l.x (16 * g.row.N) h → state l.s ≡ turns l.x l.i h
