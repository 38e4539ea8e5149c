-- From any state from which T rounds lead to the first words, t rounds lead to the words.
use Rattle.std.proofs.Common.{◌≡◌}
use Rattle.sha1_digest.specs.Rfc3174.{State, state, rounds}
use Rattle.sha1_digest.proofs.twenty.Given as goal

abbrev pub invariant-loop-t : goal.invariant-loop-t
invariant-loop-t g l = (h : State) → state l.fn.s ≡ rounds l.w g.row.T h → state l.s ≡ rounds l.w l.t h
