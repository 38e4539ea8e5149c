use mathlib.Core.Path.{◌≡◌}
use lib.ListN.{length, take}
use lib.Dec.{eqb}
use Rattle.stun_check.specs.Source.{same}
use Rattle.stun_check.proofs.same.Given as goal

abbrev pub invariant-loop-a : goal.invariant-loop-a
invariant-loop-a l = eqb l.differ 0 ≡ same (take (length l.yielded) l.mac) (take (length l.yielded) l.part)
