use Prim.Native.Nat.{◌+◌, ◌-◌, ◌≤◌}
use lib.ListN.{length}
use Rattle.stun_check.proofs.Walk.{Left}
use Rattle.stun_check.proofs.integrity.Given as goal

abbrev pub invariant-loop-p : goal.invariant-loop-p
invariant-loop-p l = (20 ≤ l.p) × (l.p ≤ length l.buf + 65540) × Left l.buf l.p

abbrev pub decreases-loop-p : goal.decreases-loop-p
decreases-loop-p l = l.stop - l.p
