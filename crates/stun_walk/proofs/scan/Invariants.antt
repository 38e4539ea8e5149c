use Prim.Native.Nat.{◌+◌, ◌-◌, ◌≤◌}
use lib.ListN.{length}
use Rattle.stun_walk.proofs.Walk.{Left}
use Rattle.stun_walk.proofs.scan.Given as goal

abbrev pub invariant-loop-p : goal.invariant-loop-p
invariant-loop-p l = (20 ≤ l.p) × (l.p ≤ length l.buf + 65540) × Left l.buf l.t l.p l.hit

abbrev pub decreases-loop-p : goal.decreases-loop-p
decreases-loop-p l = l.end - l.p
