-- The first t words of the array are the definition's.
use Rattle.std.proofs.Common.{◌≡◌, ◌-◌, length, take}
use Rattle.sha1_digest.specs.Rfc3174.{first, more}
use Rattle.sha1_digest.proofs.schedule.Given as goal

abbrev pub invariant-loop-t : goal.invariant-loop-t
invariant-loop-t l = (length l.w ≡ 80) × (take l.t l.w ≡ first l.m l.t)

abbrev pub invariant-loop-t-2 : goal.invariant-loop-t-2
invariant-loop-t-2 l = (length l.w ≡ 80) × (take l.t l.w ≡ more l.m (l.t - 16))
