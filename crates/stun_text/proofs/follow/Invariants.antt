use mathlib.Core.Path.{◌≡◌}
use Prim.Native.Nat.{◌+◌, ◌-◌, ◌≤◌}
use lib.ListN.{length, drop}
use Rattle.stun_text.specs.Utf8.{agree}
use Rattle.stun_text.specs.Following.{following}
use Rattle.stun_text.proofs.follow.Given as goal

abbrev pub invariant-loop-k : goal.invariant-loop-k
invariant-loop-k l =
    (l.k ≤ l.row.0) × (l.k ≤ length l.rest)
    × (agree (following l.row.0 l.row.1 l.row.2) l.rest ≡ l.k + agree (following (l.row.0 - l.k) l.low l.high) (drop l.k l.rest))
