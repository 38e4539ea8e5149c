-- The bytes keep their length.
use Rattle.std.proofs.Common.{◌≡◌, length}
use Rattle.turn_cases.proofs.build.ids.Given as goal

abbrev pub invariant-loop-i : goal.invariant-loop-i
invariant-loop-i l = 780 ≡ length l.bytes
