-- The bytes in hand lie in the window, which keeps its length.
use Rattle.std.proofs.Common.{◌≡◌, ◌≤◌, length}
use Rattle.player.proofs.fields.Given as goal

abbrev pub invariant-loop-turn : goal.invariant-loop-turn
invariant-loop-turn g l = (l.from ≤ l.to) × (l.to ≤ length l.window) × (l.to ≤ 18446744073709551615) × (length l.window ≡ length l.initial.window)
