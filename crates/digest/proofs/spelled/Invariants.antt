-- The first i words are written, and zeros behind them.
use Rattle.std.proofs.Common.{◌≡◌, ◌-◌, ◌*◌, take, drop, replicate}
use mathlib.Core.List.{flat_map}
use Rattle.digest.specs.Bytes.{bytes, ordered}
use Rattle.digest.proofs.spelled.Given as goal

abbrev pub invariant-loop-i : goal.invariant-loop-i
invariant-loop-i g l =
    (take (4 * l.i) l.places ≡ flat_map (bytes (ordered l.big) 4) (take l.i l.words)) × (drop (4 * l.i) l.places ≡ replicate (g.row.LEN - 4 * l.i) 0)
