-- A field at the front of the bytes in hand ends with them or before, and what it carries ends with it.
use Rattle.std.proofs.Common.{◌≡◌, ℕ, ◌+◌, ◌-◌, ◌≤◌, Bool, List, length, take, drop, sym, ◌∙◌, arith, length-drop, length-take-le}
use Rattle.tape.specs.declared.Stage.{Stage}
use Rattle.tape.specs.declared.Piece.{Piece}
use Rattle.tape.specs.declared.Front.{Front}
use Rattle.tape.specs.declared.Front.TheVariants.{Field}
use Rattle.tape.specs.Window.{next_of}
use Rattle.tape.proofs.Sizes.{inside}

pub in_hand :
    (stage : Stage) (w : List ℕ) (from to : ℕ) (ended : Bool) {p : Piece} {size start len : ℕ} {f : Front} → from ≤ to → to ≤ length w →
    f ≡ next_of stage (take (to - from) (drop from w)) ended → f ≡ Field p size start len → (from + size ≤ to) × (start ≤ size)
in_hand stage w from to ended {p} {size} {start} {len} h g e d =
    let i = inside stage (take (to - from) (drop from w)) ended p size start len (sym e ∙ d) in
    let l = length-drop from w in
    let k = length-take-le (to - from) (drop from w) (omega (arith, l, h, g)) in
    (omega (arith, i.lies, k, h), omega (arith, i.closes))
