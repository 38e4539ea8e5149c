-- The stages by number: how many fields of the opening are behind.
use mathlib.Core.Path.{◌≡◌, refl, sym, ap, ◌∙◌}
use mathlib.Core.Bool.{cond}
use mathlib.Core.List.{List}
use Prim.Native.Nat.{ℕ, zero, suc, ◌≤◌}
use native.Mathlib.Omega.{arith}
use borrow.Author.Tests.{ne_eqb}
use lib.ListN.{length}
use lib.Dec.{eqb}
use Rattle.std.specs.Prelude.{None}
use Rattle.tape.specs.declared.Stage.TheVariants.{Opened}
use Rattle.tape.specs.declared.Piece.TheVariants.{Username, Password}
use Rattle.tape.specs.Tape.{starts, transport, call, meaning, later, stage_of}

pub stage_opened : (n : ℕ) → 3 ≤ n → stage_of n ≡ Opened
stage_opened n h = simp (ne_eqb n 0 (λ e. omega arith), ne_eqb n 1 (λ e. omega arith), ne_eqb n 2 (λ e. omega arith))

-- the next field is one more
pub stage_later : (n : ℕ) → later (stage_of n) ≡ stage_of (suc n)
stage_later zero = refl
stage_later (suc zero) = refl
stage_later (suc (suc zero)) = refl
stage_later (suc (suc (suc n))) = ap later (stage_opened (suc (suc (suc n))) (omega arith)) ∙ sym (stage_opened (suc (suc (suc (suc n)))) (omega arith))

-- what a body means, by the number
pub meaning_numbered : (n tag : ℕ) (body : List ℕ)
    → meaning (stage_of n) tag body
    ≡ cond (eqb n 0) (cond (eqb tag 0x01) (starts (length body) 0 Username) None)
    (cond (eqb n 1) (cond (eqb tag 0x02) (starts (length body) 0 Password) None)
    (cond (eqb n 2) (cond (eqb tag 0x03) (transport body) None) (call tag body)))
unfolding meaning
meaning_numbered zero tag body = refl
meaning_numbered (suc zero) tag body = refl
meaning_numbered (suc (suc zero)) tag body = refl
meaning_numbered (suc (suc (suc n))) tag body =
    let m : ℕ = suc (suc (suc n)) in
    simp (ne_eqb m 0 (λ e. omega arith), ne_eqb m 1 (λ e. omega arith), ne_eqb m 2 (λ e. omega arith))
