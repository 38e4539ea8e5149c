-- A fact of each row of a list: an insert keeps it where it holds of the new row, a removal keeps it, and it holds of a row that is found.
use Rattle.std.specs.Prelude.{Some}
use mathlib.Core.Path.{◌≡◌, subst}
use mathlib.Core.Bool.{Bool, true, false, cond}
use mathlib.Core.List.{List, ◌∷◌}
use Prim.Native.Nat.{ℕ}
use native.Mathlib.Omega.{arith}
use Rattle.turn_state.specs.Maps.{get, insert, remove}
use Rattle.turn_state.specs.View.{Each, no_rows, row}

module _ {R : Type 0} (P : R → Type 0) (is : R → Bool) where
  pub each_insert : (x : R) {l : List R} → P x → Each P l → Each P (insert is x l)
  each_insert x h no_rows = row h no_rows
  each_insert x h (row {r = r} {rest = l} k e) = by (is r) (each_insert x h e)
    where
      by : (b : Bool) → Each P (insert is x l) → Each P (cond b (x ∷ l) (r ∷ insert is x l))
      by true rest = row h e
      by false rest = row k rest

  pub each_remove : {l : List R} → Each P l → Each P (remove is l)
  each_remove no_rows = no_rows
  each_remove (row {r = r} {rest = l} k e) = by (is r) (each_remove e)
    where
      by : (b : Bool) → Each P (remove is l) → Each P (cond b l (r ∷ remove is l))
      by true rest = e
      by false rest = row k rest

  pub each_get : (x : R) {l : List R} → Each P l → get is l ≡ Some x → P x
  each_get x no_rows e = let z : ◌≡◌ {A = ℕ} 0 1 = cc in let f : ⊥ = omega arith in absurd f
  each_get x (row {r = r} {rest = l} k h) e = by (is r) e (each_get x h)
    where
      by : (b : Bool) → cond b (Some r) (get is l) ≡ Some x → (get is l ≡ Some x → P x) → P x
      by true e rest = let i : r ≡ x = cc in subst P i k
      by false e rest = rest e
