-- Comparing without a branch: the OR of all XORs is 0 just where the lists are the same.
use mathlib.Core.Path.{◌≡◌, sym, ap, ap₂, ◌∙◌}
use Prim.Native.Nat.{ℕ, zero, suc, ◌+◌, ◌<◌}
use native.Mathlib.Nat.{not-suc-le-zero, le_of_suc-le-suc}
use native.Mathlib.Decide.{ℕ_discrete}
use native.Mathlib.Omega.{arith}
use native.Mathlib.Numerals.{add-one}
use mathlib.Core.List.{List, [], ◌∷◌}
use mathlib.Core.Bool.{Bool, ◌&&◌, and-true, and_assoc}
use borrow.Author.Tests.{eq-eqb, ne_eqb}
use lib.ListN.{length, get_or, take}
use lib.Dec.{eqb}
use lib.Bits.{bit_or, bit_xor, or_add_and, xor_add_and, and_le_l, and_le_r, xor_self}
use Rattle.stun_check.specs.Source.{same}

or_none : (a b : ℕ) → eqb (bit_or a b) 0 ≡ (eqb a 0 && eqb b 0)
or_none a b =
    elim (ℕ_discrete a 0) [
      | yes e ↦ rw e
      | no n ↦
          rw (ne_eqb a 0 n)
          (ne_eqb (bit_or a b) 0 (λ e. n (omega (arith, or_add_and a b, and_le_l a b, and_le_r a b))))
    ]

xor_none : (a b : ℕ) → eqb (bit_xor a b) 0 ≡ eqb a b
xor_none a b =
    elim (ℕ_discrete a b) [
      | yes e ↦ rw (eq-eqb a b e, e, xor_self b)
      | no n ↦
          rw (ne_eqb a b n)
          (ne_eqb (bit_xor a b) 0 (λ e. n (omega (arith, xor_add_and a b, and_le_l a b, and_le_r a b))))
    ]

grown : (xs ys : List ℕ) (i : ℕ) → i < length xs → i < length ys
    → (same (take i xs) (take i ys) && eqb (get_or xs i 0) (get_or ys i 0)) ≡ same (take (suc i) xs) (take (suc i) ys)
grown [] ys i hx hy = absurd (not-suc-le-zero hx)
grown (x ∷ xs) [] i hx hy = absurd (not-suc-le-zero hy)
grown (x ∷ xs) (y ∷ ys) zero hx hy = sym (and-true (eqb x y))
grown (x ∷ xs) (y ∷ ys) (suc i) hx hy =
    and_assoc (eqb x y) _ _ ∙ ap (λ (r : Bool). eqb x y && r) (grown xs ys i (le_of_suc-le-suc hx) (le_of_suc-le-suc hy))

-- one more byte
pub same_next : (xs ys : List ℕ) (i d : ℕ) → i < length xs → i < length ys → eqb d 0 ≡ same (take i xs) (take i ys)
    → eqb (bit_or d (bit_xor (get_or xs i 0) (get_or ys i 0))) 0 ≡ same (take (i + 1) xs) (take (i + 1) ys)
same_next xs ys i d hx hy e =
    rw add-one
    (or_none d (bit_xor (get_or xs i 0) (get_or ys i 0)) ∙ ap₂ ◌&&◌ e (xor_none (get_or xs i 0) (get_or ys i 0)) ∙ grown xs ys i hx hy)
