-- The check's own walk, one turn of the loop: it stops, it has found the attribute, or it passes over one. `Left` is what a
-- turn keeps: from here on, with attributes enough, the definition finds what it finds from the start.
use mathlib.Core.Path.{◌≡◌, refl, ap, ◌∙◌}
use Prim.Native.Nat.{ℕ, zero, suc, ◌+◌, ◌*◌, ◌≤◌, ◌<◌, min}
use native.Mathlib.Nat.{lt_of_not-le}
use native.Mathlib.Decide.{dec_le}
use native.Mathlib.Omega.{arith}
use mathlib.Core.List.{List}
use mathlib.Core.Bool.{true, false, ◌&&◌}
use borrow.Author.Tests.{le-leb, lt-leb, eq-eqb, ne_eqb}
use lib.ListN.{length, get_or}
use lib.Dec.{leb}
use Rattle.stun_check.specs.Source.{u16_at, padded, integrity_from, integrity_at}

goes : (b : List ℕ) (p : ℕ) → p + 4 ≤ min (20 + u16_at b 2) (length b) → (leb (p + 4) (20 + u16_at b 2) && leb (p + 4) (length b)) ≡ true
goes b p h = rw (le-leb (p + 4) (20 + u16_at b 2) (omega arith), le-leb (p + 4) (length b) (omega arith))

stays : (b : List ℕ) (p : ℕ) → min (20 + u16_at b 2) (length b) < p + 4 → (leb (p + 4) (20 + u16_at b 2) && leb (p + 4) (length b)) ≡ false
stays b p h =
    elim (dec_le (p + 4) (20 + u16_at b 2)) [
      | yes le ↦ rw (le-leb (p + 4) (20 + u16_at b 2) le) (lt-leb (p + 4) (length b) (omega arith))
      | no n ↦ rw (lt-leb (p + 4) (20 + u16_at b 2) (lt_of_not-le n))
    ]

pub record Left (b : List ℕ) (p : ℕ) : Type 0 where
  pub fuel : ℕ
  pub enough : length b ≤ p + fuel
  pub same : integrity_from fuel b p ≡ integrity_at b

pub left_start : (b : List ℕ) → Left b 20
left_start b = record { fuel = length b; enough = omega arith; same = refl }

pub left_none : (b : List ℕ) (p : ℕ) → Left b p → min (20 + u16_at b 2) (length b) < p + 4 → length b ≡ integrity_at b
unfolding integrity_from
left_none b p l h = stop l.fuel ∙ l.same
  where
    stop : (n : ℕ) → length b ≡ integrity_from n b p
    stop zero = refl
    stop (suc n) = rw (stays b p h)

module _ (b : List ℕ) (p : ℕ) (l : Left b p) (h : p + 4 ≤ min (20 + u16_at b 2) (length b)) where
  pub left_found : u16_at b p ≡ 8 → p ≡ integrity_at b
  unfolding integrity_from
  left_found e = found l.fuel l.enough ∙ l.same
    where
      found : (n : ℕ) → length b ≤ p + n → p ≡ integrity_from n b p
      found zero f = absurd (omega arith)
      found (suc n) f = rw (goes b p h, eq-eqb (u16_at b p) 8 e)

  left_on : (u16_at b p ≡ 8 → ⊥) → Left b (p + 4 + padded (u16_at b (p + 2)))
  unfolding integrity_from
  left_on e = next l.fuel l.enough l.same
    where
      next : (n : ℕ) → length b ≤ p + n → integrity_from n b p ≡ integrity_at b → Left b (p + 4 + padded (u16_at b (p + 2)))
      next zero f s = absurd (omega arith)
      next (suc n) f s = record { fuel = n; enough = omega arith; same = rw (goes b p h, ne_eqb (u16_at b p) 8 e) at s }

  -- with the numbers that the code reads
  pub left_next : (u16_at b p ≡ 8 → ⊥) → (len size : ℕ) → len ≡ get_or b (p + 2) 0 * 256 + get_or b (p + 3) 0 → size ≡ padded len → Left b (p + 4 + size)
  left_next e len size f g =
      let t : p + 3 ≡ p + 2 + 1 = omega arith in
      let h : len ≡ u16_at b (p + 2) = f ∙ ap (λ (j : ℕ). get_or b (p + 2) 0 * 256 + get_or b j 0) t in
      rw (g, h) (left_on e)
