-- Rows listed one after the other. Invariant (`Listed`): what the first i rows give stands in front, and blank rows after it.
use mathlib.Core.Path.{◌≡◌, refl, sym, ap, ◌∙◌}
use mathlib.Core.Bool.{Bool, true, false, cond}
use mathlib.Core.List.{List, [], ◌∷◌, ◌++◌, map}
use Prim.Native.Nat.{ℕ, zero, suc, ◌+◌, ◌-◌, ◌≤◌, ◌<◌, min}
use native.Mathlib.Nat.{not-suc-le-zero, le_of_suc-le-suc, sub-zero}
use native.Mathlib.Numerals.{add-one}
use native.Mathlib.Omega.{arith}
use lib.ListN.{length, take, get_or, set, replicate, length-append, length-take, length-map, length-replicate}
use lib.Seq.{set_at, append_snoc, take-append_seam}
use Rattle.turn_state.specs.Maps.{filter}
use Rattle.turn_tables.specs.Rows.{filled, noted}
use Rattle.turn_tables.proofs.Search.{take-least}

module _ {R X : Type 0} (test : R → Bool) (g : R → X) where
  -- what the first i rows give
  abbrev pub listed : List R → ℕ → List X
  listed rows i = map g (filter test (take i rows))

  alone : (x : R) (b : Bool) → map g (cond b (x ∷ []) []) ≡ cond b (g x ∷ []) []
  alone x true = refl
  alone x false = refl

  onwards : (x : R) (b c : Bool) (l m : List R) (y : X) → map g l ≡ cond c (map g m ++ (y ∷ [])) (map g m)
      → map g (cond b (x ∷ l) l) ≡ cond c (map g (cond b (x ∷ m) m) ++ (y ∷ [])) (map g (cond b (x ∷ m) m))
  onwards x true true l m y e = ap (λ (r : List X). g x ∷ r) e
  onwards x true false l m y e = ap (λ (r : List X). g x ∷ r) e
  onwards x false true l m y e = e
  onwards x false false l m y e = e

  listed_next : (rows : List R) (i : ℕ) (d : R) → i < length rows
      → listed rows (suc i) ≡ cond (test (get_or rows i d)) (listed rows i ++ (g (get_or rows i d) ∷ [])) (listed rows i)
  listed_next [] i d h = absurd (not-suc-le-zero h)
  listed_next (x ∷ xs) zero d h = alone x (test x)
  listed_next (x ∷ xs) (suc i) d h =
      onwards x (test x) (test (get_or xs i d)) (filter test (take (suc i) xs)) (filter test (take i xs)) (g (get_or xs i d))
      (listed_next xs i d (le_of_suc-le-suc h))

  shorter : (b : Bool) (x : R) (l : List R) (n : ℕ) → length l ≤ n → length (cond b (x ∷ l) l) ≤ suc n
  shorter true x l n h = omega arith
  shorter false x l n h = omega arith

  filter_le : (l : List R) → length (filter test l) ≤ length l
  filter_le [] = omega arith
  filter_le (x ∷ l) = shorter (test x) x (filter test l) (length l) (filter_le l)

  pub listed_le : (rows : List R) (i : ℕ) → length (listed rows i) ≤ min i (length rows)
  listed_le rows i = rw length-map (rw (← length-take i rows) (filter_le (take i rows)))

module _ {X : Type 0} (room : ℕ) (blank : X) where
  fill_next : (l : List X) (x : X) → length l < room → set (filled room blank l) (length l) x ≡ filled room blank (l ++ (x ∷ []))
  fill_next l x h =
      let m = room - (length l + 1) in
      let one : room - length l ≡ suc m = omega arith in
      let rest : m ≡ room - length (l ++ (x ∷ [])) = simp length-append (omega arith) in
      ap (λ (k : ℕ). set (l ++ replicate k blank) (length l) x) one
      ∙ set_at l blank (replicate m blank) x (length l) refl
      ∙ sym (append_snoc l x (replicate m blank))
      ∙ ap (λ (k : ℕ). (l ++ (x ∷ [])) ++ replicate k blank) rest

  pub filled_length : (l : List X) → length l ≤ room → length (filled room blank l) ≡ room
  filled_length l h = simp (length-append, length-replicate) (omega arith)

  pub filled_front : (l : List X) → take (length l) (filled room blank l) ≡ l
  filled_front l = take-append_seam l (replicate (room - length l) blank)

  noted_rows : (b : Bool) (l : List X) (x : X) → length l < room
      → noted b (filled room blank l) (length l) x ≡ filled room blank (cond b (l ++ (x ∷ [])) l)
  noted_rows true l x h = fill_next l x h
  noted_rows false l x h = refl

noted_len : {X : Type 0} (b : Bool) (l : List X) (x : X) → cond b (length l + 1) (length l) ≡ length (cond b (l ++ (x ∷ [])) l)
noted_len true l x = sym (length-append l (x ∷ []))
noted_len false l x = refl

pub record Listed {R X : Type 0} (test : R → Bool) (g : R → X) (room : ℕ) (blank : X) (rows : List R) (i : ℕ) (out : List X) (len : ℕ) : Type 0 where
  pub rows_are : out ≡ filled room blank (listed test g rows i)
  pub len_is : len ≡ length (listed test g rows i)

module _ {R X : Type 0} (test : R → Bool) (g : R → X) (room : ℕ) (blank : X) (rows : List R) where
  pub listed_start : Listed test g room blank rows 0 (replicate room blank) 0
  listed_start = record { rows_are = ap (λ (k : ℕ). replicate k blank) (sym (sub-zero room)); len_is = refl }

  module _ (i : ℕ) (out : List X) (len : ℕ) (so : Listed test g room blank rows i out len) where
    pub listed_room : len ≤ i
    listed_room = rw so.len_is (omega (arith, listed_le test g rows i))

    pub listed_fits : i < length rows → i < room → len < length out
    listed_fits h k =
        let n = listed_room in
        let full : length out ≡ room = ap length so.rows_are ∙ filled_length room blank (listed test g rows i) (omega (arith, listed_le test g rows i)) in
        omega arith

    pub listed_more : (d : R) (b : Bool) (x : X) → i < length rows → i < room → b ≡ test (get_or rows i d) → x ≡ g (get_or rows i d)
        → Listed test g room blank rows (i + 1) (noted b out len x) (cond b (len + 1) len)
    listed_more d b x h k eb ex =
        let l = listed test g rows i in
        let e : cond b (l ++ (x ∷ [])) l ≡ listed test g rows (i + 1) =
        rw (eb, ex, add-one) (sym (listed_next test g rows i d h)) in
        let fits : length l < room = omega (arith, listed_le test g rows i) in
        record {
          rows_are = rw (so.rows_are, so.len_is) (noted_rows room blank b l x fits ∙ ap (filled room blank) e);
          len_is = rw so.len_is (noted_len b l x ∙ ap length e);
        }

  pub listed_end : (len i : ℕ) → length rows ≡ room → i ≤ min len room → min len room ≤ i
      → listed test g rows i ≡ map g (filter test (take len rows))
  listed_end len i full h k =
      let e : i ≡ min len room = omega arith in
      ap (λ (l : List R). map g (filter test l)) (ap (λ (n : ℕ). take n rows) e ∙ take-least rows len room full)
