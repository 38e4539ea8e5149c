-- A search for the first row that has a key: what `position` answers of the rows in use is the place among the records that they mean.
-- And where the row at i is accepted, and none of the first i rows (`Unseen`), that is the place (`seen`).
use Rattle.std.proofs.Common.{◌≡◌, refl, sym, ap, ◌∙◌, Bool, true, false, cond, Option, Some, None, List, [], ◌∷◌, map, ℕ, ◌+◌, min, length, take, ltb, eqb, ◌&&◌, arith}
use Rattle.std.proofs.lemmas.List.{take_min}
use Rattle.std.specs.List.{position_or_len, position_from}
use Rattle.std.specs.Cmp.Lexicographic.{pointwise}
use Rattle.std.proofs.lemmas.Iterator.Adapters.{position_from-zero}
use Prim.Native.Nat.{zero, suc, ◌<◌}
use native.Mathlib.Nat.{not-suc-le-zero, le_of_suc-le-suc}
use lib.ListN.{get_or, length-take}
use lib.Seq.{take-take, get_or-take}
use Rattle.stun_check.specs.Source.{same}
use Rattle.turn_tables.specs.Rows.{later, position}

-- a head that is not accepted, and a rest in which there is none
pub none_head : (b : Bool) (p : Option ℕ) → cond b (Some 0) (later p) ≡ None → (b ≡ false) × (p ≡ None)
none_head true p h = let z : ◌≡◌ {A = ℕ} 0 1 = cc in let is-not : ⊥ = omega arith in absurd is-not
none_head false (Some i) h = let z : ◌≡◌ {A = ℕ} 0 1 = cc in let is-not : ⊥ = omega arith in absurd is-not
none_head false None h = (refl, refl)

module _ {R : Type 0} (is : R → Bool) where
  found_at : (l : List R) (i : ℕ) (d : R) → i < length l → position is (take i l) ≡ None → is (get_or l i d) ≡ true → position is l ≡ Some i
  found_at [] i d h none is-it = absurd (not-suc-le-zero h)
  found_at (x ∷ xs) zero d h none is-it = rw is-it
  found_at (x ∷ xs) (suc i) d h none is-it =
      let hd = none_head (is x) (position is (take i xs)) none in
      let rest = found_at xs i d (le_of_suc-le-suc h) hd.1 is-it in rw (hd.0, rest)

-- through a view
pub position_map : {R W : Type 0} (f : R → W) (is : W → Bool) (l : List R) → position is (map f l) ≡ position (λ r. is (f r)) l
position_map f is [] = refl
position_map f is (x ∷ xs) = ap (λ (p : Option ℕ). cond (is (f x)) (Some 0) (later p)) (position_map f is xs)

-- the first `len` of `room` rows
pub take-least : {R : Type 0} (rows : List R) (len room : ℕ) → length rows ≡ room → take (min len room) rows ≡ take len rows
take-least rows len room h = rw (← h) (take_min len rows)

-- none among the first i rows means a record that the test accepts
abbrev pub Unseen : {R W : Type 0} → (R → W) → (W → Bool) → List R → ℕ → Type 0
Unseen f is rows i = position (λ r. is (f r)) (take i rows) ≡ None

module _ {R W : Type 0} (f : R → W) (is : W → Bool) (rows : List R) (len room : ℕ) (full : length rows ≡ room) where
  pub seen : (i : ℕ) (d : R) → i < min len room → Unseen f is rows i → is (f (get_or rows i d)) ≡ true → position is (map f (take len rows)) ≡ Some i
  seen i d h none is-it =
      position_map f is (take len rows)
      ∙ found_at (λ r. is (f r)) (take len rows) i d (rw length-take (omega arith)) (rw (take-take i len rows (omega arith)) none) (rw (get_or-take len rows i d (omega arith)) is-it)

-- counted from a number on
abbrev plus : ℕ → Option ℕ → Option ℕ
plus i (Some k) = Some (i + k)
plus i None = None

plus_later : (i : ℕ) (p : Option ℕ) → plus (i + 1) p ≡ plus i (later p)
plus_later i (Some k) = ap (λ (n : ℕ). Some n) (omega arith)
plus_later i None = refl

plus_zero : (p : Option ℕ) → plus 0 p ≡ p
plus_zero (Some k) = ap (λ (n : ℕ). Some n) (omega arith)
plus_zero None = refl

module _ {R : Type 0} (is : R → Bool) where
  counted : (l : List R) (i : ℕ) → position_from is i l ≡ plus i (position is l)
  counted [] i = refl
  counted (x ∷ xs) i = by (is x) (counted xs (i + 1) ∙ plus_later i (position is xs))
    where
      by : (b : Bool) → position_from is (i + 1) xs ≡ plus i (later (position is xs)) → cond b (Some i) (position_from is (i + 1) xs) ≡ plus i (cond b (Some 0) (later (position is xs)))
      by true e = ap (λ (n : ℕ). Some n) (omega arith)
      by false e = e

  pub first_of : (l : List R) → position_from is 0 l ≡ position is l
  first_of l = counted l 0 ∙ plus_zero (position is l)

-- of the rows in use, by what they mean
pub first_row : {R W : Type 0} (f : R → W) (is : W → Bool) (rows : List R) (len room n : ℕ) (r : Option ℕ) → length rows ≡ room → n ≡ min len room
    → r ≡ cond (ltb (position_or_len (λ x. is (f x)) (take n rows)) (length (take n rows))) (Some (position_or_len (λ x. is (f x)) (take n rows))) None
    → r ≡ position is (map f (take len rows))
first_row f is rows len room n r full count e =
    let t : take n rows ≡ take len rows = rw count (take-least rows len room full) in
    e ∙ position_from-zero (λ x. is (f x)) (take n rows) ∙ first_of (λ x. is (f x)) (take n rows)
    ∙ ap (position (λ x. is (f x))) t ∙ sym (position_map f is (take len rows))

-- two ids compared by `==`
pub same_id : (a b : List ℕ) → pointwise eqb a b ≡ same a b
same_id [] [] = refl
same_id [] (y ∷ ys) = refl
same_id (x ∷ xs) [] = refl
same_id (x ∷ xs) (y ∷ ys) = ap (λ (t : Bool). eqb x y && t) (same_id xs ys)
