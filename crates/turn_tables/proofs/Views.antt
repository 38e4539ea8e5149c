-- What a table shows once a row is put last, replaced or taken out: over any rows, any meaning of a row, any room.
use Rattle.std.specs.Prelude.{Some, None}
use mathlib.Core.Path.{◌≡◌, refl, sym, ap, ap₂, ◌∙◌}
use mathlib.Core.Bool.{Bool, true, false, cond}
use mathlib.Core.List.{List, [], ◌∷◌, ◌++◌, map, append_assoc}
use Prim.Native.Nat.{ℕ, zero, suc, ◌+◌, ◌-◌, ◌≤◌, ◌<◌, min}
use native.Mathlib.Numerals.{add-one}
use native.Mathlib.Omega.{arith}
use lib.ListN.{length, take, drop, get_or, set, length-append, length-take, length-drop, length-map, get_or-map}
use lib.Seq.{take-suc-set, take-set-lt, take-take, take_at, drop_at, get_or-take}
use lib.Dec.{ltb}
use borrow.Author.Tests.{ltb-true, ltb-false}
use Rattle.turn_tables.specs.Rows.{closed, position}
use Rattle.turn_state.specs.Maps.{get, insert, remove}
use Rattle.turn_tables.proofs.Search.{take-least}
use Rattle.turn_tables.proofs.Keys.{at_lt, at_get, at_insert, at_remove, nowhere_insert}

-- what holds of both choices holds of the one that a test takes
pub either_way : {A : Type 0} (P : A → Type 0) (m n : ℕ) (x y : A) → (m < n → P x) → (n ≤ m → P y) → P (cond (ltb m n) x y)
either_way {A} P m n x y p q = choose (ltb m n) refl where
  choose : (b : Bool) → ltb m n ≡ b → P (cond b x y)
  choose true e = p (ltb-true m n e)
  choose false e = q (ltb-false m n e)

module _ {R W : Type 0} (f : R → W) where
  map-append : (a b : List R) → map f (a ++ b) ≡ map f a ++ map f b
  map-append [] b = refl
  map-append (x ∷ a) b = ap (λ (r : List W). f x ∷ r) (map-append a b)

  map_take : (n : ℕ) (l : List R) → map f (take n l) ≡ take n (map f l)
  map_take zero l = refl
  map_take (suc n) [] = refl
  map_take (suc n) (x ∷ l) = ap (λ (r : List W). f x ∷ r) (map_take n l)

  map_drop : (n : ℕ) (l : List R) → map f (drop n l) ≡ drop n (map f l)
  map_drop zero l = refl
  map_drop (suc n) [] = refl
  map_drop (suc n) (x ∷ l) = map_drop n l

  map_set : (l : List R) (i : ℕ) (v : R) → map f (set l i v) ≡ set (map f l) i (f v)
  map_set [] i v = refl
  map_set (x ∷ l) zero v = refl
  map_set (x ∷ l) (suc i) v = ap (λ (r : List W). f x ∷ r) (map_set l i v)

-- what stands before the blank row is what is left
module _ {R : Type 0} (rows : List R) (n i : ℕ) (blank : R) (fits : n ≤ length rows) (at : i < n) where
  kept_length : length (take i rows ++ drop (suc i) (take n rows)) ≡ n - 1
  kept_length = simp (length-append, length-drop, length-take) (omega arith)

  pub closed_is : closed blank n rows i ≡ (take i rows ++ drop (suc i) (take n rows)) ++ (blank ∷ drop n rows)
  closed_is = sym (append_assoc (take i rows) (drop (suc i) (take n rows)) (blank ∷ drop n rows))

  pub closed_front : take (n - 1) (closed blank n rows i) ≡ take i rows ++ drop (suc i) (take n rows)
  closed_front = ap (take (n - 1)) closed_is ∙ take_at (take i rows ++ drop (suc i) (take n rows)) (blank ∷ drop n rows) (n - 1) kept_length

  pub closed_back : drop (n - 1) (closed blank n rows i) ≡ blank ∷ drop n rows
  closed_back = ap (drop (n - 1)) closed_is ∙ drop_at (take i rows ++ drop (suc i) (take n rows)) (blank ∷ drop n rows) (n - 1) kept_length

  pub closed_length : length (closed blank n rows i) ≡ length rows
  closed_length = simp (length-append, length-drop, length-take) (omega arith)

module _ {R W : Type 0} (f : R → W) (rows : List R) (len room : ℕ) (full : length rows ≡ room) where
  pub shown_length : length (map f (take len rows)) ≡ min len room
  shown_length = simp (length-map, length-take) (rw full)

  pub shown_row : (i : ℕ) (d : R) → i < min len room → get_or (map f (take len rows)) i (f d) ≡ f (get_or rows i d)
  shown_row i d h = get_or-map f (take len rows) i d ∙ ap f (get_or-take len rows i d (omega arith))

  pub shown_pushed : (row : R) → len < room → map f (take (len + 1) (set rows len row)) ≡ map f (take len rows) ++ (f row ∷ [])
  shown_pushed row h = rw (add-one, take-suc-set rows len row (omega arith)) (map-append f (take len rows) (row ∷ []))

  pub shown_put : (i : ℕ) (row : R) → i < min len room → map f (take len (set rows i row)) ≡ set (map f (take len rows)) i (f row)
  shown_put i row h = rw (take-set-lt len rows i row (omega arith)) (map_set f (take len rows) i row)

  pub shown_removed : (i : ℕ) (blank : R) → i < min len room
      → map f (take (min len room - 1) (closed blank (min len room) rows i))
      ≡ take i (map f (take len rows)) ++ drop (suc i) (map f (take len rows))
  shown_removed i blank h =
      let n = min len room in
      let e : take n rows ≡ take len rows = take-least rows len room full in
      ap (map f) (closed_front rows n i blank (omega arith) h)
      ∙ map-append f (take i rows) (drop (suc i) (take n rows))
      ∙ ap₂ (λ (a b : List W). a ++ b)
      (ap (map f) (sym (take-take i n rows (omega arith)) ∙ ap (take i) e) ∙ map_take f i (take len rows))
      (ap (λ (l : List R). map f (drop (suc i) l)) e ∙ map_drop f (suc i) (take len rows))

  -- together with the definition's maps, by any test of a record
  module _ (is : W → Bool) where
    pub found_row : (i : ℕ) → position is (map f (take len rows)) ≡ Some i → i < min len room
    found_row i found = rw (← shown_length) (at_lt is (map f (take len rows)) i found)

    pub shown_get : (i : ℕ) (d : R) → position is (map f (take len rows)) ≡ Some i → get is (map f (take len rows)) ≡ Some (f (get_or rows i d))
    shown_get i d found =
        at_get is (map f (take len rows)) i found (f d) ∙ ap (λ (w : W). Some w) (shown_row i d (found_row i found))

    pub shown_added : (row : R) → position is (map f (take len rows)) ≡ None → len < room
        → map f (take (len + 1) (set rows len row)) ≡ insert is (f row) (map f (take len rows))
    shown_added row missing h = shown_pushed row h ∙ sym (nowhere_insert is (map f (take len rows)) missing (f row))

    pub shown_replaced : (i : ℕ) (row : R) → position is (map f (take len rows)) ≡ Some i
        → map f (take len (set rows i row)) ≡ insert is (f row) (map f (take len rows))
    shown_replaced i row found =
        shown_put i row (found_row i found) ∙ sym (at_insert is (map f (take len rows)) i found (f row))

    pub shown_taken : (i : ℕ) (blank : R) → position is (map f (take len rows)) ≡ Some i
        → map f (take (min len room - 1) (closed blank (min len room) rows i)) ≡ remove is (map f (take len rows))
    shown_taken i blank found =
        shown_removed i blank (found_row i found) ∙ sym (at_remove is (map f (take len rows)) i found)
