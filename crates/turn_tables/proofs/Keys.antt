-- What a position says of the definition's maps: where there is one, `get`, `insert` and `remove` are what they are at an index; where
-- there is none, nothing is got and what is inserted goes last.
use Rattle.std.specs.Prelude.{Option, Some, None}
use mathlib.Core.Path.{◌≡◌, refl, ap}
use mathlib.Core.Bool.{Bool, true, false, cond}
use mathlib.Core.List.{List, [], ◌∷◌, ◌++◌}
use Prim.Native.Nat.{ℕ, suc, ◌<◌}
use native.Mathlib.Omega.{arith}
use lib.ListN.{length, take, drop, get_or, set}
use Rattle.turn_state.specs.Maps.{get, contains, insert, remove}
use Rattle.turn_tables.specs.Rows.{later, position}

module _ {R : Type 0} (is : R → Bool) where
  -- the test accepts the record at an index, and none before it; it accepts none
  data Stands : List R → ℕ → Type 0 where
    here : {x : R} {xs : List R} → is x ≡ true → Stands (x ∷ xs) 0
    there : {x : R} {xs : List R} {i : ℕ} → is x ≡ false → Stands xs i → Stands (x ∷ xs) (suc i)

  data Lacks : List R → Type 0 where
    end : Lacks []
    other : {x : R} {xs : List R} → is x ≡ false → Lacks xs → Lacks (x ∷ xs)

  step : (x : R) (xs : List R) (b : Bool) → is x ≡ b → (p : Option ℕ) → ((j : ℕ) → p ≡ Some j → Stands xs j) → (i : ℕ)
      → cond b (Some 0) (later p) ≡ Some i → Stands (x ∷ xs) i
  step x xs true e p r i h = let z : 0 ≡ i = cc in rw (← z) (here e)
  step x xs false e (Some j) r i h = let z : suc j ≡ i = cc in rw (← z) (there e (r j refl))
  step x xs false e None r i h = let z : ◌≡◌ {A = ℕ} 0 1 = cc in let no : ⊥ = omega arith in absurd no

  stands : (l : List R) (i : ℕ) → position is l ≡ Some i → Stands l i
  stands [] i h = let z : ◌≡◌ {A = ℕ} 0 1 = cc in let no : ⊥ = omega arith in absurd no
  stands (x ∷ xs) i h = step x xs (is x) refl (position is xs) (stands xs) i h

  pass : (x : R) (xs : List R) (b : Bool) → is x ≡ b → (p : Option ℕ) → (p ≡ None → Lacks xs) → cond b (Some 0) (later p) ≡ None → Lacks (x ∷ xs)
  pass x xs true e p r h = let z : ◌≡◌ {A = ℕ} 0 1 = cc in let no : ⊥ = omega arith in absurd no
  pass x xs false e (Some j) r h = let z : ◌≡◌ {A = ℕ} 0 1 = cc in let no : ⊥ = omega arith in absurd no
  pass x xs false e None r h = other e (r refl)

  lacks : (l : List R) → position is l ≡ None → Lacks l
  lacks [] h = end
  lacks (x ∷ xs) h = pass x xs (is x) refl (position is xs) (lacks xs) h

  stands_lt : {l : List R} {i : ℕ} → Stands l i → i < length l
  stands_lt (here e) = omega arith
  stands_lt (there e s) = let h = stands_lt s in omega arith

  stands_is : {l : List R} {i : ℕ} (d : R) → Stands l i → is (get_or l i d) ≡ true
  stands_is d (here e) = e
  stands_is d (there e s) = stands_is d s

  stands_get : {l : List R} {i : ℕ} (d : R) → Stands l i → get is l ≡ Some (get_or l i d)
  stands_get d (here e) = rw e
  stands_get d (there e s) = let h = stands_get d s in rw e h

  stands_contains : {l : List R} {i : ℕ} → Stands l i → contains is l ≡ true
  stands_contains (here e) = rw e
  stands_contains (there e s) = let h = stands_contains s in rw e h

  stands_insert : {l : List R} {i : ℕ} (new : R) → Stands l i → insert is new l ≡ set l i new
  stands_insert new (here e) = rw e
  stands_insert new (there {x = x} e s) = let h = stands_insert new s in rw e (ap (λ (r : List R). x ∷ r) h)

  stands_remove : {l : List R} {i : ℕ} → Stands l i → remove is l ≡ take i l ++ drop (suc i) l
  stands_remove (here e) = rw e
  stands_remove (there {x = x} e s) = let h = stands_remove s in rw e (ap (λ (r : List R). x ∷ r) h)

  lacks_get : {l : List R} → Lacks l → get is l ≡ None
  lacks_get end = refl
  lacks_get (other e s) = let h = lacks_get s in rw e h

  lacks_contains : {l : List R} → Lacks l → contains is l ≡ false
  lacks_contains end = refl
  lacks_contains (other e s) = let h = lacks_contains s in rw e h

  lacks_insert : {l : List R} (new : R) → Lacks l → insert is new l ≡ l ++ (new ∷ [])
  lacks_insert new end = refl
  lacks_insert new (other {x = x} e s) = let h = lacks_insert new s in rw e (ap (λ (r : List R). x ∷ r) h)

  lacks_remove : {l : List R} → Lacks l → remove is l ≡ l
  lacks_remove end = refl
  lacks_remove (other {x = x} e s) = let h = lacks_remove s in rw e (ap (λ (r : List R). x ∷ r) h)

  -- at a position
  module _ (l : List R) (i : ℕ) (found : position is l ≡ Some i) where
    pub at_lt : i < length l
    at_lt = stands_lt (stands l i found)

    pub at_is : (d : R) → is (get_or l i d) ≡ true
    at_is d = stands_is d (stands l i found)

    pub at_get : (d : R) → get is l ≡ Some (get_or l i d)
    at_get d = stands_get d (stands l i found)

    pub at_contains : contains is l ≡ true
    at_contains = stands_contains (stands l i found)

    pub at_insert : (new : R) → insert is new l ≡ set l i new
    at_insert new = stands_insert new (stands l i found)

    pub at_remove : remove is l ≡ take i l ++ drop (suc i) l
    at_remove = stands_remove (stands l i found)

  -- nowhere
  module _ (l : List R) (missing : position is l ≡ None) where
    pub nowhere_get : get is l ≡ None
    nowhere_get = lacks_get (lacks l missing)

    pub nowhere_contains : contains is l ≡ false
    nowhere_contains = lacks_contains (lacks l missing)

    pub nowhere_insert : (new : R) → insert is new l ≡ l ++ (new ∷ [])
    nowhere_insert new = lacks_insert new (lacks l missing)

    pub nowhere_remove : remove is l ≡ l
    nowhere_remove = lacks_remove (lacks l missing)
