-- Where a record stands in a list, a list of rows from which one is taken out, and rows listed one after the other: over any rows.
use Rattle.std.specs.Prelude.{Option, Some, None}
use Rattle.std.specs.Prelude.{Bool, cond, List, [], ◌∷◌, ◌++◌, ℕ, suc, ◌-◌, length, take, drop, set, replicate}

-- the same place, one further on
abbrev pub later : Option ℕ → Option ℕ
later (Some i) = Some (suc i)
later None = None

module _ {R : Type 0} where
  -- the index of the first record that the test accepts
  abbrev pub position : (R → Bool) → List R → Option ℕ
  position is [] = None
  position is (r ∷ more) = cond (is r) (Some 0) (later (position is more))

  -- of the first n rows the one at i is taken out: those after it move down, a blank one follows them
  abbrev pub closed : R → ℕ → List R → ℕ → List R
  closed blank n rows i = take i rows ++ (drop (suc i) (take n rows) ++ (blank ∷ drop n rows))

  -- `room` rows: these, and blank ones after them
  abbrev pub filled : ℕ → R → List R → List R
  filled room blank l = l ++ replicate (room - length l) blank

  -- rows of which the first `len` are listed, with one more, where it is wanted
  abbrev pub noted : Bool → List R → ℕ → R → List R
  noted wanted rows len r = cond wanted (set rows len r) rows
