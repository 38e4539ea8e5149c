-- The source's maps as lists of records in the order in which they came, and its loops. A key is given by the test of a record for it.
use Rattle.std.specs.Prelude.{Bool, true, false, cond, List, [], ◌∷◌, Option, None, Some}

module _ {R : Type 0} where
  -- get(key): the record under it
  abbrev pub get : (R → Bool) → List R → Option R
  get is [] = None
  get is (r ∷ more) = cond (is r) (Some r) (get is more)

  -- contains_key(key)
  abbrev pub contains : (R → Bool) → List R → Bool
  contains is [] = false
  contains is (r ∷ more) = cond (is r) true (contains is more)

  -- insert(key, new): an overwrite keeps its place, a new record goes last
  abbrev pub insert : (R → Bool) → R → List R → List R
  insert is new [] = new ∷ []
  insert is new (r ∷ more) = cond (is r) (new ∷ more) (r ∷ insert is new more)

  -- remove(key): the list closes up
  abbrev pub remove : (R → Bool) → List R → List R
  remove is [] = []
  remove is (r ∷ more) = cond (is r) more (r ∷ remove is more)

  -- iter().filter(test)
  abbrev pub filter : (R → Bool) → List R → List R
  filter test [] = []
  filter test (r ∷ more) = cond (test r) (r ∷ filter test more) (filter test more)

-- for x in xs { body }
abbrev pub each : {X S : Type 0} → (X → S → S) → List X → S → S
each body [] s = s
each body (x ∷ xs) s = each body xs (body x s)

-- if let Some(x) = o { then } else { otherwise }
abbrev pub if_let : {X S : Type 0} → Option X → (X → S) → S → S
if_let None then otherwise = otherwise
if_let (Some x) then otherwise = then x

-- is_some()
abbrev pub is_some : {X : Type 0} → Option X → Bool
is_some None = false
is_some (Some x) = true
