-- A text is its first part and the parts of the rest: the equations of `parts`, `replaced` and `well_formed` without the
-- count of parts.
use mathlib.Core.Path.{◌≡◌, refl, sym, ap, ap₂, ◌∙◌}
use mathlib.Core.Bool.{Bool, true, false, cond, ◌&&◌}
use mathlib.Core.List.{List, [], ◌∷◌, ◌++◌, map, foldr}
use Prim.Native.Nat.{ℕ, zero, suc, ◌+◌, ◌≤◌, ◌<◌}
use native.Mathlib.Nat.{not-suc-le-zero, le-max_left, max-le}
use native.Mathlib.Omega.{arith}
use lib.ListN.{length, take, drop, length-drop, drop_of_length-le}
use lib.Seq.{drop-drop, length-take-le}
use lib.Dec.{eqb}
use Rattle.std.specs.Prelude.{Ok, Err}
use Rattle.stun_text.specs.Following.{cut}
use borrow.Author.Tests.{ltb-true, eqb-true}
use Rattle.stun_text.specs.Utf8.{Range, within, table, agree, full, greatest, sequence, subpart, whole, size, Part, first, parts_in, parts, shown, replacement, replaced, well_formed}

-- no part is empty
pub size_pos : (l : List ℕ) → 1 ≤ size l
unfolding subpart
size_pos l = go (whole l) refl
  where
    go : (t : Bool) → whole l ≡ t → 1 ≤ cond t (sequence l) (subpart l)
    go true e = ltb-true 0 (sequence l) e
    go false e = le-max_left 1 _

agree_le : (row : List Range) (l : List ℕ) → agree row l ≤ length l
agree_le [] l = omega arith
agree_le (r ∷ row) [] = omega arith
agree_le (r ∷ row) (b ∷ l) = go (within r b) (agree_le row l)
  where
    go : (t : Bool) → agree row l ≤ length l → cond t (suc (agree row l)) 0 ≤ suc (length l)
    go true h = omega arith
    go false h = omega arith

full_le : (row : List Range) (l : List ℕ) → full row l ≤ length l
full_le row l = go (eqb (agree row l) (length row)) refl
  where
    go : (t : Bool) → eqb (agree row l) (length row) ≡ t → cond t (length row) 0 ≤ length l
    go true e = omega (arith, agree_le row l, eqb-true (agree row l) (length row) e)
    go false e = omega arith

greatest_le : (f : List Range → ℕ) (n : ℕ) → ((row : List Range) → f row ≤ n) → (rows : List (List Range)) → greatest (map f rows) ≤ n
greatest_le f n h [] = omega arith
greatest_le f n h (row ∷ rows) = omega (arith, h row, greatest_le f n h rows)

-- a part is within the text
pub size_le : (l : List ℕ) → 0 < length l → size l ≤ length l
unfolding sequence subpart
size_le l h = go (whole l)
  where
    go : (t : Bool) → cond t (sequence l) (subpart l) ≤ length l
    go true = greatest_le (λ row. full row l) (length l) (λ row. full_le row l) table
    go false = max-le h (greatest_le (λ row. agree row l) (length l) (λ row. agree_le row l) table)

-- how many parts are asked for makes no difference, where they are as many as the bytes
enough : (n m : ℕ) (l : List ℕ) → length l ≤ n → length l ≤ m → parts_in n l ≡ parts_in m l
enough zero zero [] h k = refl
enough zero (suc m) [] h k = refl
enough (suc n) zero [] h k = refl
enough (suc n) (suc m) [] h k = refl
enough zero m (b ∷ l) h k = absurd (not-suc-le-zero h)
enough (suc n) zero (b ∷ l) h k = absurd (not-suc-le-zero k)
enough (suc n) (suc m) (b ∷ l) h k =
    let d : length (drop (size (b ∷ l)) (b ∷ l)) ≤ length l = rw length-drop (omega (arith, size_pos (b ∷ l))) in
    ap (λ (ps : List Part). first (b ∷ l) ∷ ps) (enough n m (drop (size (b ∷ l)) (b ∷ l)) (omega arith) (omega arith))

pub parts_next : (l : List ℕ) → 0 < length l → parts l ≡ first l ∷ parts (drop (size l) l)
unfolding parts
parts_next [] h = absurd (not-suc-le-zero h)
parts_next (b ∷ l) h =
    let d : length (drop (size (b ∷ l)) (b ∷ l)) ≤ length l = rw length-drop (omega (arith, size_pos (b ∷ l))) in
    ap (λ (ps : List Part). first (b ∷ l) ∷ ps) (enough (length l) (length (drop (size (b ∷ l)) (b ∷ l))) (drop (size (b ∷ l)) (b ∷ l)) d (omega arith))

pub replaced_next : (l : List ℕ) → 0 < length l → replaced l ≡ shown (first l) ++ replaced (drop (size l) l)
unfolding replaced
replaced_next l h = ap (λ (ps : List Part). foldr (λ p r. shown p ++ r) [] ps) (parts_next l h)

pub well_formed_next : (l : List ℕ) → 0 < length l → well_formed l ≡ (whole l && well_formed (drop (size l) l))
unfolding well_formed
well_formed_next l h = ap (λ (ps : List Part). foldr (λ p r. p.good && r) true ps) (parts_next l h)

-- the part at i, of len bytes: what is left of the text is what follows it
module _ (s : List ℕ) (i len : ℕ) (good : Bool) (h : i < length s) (part : (len ≡ size (drop i s)) × (good ≡ whole (drop i s))) where
  some : 0 < length (drop i s)
  some = rw length-drop (omega arith)

  part_pos : 0 < len
  part_pos = omega (arith, size_pos (drop i s))

  part_le : i + len ≤ length s
  part_le = omega (arith, size_le (drop i s) some, length-drop i s)

  part_length : length (take len (drop i s)) ≡ len
  part_length = length-take-le len (drop i s) (omega (arith, size_le (drop i s) some))

  rest : drop (size (drop i s)) (drop i s) ≡ drop (i + len) s
  rest = drop-drop (size (drop i s)) i s ∙ ap (λ (n : ℕ). drop (i + n) s) (sym part.0)

  well_formed_at : well_formed (drop i s) ≡ (good && well_formed (drop (i + len) s))
  well_formed_at = well_formed_next (drop i s) some ∙ ap₂ (λ (t : Bool) (l : List ℕ). t && well_formed l) (sym part.1) rest

  replaced_at : replaced (drop i s) ≡ cond good (take len (drop i s)) replacement ++ replaced (drop (i + len) s)
  replaced_at =
      replaced_next (drop i s) some
      ∙ ap₂ (λ (t : Bool) (n : ℕ). cond t (take n (drop i s)) replacement ++ replaced (drop (size (drop i s)) (drop i s))) (sym part.1) (sym part.0)
      ∙ ap (λ (l : List ℕ). cond good (take len (drop i s)) replacement ++ replaced l) rest

-- what the answer for the part at i says: a sequence, or a subpart
sequence_is : (l : List ℕ) (n : ℕ) → Ok n ≡ cut l → (n ≡ size l) × (true ≡ whole l)
sequence_is l n e = go (whole l) e
  where
    go : (t : Bool) → Ok n ≡ cond t (Ok (size l)) (Err (size l)) → (n ≡ size l) × (true ≡ t)
    go true e = (cc, refl)
    go false e = absurd (let z : ◌≡◌ {A = ℕ} 0 1 = cc in omega arith)

subpart_is : (l : List ℕ) (n : ℕ) → Err n ≡ cut l → (n ≡ size l) × (false ≡ whole l)
subpart_is l n e = go (whole l) e
  where
    go : (t : Bool) → Err n ≡ cond t (Ok (size l)) (Err (size l)) → (n ≡ size l) × (false ≡ t)
    go true e = absurd (let z : ◌≡◌ {A = ℕ} 0 1 = cc in omega arith)
    go false e = (cc, refl)

module _ (s : List ℕ) (i n : ℕ) (h : i < length s) where
  module _ (e : Ok n ≡ cut (drop i s)) where
    abbrev sequence_part : (n ≡ size (drop i s)) × (true ≡ whole (drop i s))
    sequence_part = sequence_is (drop i s) n e

    pub sequence_bounds : (0 < n) × (i + n ≤ length s) × (length (take n (drop i s)) ≡ n)
    sequence_bounds = (part_pos s i n true h sequence_part, part_le s i n true h sequence_part, part_length s i n true h sequence_part)

    pub sequence_next : replaced (drop i s) ≡ take n (drop i s) ++ replaced (drop (i + n) s)
    sequence_next = replaced_at s i n true h sequence_part

    pub sequence_passed : well_formed (drop i s) ≡ well_formed (drop (i + n) s)
    sequence_passed = well_formed_at s i n true h sequence_part

  module _ (e : Err n ≡ cut (drop i s)) where
    abbrev subpart_part : (n ≡ size (drop i s)) × (false ≡ whole (drop i s))
    subpart_part = subpart_is (drop i s) n e

    pub subpart_bounds : (0 < n) × (i + n ≤ length s)
    subpart_bounds = (part_pos s i n false h subpart_part, part_le s i n false h subpart_part)

    pub subpart_next : replaced (drop i s) ≡ replacement ++ replaced (drop (i + n) s)
    subpart_next = replaced_at s i n false h subpart_part

    pub subpart_ill : well_formed (drop i s) ≡ false
    subpart_ill = well_formed_at s i n false h subpart_part

-- the end of the text
pub well_formed_end : (s : List ℕ) (i : ℕ) → length s ≤ i → well_formed (drop i s) ≡ true
unfolding well_formed parts
well_formed_end s i h = ap well_formed (drop_of_length-le s h)

pub replaced_end : (s : List ℕ) (i : ℕ) → length s ≤ i → replaced (drop i s) ≡ []
unfolding replaced parts
replaced_end s i h = ap replaced (drop_of_length-le s h)
