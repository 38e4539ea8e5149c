-- UTF-8: the Unicode Standard, section 3.9. Well-formed sequences are those of Table 3-7, and each maximal subpart of an
-- ill-formed text (D93b) gives one U+FFFD ("U+FFFD Substitution of Maximal Subparts").
use Rattle.std.specs.Prelude.{ℕ, zero, suc, max, Bool, true, cond, ◌&&◌, length, take, drop, leb, ltb, eqb}
use mathlib.Core.List.{List, [], ◌∷◌, ◌++◌, map, foldr}

-- a range of bytes, with both its ends
infix 70 ◌‥◌
pub data Range : Type 0 where
  ◌‥◌ : ℕ → ℕ → Range

abbrev pub within : Range → ℕ → Bool
within (a ‥ z) b = leb a b && leb b z

-- Table 3-7, Well-Formed UTF-8 Byte Sequences
abbrev pub table : List (List Range)
table =
    (0x00 ‥ 0x7F ∷ [])
    ∷ (0xC2 ‥ 0xDF ∷ 0x80 ‥ 0xBF ∷ [])
    ∷ (0xE0 ‥ 0xE0 ∷ 0xA0 ‥ 0xBF ∷ 0x80 ‥ 0xBF ∷ [])
    ∷ (0xE1 ‥ 0xEC ∷ 0x80 ‥ 0xBF ∷ 0x80 ‥ 0xBF ∷ [])
    ∷ (0xED ‥ 0xED ∷ 0x80 ‥ 0x9F ∷ 0x80 ‥ 0xBF ∷ [])
    ∷ (0xEE ‥ 0xEF ∷ 0x80 ‥ 0xBF ∷ 0x80 ‥ 0xBF ∷ [])
    ∷ (0xF0 ‥ 0xF0 ∷ 0x90 ‥ 0xBF ∷ 0x80 ‥ 0xBF ∷ 0x80 ‥ 0xBF ∷ [])
    ∷ (0xF1 ‥ 0xF3 ∷ 0x80 ‥ 0xBF ∷ 0x80 ‥ 0xBF ∷ 0x80 ‥ 0xBF ∷ [])
    ∷ (0xF4 ‥ 0xF4 ∷ 0x80 ‥ 0x8F ∷ 0x80 ‥ 0xBF ∷ 0x80 ‥ 0xBF ∷ [])
    ∷ []

-- how many bytes of the text, from its first on, are within the row's ranges, one after the other
abbrev pub agree : List Range → List ℕ → ℕ
agree [] l = 0
agree (r ∷ row) [] = 0
agree (r ∷ row) (b ∷ l) = cond (within r b) (suc (agree row l)) 0

-- the row's length, where the text begins with a sequence of the row; else 0
abbrev pub full : List Range → List ℕ → ℕ
full row l = cond (eqb (agree row l) (length row)) (length row) 0

abbrev pub greatest : List ℕ → ℕ
greatest ns = foldr max 0 ns

-- the length of the well-formed sequence that the text begins with; 0 where it begins with none
unfoldable pub sequence : List ℕ → ℕ
sequence l = greatest (map (λ row. full row l) table)

-- the length of the maximal subpart (D93b) at the front of a text that begins with no well-formed sequence: as many bytes as
-- are the initial part of some well-formed sequence, and at least one
unfoldable pub subpart : List ℕ → ℕ
subpart l = max 1 (greatest (map (λ row. agree row l) table))

-- does the text begin with a well-formed sequence?
abbrev pub whole : List ℕ → Bool
whole l = ltb 0 (sequence l)

-- the length of that sequence, or else of the maximal subpart
abbrev pub size : List ℕ → ℕ
size l = cond (whole l) (sequence l) (subpart l)

-- a text is cut from its front into parts, each a well-formed sequence or a maximal subpart
pub record Part : Type 0 where
  pub bytes : List ℕ
  pub good : Bool

abbrev pub first : List ℕ → Part
first l = record { bytes = take (size l) l; good = whole l }

-- at most n parts of it
abbrev pub parts_in : ℕ → List ℕ → List Part
parts_in zero l = []
parts_in (suc n) [] = []
parts_in (suc n) (b ∷ l) = first (b ∷ l) ∷ parts_in n (drop (size (b ∷ l)) (b ∷ l))

-- all of them, since no part is empty
unfoldable pub parts : List ℕ → List Part
parts l = parts_in (length l) l

-- U+FFFD
abbrev pub replacement : List ℕ
replacement = 0xEF ∷ 0xBF ∷ 0xBD ∷ []

abbrev pub shown : Part → List ℕ
shown p = cond p.good p.bytes replacement

-- the text with U+FFFD for each maximal ill-formed subpart
unfoldable pub replaced : List ℕ → List ℕ
replaced l = foldr (λ p r. shown p ++ r) [] (parts l)

-- is the text well-formed sequences and nothing else?
unfoldable pub well_formed : List ℕ → Bool
well_formed l = foldr (λ p r. p.good && r) true (parts l)
