-- What the code's private functions say of a first byte (Table 3-7 of the Unicode Standard, section 3.9): the ranges that it asks of the
-- bytes after it. No public contract cites this file.
use Rattle.std.specs.Prelude.{ℕ, zero, suc, ◌≡◌, List, [], ◌∷◌, cond, eqb, Result, Ok, Err}
use Rattle.stun_text.specs.Utf8.{Range, ◌‥◌, agree, size, whole}

-- so many ranges: the given one, and 80 to BF for the others
abbrev pub following : ℕ → ℕ → ℕ → List Range
following zero low high = []
following (suc n) low high = low ‥ high ∷ following n 0x80 0xBF

-- what a text that goes on after the byte b begins with: b, and the bytes after it that agree
pub record Leads (b more low high : ℕ) : Type 0 where
  pub long : (l : List ℕ) → size (b ∷ l) ≡ suc (agree (following more low high) l)
  pub good : (l : List ℕ) → whole (b ∷ l) ≡ eqb (agree (following more low high) l) more

-- the part of a first byte and n bytes after it that agree, where its row asks for so many more
abbrev pub followed : ℕ → ℕ → Result ℕ ℕ
followed more n = cond (eqb n more) (Ok (suc n)) (Err (suc n))

-- the first part of a text: how long the well-formed sequence is, or else the maximal subpart
abbrev pub cut : List ℕ → Result ℕ ℕ
cut l = cond (whole l) (Ok (size l)) (Err (size l))
