-- A message's attributes as RFC 8489 section 14 has them, written from their parts, and what they mean. The header of section
-- 5 is `stun_message`.
use Rattle.std.specs.Prelude.{◌≡◌, cond, List, [], ◌∷◌, ◌++◌, ℕ, ◌+◌, ◌%◌, ◌^◌, ◌<◌, eqb, length, Option, Some, None}
use Rattle.stun_frame.specs.Rfc.{two}

-- section 14: an attribute's type and value, and the bytes that pad it
pub record Part : Type 0 where
  pub typ : ℕ
  pub value : List ℕ
  pub pad : List ℕ

-- type and length take 16 bits; 1 to 3 bytes of padding where the value does not end on a 32-bit boundary, which the receiver
-- ignores
pub record Formed (a : Part) : Type 0 where
  pub typed : a.typ < 2 ^ 16
  pub short : length a.value < 2 ^ 16
  pub least : length a.pad < 4
  pub whole : (length a.value + length a.pad) % 4 ≡ 0

abbrev pub AllFormed : List Part → Type 0
AllFormed [] = Unit {0}
AllFormed (a ∷ more) = Formed a × AllFormed more

-- type, length of the value before padding, value, padding; one attribute after the other
abbrev pub body : List Part → List ℕ
body [] = []
body (a ∷ more) = two a.typ ++ (two (length a.value) ++ (a.value ++ (a.pad ++ body more)))

-- the first attribute of a type: "only the first occurrence needs to be processed"
abbrev pub value_of : ℕ → List Part → Option (List ℕ)
value_of t [] = None
value_of t (a ∷ more) = cond (eqb a.typ t) (Some a.value) (value_of t more)
