-- A whole message (RFC 8489 sections 5 and 14), and the values of ERROR-CODE (section 14.8) and LIFETIME (RFC 8656 section 18.2). Those of
-- the XOR addresses are `stun_address`'s.
use Rattle.std.specs.Prelude.{◌≡◌, ℕ, ◌+◌, ◌*◌, ◌/◌, ◌%◌, ◌^◌, ◌≤◌, ◌<◌, List, ◌∷◌, ◌++◌}
use Rattle.stun_frame.specs.Rfc.{two, StunParts, stun_message}
use Rattle.stun_walk.specs.Rfc.{Part, AllFormed, body}

-- a message by its type, id and attributes: the header of section 5, then the attributes of section 14
pub record WellFormed (m : List ℕ) (typ : ℕ) (id : List ℕ) (parts : List Part) : Type 0 where
  pub header : StunParts typ id (body parts)
  pub attributes : AllFormed parts
  pub whole : m ≡ stun_message typ id (body parts)

-- 21 reserved bits that a receiver ignores (two bytes and 5 bits), the class (the hundreds digit) in 3 bits, the number (the code
-- modulo 100) in 8, the reason phrase
abbrev pub error_value : ℕ → ℕ → ℕ → ℕ → List ℕ → List ℕ
error_value first second five code reason = first ∷ second ∷ (five * 8 + code / 100) ∷ code % 100 ∷ reason

-- "The class represents the hundreds digit of the error code. The value MUST be between 3 and 6."
pub record ErrorCode (code : ℕ) : Type 0 where
  pub from : 300 ≤ code
  pub to : code < 700

-- "a 32-bit unsigned integral value representing the number of seconds remaining until expiration"
abbrev pub lifetime_value : ℕ → List ℕ
lifetime_value seconds = two (seconds / 2 ^ 16) ++ two (seconds % 2 ^ 16)
