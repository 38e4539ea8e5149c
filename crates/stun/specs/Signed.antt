-- A message that is signed under a key, as a receiver has it (RFC 8489 section 14.5): whoever wrote it, whatever pads its attributes, and
-- whatever follows its MESSAGE-INTEGRITY.
use Rattle.std.specs.Prelude.{◌≡◌, List, [], ◌∷◌, ◌++◌, ℕ, length}
use Rattle.digest.specs.Hmac.{hmac}
use Rattle.sha1_digest.specs.Rfc3174.{sha1}
use Rattle.stun_walk.specs.Rfc.{Part, body, value_of}
use Rattle.std.specs.Prelude.{None}
use Rattle.stun_write.specs.Rfc.{up_to}
use Rattle.stun.specs.Rfc.{WellFormed}

pub record Signed (key m : List ℕ) : Type 0 where
  pub typ : ℕ
  pub id : List ℕ
  pub before : List Part
  pub mine : Part
  pub after : List Part
  pub message : WellFormed m typ id (before ++ (mine ∷ after))
  -- `mine` is its first MESSAGE-INTEGRITY
  pub first : value_of 0x0008 before ≡ None
  pub typed : mine.typ ≡ 0x0008
  -- its value is an HMAC-SHA1, so 20 bytes
  pub twenty : length mine.value ≡ 20
  -- under the key, of the message up to and including the attribute before `mine`, where the header's length points to the end of `mine`
  pub code : mine.value ≡ hmac sha1 key (up_to typ id (body before) (body (mine ∷ [])))
