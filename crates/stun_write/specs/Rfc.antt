-- A STUN message as it is sent, by its parts: RFC 8489 section 5 (the header), 14 (an attribute and its padding), 14.5
-- (MESSAGE-INTEGRITY) and 14.7 (FINGERPRINT).
use Rattle.std.specs.Prelude.{◌≡◌, Bool, true, false, List, [], ◌∷◌, ◌++◌, ℕ, ◌+◌, ◌%◌, ◌^◌, ◌<◌, length, replicate}
use Rattle.std.specs.Int.Bits.{bit_xor}
use Rattle.digest.specs.Bytes.{number, big}
use Rattle.digest.specs.Hmac.{hmac}
use Rattle.sha1_digest.specs.Rfc3174.{sha1}
use Rattle.crc32.specs.Crc.{crc32}
use Rattle.stun_frame.specs.Rfc.{two, StunParts, stun_message}
use Rattle.stun_write.specs.Source.{Attribute, Key, unsigned, signed}

-- section 14: the value is followed by as few bytes as end it at a multiple of four, zeros when it is sent
pub record Padding (value pad : List ℕ) : Type 0 where
  pub least : length pad < 4
  pub whole : (length value + length pad) % 4 ≡ 0
  pub zeros : pad ≡ replicate (length pad) 0

-- section 14: type, length of the value before its padding, value, padding
pub data Sent : ℕ → List ℕ → List ℕ → Type 0 where
  sent : {t : ℕ} {value pad : List ℕ} → length value < 2 ^ 16 → Padding value pad → Sent t value (two t ++ two (length value) ++ value ++ pad)

-- section 5: after the header come the attributes, one after the other
pub data SentAll : List Attribute → List ℕ → Type 0 where
  none : SentAll [] []
  more : {a : Attribute} {others : List Attribute} {own rest : List ℕ} → Sent a.typ a.value own → SentAll others rest
      → SentAll (a ∷ others) (own ++ rest)

-- the message up to and without the attribute `own`, that follows `before`, with a header whose length counts up to the end of `own`
abbrev pub up_to : ℕ → List ℕ → List ℕ → List ℕ → List ℕ
up_to typ id before own = two typ ++ two (length (before ++ own)) ++ (0x21 ∷ 0x12 ∷ 0xA4 ∷ 0x42 ∷ []) ++ id ++ before

-- section 14.5: the value is the HMAC-SHA1 of the message up to and including the attribute before this one, where the header's
-- length points to the end of this one
pub record Integrity (typ : ℕ) (id key before own : List ℕ) : Type 0 where
  pub value : List ℕ
  pub twenty : length value ≡ 20
  pub attribute : Sent 0x0008 value own
  pub code : value ≡ hmac sha1 key (up_to typ id before own)

-- section 14.7: the value is the CRC-32 of the message up to but excluding this attribute, XOR 0x5354554E; the length counts it
pub record Fingerprint (typ : ℕ) (id before own : List ℕ) : Type 0 where
  pub value : List ℕ
  pub four : length value ≡ 4
  pub attribute : Sent 0x8028 value own
  pub code : number big value ≡ bit_xor (crc32 (up_to typ id before own)) 0x5354554E

-- each where it is asked for
pub data Integrated (typ : ℕ) (id before : List ℕ) : Key → List ℕ → Type 0 where
  without : Integrated typ id before unsigned []
  with : {key own : List ℕ} → Integrity typ id key before own → Integrated typ id before (signed key) own

pub data Fingerprinted (typ : ℕ) (id before : List ℕ) : Bool → List ℕ → Type 0 where
  without : Fingerprinted typ id before false []
  with : {own : List ℕ} → Fingerprint typ id before own → Fingerprinted typ id before true own

-- the message: its attributes, then integrity, and FINGERPRINT last; the header counts all of them, a multiple of four (StunParts)
pub record Message (typ : ℕ) (id : List ℕ) (attrs : List Attribute) (key : Key) (fingerprint : Bool) (m : List ℕ) : Type 0 where
  pub body : List ℕ
  pub integrity : List ℕ
  pub last : List ℕ
  pub attributes : SentAll attrs body
  pub integrated : Integrated typ id body key integrity
  pub fingerprinted : Fingerprinted typ id (body ++ integrity) fingerprint last
  pub parts : StunParts typ id (body ++ integrity ++ last)
  pub whole : m ≡ stun_message typ id (body ++ integrity ++ last)
