-- What the source reads, as grammars over bytes: `decode` (`Readable`), ERROR-CODE and LIFETIME (`CodeIs`, `SecondsAre`), and a stream's frames
-- (`Begun`). What the RFCs have is among it.
use Rattle.std.specs.Prelude.{◌≡◌, List, [], ◌∷◌, ◌++◌, ℕ, ◌+◌, ◌-◌, ◌*◌, ◌/◌, ◌%◌, ◌^◌, ◌≤◌, ◌<◌, length, get_or, take}
use Rattle.stun_frame.specs.Rfc.{two}
use Rattle.stun_address.specs.Rfc.{number}
use Rattle.stun_walk.specs.Rfc.{Part}

-- an attribute before `rest`: type and length of 16 bits, and padding up to a 32-bit boundary, of which bytes may be missing only where the
-- buffer ends
pub record Attribute (a : Part) (rest : List ℕ) : Type 0 where
  pub typed : a.typ < 2 ^ 16
  pub short : length a.value < 2 ^ 16
  pub missing : ℕ
  pub least : length a.pad + missing < 4
  pub boundary : (length a.value + length a.pad + missing) % 4 ≡ 0
  pub ends : 0 < missing → rest ≡ []

-- the attributes in bytes of which the length field counts the first `left`
pub data Attributes : ℕ → List ℕ → List Part → Type 0 where
  -- it counts fewer than 4: whatever stands there
  done : {left : ℕ} {bytes : List ℕ} → left < 4 → Attributes left bytes []
  -- type, length of the value, the whole value, padding, whether or not it counts them all; then the others
  next : {left : ℕ} {a : Part} {rest : List ℕ} {more : List Part} → 4 ≤ left → Attribute a rest
      → Attributes (left - (4 + length a.value + length a.pad)) rest more
      → Attributes left (two a.typ ++ (two (length a.value) ++ (a.value ++ (a.pad ++ rest)))) (a ∷ more)

-- two zero bits and type, length field, magic cookie, id of 12 bytes, and at least as many bytes as the length field counts. With a length
-- field that is a multiple of four and counts all of the bytes, that is RFC 8489 (`formed_readable`, `readable_formed`). Beside it there are,
-- with the smallest that can stand behind the header:
--   bytes after the message: count 0, then 00
--   a count that is no multiple of four: count 1, then 00
--   padding that is missing: count 5, then 00 06 00 01 41
--   a value past the count's end: count 4, then 00 06 00 01 41
pub record Readable (b : List ℕ) (typ : ℕ) (id : List ℕ) (parts : List Part) : Type 0 where
  pub count : ℕ
  pub bytes : List ℕ
  pub top : typ < 2 ^ 14
  pub counted : count < 2 ^ 16
  pub ided : length id ≡ 12
  pub there : count ≤ length bytes
  pub header : b ≡ two typ ++ (two count ++ ((0x21 ∷ 0x12 ∷ 0xA4 ∷ 0x42 ∷ []) ++ (id ++ bytes)))
  pub attributes : Attributes count bytes parts

-- RFC 8489 section 14.8: 4 bytes or more, the class in the third byte's low 3 bits and the number in the fourth. The RFC has classes from 3
-- to 6 and numbers up to 99 only: 00 00 03 65 is read as 401.
abbrev pub CodeIs : ℕ → List ℕ → Type 0
CodeIs code value = (4 ≤ length value) × (code ≡ get_or value 2 0 % 8 * 100 + get_or value 3 0)

-- RFC 8656 section 18.2: the number that the first 4 bytes are. The RFC has no more than these.
abbrev pub SecondsAre : ℕ → List ℕ → Type 0
SecondsAre seconds value = (4 ≤ length value) × (seconds ≡ number (take 4 value))

-- the length of the frame that a stream's bytes begin, by the top two bits: a STUN header and as many bytes as its length field says (RFC 8489
-- section 5); the 4 bytes of ChannelData and as many, up to a multiple of four (RFC 8656 section 12.5). Neither the cookie nor a multiple
-- of four is asked of STUN: 20 zero bytes are a frame, and so are 00 00 00 01 and 17 more.
pub data Begun (s : List ℕ) : ℕ → Type 0 where
  stun : get_or s 0 0 / 2 ^ 6 ≡ 0 → Begun s (20 + (get_or s 2 0 * 256 + get_or s 3 0))
  channel : get_or s 0 0 / 2 ^ 6 ≡ 1 → Begun s (4 + (get_or s 2 0 * 256 + get_or s 3 0 + 3) / 4 * 4)
