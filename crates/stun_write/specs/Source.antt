-- What stun.rs does when it writes, line by line, under its names: `push_attr` and `Message::encode`. The port adds room that is
-- lent and its two refusals; where a length is over 65,535 it refuses, so that `as u16` is the number itself.
use Rattle.std.specs.Prelude.{◌≡◌, Bool, true, false, cond, List, [], ◌∷◌, ◌++◌, ℕ, ◌+◌, ◌-◌, length, take, drop, replicate, ltb, Ok, Err}
use Rattle.std.specs.Int.Bits.{bit_xor}
use Rattle.digest.specs.Bytes.{bytes, big}
use Rattle.digest.specs.Hmac.{hmac}
use Rattle.sha1_digest.specs.Rfc3174.{sha1}
use Rattle.crc32.specs.Crc.{crc32}
use Rattle.stun_frame.specs.declared.Unwritten.TheVariants.{TooLong, NoRoom}
use Rattle.stun_frame.specs.Source.{to_be, padding, Written, room_after}

-- push_attr(out, t, v): what it appends
unfoldable pub push_attr : ℕ → List ℕ → List ℕ
push_attr t v = to_be t ++ to_be (length v) ++ v ++ replicate (padding (length v)) 0

-- how many bytes that are, for a value of n bytes
abbrev pub attr_size : ℕ → ℕ
attr_size n = 4 + n + padding n

-- a pair of `attrs: Vec<(u16, Vec<u8>)>`
pub record Attribute : Type 0 where
  pub typ : ℕ
  pub value : List ℕ

-- for (t, v) in &self.attrs { push_attr(&mut body, *t, v); }
abbrev pub attributes : List Attribute → List ℕ
attributes [] = []
attributes (a ∷ rest) = push_attr a.typ a.value ++ attributes rest

-- integrity_key: Option<&[u8]>
pub data Key : Type 0 where
  unsigned : Key
  signed : List ℕ → Key

-- the 20 bytes before the body, with a length field of n: type, length, MAGIC, tid
abbrev pub header : ℕ → ℕ → List ℕ → List ℕ
header typ n id = to_be typ ++ to_be n ++ (0x21 ∷ 0x12 ∷ 0xA4 ∷ 0x42 ∷ []) ++ id

-- out[2..4].copy_from_slice(&(n as u16).to_be_bytes())
abbrev pub set_length : ℕ → List ℕ → List ℕ
set_length n out = take 2 out ++ to_be n ++ drop 4 out

-- if let Some(key) = integrity_key { .. }, with ATTR_MESSAGE_INTEGRITY
unfoldable pub with_integrity : Key → List ℕ → List ℕ
with_integrity unsigned out = out
with_integrity (signed key) out =
    let o = set_length (length out - 20 + 24) out in
    o ++ push_attr 0x0008 (hmac sha1 key o)

-- if fingerprint { .. }, with ATTR_FINGERPRINT
unfoldable pub with_fingerprint : Bool → List ℕ → List ℕ
with_fingerprint false out = out
with_fingerprint true out =
    let o = set_length (length out - 20 + 8) out in
    o ++ push_attr 0x8028 (bytes big 4 (bit_xor (crc32 o) 0x5354554E))

-- Message::encode of a message whose attributes' bytes are `body`
unfoldable pub encoded : ℕ → List ℕ → List ℕ → Key → Bool → List ℕ
encoded typ id body key fingerprint =
    let out = with_fingerprint fingerprint (with_integrity key (header typ 0 id ++ body)) in
    set_length (length out - 20) out

-- what `encoded` has behind a body: MESSAGE-INTEGRITY, and FINGERPRINT behind all before it
abbrev pub integrity : ℕ → List ℕ → List ℕ → Key → List ℕ
integrity typ id body unsigned = []
integrity typ id body (signed key) = push_attr 0x0008 (hmac sha1 key (header typ (length body + 24) id ++ body))

abbrev pub fingerprint_of : ℕ → List ℕ → List ℕ → List ℕ
fingerprint_of typ id before = bytes big 4 (bit_xor (crc32 (header typ (length before + 8) id ++ before)) 0x5354554E)

abbrev pub fingerprint : ℕ → List ℕ → List ℕ → Bool → List ℕ
fingerprint typ id before false = []
fingerprint typ id before true = push_attr 0x8028 (fingerprint_of typ id before)

abbrev pub sealed_body : ℕ → List ℕ → List ℕ → Key → Bool → List ℕ
sealed_body typ id body key b = body ++ integrity typ id body key ++ fingerprint typ id (body ++ integrity typ id body key) b

-- a key as the code is given it
abbrev pub key_of : Bool → List ℕ → Key
key_of false key = unsigned
key_of true key = signed key

-- the bytes of each addition, and of a message with n bytes of attributes
abbrev pub integrity_size : Bool → ℕ
integrity_size b = cond b 24 0

abbrev pub fingerprint_size : Bool → ℕ
fingerprint_size b = cond b 8 0

abbrev pub sealed_size : ℕ → Bool → Bool → ℕ
sealed_size n sign fingerprint = 20 + n + integrity_size sign + fingerprint_size fingerprint

-- the answer for a message of `size` bytes: over 65,535 bytes after the header the length would not fit its field; then the room
unfoldable pub fitted : ℕ → ℕ → Written
fitted size room = cond (ltb 65555 size) (Err TooLong) (cond (ltb room size) (Err NoRoom) (Ok size))

-- the same for an attribute that ends at `size`
unfoldable pub fitted_attr : List ℕ → ℕ → ℕ → Written
fitted_attr v size room = cond (ltb 65535 (length v)) (Err TooLong) (fitted size room)

-- what an answer leaves: the message in front on `Ok`, nothing changed otherwise
pub record Left (due : Written) (message out : List ℕ) (answer : Written) (after : List ℕ) : Type 0 where
  pub answered : answer ≡ due
  pub left : after ≡ room_after due message out

-- push_attr at the place `at`
abbrev pub Pushed : List ℕ → ℕ → ℕ → List ℕ → Written → List ℕ → Type 0
Pushed out at t v = Left (fitted_attr v (at + attr_size (length v)) (length out)) (take at out ++ push_attr t v) out

-- the attributes stand in out[20..end]
abbrev pub Sealed : List ℕ → ℕ → ℕ → List ℕ → List ℕ → Bool → Bool → Written → List ℕ → Type 0
Sealed out end typ id key sign fingerprint =
    Left (fitted (sealed_size (end - 20) sign fingerprint) (length out)) (encoded typ id (take (end - 20) (drop 20 out)) (key_of sign key) fingerprint) out

-- the attributes' bytes are `body`
abbrev pub Encoded : List ℕ → ℕ → List ℕ → List ℕ → List ℕ → Bool → Bool → Written → List ℕ → Type 0
Encoded out typ id body key sign fingerprint =
    Left (fitted (sealed_size (length body) sign fingerprint) (length out)) (encoded typ id body (key_of sign key) fingerprint) out
