-- Messages written from their parts: RFC 8489 section 5 (the STUN header and its class bits) and section 6.2.2 (a stream),
-- RFC 8656 section 12 (channel numbers), 12.4 (ChannelData) and 12.5 (its padding in a stream).
use Rattle.std.specs.Prelude.{◌≡◌, List, [], ◌∷◌, ◌++◌, ℕ, zero, suc, ◌+◌, ◌*◌, ◌/◌, ◌%◌, ◌^◌, ◌≤◌, ◌<◌, length}
use Rattle.stun_frame.specs.declared.classes.Class.{Class}
use Rattle.stun_frame.specs.declared.classes.Class.TheVariants.{Request, Indication, Success, Error}

-- 16 bits in network byte order
abbrev pub two : ℕ → List ℕ
two x = x / 256 ∷ x % 256 ∷ []

-- RFC 8489 section 5: C1 is bit 8 of the message type, C0 bit 4
abbrev pub C1 : ℕ → ℕ
C1 typ = typ / 2 ^ 8 % 2

abbrev pub C0 : ℕ → ℕ
C0 typ = typ / 2 ^ 4 % 2

-- 0b00 is a request, 0b01 an indication, 0b10 a success response, 0b11 an error response
abbrev pub class_by : ℕ → ℕ → Class
class_by zero zero = Request
class_by zero (suc c0) = Indication
class_by (suc c1) zero = Success
class_by (suc c1) (suc c0) = Error

-- the type of a method of 12 bits and the class bits: M11 to M7, C1, M6 to M4, C0, M3 to M0
abbrev pub message_type : ℕ → ℕ → ℕ → ℕ
message_type method c1 c0 = method / 2 ^ 7 * 2 ^ 9 + c1 * 2 ^ 8 + method / 2 ^ 4 % 2 ^ 3 * 2 ^ 5 + c0 * 2 ^ 4 + method % 2 ^ 4

-- RFC 8489 section 5: two zero bits, type, length of what follows the 20 bytes, magic cookie, transaction id. Every attribute is
-- padded, so the length is a multiple of four.
pub record StunParts (typ : ℕ) (id body : List ℕ) : Type 0 where
  pub top : typ < 2 ^ 14
  pub ided : length id ≡ 12
  pub fits : length body < 2 ^ 16
  pub whole : length body % 4 ≡ 0

abbrev pub stun_message : ℕ → List ℕ → List ℕ → List ℕ
stun_message typ id body = two typ ++ two (length body) ++ (0x21 ∷ 0x12 ∷ 0xA4 ∷ 0x42 ∷ []) ++ id ++ body

-- RFC 8656 section 12.4: channel number, length, data. Section 12 has the numbers from 0x4000 to 0x4FFF and reserves the
-- rest; the source takes those up to 0x7FFF (as RFC 5766 had them), and so does this.
pub record ChannelParts (number : ℕ) (body : List ℕ) : Type 0 where
  pub from : 0x4000 ≤ number
  pub to : number ≤ 0x7FFF
  pub fits : length body < 2 ^ 16

abbrev pub channel_message : ℕ → List ℕ → List ℕ
channel_message number body = two number ++ two (length body) ++ body

-- section 12.5: in a stream the message is padded to a multiple of four bytes, which the length does not count; the padding's
-- bytes may be any
pub record Padding (body pad : List ℕ) : Type 0 where
  pub least : length pad < 4
  pub whole : (4 + length body + length pad) % 4 ≡ 0

-- what stands in a stream
pub data Framed : List ℕ → Type 0 where
  stun : {typ : ℕ} {id body : List ℕ} → StunParts typ id body → Framed (stun_message typ id body)
  channel : {number : ℕ} {body pad : List ℕ} → ChannelParts number body → Padding body pad → Framed (channel_message number body ++ pad)

-- a stream: frames one after the other
abbrev pub stream : List (List ℕ) → List ℕ
stream [] = []
stream (f ∷ fs) = f ++ stream fs

abbrev pub AllFramed : List (List ℕ) → Type 0
AllFramed [] = Unit
AllFramed (f ∷ fs) = Framed f × AllFramed fs
