-- What stun.rs and turn.rs do, line by line, under their names: `class`, `is_stun`, `is_channel_data`, `encode_channel_data`,
-- `decode_channel_data`, `stream_frame_len`. The port adds room that is lent and its two refusals.
use Rattle.std.specs.Prelude.{◌≡◌, Bool, cond, ◌&&◌, List, [], ◌∷◌, ◌++◌, ℕ, ◌+◌, ◌-◌, ◌*◌, ◌/◌, ◌%◌, ◌^◌, length, get_or, take, drop, replicate, ltb, leb, eqb, Option, Some, None, Result, Ok, Err}
use Rattle.std.specs.Int.Bits.{bit_and}
use Rattle.stun_frame.specs.declared.classes.Class.{Class}
use Rattle.stun_frame.specs.declared.classes.Class.TheVariants.{Request, Indication, Success, Error}
use Rattle.stun_frame.specs.declared.ChannelData.{ChannelData}
use Rattle.stun_frame.specs.declared.Unwritten.{Unwritten}
use Rattle.stun_frame.specs.declared.Unwritten.TheVariants.{TooLong, NoRoom}
use Rattle.stun_frame.specs.declared.Frame.{Frame}
use Rattle.stun_frame.specs.declared.Frame.TheVariants.{Incomplete, Whole, Corrupt}

-- match typ & 0x0110
unfoldable pub class : ℕ → Class
class typ =
    cond (eqb (bit_and typ 0x0110) 0x0000) Request
    (cond (eqb (bit_and typ 0x0110) 0x0010) Indication (cond (eqb (bit_and typ 0x0110) 0x0100) Success Error))

-- what the mask leaves of a type of that class
abbrev pub mask_of : Class → ℕ
mask_of Request = 0x0000
mask_of Indication = 0x0010
mask_of Success = 0x0100
mask_of Error = 0x0110

-- u16::from_be_bytes([high, low])
abbrev pub from_be : ℕ → ℕ → ℕ
from_be high low = high * 256 + low

-- x.to_be_bytes() of a u16
abbrev pub to_be : ℕ → List ℕ
to_be x = x / 256 ∷ x % 256 ∷ []

-- buf.len() >= 20 && buf[0] & 0xC0 == 0 && buf[4..8] == MAGIC.to_be_bytes()
unfoldable pub is_stun : List ℕ → Bool
is_stun buf =
    leb 20 (length buf) && eqb (bit_and (get_or buf 0 0) 0xC0) 0
    && (eqb (get_or buf 4 0) 0x21 && eqb (get_or buf 5 0) 0x12 && eqb (get_or buf 6 0) 0xA4 && eqb (get_or buf 7 0) 0x42)

-- buf.len() >= 4 && (0x40..=0x7F).contains(&buf[0])
unfoldable pub is_channel_data : List ℕ → Bool
is_channel_data buf = leb 4 (length buf) && (leb 0x40 (get_or buf 0 0) && leb (get_or buf 0 0) 0x7F)

-- the number and the length field of a ChannelData message
abbrev pub field_at : List ℕ → ℕ → ℕ
field_at buf i = from_be (get_or buf i 0) (get_or buf (i + 1) 0)

-- decode_channel_data: buf.get(4..4 + len) is None where it passes the end
unfoldable pub decode_channel_data : List ℕ → Option ChannelData
decode_channel_data buf =
    cond (is_channel_data buf)
    (cond (leb (4 + field_at buf 2) (length buf)) (Some (record { number = field_at buf 0; start = 4; len = field_at buf 2 })) None)
    None

-- the bytes that such an answer names, &buf[start..start + len]
abbrev pub part : List ℕ → ℕ → ℕ → List ℕ
part buf start len = take len (drop start buf)

-- the zeros of v.resize(v.len() + (4 - data.len() % 4) % 4, 0)
abbrev pub padding : ℕ → ℕ
padding n = (4 - n % 4) % 4

-- encode_channel_data's v
unfoldable pub encode_channel_data : ℕ → List ℕ → List ℕ
encode_channel_data number body = to_be number ++ to_be (length body) ++ body ++ replicate (padding (length body)) 0

-- an answer: how many bytes stand at the front of the room, or why none do
abbrev pub Written : Type 0
Written = Result ℕ Unwritten

-- the answer: over 65,535 bytes the length would not fit its field; then the room
unfoldable pub written : ℕ → List ℕ → List ℕ → Written
written number body out =
    cond (ltb 65535 (length body)) (Err TooLong)
    (cond (ltb (length out) (length (encode_channel_data number body))) (Err NoRoom) (Ok (length (encode_channel_data number body))))

-- the room after that answer
abbrev pub room_after : Written → List ℕ → List ℕ → List ℕ
room_after (Ok n) v out = v ++ drop n out
room_after (Err why) v out = out

pub record Wrote (number : ℕ) (body out : List ℕ) (answer : Written) (after : List ℕ) : Type 0 where
  pub answered : answer ≡ written number body out
  pub left : after ≡ room_after (written number body out) (encode_channel_data number body) out

-- the number that a caller gets back for an answer: done, too long, no room
abbrev pub number_of : Written → ℕ
number_of (Ok n) = 0
number_of (Err TooLong) = 4
number_of (Err NoRoom) = 8

-- (buf.len() >= total).then_some(total)
abbrev pub whole : ℕ → ℕ → Frame
whole have total = cond (leb total have) (Whole total) Incomplete

-- stream_frame_len, by buf[0] >> 6; `usize::MAX` for corrupt is a case of its own
unfoldable pub stream_frame_len : List ℕ → Frame
stream_frame_len buf =
    cond (ltb (length buf) 4) Incomplete
    (cond (eqb (get_or buf 0 0 / 2 ^ 6) 0) (whole (length buf) (20 + field_at buf 2))
    (cond (eqb (get_or buf 0 0 / 2 ^ 6) 1) (whole (length buf) (4 + bit_and (field_at buf 2 + 3) (2 ^ 64 - 1 - 3))) Corrupt))
