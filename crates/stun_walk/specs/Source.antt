-- `Message::decode` and what reads a decoded message (`get`, `error_code`, `lifetime`, `xor_addr`, `get_str`) of stun.rs, line by
-- line. A message is the list of its bytes, and an attribute is where it lies in it.
use Rattle.std.specs.Prelude.{ℕ, zero, suc, ◌+◌, ◌*◌, ◌/◌, ◌%◌, List, [], ◌∷◌, Bool, true, cond, ◌&&◌, length, get_or, take, drop, leb, ltb, eqb, Option, Some, None, Result, option_map}
use Rattle.std.specs.Option.{option_transpose}
use Rattle.stun_frame.specs.Source.{is_stun, field_at}
use Rattle.stun_address.specs.declared.Address.{Address}
use Rattle.stun_address.specs.Source.{decode_xor_addr}
use Rattle.stun_text.specs.declared.Text.{Text}
use Rattle.stun_text.specs.declared.TooLong.{TooLong}
use Rattle.stun_text.specs.Lossy.{lossy_of}
use Rattle.stun_walk.specs.declared.Value.{Value}
use Rattle.stun_walk.specs.declared.Header.{Header}

-- l.div_ceil(4) * 4
abbrev pub padded : ℕ → ℕ
padded l = (l + 3) / 4 * 4

-- an attribute: its place, its type, the length that it declares; its value starts four bytes after its place
pub record Attribute : Type 0 where
  pub at : ℕ
  pub typ : ℕ
  pub len : ℕ

-- while p + 4 <= 20 + len: at most n attributes from p on
unfoldable pub attributes_from : ℕ → List ℕ → ℕ → List Attribute
attributes_from zero buf p = []
attributes_from (suc n) buf p =
    let rest = attributes_from n buf (p + 4 + padded (field_at buf (p + 2))) in
    cond (leb (p + 4) (20 + field_at buf 2)) (record { at = p; typ = field_at buf p; len = field_at buf (p + 2) } ∷ rest) []

-- an attribute takes 4 bytes or more, so the buffer's length is attributes enough
abbrev pub attributes : List ℕ → List Attribute
attributes buf = attributes_from (length buf) buf 20

-- buf.get(p + 4..p + 4 + l)? of each: no value passes the buffer's end
abbrev pub inside : List ℕ → List Attribute → Bool
inside buf [] = true
inside buf (a ∷ more) = leb (a.at + 4 + a.len) (length buf) && inside buf more

-- decode is not None
unfoldable pub readable : List ℕ → Bool
readable buf = is_stun buf && leb (20 + field_at buf 2) (length buf) && inside buf (attributes buf)

unfoldable pub decoded : List ℕ → Option Header
decoded buf = cond (readable buf) (Some (record { typ = field_at buf 0; id = take 12 (drop 8 buf) })) None

-- get: the first attribute of a type
abbrev pub first : ℕ → List Attribute → Option Value
first t [] = None
first t (a ∷ more) = cond (eqb a.typ t) (Some (record { start = a.at + 4; len = a.len })) (first t more)

unfoldable pub get_of : List ℕ → ℕ → Option Value
get_of buf t = cond (readable buf) (first t (attributes buf)) None

-- &v of such a value
abbrev pub value_in : List ℕ → Value → List ℕ
value_in buf v = take v.len (drop v.start buf)

-- error_code: (v[2] & 7) * 100 + v[3], of a value at least 4 long
abbrev pub code_in : List ℕ → Option Value → Option ℕ
code_in buf None = None
code_in buf (Some v) = cond (ltb v.len 4) None (Some (get_or buf (v.start + 2) 0 % 8 * 100 + get_or buf (v.start + 3) 0))

unfoldable pub error_code_of : List ℕ → Option ℕ
error_code_of buf = code_in buf (get_of buf 0x0009)

-- lifetime: u32::from_be_bytes(v.get(..4)?)
abbrev pub lifetime_in : List ℕ → Option Value → Option ℕ
lifetime_in buf None = None
lifetime_in buf (Some v) = cond (ltb v.len 4) None (Some (field_at buf v.start * 65536 + field_at buf (v.start + 2)))

unfoldable pub lifetime_of : List ℕ → Option ℕ
lifetime_of buf = lifetime_in buf (get_of buf 0x000D)

-- xor_addr: decode_xor_addr(self.get(t)?, &self.tid)
abbrev pub address_in : List ℕ → Option Value → Option Address
address_in buf None = None
address_in buf (Some v) = decode_xor_addr (value_in buf v) (take 12 (drop 8 buf))

unfoldable pub xor_addr_of : List ℕ → ℕ → Option Address
xor_addr_of buf t = address_in buf (get_of buf t)

-- get_str: String::from_utf8_lossy of the value; the port's text has a room
abbrev pub text_in : List ℕ → Option Value → Result (Option Text) TooLong
text_in buf found = option_transpose (option_map (λ v. lossy_of (value_in buf v)) found)

unfoldable pub get_str_of : List ℕ → ℕ → Result (Option Text) TooLong
get_str_of buf t = text_in buf (get_of buf t)
