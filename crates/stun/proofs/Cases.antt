-- The scope's list "Both sides of each line", the cases of the codec (1 to 6, 9, 10) under their numbers; 7, 8 and 11 on are the
-- client's. Both sides are computed by the definitions that the code is proved against. Beside them: RFC 5769's IPv6 address.
use mathlib.Core.Path.{◌≡◌, refl}
use mathlib.Core.List.{List, [], ◌∷◌, ◌++◌}
use Prim.Native.Nat.{ℕ}
use lib.ListN.{take, replicate}
use Rattle.stun_frame.specs.declared.classes.Class.TheVariants.{Indication, Success, Error}
use Rattle.std.specs.Prelude.{Some, None, Ok}
use Rattle.stun_frame.specs.declared.Frame.TheVariants.{Incomplete, Whole, Corrupt}
use Rattle.stun_frame.specs.Source.{class, is_stun, is_channel_data, encode_channel_data, decode_channel_data, written, number_of, stream_frame_len}
use Rattle.stun_address.specs.declared.Address.{Address}
use Rattle.stun_address.specs.declared.Ip.TheVariants.{V4, V6}
use Rattle.stun_address.specs.Source.{encode_xor_addr, decode_xor_addr}
use Rattle.stun_walk.specs.Source.{attributes_from, readable, get_of, error_code_of}
use Rattle.stun_text.specs.Utf8.{sequence, subpart, parts, replaced}

-- case 1: 192.0.2.1 port 32853, in any transaction (RFC 5769 section 2.2 has the same bytes)
abbrev first : Address
first = record { ip = V4 0xC0000201; port = 32853 }

abbrev first_bytes : List ℕ
first_bytes = 0x00 ∷ 0x01 ∷ 0xA1 ∷ 0x47 ∷ 0xE1 ∷ 0x12 ∷ 0xA6 ∷ 0x43 ∷ []

written_v4 : (id : List ℕ) → encode_xor_addr first id ≡ first_bytes
unfolding encode_xor_addr
written_v4 id = refl

read_v4 : (id : List ℕ) → decode_xor_addr first_bytes id ≡ Some first
unfolding decode_xor_addr
read_v4 id = refl

-- one byte less
cut_v4 : (id : List ℕ) → decode_xor_addr (take 7 first_bytes) id ≡ None
unfolding decode_xor_addr
cut_v4 id = refl

-- "HI!"
abbrev hi : List ℕ
hi = 0x48 ∷ 0x49 ∷ 0x21 ∷ []

abbrev sent : List ℕ
sent = 0x40 ∷ 0x00 ∷ 0x00 ∷ 0x03 ∷ 0x48 ∷ 0x49 ∷ 0x21 ∷ 0x00 ∷ []

-- case 2
hi_sent : encode_channel_data 0x4000 hi ≡ sent
unfolding encode_channel_data
hi_sent = refl

-- case 3
empty_sent : encode_channel_data 0x4000 [] ≡ 0x40 ∷ 0x00 ∷ 0x00 ∷ 0x00 ∷ []
unfolding encode_channel_data
empty_sent = refl

-- case 4
seven_bytes : stream_frame_len (take 7 sent) ≡ Incomplete
unfolding stream_frame_len
seven_bytes = refl

eight_bytes : stream_frame_len sent ≡ Whole 8
unfolding stream_frame_len
eight_bytes = refl

-- case 5
corrupt : stream_frame_len (0x80 ∷ 0x00 ∷ 0x00 ∷ 0x00 ∷ []) ≡ Corrupt
unfolding stream_frame_len
corrupt = refl

not_yet : stream_frame_len (0x80 ∷ 0x00 ∷ 0x00 ∷ []) ≡ Incomplete
unfolding stream_frame_len
not_yet = refl

-- case 6: an error response of one ERROR-CODE with these four bytes
abbrev refused_with : List ℕ → List ℕ
refused_with bytes =
    (0x01 ∷ 0x13 ∷ 0x00 ∷ 0x08 ∷ 0x21 ∷ 0x12 ∷ 0xA4 ∷ 0x42 ∷ []) ++ replicate 12 0 ++ (0x00 ∷ 0x09 ∷ 0x00 ∷ 0x04 ∷ []) ++ bytes

four_one : error_code_of (refused_with (0x00 ∷ 0x00 ∷ 0x04 ∷ 0x01 ∷ [])) ≡ Some 401
unfolding error_code_of get_of readable attributes_from is_stun
four_one = refl

three_hundred_one : error_code_of (refused_with (0x00 ∷ 0x00 ∷ 0x03 ∷ 0x65 ∷ [])) ≡ Some 401
unfolding error_code_of get_of readable attributes_from is_stun
three_hundred_one = refl

-- its other side: one byte less, and nothing is read
one_less : error_code_of (refused_with (0x00 ∷ 0x00 ∷ 0x04 ∷ [])) ≡ None
unfolding error_code_of get_of readable attributes_from is_stun
one_less = refl

-- case 9
success : class 0x0103 ≡ Success
unfolding class
success = refl

error : class 0x0113 ≡ Error
unfolding class
error = refl

indication : class 0x0017 ≡ Indication
unfolding class
indication = refl

-- case 10
two_begun : replaced (0xC3 ∷ []) ≡ 0xEF ∷ 0xBF ∷ 0xBD ∷ []
unfolding replaced parts sequence subpart
two_begun = refl

three_begun : replaced (0xE2 ∷ 0x82 ∷ []) ≡ 0xEF ∷ 0xBF ∷ 0xBD ∷ []
unfolding replaced parts sequence subpart
three_begun = refl

-- their other side: ended, they are characters
ended : replaced (0xC3 ∷ 0xA9 ∷ 0xE2 ∷ 0x82 ∷ 0xAC ∷ []) ≡ 0xC3 ∷ 0xA9 ∷ 0xE2 ∷ 0x82 ∷ 0xAC ∷ []
unfolding replaced parts sequence subpart
ended = refl

-- the data of case 2 needs no padding, and not less than all of it
unpadded : decode_channel_data (take 7 sent) ≡ Some (record { number = 0x4000; start = 4; len = 3 })
unfolding decode_channel_data is_channel_data
unpadded = refl

cut : decode_channel_data (take 6 sent) ≡ None
unfolding decode_channel_data is_channel_data
cut = refl

-- its room: 8 bytes do, 7 do not
room : written 0x4000 hi (replicate 8 0) ≡ Ok 8
unfolding written encode_channel_data
room = refl

no_room : number_of (written 0x4000 hi (replicate 7 0)) ≡ 8
unfolding written encode_channel_data
no_room = refl

-- 2001:db8:1234:5678:11:2233:4455:6677 port 32853
abbrev second : Address
second = record { ip = V6 0x20010DB812345678 0x0011223344556677; port = 32853 }

abbrev transaction : List ℕ
transaction = 0xB7 ∷ 0xE7 ∷ 0xA7 ∷ 0x01 ∷ 0xBC ∷ 0x34 ∷ 0xD6 ∷ 0x86 ∷ 0xFA ∷ 0x87 ∷ 0xDF ∷ 0xAE ∷ []

abbrev second_bytes : List ℕ
second_bytes =
    0x00 ∷ 0x02 ∷ 0xA1 ∷ 0x47 ∷ 0x01 ∷ 0x13 ∷ 0xA9 ∷ 0xFA ∷ 0xA5 ∷ 0xD3 ∷ 0xF1 ∷ 0x79 ∷ 0xBC ∷ 0x25 ∷ 0xF4 ∷ 0xB5 ∷ 0xBE ∷ 0xD2 ∷ 0xB9 ∷ 0xD9 ∷ []

written_v6 : encode_xor_addr second transaction ≡ second_bytes
unfolding encode_xor_addr
written_v6 = refl

read_v6 : decode_xor_addr second_bytes transaction ≡ Some second
unfolding decode_xor_addr
read_v6 = refl

-- one byte less
cut_v6 : decode_xor_addr (take 19 second_bytes) transaction ≡ None
unfolding decode_xor_addr
cut_v6 = refl
