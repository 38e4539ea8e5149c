-- Demand 3 is about something, and its premise is needed. Whole sessions are computed by the definition; the bytes that they are held to
-- were made by Python's hashlib, hmac and zlib. Username "u", realm "r", nonce "n"; passwords "a" and "museum".
use Rattle.std.specs.Prelude.{Option, Some}
use mathlib.Core.Path.{◌≡◌, refl}
use mathlib.Core.Bool.{Bool, true, false, cond}
use mathlib.Core.List.{List, [], ◌∷◌, ◌++◌, map, flat_map}
use Prim.Native.Nat.{ℕ, ◌+◌}
use lib.ListN.{length, take, replicate}
use lib.Dec.{eqb}
use Rattle.digest.specs.Digest.{padding, absorbed, result, digest}
use Rattle.digest.specs.Hmac.{key_block, hmac}
use Rattle.sha1_digest.specs.Rfc3174.{f, K, schedule, round, rounds, step}
use Rattle.md5_digest.specs.Rfc1321.{T, operation, turn, turns, step as md5_step}
use Rattle.crc32.specs.Crc.{dividend, divide, stream, number as number_of, crc32}
use Rattle.stun_frame.specs.Source.{class, is_stun, is_channel_data, decode_channel_data}
use Rattle.stun_address.specs.declared.Ip.TheVariants.{V4}
use Rattle.stun_address.specs.declared.Address.{Address}
use Rattle.stun_address.specs.Source.{encode_xor_addr, decode_xor_addr}
use Rattle.stun_text.specs.Utf8.{sequence, subpart, parts, replaced, well_formed}
use Rattle.stun_walk.specs.Source.{Attribute, attributes, attributes_from, readable, get_of, error_code_of, lifetime_of, xor_addr_of}
use Rattle.stun_check.specs.Source.{integrity_from, verified, long_term}
use Rattle.stun_write.specs.Source.{push_attr, with_integrity, with_fingerprint, encoded}
use Rattle.turn_state.specs.Source.{insert_txn, insert_perm, insert_chan, request, start, create_permission, bind_channel, handle, on_success, on_failure, retry, send}
use Rattle.turn_state.specs.Number.{number, opened}
use Rattle.turn_state.specs.Sequence.{Call, Start, Handle, Send, session, after}
use Rattle.demands.specs.Alike.{hidden, blanked, Alike, checked}

-- passwords, ids, a peer: 192.0.2.1 port 32853
abbrev one : List ℕ
one = 0x61 ∷ []

abbrev other : List ℕ
other = 0x6D ∷ 0x75 ∷ 0x73 ∷ 0x65 ∷ 0x75 ∷ 0x6D ∷ []

abbrev id : ℕ → List ℕ
id n = replicate 12 n

abbrev peer : Address
peer = record { ip = V4 0xC0000201; port = 32853 }

-- a header, and what stands behind the attributes of a message that is signed: MESSAGE-INTEGRITY and FINGERPRINT
abbrev head : ℕ → ℕ → ℕ → ℕ → List ℕ
head class method len n = (class ∷ method ∷ 0x00 ∷ len ∷ 0x21 ∷ 0x12 ∷ 0xA4 ∷ 0x42 ∷ []) ++ id n

abbrev sealed : List ℕ → List ℕ → List ℕ
sealed mac crc = (0x00 ∷ 0x08 ∷ 0x00 ∷ 0x14 ∷ []) ++ mac ++ (0x80 ∷ 0x28 ∷ 0x00 ∷ 0x04 ∷ []) ++ crc

-- what the relay sends: an allocation at the peer's own address, a challenge, and the success of a CreatePermission
abbrev relayed : List ℕ
relayed = 0x00 ∷ 0x16 ∷ 0x00 ∷ 0x08 ∷ 0x00 ∷ 0x01 ∷ 0xA1 ∷ 0x47 ∷ 0xE1 ∷ 0x12 ∷ 0xA6 ∷ 0x43 ∷ []

abbrev granted : List ℕ
granted = head 0x01 0x03 12 1 ++ relayed

abbrev challenge : ℕ → ℕ → List ℕ
challenge method n = head 0x01 method 24 n ++ (0x00 ∷ 0x09 ∷ 0x00 ∷ 0x04 ∷ 0x00 ∷ 0x00 ∷ 0x04 ∷ 0x01 ∷ 0x00 ∷ 0x14 ∷ 0x00 ∷ 0x01 ∷ 0x72 ∷ 0x00 ∷ 0x00 ∷ 0x00 ∷ 0x00 ∷ 0x15 ∷ 0x00 ∷ 0x01 ∷ 0x6E ∷ 0x00 ∷ 0x00 ∷ 0x00 ∷ [])

abbrev permitted : List ℕ → List ℕ → List ℕ
permitted mac crc = head 0x01 0x08 32 4 ++ sealed mac crc

-- five calls: an allocation, a block for a peer, the challenge to its CreatePermission, and the success of the signed one
abbrev calls : List ℕ → List Call
calls success =
    Start 0 (id 1) 1500 ∷ Handle 1 granted [] 1500 ∷ Send 2 peer (0x21 ∷ []) (id 2 ++ id 3) 1500 ∷ Handle 3 (challenge 0x18 2) (id 4) 1500 ∷
    Handle 4 success (id 5) 1500 ∷ []

-- what goes out: Allocate; CreatePermission and a Send indication; the CreatePermission once more, signed; ChannelBind
abbrev allocate : List ℕ
allocate = head 0x00 0x03 40 1 ++ (0x00 ∷ 0x19 ∷ 0x00 ∷ 0x04 ∷ 0x11 ∷ 0x00 ∷ 0x00 ∷ 0x00 ∷ 0x80 ∷ 0x22 ∷ 0x00 ∷ 0x13 ∷ 0x74 ∷ 0x61 ∷ 0x75 ∷ 0x72 ∷ 0x69 ∷ 0x2D ∷ 0x70 ∷ 0x6C ∷ 0x75 ∷ 0x67 ∷ 0x69 ∷ 0x6E ∷ 0x2D ∷ 0x77 ∷ 0x65 ∷ 0x62 ∷ 0x72 ∷ 0x74 ∷ 0x63 ∷ 0x00 ∷ 0x80 ∷ 0x28 ∷ 0x00 ∷ 0x04 ∷ 0x65 ∷ 0x9E ∷ 0x7A ∷ 0x28 ∷ [])

abbrev permission : List ℕ
permission = head 0x00 0x08 20 2 ++ (0x00 ∷ 0x12 ∷ 0x00 ∷ 0x08 ∷ 0x00 ∷ 0x01 ∷ 0x21 ∷ 0x12 ∷ 0xE1 ∷ 0x12 ∷ 0xA6 ∷ 0x43 ∷ 0x80 ∷ 0x28 ∷ 0x00 ∷ 0x04 ∷ 0xE0 ∷ 0xDD ∷ 0x1C ∷ 0xFE ∷ [])

abbrev block : List ℕ
block = head 0x00 0x16 20 3 ++ (0x00 ∷ 0x12 ∷ 0x00 ∷ 0x08 ∷ 0x00 ∷ 0x01 ∷ 0xA1 ∷ 0x47 ∷ 0xE1 ∷ 0x12 ∷ 0xA6 ∷ 0x43 ∷ 0x00 ∷ 0x13 ∷ 0x00 ∷ 0x01 ∷ 0x21 ∷ 0x00 ∷ 0x00 ∷ 0x00 ∷ [])

abbrev again : List ℕ → List ℕ → List ℕ
again mac crc = head 0x00 0x08 68 4 ++ (0x00 ∷ 0x12 ∷ 0x00 ∷ 0x08 ∷ 0x00 ∷ 0x01 ∷ 0x21 ∷ 0x12 ∷ 0xE1 ∷ 0x12 ∷ 0xA6 ∷ 0x43 ∷ 0x00 ∷ 0x06 ∷ 0x00 ∷ 0x01 ∷ 0x75 ∷ 0x00 ∷ 0x00 ∷ 0x00 ∷ 0x00 ∷ 0x14 ∷ 0x00 ∷ 0x01 ∷ 0x72 ∷ 0x00 ∷ 0x00 ∷ 0x00 ∷ 0x00 ∷ 0x15 ∷ 0x00 ∷ 0x01 ∷ 0x6E ∷ 0x00 ∷ 0x00 ∷ 0x00 ∷ []) ++ sealed mac crc

abbrev bind : List ℕ → List ℕ → List ℕ
bind mac crc = head 0x00 0x09 76 5 ++ (0x00 ∷ 0x0C ∷ 0x00 ∷ 0x04 ∷ 0x40 ∷ 0x00 ∷ 0x00 ∷ 0x00 ∷ 0x00 ∷ 0x12 ∷ 0x00 ∷ 0x08 ∷ 0x00 ∷ 0x01 ∷ 0xA1 ∷ 0x47 ∷ 0xE1 ∷ 0x12 ∷ 0xA6 ∷ 0x43 ∷ 0x00 ∷ 0x06 ∷ 0x00 ∷ 0x01 ∷ 0x75 ∷ 0x00 ∷ 0x00 ∷ 0x00 ∷ 0x00 ∷ 0x14 ∷ 0x00 ∷ 0x01 ∷ 0x72 ∷ 0x00 ∷ 0x00 ∷ 0x00 ∷ 0x00 ∷ 0x15 ∷ 0x00 ∷ 0x01 ∷ 0x6E ∷ 0x00 ∷ 0x00 ∷ 0x00 ∷ []) ++ sealed mac crc

abbrev sent : List ℕ → List ℕ → List (List (List ℕ))
sent password success = map (λ t. t.outcome.packets) (session (0x75 ∷ []) password false (calls success))

-- under the first password
abbrev one_permitted : List ℕ
one_permitted = permitted (0x8D ∷ 0x16 ∷ 0x24 ∷ 0xB2 ∷ 0xC6 ∷ 0x84 ∷ 0x74 ∷ 0xAA ∷ 0xCA ∷ 0x34 ∷ 0x7E ∷ 0x52 ∷ 0x76 ∷ 0x1B ∷ 0x80 ∷ 0xEC ∷ 0xE2 ∷ 0xAC ∷ 0x8C ∷ 0x7E ∷ []) (0x97 ∷ 0x6C ∷ 0x4F ∷ 0xBF ∷ [])

abbrev one_again : List ℕ
one_again = again (0xBC ∷ 0x74 ∷ 0xFD ∷ 0x15 ∷ 0x85 ∷ 0x41 ∷ 0x53 ∷ 0xD5 ∷ 0xA8 ∷ 0x8A ∷ 0xE8 ∷ 0x4E ∷ 0x1D ∷ 0x7F ∷ 0xE5 ∷ 0x7F ∷ 0xFC ∷ 0x90 ∷ 0xE1 ∷ 0xE2 ∷ []) (0x14 ∷ 0xDE ∷ 0xB1 ∷ 0xBD ∷ [])

abbrev one_bind : List ℕ
one_bind = bind (0xC0 ∷ 0x51 ∷ 0x53 ∷ 0xF2 ∷ 0xF0 ∷ 0x49 ∷ 0x01 ∷ 0x3E ∷ 0xE7 ∷ 0xA3 ∷ 0x50 ∷ 0x98 ∷ 0x3E ∷ 0x75 ∷ 0x83 ∷ 0xF2 ∷ 0x66 ∷ 0x59 ∷ 0x43 ∷ 0x21 ∷ []) (0xB1 ∷ 0x6B ∷ 0xB0 ∷ 0xFF ∷ [])

one_sent : sent one one_permitted ≡ (allocate ∷ []) ∷ [] ∷ (permission ∷ block ∷ []) ∷ (one_again ∷ []) ∷ (one_bind ∷ []) ∷ []
unfolding well_formed parts sequence subpart replaced number insert_txn insert_perm insert_chan request start create_permission bind_channel handle on_success on_failure retry send encoded with_integrity with_fingerprint push_attr hmac key_block digest padding absorbed result flat_map f K schedule round rounds step T operation turn turns md5_step crc32 dividend divide stream number_of class is_stun is_channel_data decode_channel_data encode_xor_addr decode_xor_addr attributes_from readable get_of error_code_of lifetime_of xor_addr_of integrity_from verified long_term
one_sent = refl

-- and under the other
abbrev other_permitted : List ℕ
other_permitted = permitted (0xF4 ∷ 0x2E ∷ 0xBB ∷ 0x5F ∷ 0x41 ∷ 0x70 ∷ 0xE5 ∷ 0xEE ∷ 0x0F ∷ 0x64 ∷ 0x03 ∷ 0xB4 ∷ 0x93 ∷ 0xCF ∷ 0xFF ∷ 0x76 ∷ 0xFF ∷ 0xCC ∷ 0xF5 ∷ 0x3E ∷ []) (0x3A ∷ 0x95 ∷ 0xD4 ∷ 0x0B ∷ [])

abbrev other_again : List ℕ
other_again = again (0xF2 ∷ 0xB2 ∷ 0x98 ∷ 0x9D ∷ 0x03 ∷ 0x1D ∷ 0x79 ∷ 0xCC ∷ 0x4F ∷ 0xEC ∷ 0xF7 ∷ 0xF0 ∷ 0x52 ∷ 0xC3 ∷ 0xE4 ∷ 0x18 ∷ 0x61 ∷ 0x09 ∷ 0x95 ∷ 0xA8 ∷ []) (0x80 ∷ 0x8C ∷ 0xDB ∷ 0xB0 ∷ [])

abbrev other_bind : List ℕ
other_bind = bind (0xC8 ∷ 0x41 ∷ 0xBF ∷ 0x40 ∷ 0xC1 ∷ 0x1C ∷ 0x59 ∷ 0x5B ∷ 0x5B ∷ 0xB7 ∷ 0x25 ∷ 0x37 ∷ 0xA6 ∷ 0xB9 ∷ 0x0F ∷ 0x54 ∷ 0xF9 ∷ 0x1B ∷ 0x27 ∷ 0x89 ∷ []) (0xB2 ∷ 0xD3 ∷ 0xA1 ∷ 0xDF ∷ [])

other_sent : sent other other_permitted ≡ (allocate ∷ []) ∷ [] ∷ (permission ∷ block ∷ []) ∷ (other_again ∷ []) ∷ (other_bind ∷ []) ∷ []
unfolding well_formed parts sequence subpart replaced number insert_txn insert_perm insert_chan request start create_permission bind_channel handle on_success on_failure retry send encoded with_integrity with_fingerprint push_attr hmac key_block digest padding absorbed result flat_map f K schedule round rounds step T operation turn turns md5_step crc32 dividend divide stream number_of class is_stun is_channel_data decode_channel_data encode_xor_addr decode_xor_addr attributes_from readable get_of error_code_of lifetime_of xor_addr_of integrity_from verified long_term
other_sent = refl

-- the two successes are alike, and each passes in its session
successes_alike : Alike one_permitted other_permitted
unfolding blanked is_stun attributes_from
successes_alike = refl

abbrev check : List ℕ → List ℕ → Option Bool
check password success = checked (after (opened (0x75 ∷ []) password false) (take 4 (calls success))) (Handle 4 success (id 5) 1500)

one_passes : check one one_permitted ≡ Some true
unfolding well_formed parts sequence subpart replaced number insert_txn insert_perm insert_chan request start create_permission bind_channel handle on_success on_failure retry send encoded with_integrity with_fingerprint push_attr hmac key_block digest padding absorbed result flat_map f K schedule round rounds step T operation turn turns md5_step crc32 dividend divide stream number_of class is_stun is_channel_data decode_channel_data encode_xor_addr decode_xor_addr attributes_from readable get_of error_code_of lifetime_of xor_addr_of integrity_from verified long_term
one_passes = refl

other_passes : check other other_permitted ≡ Some true
unfolding well_formed parts sequence subpart replaced number insert_txn insert_perm insert_chan request start create_permission bind_channel handle on_success on_failure retry send encoded with_integrity with_fingerprint push_attr hmac key_block digest padding absorbed result flat_map f K schedule round rounds step T operation turn turns md5_step crc32 dividend divide stream number_of class is_stun is_channel_data decode_channel_data encode_xor_addr decode_xor_addr attributes_from readable get_of error_code_of lifetime_of xor_addr_of integrity_from verified long_term
other_passes = refl

-- the signed packets differ in exactly the bytes that may differ: the places from i on where two lists are not the same, and those that
-- are hidden
abbrev differ : ℕ → List ℕ → List ℕ → List ℕ
differ i [] m = []
differ i (a ∷ l) [] = []
differ i (a ∷ l) (b ∷ m) = let more = differ (i + 1) l m in cond (eqb a b) more (i ∷ more)

abbrev hidden_from : List Attribute → ℕ → List ℕ → List ℕ
hidden_from attrs i [] = []
hidden_from attrs i (b ∷ l) = let more = hidden_from attrs (i + 1) l in cond (hidden attrs i) (i ∷ more) more

again_differs : differ 0 one_again other_again ≡ hidden_from (attributes one_again) 0 one_again
unfolding attributes_from
again_differs = refl

bind_differs : differ 0 one_bind other_bind ≡ hidden_from (attributes one_bind) 0 one_bind
unfolding attributes_from
bind_differs = refl

-- The premise is needed: an Allocate's success that is signed under the first password's key, given to both, passes in one session and
-- fails in the other, and one is told of an allocation.
abbrev answered : List Call
answered =
    Start 0 (id 1) 1500 ∷ Handle 1 (challenge 0x13 1) (id 2) 1500
    ∷ Handle 2 (head 0x01 0x03 44 2 ++ relayed ++ sealed (0x62 ∷ 0x40 ∷ 0x70 ∷ 0xE6 ∷ 0x4B ∷ 0x5B ∷ 0x55 ∷ 0x5A ∷ 0x54 ∷ 0x4D ∷ 0xFB ∷ 0x29 ∷ 0x6C ∷ 0xCC ∷ 0x75 ∷ 0x1B ∷ 0x47 ∷ 0xC3 ∷ 0xBF ∷ 0x0A ∷ []) (0xD0 ∷ 0xD8 ∷ 0xC4 ∷ 0x6D ∷ [])) [] 1500 ∷ []

abbrev events : List ℕ → List ℕ
events password = map (λ t. length t.outcome.events) (session (0x75 ∷ []) password false answered)

one_told : events one ≡ 0 ∷ 0 ∷ 1 ∷ []
unfolding well_formed parts sequence subpart replaced number insert_txn insert_perm insert_chan request start create_permission bind_channel handle on_success on_failure retry send encoded with_integrity with_fingerprint push_attr hmac key_block digest padding absorbed result flat_map f K schedule round rounds step T operation turn turns md5_step crc32 dividend divide stream number_of class is_stun is_channel_data decode_channel_data encode_xor_addr decode_xor_addr attributes_from readable get_of error_code_of lifetime_of xor_addr_of integrity_from verified long_term
one_told = refl

other_not_told : events other ≡ 0 ∷ 0 ∷ 0 ∷ []
unfolding well_formed parts sequence subpart replaced number insert_txn insert_perm insert_chan request start create_permission bind_channel handle on_success on_failure retry send encoded with_integrity with_fingerprint push_attr hmac key_block digest padding absorbed result flat_map f K schedule round rounds step T operation turn turns md5_step crc32 dividend divide stream number_of class is_stun is_channel_data decode_channel_data encode_xor_addr decode_xor_addr attributes_from readable get_of error_code_of lifetime_of xor_addr_of integrity_from verified long_term
other_not_told = refl
