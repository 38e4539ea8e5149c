-- The scope's list "Both sides of each line", the cases of the client (7, 8, 11 to 13) under their numbers, and its listing of a tape.
-- Whole sequences of calls are computed by the definition that the code is proved against.
use Rattle.std.specs.Prelude.{Option, None, Some}
use mathlib.Core.Path.{◌≡◌, refl}
use mathlib.Core.Bool.{Bool, true, false}
use mathlib.Core.List.{List, [], ◌∷◌, ◌++◌, map}
use Prim.Native.Nat.{ℕ, ◌+◌}
use lib.ListN.{length, take, drop, replicate}
use Rattle.stun_frame.specs.Source.{class, is_stun, is_channel_data, decode_channel_data}
use Rattle.stun_address.specs.declared.Ip.TheVariants.{V4, V6}
use Rattle.stun_address.specs.Source.{encode_xor_addr, decode_xor_addr}
use Rattle.stun_text.specs.Utf8.{sequence, subpart, parts, well_formed}
use Rattle.stun_walk.specs.Source.{attributes_from, readable, get_of, lifetime_of, xor_addr_of}
use Rattle.stun_write.specs.Source.{push_attr, with_integrity, with_fingerprint, encoded}
use Rattle.turn_state.specs.State.{Turn}
use Rattle.turn_state.specs.Source.{same_address, insert_txn, insert_perm, insert_chan, request, start, create_permission, bind_channel, handle, on_success, send, poll, poll_due, poll_refresh, poll_perms, poll_chans, on_failure, transport_failed}
use Rattle.turn_state.specs.Number.{number, open_number, opened}
use Rattle.turn_state.specs.Sequence.{Call, Start, Handle, Send, Poll, TransportFailed, Told, outcome, session}

-- a line of a listing: refusal, events, packets, their bytes, deadline
pub record Line : Type 0 where
  pub refusal : ℕ
  pub events : ℕ
  pub packets : ℕ
  pub bytes : ℕ
  pub deadline : Option ℕ

abbrev pub line : ℕ → ℕ → ℕ → ℕ → Option ℕ → Line
line refusal events packets bytes deadline = record { refusal = refusal; events = events; packets = packets; bytes = bytes; deadline = deadline }

abbrev pub sizes : List (List ℕ) → ℕ
sizes [] = 0
sizes (p ∷ more) = length p + sizes more

abbrev pub line_of : Told → Line
line_of t = let o = t.outcome in line o.refusal (length o.events) (length o.packets) (sizes o.packets) t.deadline

-- the listing of a sequence of calls; username "a", password "b"
abbrev pub listing : Bool → List Call → List Line
listing reliable calls = map line_of (session (0x61 ∷ []) (0x62 ∷ []) reliable calls)

abbrev id : List ℕ
id = replicate 12 0

abbrev started : ℕ → Call
started now = Start now id 65536

abbrev polled : ℕ → Call
polled now = Poll now [] 65536

-- the scope's tape
tape : listing false (started 1000 ∷ polled 1499 ∷ polled 1500 ∷ TransportFailed ∷ [])
    ≡ line 0 0 1 60 (Some 1500) ∷ line 0 0 0 0 (Some 1500) ∷ line 0 0 1 60 (Some 2500) ∷ line 0 1 0 0 None ∷ []
unfolding well_formed parts sequence subpart number insert_txn request start poll poll_due poll_refresh poll_perms poll_chans on_failure transport_failed encoded with_integrity with_fingerprint push_attr
tape = refl

-- case 7 (at any time: crates/turn_state/proofs/Times.antt), where an Allocate at 0 is granted at 1000: a relay of 192.0.2.1 port 32853, and then the attributes `more` of `n` bytes
abbrev head : ℕ → ℕ → List ℕ
head typ n = (0x01 ∷ typ ∷ 0x00 ∷ n ∷ 0x21 ∷ 0x12 ∷ 0xA4 ∷ 0x42 ∷ []) ++ id

abbrev granted : ℕ → List ℕ → Call
granted n more = Handle 1000 (head 0x03 (12 + n) ++ (0x00 ∷ 0x16 ∷ 0x00 ∷ 0x08 ∷ 0x00 ∷ 0x01 ∷ 0xA1 ∷ 0x47 ∷ 0xE1 ∷ 0x12 ∷ 0xA6 ∷ 0x43 ∷ []) ++ more) [] 0

abbrev lifetime : ℕ → List ℕ
lifetime s = 0x00 ∷ 0x0D ∷ 0x00 ∷ 0x04 ∷ 0 ∷ 0 ∷ 0 ∷ s ∷ []

granted_0 : listing false (started 0 ∷ granted 8 (lifetime 0) ∷ []) ≡ line 0 0 1 60 (Some 500) ∷ line 0 1 0 0 (Some 61000) ∷ []
unfolding well_formed parts sequence subpart number insert_txn request start encoded with_integrity with_fingerprint push_attr handle on_success class is_stun is_channel_data decode_channel_data decode_xor_addr attributes_from readable get_of lifetime_of xor_addr_of
granted_0 = refl

granted_120 : listing false (started 0 ∷ granted 8 (lifetime 120) ∷ []) ≡ line 0 0 1 60 (Some 500) ∷ line 0 1 0 0 (Some 61000) ∷ []
unfolding well_formed parts sequence subpart number insert_txn request start encoded with_integrity with_fingerprint push_attr handle on_success class is_stun is_channel_data decode_channel_data decode_xor_addr attributes_from readable get_of lifetime_of xor_addr_of
granted_120 = refl

granted_121 : listing false (started 0 ∷ granted 8 (lifetime 121) ∷ []) ≡ line 0 0 1 60 (Some 500) ∷ line 0 1 0 0 (Some 62000) ∷ []
unfolding well_formed parts sequence subpart number insert_txn request start encoded with_integrity with_fingerprint push_attr handle on_success class is_stun is_channel_data decode_channel_data decode_xor_addr attributes_from readable get_of lifetime_of xor_addr_of
granted_121 = refl

-- none: 600
granted_none : listing false (started 0 ∷ granted 0 [] ∷ []) ≡ line 0 0 1 60 (Some 500) ∷ line 0 1 0 0 (Some 541000) ∷ []
unfolding well_formed parts sequence subpart number insert_txn request start encoded with_integrity with_fingerprint push_attr handle on_success class is_stun is_channel_data decode_channel_data decode_xor_addr attributes_from readable get_of lifetime_of xor_addr_of
granted_none = refl

-- the same for the Refresh that is then sent, at 541000, and granted at 542000
abbrev renewed : List ℕ → ℕ → List Call
renewed more n = started 0 ∷ granted 0 [] ∷ polled 540999 ∷ Poll 541000 id 65536 ∷ Handle 542000 (head 0x04 n ++ more) [] 0 ∷ []

abbrev before : Option ℕ → List Line
before deadline = line 0 0 0 0 (Some 541000) ∷ line 0 0 1 36 (Some 541500) ∷ line 0 0 0 0 deadline ∷ []

renewed_0 : drop 2 (listing false (renewed (lifetime 0) 8)) ≡ before (Some 602000)
unfolding well_formed parts sequence subpart number insert_txn request start poll poll_due poll_refresh poll_perms poll_chans encoded with_integrity with_fingerprint push_attr handle on_success class is_stun is_channel_data decode_channel_data decode_xor_addr attributes_from readable get_of lifetime_of xor_addr_of
renewed_0 = refl

renewed_120 : drop 2 (listing false (renewed (lifetime 120) 8)) ≡ before (Some 602000)
unfolding well_formed parts sequence subpart number insert_txn request start poll poll_due poll_refresh poll_perms poll_chans encoded with_integrity with_fingerprint push_attr handle on_success class is_stun is_channel_data decode_channel_data decode_xor_addr attributes_from readable get_of lifetime_of xor_addr_of
renewed_120 = refl

renewed_121 : drop 2 (listing false (renewed (lifetime 121) 8)) ≡ before (Some 603000)
unfolding well_formed parts sequence subpart number insert_txn request start poll poll_due poll_refresh poll_perms poll_chans encoded with_integrity with_fingerprint push_attr handle on_success class is_stun is_channel_data decode_channel_data decode_xor_addr attributes_from readable get_of lifetime_of xor_addr_of
renewed_121 = refl

renewed_none : drop 2 (listing false (renewed [] 0)) ≡ before (Some 1082000)
unfolding well_formed parts sequence subpart number insert_txn request start poll poll_due poll_refresh poll_perms poll_chans encoded with_integrity with_fingerprint push_attr handle on_success class is_stun is_channel_data decode_channel_data decode_xor_addr attributes_from readable get_of lifetime_of xor_addr_of
renewed_none = refl

-- case 8: each time, and one millisecond before it
abbrev unanswered : List Call
unanswered =
    started 0 ∷ polled 499 ∷ polled 500 ∷ polled 1499 ∷ polled 1500 ∷ polled 3499 ∷ polled 3500 ∷ polled 7499 ∷ polled 7500 ∷ polled 11499 ∷ polled 11500 ∷
    polled 15499 ∷ polled 15500 ∷ polled 15501 ∷ []

repeats : listing false unanswered
    ≡ line 0 0 1 60 (Some 500) ∷ line 0 0 0 0 (Some 500) ∷ line 0 0 1 60 (Some 1500) ∷ line 0 0 0 0 (Some 1500) ∷ line 0 0 1 60 (Some 3500)
    ∷ line 0 0 0 0 (Some 3500) ∷ line 0 0 1 60 (Some 7500) ∷ line 0 0 0 0 (Some 7500) ∷ line 0 0 1 60 (Some 11500) ∷ line 0 0 0 0 (Some 11500)
    ∷ line 0 0 1 60 (Some 15500) ∷ line 0 0 0 0 (Some 15500) ∷ line 0 1 0 0 None ∷ line 0 0 0 0 None ∷ []
unfolding well_formed parts sequence subpart number insert_txn request start poll poll_due poll_refresh poll_perms poll_chans on_failure transport_failed encoded with_integrity with_fingerprint push_attr
repeats = refl

-- over a reliable transport: one sending
once : listing true (started 0 ∷ polled 500 ∷ polled 39499 ∷ polled 39500 ∷ polled 39501 ∷ [])
    ≡ line 0 0 1 60 (Some 39500) ∷ line 0 0 0 0 (Some 39500) ∷ line 0 0 0 0 (Some 39500) ∷ line 0 1 0 0 None ∷ line 0 0 0 0 None ∷ []
unfolding well_formed parts sequence subpart number insert_txn request start poll poll_due poll_refresh poll_perms poll_chans on_failure transport_failed encoded with_integrity with_fingerprint push_attr
once = refl

-- case 11: the packet and its length field; room for it, and one byte less
abbrev fresh : Turn
fresh = opened (0x61 ∷ []) (0x62 ∷ []) false

starts : map length (outcome fresh (Start 0 id 63)).packets ≡ 60 ∷ []
unfolding well_formed parts sequence subpart number insert_txn request start encoded with_integrity with_fingerprint push_attr
starts = refl

length_field : map (λ p. take 2 (drop 2 p)) (outcome fresh (Start 0 id 63)).packets ≡ (0 ∷ 40 ∷ []) ∷ []
unfolding well_formed parts sequence subpart number insert_txn request start encoded with_integrity with_fingerprint push_attr
length_field = refl

room : (outcome fresh (Start 0 id 63)).refusal ≡ 0
unfolding well_formed parts sequence subpart number insert_txn request start encoded with_integrity with_fingerprint push_attr
room = refl

no_room : (outcome fresh (Start 0 id 62)).refusal ≡ 8
unfolding well_formed parts sequence subpart number insert_txn request start encoded with_integrity with_fingerprint push_attr
no_room = refl

-- case 12: data that an allocated client sends, to a new peer: a CreatePermission and a Send indication
abbrev sent : ℕ → Call
sent n = Send 2000 (record { ip = V4 0xC0000202; port = 1 }) (replicate n 0) (replicate 12 1 ++ replicate 12 2) 65536

data_2048 : map line_of (drop 2 (session [] [] false (started 0 ∷ granted 0 [] ∷ sent 2048 ∷ []))) ≡ line 0 0 2 2124 (Some 2500) ∷ []
unfolding well_formed parts sequence subpart number insert_txn insert_perm insert_chan request start encoded with_integrity with_fingerprint push_attr handle on_success class is_stun is_channel_data decode_channel_data decode_xor_addr encode_xor_addr attributes_from readable get_of lifetime_of xor_addr_of send create_permission bind_channel
data_2048 = refl

data_2049 : (outcome fresh (sent 2049)).refusal ≡ 4
unfolding well_formed parts sequence subpart number send
data_2049 = refl

-- and the openings
username_508 : open_number (replicate 508 0x61) [] ≡ 0
unfolding well_formed parts sequence subpart
username_508 = refl

username_509 : open_number (replicate 509 0x61) [] ≡ 2
unfolding well_formed parts sequence subpart
username_509 = refl

-- case 13
two_peers : same_address (record { ip = V6 0 0xFFFFC0000201; port = 1 }) (record { ip = V4 0xC0000201; port = 1 }) ≡ false
two_peers = refl
