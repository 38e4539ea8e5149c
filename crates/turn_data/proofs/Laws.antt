-- The indication is the message that `send_indication` sends, and both packets have as many bytes as the arithmetic says; ChannelData
-- is padded already, so that `resized` changes nothing.
use mathlib.Core.Path.{◌≡◌, refl, ap, ◌∙◌}
use mathlib.Core.Bool.{Bool, true, false}
use mathlib.Core.List.{List, [], ◌∷◌, ◌++◌, append-nil}
use Prim.Native.Nat.{ℕ, ◌+◌, ◌≤◌}
use native.Mathlib.Omega.{arith}
use lib.ListN.{length, replicate, length-append}
use Rattle.stun_frame.specs.Source.{padding, encode_channel_data}
use Rattle.stun_frame.proofs.Writing.{length_channel_data}
use Rattle.stun_address.specs.declared.Address.{Address}
use Rattle.stun_address.specs.Source.{encode_xor_addr}
use Rattle.stun_write.specs.Source.{push_attr, attr_size, unsigned, encoded}
use Rattle.stun_write.proofs.Lengths.{length-push_attr, length-encoded}
use Rattle.turn_state.specs.State.{Run, new_tid, drew}
use Rattle.turn_state.specs.Source.{push_message, send_indication, resized}
use Rattle.turn_state.specs.Number.{framed}
use Rattle.turn_packet.specs.Source.{address_size}
use Rattle.turn_packet.proofs.Laws.{length_address, address_bound}
use Rattle.turn_packet.proofs.Bounds.{address_short, length-encoded_under}
use Rattle.turn_packet.proofs.Frames.{framed_length}
use Rattle.turn_data.specs.Data.{indication_of, indication_size, frame_size}

-- what `send` puts out for data to a peer without a bound channel
pub indication_sent : (peer : Address) (body : List ℕ) (s : Run) → send_indication peer body s ≡ push_message (indication_of peer (new_tid s) body) (drew s)
unfolding indication_of
indication_sent peer body s = refl

-- its attributes, and the message by their bytes
abbrev pub indication_body : Address → List ℕ → List ℕ → List ℕ
indication_body peer id body = push_attr 0x0012 (encode_xor_addr peer id) ++ (push_attr 0x0013 body ++ [])

pub indication_is : (peer : Address) (id body : List ℕ) → indication_of peer id body ≡ encoded 0x0016 id (indication_body peer id body) unsigned false
unfolding indication_of
indication_is peer id body = refl

pub length-peer : (peer : Address) (id : List ℕ) → length id ≡ 12 → length (push_attr 0x0012 (encode_xor_addr peer id)) ≡ address_size peer.ip
length-peer peer id e = length-push_attr 0x0012 (encode_xor_addr peer id) ∙ length_address peer id e

pub length-indication_body : (peer : Address) (id body : List ℕ) → length id ≡ 12
    → length (indication_body peer id body) ≡ address_size peer.ip + attr_size (length body)
length-indication_body peer id body e =
    length-append (push_attr 0x0012 (encode_xor_addr peer id)) (push_attr 0x0013 body ++ [])
    ∙ omega (arith, length-peer peer id e, ap length (append-nil (push_attr 0x0013 body)), length-push_attr 0x0013 body)

pub indication_length : (peer : Address) (id body : List ℕ) → length id ≡ 12 → length (indication_of peer id body) ≡ indication_size peer (length body)
indication_length peer id body e =
    ap length (indication_is peer id body) ∙ length-encoded 0x0016 id (indication_body peer id body) [] false false e
    ∙ omega (arith, length-indication_body peer id body e)

pub indication_bound : (peer : Address) (n : ℕ) → indication_size peer n ≤ 20 + 24 + 4 + n + 3
indication_bound peer n = omega (arith, address_bound peer.ip)

-- under any id, also one that was not lent
pub indication_short : (peer : Address) (id body : List ℕ) → length id ≤ 12 → length (indication_of peer id body) ≤ 20 + 24 + 4 + length body + 3
indication_short peer id body i =
    let v : List ℕ = push_attr 0x0012 (encode_xor_addr peer id) in
    let l = length-encoded_under 0x0016 id (indication_body peer id body) [] false false in
    rw (indication_is peer id body, l)
    (omega (
      arith,
      length-append v (push_attr 0x0013 body ++ []),
      length-push_attr 0x0012 (encode_xor_addr peer id),
      address_short peer id,
      ap length (append-nil (push_attr 0x0013 body)),
      length-push_attr 0x0013 body,
    ))

-- ChannelData
pub frame_length : (n : ℕ) (body : List ℕ) → length (encode_channel_data n body) ≡ frame_size (length body)
frame_length n body = length_channel_data n body

frame_padded : (n : ℕ) → padding (frame_size n) ≡ 0
frame_padded n = omega arith

pub resized_same : (b : Bool) (n : ℕ) (body : List ℕ) → resized b (encode_channel_data n body) ≡ encode_channel_data n body
resized_same false n body = refl
resized_same true n body =
    let f : List ℕ = encode_channel_data n body in
    ap (λ (k : ℕ). f ++ replicate k 0) (ap padding (frame_length n body) ∙ frame_padded (length body)) ∙ append-nil f

-- in the output
pub framed_indication_length : (peer : Address) (id body : List ℕ) → length id ≡ 12
    → length (framed (indication_of peer id body ∷ [])) ≡ 3 + indication_size peer (length body)
framed_indication_length peer id body e = framed_length (indication_of peer id body) ∙ ap (λ (n : ℕ). 3 + n) (indication_length peer id body e)

pub framed_frame_length : (n : ℕ) (body : List ℕ) → length (framed (encode_channel_data n body ∷ [])) ≡ 3 + frame_size (length body)
framed_frame_length n body = framed_length (encode_channel_data n body) ∙ ap (λ (k : ℕ). 3 + k) (frame_length n body)
