-- The data of `send` as it is sent: a Send indication (turn.rs's `send`, encode(None, false)) or a ChannelData message, which is
-- `encode_channel_data` of stun_frame; and how many bytes each has, by arithmetic.
use Rattle.std.specs.Prelude.{false, List, [], ◌∷◌, ℕ, ◌+◌}
use Rattle.stun_frame.specs.Source.{padding}
use Rattle.stun_address.specs.declared.Address.{Address}
use Rattle.stun_address.specs.Source.{encode_xor_addr}
use Rattle.stun_write.specs.Source.{unsigned, attr_size}
use Rattle.turn_state.specs.Source.{attr, encode_message}
use Rattle.turn_packet.specs.Source.{address_size}

-- SEND_INDICATION with ATTR_XOR_PEER_ADDRESS and ATTR_DATA
unfoldable pub indication_of : Address → List ℕ → List ℕ → List ℕ
indication_of peer id body =
    encode_message (record { typ = 0x0016; tid = id; attrs = attr 0x0012 (encode_xor_addr peer id) ∷ attr 0x0013 body ∷ [] }) unsigned false

-- header, address by its family (12 or 24 bytes), and n bytes of data with head and padding
abbrev pub indication_size : Address → ℕ → ℕ
indication_size peer n = 20 + address_size peer.ip + attr_size n

-- a ChannelData message of n bytes of data
abbrev pub frame_size : ℕ → ℕ
frame_size n = 4 + n + padding n
