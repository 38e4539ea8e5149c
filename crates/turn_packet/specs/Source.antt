-- One request of the client as it is sent: the bytes that turn.rs's `encode` gives for it, by the credentials, the row of the request
-- and its two ids; and how many they are, by arithmetic.
use Rattle.std.specs.Prelude.{true, cond, List, ◌++◌, ℕ, ◌+◌, min}
use Rattle.stun_address.specs.declared.Ip.{Ip}
use Rattle.stun_address.specs.declared.Ip.TheVariants.{V4, V6}
use Rattle.stun_text.specs.declared.Text.{Text}
use Rattle.stun_write.specs.Source.{Attribute, attr_size, integrity_size}
use Rattle.turn_state.specs.declared.Kind.{Kind}
use Rattle.turn_state.specs.declared.Kind.TheVariants.{Allocate, Refresh, Permission as Permit, ChannelBind}
use Rattle.turn_state.specs.declared.Asked.{Asked}
use Rattle.turn_state.specs.declared.Credentials.{Credentials}
use Rattle.turn_state.specs.Source.{auth, signing, encode_message}
use Rattle.turn_state.specs.View.{kind_in, text_in, type_of, attrs_of, held}

-- with_auth's attributes
abbrev pub auth_of : Credentials → List Attribute
auth_of c = auth (text_in c.username) (held c.has_realm (text_in c.realm)) (held c.has_nonce (text_in c.nonce))

-- the message of a request of that row, under the id `id`, its peer encoded under the id `under`
unfoldable pub packet_of : Credentials → Asked → List ℕ → List ℕ → List ℕ
packet_of c a id under =
    encode_message (record { typ = type_of (kind_in a); tid = id; attrs = attrs_of (kind_in a) under ++ auth_of c })
    (signing (held c.has_key c.key))
    true

-- the bytes of a text as an attribute; a length above the room is read as the room
abbrev pub text_size : Text → ℕ
text_size t = attr_size (min t.len 763)

-- those of an address, of a kind's own attributes, and of the credentials
abbrev pub address_size : Ip → ℕ
address_size (V4 x) = 12
address_size (V6 high low) = 24

abbrev pub own_size : Kind → ℕ
own_size Allocate = 8 + 24
own_size (Refresh lifetime) = 8
own_size (Permit ip) = address_size ip
own_size (ChannelBind peer number) = 8 + address_size peer.ip

abbrev pub auth_size : Credentials → ℕ
auth_size c = cond c.has_realm (cond c.has_nonce (text_size c.username + text_size c.realm + text_size c.nonce) 0) 0

-- header, attributes, MESSAGE-INTEGRITY where a key is held, FINGERPRINT
unfoldable pub packet_size : Credentials → Asked → ℕ
packet_size c a = 20 + own_size (kind_in a) + auth_size c + integrity_size c.has_key + 8
