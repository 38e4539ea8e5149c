-- A packet is short whatever its ids are (`packet_short`): an address takes at most 20 bytes under any id, and the header, whose first
-- 8 bytes are not the id's, is long enough for each length that is set in it.
use mathlib.Core.Path.{◌≡◌, ap₂, ◌∙◌}
use mathlib.Core.Bool.{Bool, true}
use mathlib.Core.List.{List, [], ◌∷◌, ◌++◌}
use Prim.Native.Nat.{ℕ, ◌+◌, ◌≤◌}
use native.Mathlib.Omega.{arith}
use lib.ListN.{length, length-append}
use Rattle.stun_address.specs.declared.Ip.{Ip}
use Rattle.stun_address.specs.declared.Ip.TheVariants.{V4, V6}
use Rattle.stun_address.specs.declared.Address.{Address}
use Rattle.stun_address.specs.Source.{encode_xor_addr, xored, octets, key}
use Rattle.stun_write.specs.Source.{attributes, key_of, header, with_integrity, with_fingerprint, encoded, integrity_size, fingerprint_size}
use Rattle.stun_write.proofs.Parts.{attributes_append}
use Rattle.stun_write.proofs.Lengths.{length-push_attr, length-set_length, length-with_integrity, length-with_fingerprint}
use Rattle.turn_state.specs.declared.Kind.{Kind}
use Rattle.turn_state.specs.declared.Kind.TheVariants.{Allocate, Refresh, Permission as Permit, ChannelBind}
use Rattle.turn_state.specs.declared.Asked.{Asked}
use Rattle.turn_state.specs.declared.Credentials.{Credentials}
use Rattle.turn_state.specs.Source.{signing, encode_message}
use Rattle.turn_state.specs.View.{kind_in, type_of, attrs_of, asked_of, held}
use Rattle.turn_packet.specs.Source.{auth_of, packet_of, packet_size}
use Rattle.turn_packet.proofs.Laws.{signing_held, length-auth, packet_bound}

-- the own attributes under any id
xored_short : (l k : List ℕ) → length (xored l k) ≤ length l
xored_short [] k = omega arith
xored_short (x ∷ l) [] = omega arith
xored_short (x ∷ l) (y ∷ k) = omega (arith, xored_short l k)

short_of_ip : (ip : Ip) (port : ℕ) (under : List ℕ) → length (encode_xor_addr (record { ip = ip; port = port }) under) ≤ 20
unfolding encode_xor_addr
short_of_ip (V4 x) port under = omega arith
short_of_ip (V6 high low) port under = omega (arith, xored_short (octets high low) (key under))

pub address_short : (to : Address) (under : List ℕ) → length (encode_xor_addr to under) ≤ 20
address_short to under = short_of_ip to.ip to.port under

pub own_short : (kind : Kind) (under : List ℕ) → length (attributes (attrs_of kind under)) ≤ 32
own_short Allocate under = simp (length-append, length-push_attr) (omega arith)
own_short (Refresh lifetime) under = simp (length-append, length-push_attr) (omega arith)
own_short (Permit ip) under = simp (length-append, length-push_attr) (omega (arith, address_short (record { ip = ip; port = 0 }) under))
own_short (ChannelBind peer number) under = simp (length-append, length-push_attr) (omega (arith, address_short peer under))

-- a message under any id
pub length-encoded_under : (typ : ℕ) (id body key : List ℕ) (sign fingerprint : Bool)
    → length (encoded typ id body (key_of sign key) fingerprint) ≡ 8 + length id + length body + integrity_size sign + fingerprint_size fingerprint
unfolding encoded
length-encoded_under typ id body key sign fingerprint =
    let m : List ℕ = header typ 0 id ++ body in
    let lm : length m ≡ 8 + length id + length body = omega (arith, length-append (header typ 0 id) body) in
    let l₁ : length (with_integrity (key_of sign key) m) ≡ length m + integrity_size sign = length-with_integrity sign key m (omega arith) in
    let l₂ = length-with_fingerprint fingerprint (with_integrity (key_of sign key) m) (omega arith) in
    length-set_length _ (with_fingerprint fingerprint (with_integrity (key_of sign key) m)) (omega arith) ∙ omega arith

-- the message of a request of any kind
abbrev pub kind_packet : Credentials → Kind → List ℕ → List ℕ → List ℕ
kind_packet c kind id under =
    encode_message (record { typ = type_of kind; tid = id; attrs = attrs_of kind under ++ auth_of c }) (signing (held c.has_key c.key)) true

module _ (c : Credentials) (u : length c.username.bytes ≡ 763) (r : length c.realm.bytes ≡ 763) (n : length c.nonce.bytes ≡ 763) where
  -- with the bound of the arithmetic size, which has header, credentials and additions in it already
  pub kind_short : (kind : Kind) (id under : List ℕ) → length id ≤ 12 → length (kind_packet c kind id under) ≤ 3100
  unfolding packet_size
  kind_short kind id under i =
      let own : List ℕ = attributes (attrs_of kind under) in
      let body : List ℕ = own ++ attributes (auth_of c) in
      let is : kind_packet c kind id under ≡ encoded (type_of kind) id body (key_of c.has_key c.key) true =
      ap₂ (λ b key. encoded (type_of kind) id b key true) (attributes_append (attrs_of kind under) (auth_of c)) (signing_held c.has_key c.key) in
      let l = length-encoded_under (type_of kind) id body c.key c.has_key true in
      rw (is, l)
      (omega (arith, length-append own (attributes (auth_of c)), own_short kind under, length-auth c u r n, packet_bound c (asked_of Allocate)))

  pub packet_short : (a : Asked) (id under : List ℕ) → length id ≤ 12 → length (packet_of c a id under) ≤ 3100
  unfolding packet_of
  packet_short a id under i = kind_short (kind_in a) id under i
