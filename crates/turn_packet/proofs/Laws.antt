-- A packet is what `encode` gives for the client that holds the credentials (`packet_encode`); it has as many bytes as the arithmetic
-- says (`packet_length`), at most 3,000 (`packet_bound`). Sizes are joined part by part: a text, an address, a kind, the credentials.
use mathlib.Core.Path.{◌≡◌, refl, ap, ap₂, ◌∙◌}
use mathlib.Core.Bool.{Bool, true, false, cond}
use mathlib.Core.List.{List, [], ◌∷◌, ◌++◌}
use Prim.Native.Nat.{ℕ, ◌+◌, ◌-◌, ◌≤◌, min}
use native.Mathlib.Omega.{arith}
use native.Mathlib.Nat.{sub-zero}
use lib.ListN.{length, take, replicate, length-append, length-take}
use lib.Seq.{take_at}
use Rattle.stun_address.specs.declared.Ip.{Ip}
use Rattle.stun_address.specs.declared.Ip.TheVariants.{V4, V6}
use Rattle.stun_address.specs.declared.Address.{Address}
use Rattle.stun_address.specs.declared.Encoded.{Encoded}
use Rattle.stun_address.specs.Source.{encode_xor_addr, encoded as encoded_addr, xored, octets, key}
use Rattle.stun_address.proofs.Cancel.{length-xored}
use Rattle.stun_text.specs.declared.Text.{Text}
use Rattle.stun_write.specs.Source.{attributes, attr_size, key_of, encoded, integrity_size}
use Rattle.stun_write.proofs.Lengths.{length-push_attr, length-encoded}
use Rattle.stun_write.proofs.Parts.{attributes_append}
use Rattle.turn_state.specs.declared.Kind.{Kind}
use Rattle.turn_state.specs.declared.Kind.TheVariants.{Allocate, Refresh, Permission as Permit, ChannelBind}
use Rattle.turn_state.specs.declared.Asked.{Asked}
use Rattle.turn_state.specs.declared.Credentials.{Credentials}
use Rattle.turn_state.specs.declared.Client.{Client}
use Rattle.turn_state.specs.Source.{attr, auth, signing, encode}
use Rattle.turn_state.specs.View.{kind_in, text_in, type_of, attrs_of, message_of, held, view}
use Rattle.turn_packet.specs.Source.{auth_of, packet_of, text_size, address_size, own_size, auth_size, packet_size}

-- the packet is the source's encoding
pub packet_encode : (client : Client) (a : Asked) (id under : List ℕ)
    → packet_of client.credentials a id under ≡ encode (view client) (message_of (kind_in a) id under)
unfolding packet_of
packet_encode client a id under = refl

-- a key that is held, as the code hands it over
pub signing_held : (b : Bool) (key : List ℕ) → signing (held b key) ≡ key_of b key
signing_held false key = refl
signing_held true key = refl

-- the bytes of its attributes
abbrev pub body_of : Credentials → Asked → List ℕ → List ℕ
body_of c a under = attributes (attrs_of (kind_in a) under) ++ attributes (auth_of c)

-- the packet by these
pub packet_is : (c : Credentials) (a : Asked) (id under : List ℕ)
    → packet_of c a id under ≡ encoded (type_of (kind_in a)) id (body_of c a under) (key_of c.has_key c.key) true
unfolding packet_of
packet_is c a id under =
    ap₂ (λ body key. encoded (type_of (kind_in a)) id body key true)
    (attributes_append (attrs_of (kind_in a) under) (auth_of c))
    (signing_held c.has_key c.key)

-- the size of each part
pub length_text : (t : Text) → length t.bytes ≡ 763 → length (text_in t) ≡ min t.len 763
length_text t e = length-take t.len t.bytes ∙ ap (λ (k : ℕ). min t.len k) e

pub text_bound : (t : Text) → text_size t ≤ 768
text_bound t = omega arith

-- two texts behind a place
pub two_texts : (at a b u v : ℕ) → at ≤ 100 → u ≤ 768 → v ≤ 768 → a ≡ at + u → b ≡ a + v → b ≤ 3000
two_texts at a b u v h g w p q = omega arith

length_of_ip : (ip : Ip) (port : ℕ) (under : List ℕ) → length under ≡ 12 → attr_size (length (encode_xor_addr (record { ip = ip; port = port }) under)) ≡ address_size ip
unfolding encode_xor_addr
length_of_ip (V4 x) port under e = refl
length_of_ip (V6 high low) port under e =
    let l : length (xored (octets high low) (key under)) ≡ 16 = length-xored (octets high low) (key under) (omega arith) in
    let w : length (encode_xor_addr (record { ip = V6 high low; port = port }) under) ≡ 20 = omega (arith, l) in
    ap attr_size w

pub length_address : (to : Address) (under : List ℕ) → length under ≡ 12 → attr_size (length (encode_xor_addr to under)) ≡ address_size to.ip
length_address to under e = length_of_ip to.ip to.port under e

-- an encoded address as the code holds it
module _ (e : Encoded) (to : Address) (under : List ℕ) (is : e ≡ encoded_addr to under) where
  pub encoded_value : take (e.len - 0) e.bytes ≡ encode_xor_addr to under
  unfolding encoded_addr
  encoded_value =
      let v = encode_xor_addr to under in
      let z : List ℕ = replicate (20 - length v) 0 in
      ap (λ (x : Encoded). take (x.len - 0) x.bytes) is ∙ ap (λ (k : ℕ). take k (v ++ z)) (sub-zero (length v)) ∙ take_at v z (length v) refl

  pub encoded_fits : e.len ≤ length e.bytes
  unfolding encoded_addr
  encoded_fits =
      let v = encode_xor_addr to under in
      rw is (omega (arith, length-append v (replicate (20 - length v) 0)))

pub address_bound : (ip : Ip) → address_size ip ≤ 24
address_bound (V4 x) = omega arith
address_bound (V6 high low) = omega arith

pub length_own : (kind : Kind) (under : List ℕ) → length under ≡ 12 → length (attributes (attrs_of kind under)) ≡ own_size kind
length_own Allocate under e = simp (length-append, length-push_attr)
length_own (Refresh lifetime) under e = simp (length-append, length-push_attr)
length_own (Permit ip) under e = simp (length-append, length-push_attr) (omega (arith, length_address (record { ip = ip; port = 0 }) under e))
length_own (ChannelBind peer number) under e = simp (length-append, length-push_attr) (omega (arith, length_address peer under e))

pub own_bound : (kind : Kind) → own_size kind ≤ 32
own_bound Allocate = omega arith
own_bound (Refresh lifetime) = omega arith
own_bound (Permit ip) = omega (arith, address_bound ip)
own_bound (ChannelBind peer number) = omega (arith, address_bound peer.ip)

-- what is added where both flags are set
pub both : {b d : Bool} (x : ℕ) → b ≡ true → d ≡ true → cond b (cond d x 0) 0 ≡ x
both x e f = rw (e, f)

pub sums : {x y z u v w : ℕ} → x ≡ u → y ≡ v → z ≡ w → x + y + z ≡ u + v + w
sums p q r = ap₂ (λ (a b : ℕ). a + b) (ap₂ (λ (a b : ℕ). a + b) p q) r

module _ (c : Credentials) (u : length c.username.bytes ≡ 763) (r : length c.realm.bytes ≡ 763) (n : length c.nonce.bytes ≡ 763) where
  length-auth_by : (b d : Bool) → length (attributes (auth (text_in c.username) (held b (text_in c.realm)) (held d (text_in c.nonce))))
      ≡ cond b (cond d (text_size c.username + text_size c.realm + text_size c.nonce) 0) 0
  length-auth_by false d = refl
  length-auth_by true false = refl
  length-auth_by true true =
      simp (length-append, length-push_attr)
      (omega (arith, ap attr_size (length_text c.username u), ap attr_size (length_text c.realm r), ap attr_size (length_text c.nonce n)))

  pub length-auth : length (attributes (auth_of c)) ≡ auth_size c
  length-auth = length-auth_by c.has_realm c.has_nonce

  pub length-body : (a : Asked) (under : List ℕ) → length under ≡ 12 → length (body_of c a under) ≡ own_size (kind_in a) + auth_size c
  length-body a under e =
      length-append (attributes (attrs_of (kind_in a) under)) (attributes (auth_of c)) ∙ ap₂ (λ (x y : ℕ). x + y) (length_own (kind_in a) under e) length-auth

  -- the packet's
  pub packet_length : (a : Asked) (id under : List ℕ) → length id ≡ 12 → length under ≡ 12 → length (packet_of c a id under) ≡ packet_size c a
  unfolding packet_size
  packet_length a id under i e =
      ap length (packet_is c a id under) ∙ length-encoded (type_of (kind_in a)) id (body_of c a under) c.key c.has_key true i
      ∙ omega (arith, length-body a under e)

-- the credentials' attributes by the flags
pub auth_both : (c : Credentials) → c.has_realm ≡ true → c.has_nonce ≡ true
    → auth_of c ≡ attr 0x0006 (text_in c.username) ∷ attr 0x0014 (text_in c.realm) ∷ attr 0x0015 (text_in c.nonce) ∷ []
auth_both c e f = rw (e, f)

pub auth_no_nonce : (c : Credentials) → c.has_realm ≡ true → c.has_nonce ≡ false → auth_of c ≡ []
auth_no_nonce c e f = rw (e, f)

pub auth_no_realm : (c : Credentials) → c.has_realm ≡ false → auth_of c ≡ []
auth_no_realm c e = rw e

auth_bound_by : (b d : Bool) (x : ℕ) → x ≤ 2304 → cond b (cond d x 0) 0 ≤ 2304
auth_bound_by false d x h = omega arith
auth_bound_by true false x h = omega arith
auth_bound_by true true x h = h

pub auth_bound : (c : Credentials) → auth_size c ≤ 2304
auth_bound c = auth_bound_by c.has_realm c.has_nonce _ (omega arith)

integrity_bound : (b : Bool) → integrity_size b ≤ 24
integrity_bound false = omega arith
integrity_bound true = omega arith

pub packet_bound : (c : Credentials) (a : Asked) → packet_size c a ≤ 3000
unfolding packet_size
packet_bound c a = omega (arith, own_bound (kind_in a), auth_bound c, integrity_bound c.has_key)
