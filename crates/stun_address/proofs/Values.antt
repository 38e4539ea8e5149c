-- The value of an XOR address attribute: what is written is the RFC's (`written_is`), 8 or 20 bytes of it (`encoded_is`, `length-written`); what
-- is well-formed by the RFC is read as its address, whatever its first byte and whatever follows (`value_read`); so what was
-- written reads back (`round_trip`).
use mathlib.Core.Path.{◌≡◌, refl, sym, ap, ap₂, ◌∙◌}
use mathlib.Core.List.{List, [], ◌∷◌, ◌++◌}
use Prim.Native.Nat.{ℕ, ◌+◌, ◌*◌, ◌^◌, ◌≤◌, ◌<◌}
use native.Mathlib.Omega.{arith}
use lib.Dec.{lit<}
use lib.ListN.{length, take, drop, length-append}
use lib.Seq.{take_at}
use lib.Bits.{bit_xor, xor_lt}
use Rattle.stun_address.specs.declared.Ip.{Ip}
use Rattle.stun_address.specs.declared.Ip.TheVariants.{V4, V6}
use Rattle.stun_address.specs.declared.Address.{Address}
use Rattle.std.specs.Prelude.{Some}
use Rattle.stun_address.specs.Source.{to_be, from_be, MAGIC, key, xored, xor_port, octets, of_octets, encode_ip, encode_xor_addr, encoded, at_port, decode_xor_addr}
use Rattle.stun_address.specs.Rfc.{number, cookie, family, x_address, value, size, HeldIp, Held}
use Rattle.stun_address.proofs.Network.{Bytes, to_be_append, to_be_xor, network_is, from_to, to_from, from_be_cons, from_be_less}
use Rattle.stun_address.proofs.Reading.{decode_v4, decode_octets, at_port_is}
use Rattle.stun_address.proofs.Cancel.{cancel, xored_cancel, length-xored}

pub number_is : (l : List ℕ) → number l ≡ from_be l
number_is [] = refl
number_is (b ∷ l) = sym (from_be_cons b l ∙ ap (λ (k : ℕ). b * 256 ^ length l + k) (sym (number_is l)))

-- the transaction id as a number, and back
id_bytes : (id : List ℕ) → length id ≡ 12 → Bytes id → to_be 12 (number id) ≡ id
id_bytes id n b = ap₂ to_be (sym n) (number_is id) ∙ to_from id b

id_less : (id : List ℕ) → length id ≡ 12 → Bytes id → number id < 256 ^ 12
id_less id n b =
    let e : 256 ^ length id ≡ 256 ^ 12 = ap (λ (k : ℕ). 256 ^ k) n in
    omega (arith, number_is id, from_be_less id b)

-- XOR on bytes is XOR on the whole
pub ip_is : (ip : Ip) (id : List ℕ) → length id ≡ 12 → Bytes id → HeldIp ip → encode_ip ip id ≡ x_address ip id
ip_is (V4 x) id n b h = sym (network_is 4 (bit_xor x MAGIC))
ip_is (V6 high low) id n b h =
    sym
    (network_is 16 (bit_xor (high * 2 ^ 64 + low) (cookie * 2 ^ 96 + number id))
    ∙ to_be_xor 16 (high * 2 ^ 64 + low) (cookie * 2 ^ 96 + number id)
    ∙ ap₂ xored (to_be_append 8 8 high low h.1)
    (to_be_append 4 12 cookie (number id) (id_less id n b) ∙ ap (λ (r : List ℕ). to_be 4 cookie ++ r) (id_bytes id n b)))

pub written_is : (addr : Address) (id : List ℕ) → length id ≡ 12 → Bytes id → Held addr → encode_xor_addr addr id ≡ value 0 addr id
unfolding encode_xor_addr
written_is addr id n b h =
    ap₂ (λ (p r : List ℕ). (0 ∷ family addr.ip ∷ []) ++ p ++ r) (sym (network_is 2 (xor_port addr.port))) (ip_is addr.ip id n b h.ip_fits)

-- the source's bytes with any first byte, and anything after them
sent : ℕ → Ip → ℕ → List ℕ → List ℕ → List ℕ
sent first ip port id rest = ((first ∷ family ip ∷ []) ++ to_be 2 (xor_port port) ++ encode_ip ip id) ++ rest

read : (first : ℕ) (ip : Ip) (port : ℕ) (id rest : List ℕ) → length id ≡ 12 → HeldIp ip → port < 2 ^ 16
    → decode_xor_addr (sent first ip port id rest) id ≡ Some (record { ip = ip; port = port })
unfolding sent
read first (V4 x) port id rest n h p =
    sym
    (decode_v4 (sent first (V4 x) port id rest) id (omega arith) (xor_port port) (xor_lt 16 port 0x2112 p (lit< tt)) refl (bit_xor x MAGIC) refl
    (xor_lt 32 x MAGIC h (lit< tt)) refl)
    ∙ ap₂ (λ (a b : ℕ). Some (record { ip = V4 a; port = b })) (cancel x MAGIC) (cancel port 0x2112)
read first (V6 high low) port id rest n h p =
    let e : List ℕ = xored (octets high low) (key id) in
    let m : length e ≡ 16 = length-xored (octets high low) (key id) (omega arith) in
    let v : List ℕ = sent first (V6 high low) port id rest in
    let l : 20 ≤ length v = omega (arith, length-append e rest) in
    let o : of_octets (xored (take 16 (drop 4 v)) (key id)) ≡ V6 high low =
    ap (λ (r : List ℕ). of_octets (xored r (key id))) (take_at e rest 16 m)
    ∙ ap of_octets (xored_cancel (octets high low) (key id) (omega arith)) ∙ ap₂ V6 (from_to 8 high h.0) (from_to 8 low h.1) in
    decode_octets v id (omega arith) l refl ∙ ap (at_port v) o ∙ at_port_is v id (omega arith) (xor_port port) (xor_lt 16 port 0x2112 p (lit< tt)) refl (V6 high low)
    ∙ ap (λ (b : ℕ). Some (record { ip = V6 high low; port = b })) (cancel port 0x2112)

-- any value that the RFC has, read
pub value_read : (first : ℕ) (addr : Address) (id rest : List ℕ) → length id ≡ 12 → Bytes id → Held addr → decode_xor_addr (value first addr id ++ rest) id ≡ Some addr
unfolding sent
value_read first addr id rest n b h =
    ap₂ (λ (p r : List ℕ). decode_xor_addr (((first ∷ family addr.ip ∷ []) ++ p ++ r) ++ rest) id) (network_is 2 (xor_port addr.port))
    (sym (ip_is addr.ip id n b h.ip_fits))
    ∙ read first addr.ip addr.port id rest n h.ip_fits h.port_fits

-- what was written reads back
pub round_trip : (addr : Address) (id rest : List ℕ) → length id ≡ 12 → Held addr → decode_xor_addr (encode_xor_addr addr id ++ rest) id ≡ Some addr
unfolding encode_xor_addr sent
round_trip addr id rest n h = read 0 addr.ip addr.port id rest n h.ip_fits h.port_fits

-- the written bytes out of the struct
pub encoded_is : (addr : Address) (id : List ℕ) → take (encoded addr id).len (encoded addr id).bytes ≡ encode_xor_addr addr id
unfolding encoded
encoded_is addr id = take_at (encode_xor_addr addr id) _ _ refl

pub length-written : (addr : Address) (id : List ℕ) → length id ≡ 12 → length (encode_xor_addr addr id) ≡ size addr.ip
unfolding encode_xor_addr
length-written addr id n = go addr.ip
  where
    go : (ip : Ip) → length (0 ∷ 0 ∷ 0 ∷ 0 ∷ encode_ip ip id) ≡ size ip
    go (V4 x) = refl
    go (V6 high low) = omega (arith, length-xored (octets high low) (key id) (omega arith))
