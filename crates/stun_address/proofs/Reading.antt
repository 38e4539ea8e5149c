-- The definitions of specs/Source.antt case by case, over what the code has in hand: the bytes of a number in place of the
-- number, and XOR on whole numbers in place of XOR on bytes.
use mathlib.Core.Path.{◌≡◌, sym, ap, ap₂, ◌∙◌}
use mathlib.Core.List.{List, ◌∷◌, ◌++◌}
use Prim.Native.Nat.{ℕ, ◌-◌, ◌^◌, ◌≤◌, ◌<◌}
use borrow.Author.Tests.{lt-ltb, le-ltb, le-leb, lt-leb, ne_eqb}
use lib.ListN.{length, get_or, take, drop, replicate}
use lib.Bits.{bit_xor, xor_lt}
use borrow.Rule.Slice.PartMut.{put_mid}
use Rattle.std.specs.Int.{w16, w32, w64, to_be_bytes}
use Rattle.stun_address.specs.declared.Ip.{Ip}
use Rattle.stun_address.specs.declared.Ip.TheVariants.{V4, V6}
use Rattle.stun_address.specs.declared.Address.{Address}
use Rattle.stun_address.specs.declared.Encoded.{Encoded}
use Rattle.std.specs.Prelude.{Some, None}
use Rattle.stun_address.specs.Source.{to_be, from_be, MAGIC, key, xored, xor_port, octets, of_octets, encode_xor_addr, encoded, at_port, decode_xor_addr}
use Rattle.stun_address.proofs.Network.{from_to, to_be_xor, library_bytes}
use Rattle.lists.proofs.Elements.{elements, take-elements}

-- `encoded` of the bytes
abbrev laid : List ℕ → Encoded
laid v = record { bytes = v ++ replicate (20 - length v) 0; len = length v }

-- the room with the parts that are put into it
module _ (addr : Address) (id p : List ℕ) (ep : p ≡ to_be_bytes w16 (bit_xor addr.port 0x2112)) where
  pub encoded_v4 : (v : List ℕ) (x : ℕ) → addr.ip ≡ V4 x → v ≡ to_be_bytes w32 (bit_xor x MAGIC)
      → ◌≡◌ {A = Encoded} (record { bytes = put_mid 4 4 (0 ∷ 1 ∷ (p ++ replicate 16 0)) v; len = 8 }) (encoded addr id)
  unfolding encoded encode_xor_addr
  encoded_v4 v x e ev = rw (e, ep ∙ library_bytes 2 (bit_xor addr.port 0x2112), ev ∙ library_bytes 4 (bit_xor x MAGIC))

  pub encoded_v6 : (h l : List ℕ) (high low m n : ℕ) → addr.ip ≡ V6 high low → h ≡ to_be_bytes w64 (bit_xor high m) → l ≡ to_be_bytes w64 (bit_xor low n)
      → to_be 8 m ++ to_be 8 n ≡ key id
      → ◌≡◌ {A = Encoded} (record { bytes = put_mid 12 8 (put_mid 4 8 (0 ∷ 2 ∷ (p ++ replicate 16 0)) h) l; len = 20 }) (encoded addr id)
  unfolding encoded encode_xor_addr
  encoded_v6 h l high low m n e eh el ek =
      rw
      (ep ∙ library_bytes 2 (bit_xor addr.port 0x2112), eh ∙ library_bytes 8 (bit_xor high m) ∙ to_be_xor 8 high m, el ∙ library_bytes 8 (bit_xor low n) ∙ to_be_xor 8 low n)
      (ap (λ (k : List ℕ). laid (0 ∷ 2 ∷ to_be 2 (xor_port addr.port) ++ xored (octets high low) k)) ek ∙ rw e)

pub decode_short : (v id : List ℕ) → length v < 8 → None ≡ decode_xor_addr v id
unfolding decode_xor_addr
decode_short v id h = rw (lt-ltb (length v) 8 h)

-- the number that the bytes write, from the number that has these bytes
number_of : (n x : ℕ) (l : List ℕ) → x < 256 ^ n → to_be n x ≡ l → from_be l ≡ x
number_of n x l h e = ap from_be (sym e) ∙ from_to n x h

module _ (v id : List ℕ) (h : 8 ≤ length v) where
  pub decode_octets : 20 ≤ length v → get_or v 1 0 ≡ 2 → decode_xor_addr v id ≡ at_port v (of_octets (xored (take 16 (drop 4 v)) (key id)))
  unfolding decode_xor_addr
  decode_octets g f = rw (le-ltb (length v) 8 h, f, le-leb 20 (length v) g)

  module _ (q : ℕ) (lq : q < 2 ^ 16) (eq : to_be 2 q ≡ elements v 2 2) where
    pub at_port_is : (ip : Ip) → at_port v ip ≡ Some (record { ip = ip; port = bit_xor q 0x2112 })
    at_port_is ip = rw (number_of 2 q (elements v 2 2) lq eq)

    pub decode_v4 : (x : ℕ) → get_or v 1 0 ≡ 1 → x < 2 ^ 32 → to_be 4 x ≡ elements v 4 4
        → Some (record { ip = V4 (bit_xor x MAGIC); port = bit_xor q 0x2112 }) ≡ decode_xor_addr v id
    unfolding decode_xor_addr
    decode_v4 x f lx ex =
        let n : from_be (take 4 (drop 4 v)) ≡ x = ap from_be (take-elements v 4 4 h) ∙ number_of 4 x (elements v 4 4) lx ex in
        sym (at_port_is (V4 (bit_xor x MAGIC))) ∙ rw (le-ltb (length v) 8 h, f, n)

    octets_are : (x y m n : ℕ) → 20 ≤ length v → to_be 8 x ≡ elements v 4 8 → to_be 8 y ≡ elements v 12 8 → to_be 8 m ++ to_be 8 n ≡ key id
        → xored (take 16 (drop 4 v)) (key id) ≡ to_be 8 (bit_xor x m) ++ to_be 8 (bit_xor y n)
    octets_are x y m n g ex ey ek =
        ap₂ xored (take-elements v 4 16 g ∙ ap₂ {C = List ℕ} (λ a b. a ++ b) (sym ex) (sym ey)) (sym ek) ∙ ap₂ {C = List ℕ} (λ a b. a ++ b) (sym (to_be_xor 8 x m)) (sym (to_be_xor 8 y n))

    pub decode_v6 : (x y m n : ℕ) → get_or v 1 0 ≡ 2 → 20 ≤ length v → x < 2 ^ 64 → y < 2 ^ 64 → m < 2 ^ 64 → n < 2 ^ 64
        → to_be 8 x ≡ elements v 4 8 → to_be 8 y ≡ elements v 12 8 → to_be 8 m ++ to_be 8 n ≡ key id
        → Some (record { ip = V6 (bit_xor x m) (bit_xor y n); port = bit_xor q 0x2112 }) ≡ decode_xor_addr v id
    decode_v6 x y m n f g lx ly lm ln ex ey ek =
        let o : of_octets (xored (take 16 (drop 4 v)) (key id)) ≡ V6 (bit_xor x m) (bit_xor y n) =
        ap of_octets (octets_are x y m n g ex ey ek) ∙ ap₂ V6 (from_to 8 (bit_xor x m) (xor_lt 64 x m lx lm)) (from_to 8 (bit_xor y n) (xor_lt 64 y n ly ln)) in
        sym (decode_octets g f ∙ ap (at_port v) o ∙ at_port_is (V6 (bit_xor x m) (bit_xor y n)))

  pub decode_cut : get_or v 1 0 ≡ 2 → length v < 20 → None ≡ decode_xor_addr v id
  unfolding decode_xor_addr
  decode_cut f g = rw (le-ltb (length v) 8 h, f, lt-leb 20 (length v) g)

  pub decode_family : (get_or v 1 0 ≡ 1 → ⊥) → (get_or v 1 0 ≡ 2 → ⊥) → None ≡ decode_xor_addr v id
  unfolding decode_xor_addr
  decode_family a b = simp (le-ltb (length v) 8 h, ne_eqb (get_or v 1 0) 1 a, ne_eqb (get_or v 1 0) 2 b)
