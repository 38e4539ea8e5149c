-- What reads as an address is a value by the RFC with something after it (`value_only`): with `value_read`, exactly those are
-- read.
use mathlib.Core.Path.{◌≡◌, refl, sym, ap, ap₂, subst, ◌∙◌}
use mathlib.Core.Bool.{Bool, true, false, cond, ◌&&◌}
use mathlib.Core.Logic.{◌⊎◌, inl, inr}
use mathlib.Core.List.{List, [], ◌∷◌, ◌++◌}
use Prim.Native.Nat.{ℕ, zero, suc, ◌^◌, ◌≤◌, ◌<◌}
use native.Mathlib.Omega.{arith}
use borrow.Author.Tests.{ltb-false, eqb-true, leb-true}
use lib.Dec.{ltb, leb, eqb, lit<}
use lib.ListN.{length, get_or, take, drop, length-drop, take-append-drop}
use lib.Seq.{length-take-le}
use lib.Bits.{bit_xor, xor_lt}
use Rattle.stun_address.specs.declared.Ip.TheVariants.{V4}
use Rattle.stun_address.specs.declared.Address.{Address}
use Rattle.std.specs.Prelude.{Option, Some, None}
use Rattle.stun_address.specs.Source.{to_be, from_be, MAGIC, key, xored, xor_port, octets, of_octets, at_port, decode_xor_addr}
use Rattle.stun_address.specs.Rfc.{network, x_address, value, size, Held}
use Rattle.stun_address.proofs.Network.{Bytes, network_is, to_from, from_be_less}
use Rattle.stun_address.proofs.Cancel.{cancel, xored_cancel, length-xored}
use Rattle.stun_address.proofs.Values.{ip_is}

bytes_drop : (n : ℕ) (l : List ℕ) → Bytes l → Bytes (drop n l)
bytes_drop zero l h = h
bytes_drop (suc n) [] h = tt
bytes_drop (suc n) (x ∷ l) h = bytes_drop n l h.1

bytes_take : (n : ℕ) (l : List ℕ) → Bytes l → Bytes (take n l)
bytes_take zero l h = tt
bytes_take (suc n) [] h = tt
bytes_take (suc n) (x ∷ l) h = (h.0, bytes_take n l h.1)

bytes_xored : (l k : List ℕ) → Bytes l → Bytes k → Bytes (xored l k)
bytes_xored [] k h g = tt
bytes_xored (x ∷ l) [] h g = tt
bytes_xored (x ∷ l) (y ∷ k) h g = (xor_lt 8 x y h.0 g.0, bytes_xored l k h.1 g.1)

bytes_key : (id : List ℕ) → Bytes id → Bytes (key id)
bytes_key id h = (lit< tt, (lit< tt, (lit< tt, (lit< tt, h))))

back : (n : ℕ) (l : List ℕ) → length l ≡ n → Bytes l → to_be n (from_be l) ≡ l
back n l e h = ap (λ (k : ℕ). to_be k (from_be l)) (sym e) ∙ to_from l h

bounded : (n : ℕ) (l : List ℕ) → length l ≡ n → Bytes l → from_be l < 256 ^ n
bounded n l e h = let p : 256 ^ length l ≡ 256 ^ n = ap (λ (k : ℕ). 256 ^ k) e in omega (arith, from_be_less l h)

nothing_at : {x : Address} → None ≡ Some x → ⊥
nothing_at e = let z : ◌≡◌ {A = ℕ} 0 1 = cc in omega arith

-- which test let an address out
pick : (t u w : Bool) (a b : Option Address) (x : Address) → cond t None (cond u a (cond w b None)) ≡ Some x
    → (t ≡ false) × (((u ≡ true) × (a ≡ Some x)) ⊎ ((w ≡ true) × (b ≡ Some x)))
pick true u w a b x e = absurd (nothing_at e)
pick false true w a b x e = (refl, inl (refl, e))
pick false false true a b x e = (refl, inr (refl, e))
pick false false false a b x e = absurd (nothing_at e)

both : (t u : Bool) → (t && u) ≡ true → (t ≡ true) × (u ≡ true)
both true true e = (refl, refl)
both true false e = (refl, e)
both false u e = absurd (let z : ◌≡◌ {A = ℕ} 0 1 = cc in omega arith)

-- an address of the RFC's sizes, its value, and what follows that
pub record Formed (v id : List ℕ) (addr : Address) : Type 0 where
  pub held : Held addr
  pub whole : v ≡ value (get_or v 0 0) addr id ++ drop (size addr.ip) v

module _ (a p q : ℕ) (r id : List ℕ) (bp : p < 256) (bq : q < 256) (br : Bytes r) (n : length id ≡ 12) (bi : Bytes id) where
  abbrev port : ℕ
  port = xor_port (from_be (p ∷ q ∷ []))

  port_less : port < 2 ^ 16
  port_less = xor_lt 16 (from_be (p ∷ q ∷ [])) 0x2112 (omega arith) (lit< tt)

  port_is : p ∷ q ∷ [] ≡ network 2 (xor_port port)
  port_is =
      sym (network_is 2 (xor_port port) ∙ ap (to_be 2) (cancel (from_be (p ∷ q ∷ [])) 0x2112) ∙ back 2 (p ∷ q ∷ []) refl (bp, (bq, tt)))

  -- from the port on, the value is put together
  joined : (f k : ℕ) (e : List ℕ) → take k r ≡ e → a ∷ f ∷ p ∷ q ∷ r ≡ ((a ∷ f ∷ []) ++ network 2 (xor_port port) ++ e) ++ drop k r
  joined f k e h =
      ap (λ (t : List ℕ). a ∷ f ∷ p ∷ q ∷ t) (sym (take-append-drop k r))
      ∙ ap₂ (λ (x y : List ℕ). ((a ∷ f ∷ []) ++ x ++ y) ++ drop k r) port_is h

  formed_v4 : 4 ≤ length r → Formed (a ∷ 1 ∷ p ∷ q ∷ r) id (record { ip = V4 (bit_xor (from_be (take 4 r)) MAGIC); port = port })
  formed_v4 h =
      let m : length (take 4 r) ≡ 4 = length-take-le 4 r h in
      let x : ℕ = from_be (take 4 r) in
      let l : x < 256 ^ 4 = bounded 4 (take 4 r) m (bytes_take 4 r br) in
      let e : take 4 r ≡ network 4 (bit_xor (bit_xor x MAGIC) MAGIC) =
      sym (network_is 4 (bit_xor (bit_xor x MAGIC) MAGIC) ∙ ap (to_be 4) (cancel x MAGIC) ∙ back 4 (take 4 r) m (bytes_take 4 r br)) in
      record { held = record { ip_fits = xor_lt 32 x MAGIC l (lit< tt); port_fits = port_less }; whole = joined 1 4 _ e }

  formed_v6 : 16 ≤ length r → Formed (a ∷ 2 ∷ p ∷ q ∷ r) id (record { ip = of_octets (xored (take 16 r) (key id)); port = port })
  formed_v6 h =
      let m : length (take 16 r) ≡ 16 = length-take-le 16 r h in
      let o : List ℕ = xored (take 16 r) (key id) in
      let w : length o ≡ 16 = length-xored (take 16 r) (key id) (omega arith) ∙ m in
      let bo : Bytes o = bytes_xored (take 16 r) (key id) (bytes_take 16 r br) (bytes_key id bi) in
      let wh : length (take 8 o) ≡ 8 = length-take-le 8 o (omega arith) in
      let wl : length (drop 8 o) ≡ 8 = length-drop 8 o ∙ omega arith in
      let hh : from_be (take 8 o) < 256 ^ 8 = bounded 8 (take 8 o) wh (bytes_take 8 o bo) in
      let hl : from_be (drop 8 o) < 256 ^ 8 = bounded 8 (drop 8 o) wl (bytes_drop 8 o bo) in
      let e : octets (from_be (take 8 o)) (from_be (drop 8 o)) ≡ o =
      ap₂ (λ (x y : List ℕ). x ++ y) (back 8 (take 8 o) wh (bytes_take 8 o bo)) (back 8 (drop 8 o) wl (bytes_drop 8 o bo)) ∙ take-append-drop 8 o in
      let g : take 16 r ≡ x_address (of_octets o) id =
      sym (xored_cancel (take 16 r) (key id) (omega arith)) ∙ ap (λ (l : List ℕ). xored l (key id)) (sym e) ∙ ip_is (of_octets o) id n bi (hh, hl) in
      record { held = record { ip_fits = (hh, hl); port_fits = port_less }; whole = joined 2 16 _ g }

at_same : {x y : Address} → Some x ≡ Some y → x ≡ y
at_same e = cc

pub value_only : (v id : List ℕ) (addr : Address) → Bytes v → length id ≡ 12 → Bytes id → decode_xor_addr v id ≡ Some addr → Formed v id addr
unfolding decode_xor_addr
value_only [] id addr b n i e = absurd (nothing_at e)
value_only (a ∷ []) id addr b n i e = absurd (nothing_at e)
value_only (a ∷ f ∷ []) id addr b n i e = absurd (nothing_at e)
value_only (a ∷ f ∷ p ∷ []) id addr b n i e = absurd (nothing_at e)
value_only (a ∷ f ∷ p ∷ q ∷ r) id addr b n i e =
    settle (pick (ltb (length v) 8) (eqb f 1) (eqb f 2 && leb 20 (length v)) _ _ addr e)
  where
    v : List ℕ
    v = a ∷ f ∷ p ∷ q ∷ r

    settle : (ltb (length v) 8 ≡ false) × (((eqb f 1 ≡ true) × (at_port v (V4 (bit_xor (from_be (take 4 r)) MAGIC)) ≡ Some addr))
        ⊎ (((eqb f 2 && leb 20 (length v)) ≡ true) × (at_port v (of_octets (xored (take 16 r) (key id))) ≡ Some addr))) → Formed v id addr
    settle (t, inl (u, g)) =
        subst (λ (x : Address). Formed v id x) (at_same g)
        (subst (λ (y : ℕ). Formed (a ∷ y ∷ p ∷ q ∷ r) id (record { ip = V4 (bit_xor (from_be (take 4 r)) MAGIC); port = xor_port (from_be (p ∷ q ∷ [])) }))
        (sym (eqb-true f 1 u)) (formed_v4 a p q r id b.1.1.0 b.1.1.1.0 b.1.1.1.1 n i (omega (arith, ltb-false (length v) 8 t))))
    settle (t, inr (u, g)) =
        let w : (eqb f 2 ≡ true) × (leb 20 (length v) ≡ true) = both (eqb f 2) (leb 20 (length v)) u in
        subst (λ (x : Address). Formed v id x) (at_same g)
        (subst (λ (y : ℕ). Formed (a ∷ y ∷ p ∷ q ∷ r) id (record { ip = of_octets (xored (take 16 r) (key id)); port = xor_port (from_be (p ∷ q ∷ [])) }))
        (sym (eqb-true f 2 w.0)) (formed_v6 a p q r id b.1.1.0 b.1.1.1.0 b.1.1.1.1 n i (omega (arith, leb-true 20 (length v) w.1))))
