-- `class` is the RFC's class: type AND 0x0110 keeps C1 and C0 (RFC 8489 section 5).
use mathlib.Core.Path.{◌≡◌, refl, sym, ap, ap₂, ◌∙◌}
use mathlib.Core.Logic.{◌⊎◌, inl, inr}
use Prim.Native.Nat.{ℕ, zero, suc, ◌+◌, ◌*◌, ◌/◌, ◌%◌, ◌^◌, ◌<◌}
use native.Mathlib.Omega.{arith}
use lib.Dec.{lit<}
use lib.Bits.{bit_and, and_block, and_mask, and_high}
use Rattle.stun_frame.specs.Source.{class, mask_of}
use Rattle.stun_frame.specs.Rfc.{C1, C0, class_by, message_type}

-- the mask keeps the two bits
kept : (typ : ℕ) → bit_and typ 0x0110 ≡ C1 typ * 256 + C0 typ * 16
kept typ =
    let e : typ ≡ typ / 256 * 2 ^ 8 + typ % 256 = omega arith in
    let b : C0 typ ≡ typ % 256 / 16 % 2 = omega arith in
    ap (λ (t : ℕ). bit_and t 0x0110) e ∙ and_block 8 (typ / 256) 1 (typ % 256) 16 (omega arith) (lit< tt)
    ∙ ap₂ (λ (x y : ℕ). x * 256 + y) (and_mask (typ / 256) 1) (and_high (typ % 256) 1 4 ∙ ap (λ (x : ℕ). x * 16) (sym b))

bit : (n : ℕ) → n < 2 → (n ≡ 0) ⊎ (n ≡ 1)
bit zero h = inl refl
bit (suc zero) h = inr refl
bit (suc (suc n)) h = absurd (omega arith)

pub class_is : (typ : ℕ) → class typ ≡ class_by (C1 typ) (C0 typ)
unfolding class
class_is typ = go (C1 typ) (C0 typ) (kept typ) (bit (C1 typ) (omega arith)) (bit (C0 typ) (omega arith))
  where
    go : (a b : ℕ) → bit_and typ 0x0110 ≡ a * 256 + b * 16 → (a ≡ 0) ⊎ (a ≡ 1) → (b ≡ 0) ⊎ (b ≡ 1) → class typ ≡ class_by a b
    go a b e (inl p) (inl q) = rw (e, p, q)
    go a b e (inl p) (inr q) = rw (e, p, q)
    go a b e (inr p) (inl q) = rw (e, p, q)
    go a b e (inr p) (inr q) = rw (e, p, q)

-- the value of the class is what the mask leaves of the type
pub mask_is : (typ : ℕ) → mask_of (class typ) ≡ bit_and typ 0x0110
mask_is typ = ap mask_of (class_is typ) ∙ go (C1 typ) (C0 typ) (bit (C1 typ) (omega arith)) (bit (C0 typ) (omega arith)) ∙ sym (kept typ)
  where
    go : (a b : ℕ) → (a ≡ 0) ⊎ (a ≡ 1) → (b ≡ 0) ⊎ (b ≡ 1) → mask_of (class_by a b) ≡ a * 256 + b * 16
    go a b (inl p) (inl q) = rw (p, q)
    go a b (inl p) (inr q) = rw (p, q)
    go a b (inr p) (inl q) = rw (p, q)
    go a b (inr p) (inr q) = rw (p, q)

-- the two bits of a number that is written from its parts
bits : (a k l c1 c0 : ℕ) → k < 8 → l < 16 → c1 < 2 → c0 < 2 → (C1 (a * 512 + c1 * 256 + k * 32 + c0 * 16 + l) ≡ c1) × (C0 (a * 512 + c1 * 256 + k * 32 + c0 * 16 + l) ≡ c0)
bits a k l c1 c0 hk hl h1 h0 =
    let t = a * 512 + c1 * 256 + k * 32 + c0 * 16 + l in
    let e1 : t / 2 ^ 8 ≡ a * 2 + c1 = omega arith in
    let e0 : t / 2 ^ 4 ≡ (a * 16 + c1 * 8 + k) * 2 + c0 = omega arith in
    (omega arith, omega arith)

-- the class of a type that was made of a method and class bits
pub class_of_type : (method c1 c0 : ℕ) → c1 < 2 → c0 < 2 → class (message_type method c1 c0) ≡ class_by c1 c0
class_of_type method c1 c0 p q =
    let e : (C1 (message_type method c1 c0) ≡ c1) × (C0 (message_type method c1 c0) ≡ c0) =
    bits (method / 2 ^ 7) (method / 2 ^ 4 % 2 ^ 3) (method % 2 ^ 4) c1 c0 (omega arith) (omega arith) p q in
    class_is (message_type method c1 c0) ∙ ap₂ class_by e.0 e.1
