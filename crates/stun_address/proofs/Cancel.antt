-- XOR with the same key twice gives back what was there: of numbers and of lists of bytes.
use mathlib.Core.Path.{◌≡◌, refl, ap, ap₂, ◌∙◌}
use mathlib.Core.Logic.{◌⊎◌, inl, inr}
use mathlib.Core.List.{List, [], ◌∷◌}
use Prim.Native.Nat.{ℕ, zero, suc, ◌+◌, ◌*◌, ◌/◌, ◌%◌, ◌^◌, ◌≤◌, ◌<◌}
use native.Mathlib.Nat.{pow-suc}
use native.Mathlib.Omega.{arith}
use lib.ListN.{length}
use lib.Dec.{lit<}
use lib.Pow.{pow_mono}
use lib.Bits.{bit_xor, differ, xor_step, xor_shr, xor_mod}
use Rattle.stun_address.specs.Source.{xored}

bit : (n : ℕ) → n < 2 → (n ≡ 0) ⊎ (n ≡ 1)
bit zero h = inl refl
bit (suc zero) h = inr refl
bit (suc (suc n)) h = absurd (omega arith)

-- one binary digit
digit : (x y : ℕ) → (x ≡ 0) ⊎ (x ≡ 1) → (y ≡ 0) ⊎ (y ≡ 1) → differ (bit_xor x y) y ≡ x
digit x y (inl p) (inl q) = rw (p, q)
digit x y (inl p) (inr q) = rw (p, q)
digit x y (inr p) (inl q) = rw (p, q)
digit x y (inr p) (inr q) = rw (p, q)

cancel_n : (n a b : ℕ) → a < 2 ^ n → b < 2 ^ n → bit_xor (bit_xor a b) b ≡ a
cancel_n zero a b p q =
    let e : a ≡ 0 = omega arith in
    let f : b ≡ 0 = omega arith in
    rw (e, f)
cancel_n (suc n) a b p q =
    let w : 2 ^ suc n ≡ 2 ^ n * 2 = pow-suc 2 n in
    let d : differ (bit_xor a b % 2) (b % 2) ≡ a % 2 =
    ap (λ (x : ℕ). differ x (b % 2)) (xor_mod a b 1) ∙ digit (a % 2) (b % 2) (bit (a % 2) (omega arith)) (bit (b % 2) (omega arith)) in
    let h : bit_xor (bit_xor a b / 2) (b / 2) ≡ a / 2 =
    ap (λ (x : ℕ). bit_xor x (b / 2)) (xor_shr a b 1) ∙ cancel_n n (a / 2) (b / 2) (omega arith) (omega arith) in
    xor_step (bit_xor a b) b ∙ ap₂ (λ (x y : ℕ). x * 2 + y) h d ∙ omega arith

-- a number is below its power of two
below : (n : ℕ) → n < 2 ^ n
below zero = lit< tt
below (suc n) = let w : 2 ^ suc n ≡ 2 ^ n * 2 = pow-suc 2 n in omega (arith, below n)

grown : (n k m : ℕ) → n ≤ m → k < 2 ^ n → k < 2 ^ m
grown n k m h l = omega (arith, pow_mono h)

pub cancel : (a b : ℕ) → bit_xor (bit_xor a b) b ≡ a
cancel a b = cancel_n (a + b) a b (grown a a (a + b) (omega arith) (below a)) (grown b b (a + b) (omega arith) (below b))

pub xored_cancel : (l k : List ℕ) → length l ≤ length k → xored (xored l k) k ≡ l
xored_cancel [] k h = refl
xored_cancel (x ∷ l) [] h = absurd (omega arith)
xored_cancel (x ∷ l) (y ∷ k) h = ap₂ {C = List ℕ} (λ a r. a ∷ r) (cancel x y) (xored_cancel l k (omega arith))

pub length-xored : (l k : List ℕ) → length l ≤ length k → length (xored l k) ≡ length l
length-xored [] k h = refl
length-xored (x ∷ l) [] h = absurd (omega arith)
length-xored (x ∷ l) (y ∷ k) h = ap suc (length-xored l k (omega arith))
