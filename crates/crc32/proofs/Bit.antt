-- A bit as a Boolean and as a number; and xor of numbers, which works on each of their bits, regroups.
-- Assumes nothing.
use mathlib.Core.Path.{◌≡◌, refl, sym, ap, ap₂, ◌∙◌}
use mathlib.Core.Bool.{Bool, true, false}
use Prim.Native.Nat.{ℕ, zero, suc, ◌+◌, ◌*◌, ◌/◌, ◌%◌, ◌<◌}
use native.Mathlib.Nat.{mod-lt, le_of_suc-le-suc, not-suc-le-zero}
use lib.Arith.{bin_ind, digits_mod}
use lib.Bits.{bit_xor, differ, xor_step, xor_comm, xor_shr, xor_mod}
use lib.Dec.{eqb, lit<}
use Rattle.crc32.specs.Crc.{xor, odd, digit}

pub digit_lt : (x : Bool) → digit x < 2
digit_lt false = lit< tt
digit_lt true = lit< tt

pub digit_xor : (x y : Bool) → digit (xor x y) ≡ bit_xor (digit x) (digit y)
digit_xor false y = refl
digit_xor true false = refl
digit_xor true true = refl

eqb_digit : (x : Bool) → eqb (digit x) 1 ≡ x
eqb_digit false = refl
eqb_digit true = refl

pub odd_digit : (n : ℕ) (x : Bool) → odd (n * 2 + digit x) ≡ x
odd_digit n x = ap (λ (m : ℕ). eqb m 1) (digits_mod n (digit_lt x)) ∙ eqb_digit x

digit_eqb : (n : ℕ) → n < 2 → n ≡ digit (eqb n 1)
digit_eqb zero h = refl
digit_eqb (suc zero) h = refl
digit_eqb (suc (suc n)) h = absurd (not-suc-le-zero (le_of_suc-le-suc (le_of_suc-le-suc h)))

digit_odd : (n : ℕ) → n % 2 ≡ digit (odd n)
digit_odd n = digit_eqb (n % 2) (mod-lt n (lit< tt))

low_xor : (a b : ℕ) → bit_xor a b % 2 ≡ digit (xor (odd a) (odd b))
low_xor a b = xor_mod a b 1 ∙ ap₂ bit_xor (digit_odd a) (digit_odd b) ∙ sym (digit_xor (odd a) (odd b))

pub odd_xor : (a b : ℕ) → odd (bit_xor a b) ≡ xor (odd a) (odd b)
odd_xor a b = ap (λ (m : ℕ). eqb m 1) (low_xor a b) ∙ eqb_digit (xor (odd a) (odd b))

differ_assoc : (x y z : Bool) → differ (digit (xor x y)) (digit z) ≡ differ (digit x) (digit (xor y z))
differ_assoc false false z = refl
differ_assoc false true false = refl
differ_assoc false true true = refl
differ_assoc true false z = refl
differ_assoc true true false = refl
differ_assoc true true true = refl

low_assoc : (a b c : ℕ) → differ (bit_xor a b % 2) (c % 2) ≡ differ (a % 2) (bit_xor b c % 2)
low_assoc a b c =
    ap₂ differ (low_xor a b) (digit_odd c) ∙ differ_assoc (odd a) (odd b) (odd c)
    ∙ sym (ap₂ differ (digit_odd a) (low_xor b c))

high_assoc : (a b c : ℕ) → bit_xor (bit_xor (a / 2) (b / 2)) (c / 2) ≡ bit_xor (a / 2) (bit_xor (b / 2) (c / 2))
    → bit_xor (bit_xor a b / 2) (c / 2) ≡ bit_xor (a / 2) (bit_xor b c / 2)
high_assoc a b c h = rw (xor_shr a b 1, xor_shr b c 1) h

xor_assoc : (a b c : ℕ) → bit_xor (bit_xor a b) c ≡ bit_xor a (bit_xor b c)
xor_assoc =
    bin_ind (λ (a : ℕ). (b c : ℕ) → bit_xor (bit_xor a b) c ≡ bit_xor a (bit_xor b c)) (λ b c. refl)
    (λ a ih b c. xor_step (bit_xor a b) c
    ∙ ap₂ (λ (x y : ℕ). x * 2 + y) (high_assoc a b c (ih (b / 2) (c / 2))) (low_assoc a b c)
    ∙ sym (xor_step a (bit_xor b c)))

pub xor_swap : (a b c : ℕ) → bit_xor (bit_xor a b) c ≡ bit_xor (bit_xor a c) b
xor_swap a b c = xor_assoc a b c ∙ ap (bit_xor a) (xor_comm b c) ∙ sym (xor_assoc a c b)
