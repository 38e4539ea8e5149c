-- The register's complement is the CRC-32 by long division (`join`), which has 32 bits. The invariant: what is left of the dividend is the
-- register, as a list of bits, added onto the rest of the message and its zeros.
-- Assumes nothing.
use mathlib.Core.Path.{◌≡◌, refl, sym, ap, ap₂, ◌∙◌}
use mathlib.Core.Bool.{Bool, true, false, not, cond}
use mathlib.Core.List.{List, [], ◌∷◌, ◌++◌, map}
use Prim.Native.Nat.{ℕ, zero, suc, ◌+◌, ◌*◌, ◌/◌, ◌^◌, ◌≤◌, ◌<◌, zero-le, suc-le-suc}
use native.Mathlib.Nat.{le_of_suc-le-suc, not-suc-le-zero, pow-suc}
use native.Mathlib.Omega.{arith}
use lib.Arith.{digits_div}
use lib.Bits.{bit_xor, xor_block, xor_zero_r}
use lib.Dec.{lit≤}
use lib.ListN.{length, replicate}
use Rattle.crc32.proofs.Bit.{digit_lt, digit_xor, odd_digit}
use Rattle.crc32.specs.Crc.{xor, onto, generator, divide, odd, bits, stream, digit, number, dividend, crc32}
use Rattle.crc32.specs.Register.{start, withBit, with_bits, fed, finished}

-- the sum of two lists of bits, as long as the longer one
abbrev sum : List Bool → List Bool → List Bool
sum [] b = b
sum (x ∷ a) [] = x ∷ a
sum (x ∷ a) (y ∷ b) = xor x y ∷ sum a b

xor_turn : (x y z : Bool) → xor y (xor x z) ≡ xor (xor x y) z
xor_turn false false z = refl
xor_turn false true z = refl
xor_turn true false z = refl
xor_turn true true false = refl
xor_turn true true true = refl

onto_onto : (a b l : List Bool) → onto b (onto a l) ≡ onto (sum a b) l
onto_onto [] b l = refl
onto_onto (x ∷ a) [] l = refl
onto_onto (x ∷ a) (y ∷ b) [] = refl
onto_onto (x ∷ a) (y ∷ b) (z ∷ l) = ap₂ ◌∷◌ (xor_turn x y z) (onto_onto a b l)

number_sum : (a b : List Bool) → number (sum a b) ≡ bit_xor (number a) (number b)
unfolding number
number_sum [] b = refl
number_sum (x ∷ a) [] = sym (xor_zero_r (number (x ∷ a)))
number_sum (x ∷ a) (y ∷ b) =
    ap₂ (λ (m n : ℕ). m * 2 + n) (number_sum a b) (digit_xor x y)
    ∙ sym (xor_block 1 (number a) (number b) (digit x) (digit y) (digit_lt x) (digit_lt y))

-- the register as a list of bits, and after one bit more
abbrev head : List Bool → Bool
head [] = false
head (x ∷ r) = x

abbrev tail : List Bool → List Bool
tail [] = []
tail (x ∷ r) = r

abbrev next : List Bool → Bool → List Bool
next r b = cond (xor (head r) b) (sum (tail r) generator) (tail r)

abbrev after : List Bool → List Bool → List Bool
after r [] = r
after r (b ∷ s) = after (next r b) s

divide_next : (n : ℕ) (r : List Bool) (b : Bool) (l : List Bool) → divide (suc n) (onto r (b ∷ l)) ≡ divide n (onto (next r b) l)
unfolding divide
divide_next n [] false l = refl
divide_next n [] true l = refl
divide_next n (false ∷ r) false l = refl
divide_next n (false ∷ r) true l = ap (divide n) (onto_onto r generator l)
divide_next n (true ∷ r) false l = ap (divide n) (onto_onto r generator l)
divide_next n (true ∷ r) true l = refl

divided : (r s z : List Bool) → divide (length s) (onto r (s ++ z)) ≡ onto (after r s) z
unfolding divide
divided r [] z = refl
divided r (b ∷ s) z = divide_next (length s) r b (s ++ z) ∙ divided (next r b) s z

-- a register of at most k bits stays one
length-sum : {k : ℕ} (a b : List Bool) → length a ≤ k → length b ≤ k → length (sum a b) ≤ k
length-sum [] b ha hb = hb
length-sum (x ∷ a) [] ha hb = ha
length-sum {k = zero} (x ∷ a) (y ∷ b) ha hb = absurd (not-suc-le-zero ha)
length-sum {k = suc k} (x ∷ a) (y ∷ b) ha hb = suc-le-suc (length-sum a b (le_of_suc-le-suc ha) (le_of_suc-le-suc hb))

length-tail : {k : ℕ} (r : List Bool) → length r ≤ k → length (tail r) ≤ k
length-tail [] h = h
length-tail (x ∷ r) h = omega arith

length-next : (r : List Bool) (b : Bool) → length r ≤ 32 → length (next r b) ≤ 32
length-next r b h = cases (xor (head r) b)
  where
    cases : (t : Bool) → length (cond t (sum (tail r) generator) (tail r)) ≤ 32
    cases true = length-sum (tail r) generator (length-tail r h) (lit≤ tt)
    cases false = length-tail r h

length-after : (r s : List Bool) → length r ≤ 32 → length (after r s) ≤ 32
length-after r [] h = h
length-after r (b ∷ s) h = length-after (next r b) s (length-next r b h)

-- the register's number takes the same bit
odd_number : (r : List Bool) → odd (number r) ≡ head r
unfolding number
odd_number [] = refl
odd_number (x ∷ r) = odd_digit (number r) x

half_number : (r : List Bool) → number r / 2 ≡ number (tail r)
unfolding number
half_number [] = refl
half_number (x ∷ r) = digits_div (number r) (digit_lt x)

number_next : (r : List Bool) (b : Bool) → number (next r b) ≡ withBit (number r) b
unfolding withBit number
number_next r b = rw (odd_number r, half_number r) (cases (xor (head r) b))
  where
    cases : (t : Bool) → number (cond t (sum (tail r) generator) (tail r)) ≡ cond t (bit_xor (number (tail r)) 0xedb8_8320) (number (tail r))
    cases true = number_sum (tail r) generator
    cases false = refl

-- the register's number after a list of bits
abbrev withAll : ℕ → List Bool → ℕ
withAll c [] = c
withAll c (b ∷ s) = withAll (withBit c b) s

number_after : (r s : List Bool) → number (after r s) ≡ withAll (number r) s
number_after r [] = refl
number_after r (b ∷ s) = number_after (next r b) s ∙ ap (λ (c : ℕ). withAll c s) (number_next r b)

withAll_append : (c : ℕ) (s t : List Bool) → withAll c (s ++ t) ≡ withAll (withAll c s) t
withAll_append c [] t = refl
withAll_append c (b ∷ s) t = withAll_append (withBit c b) s t

withAll_bits : (k c n : ℕ) → withAll c (bits k n) ≡ with_bits k c n
unfolding with_bits
withAll_bits zero c n = refl
withAll_bits (suc k) c n = withAll_bits k (withBit c (odd n)) (n / 2)

withAll_stream : (c : ℕ) (m : List ℕ) → withAll c (stream m) ≡ fed c m
unfolding stream fed
withAll_stream c [] = refl
withAll_stream c (b ∷ m) =
    withAll_append c (bits 8 b) (stream m) ∙ ap (λ (d : ℕ). withAll d (stream m)) (withAll_bits 8 c b)
    ∙ withAll_stream (with_bits 8 c b) m

-- a list of at most k bits and its complement at k bits
complement : (k : ℕ) (r : List Bool) → length r ≤ k → number (map not (onto r (replicate k false))) + number r + 1 ≡ 2 ^ k
unfolding number
complement zero [] h = refl
complement zero (x ∷ r) h = absurd (not-suc-le-zero h)
complement (suc k) [] h = omega (arith, complement k [] zero-le, pow-suc 2 k)
complement (suc k) (false ∷ r) h = omega (arith, complement k r (le_of_suc-le-suc h), pow-suc 2 k)
complement (suc k) (true ∷ r) h = omega (arith, complement k r (le_of_suc-le-suc h), pow-suc 2 k)

-- the register after a whole message, as a list of bits
abbrev left : List ℕ → List Bool
left m = after (replicate 32 true) (stream m)

number_left : (m : List ℕ) → number (left m) ≡ fed start m
unfolding number
number_left m = number_after (replicate 32 true) (stream m) ∙ withAll_stream start m

remainder : (m : List ℕ) → number (map not (onto (left m) (replicate 32 false))) ≡ crc32 m
unfolding crc32 dividend
remainder m = ap (λ (l : List Bool). number (map not l)) (sym (divided (replicate 32 true) (stream m) (replicate 32 false)))

complemented : (m : List ℕ) → crc32 m + fed start m + 1 ≡ 2 ^ 32
complemented m =
    ap₂ (λ (x y : ℕ). x + y + 1) (sym (remainder m)) (sym (number_left m))
    ∙ complement 32 (left m) (length-after (replicate 32 true) (stream m) (lit≤ tt))

pub join : (m : List ℕ) → finished (fed start m) ≡ crc32 m
join m = omega (arith, complemented m)

pub crc32_lt : (m : List ℕ) → crc32 m < 2 ^ 32
crc32_lt m = omega (arith, complemented m)
