-- CRC-32, the 32-bit frame check sequence of ITU-T V.42, which RFC 8489 section 14.7 takes for FINGERPRINT: long division of polynomials
-- modulo 2, bit by bit. A polynomial is the list of its coefficients, the highest power first.
-- Assumes nothing.
use Rattle.std.specs.Prelude.{ℕ, zero, suc, ◌+◌, ◌*◌, ◌/◌, ◌%◌, Bool, true, false, not, ◌||◌, List, [], ◌∷◌, ◌++◌, map, eqb, length, replicate}

-- the sum of two coefficients modulo 2
abbrev pub xor : Bool → Bool → Bool
xor false b = b
xor true b = not b

-- the first list added onto the front of the second
abbrev pub onto : List Bool → List Bool → List Bool
onto [] l = l
onto (x ∷ xs) [] = []
onto (x ∷ xs) (y ∷ ys) = xor x y ∷ onto xs ys

abbrev pub among : ℕ → List ℕ → Bool
among k [] = false
among k (n ∷ ns) = eqb k n || among k ns

-- the coefficients of x^(k-1) to x^0 in the sum of the powers with these exponents
abbrev pub coefficients : ℕ → List ℕ → List Bool
coefficients zero ns = []
coefficients (suc k) ns = among k ns ∷ coefficients k ns

-- x^32 + x^26 + x^23 + x^22 + x^16 + x^12 + x^11 + x^10 + x^8 + x^7 + x^5 + x^4 + x^2 + x + 1, behind its leading coefficient
abbrev pub generator : List Bool
generator = coefficients 32 (26 ∷ 23 ∷ 22 ∷ 16 ∷ 12 ∷ 11 ∷ 10 ∷ 8 ∷ 7 ∷ 5 ∷ 4 ∷ 2 ∷ 1 ∷ 0 ∷ [])

-- n steps of the division: where the leading coefficient is 1, the generator is added, which leaves 0 there
unfoldable pub divide : ℕ → List Bool → List Bool
divide zero l = l
divide (suc n) [] = []
divide (suc n) (false ∷ l) = divide n l
divide (suc n) (true ∷ l) = divide n (onto generator l)

abbrev pub odd : ℕ → Bool
odd n = eqb (n % 2) 1

-- the k low bits of a number, the lowest first
abbrev pub bits : ℕ → ℕ → List Bool
bits zero n = []
bits (suc k) n = odd n ∷ bits k (n / 2)

-- a message as it is transmitted, the low bit of each byte first
unfoldable pub stream : List ℕ → List Bool
stream [] = []
stream (b ∷ bs) = bits 8 b ++ stream bs

abbrev pub digit : Bool → ℕ
digit false = 0
digit true = 1

-- the number with these bits, the lowest first
unfoldable pub number : List Bool → ℕ
number [] = 0
number (b ∷ bs) = number bs * 2 + digit b

-- the message with 32 zeros behind it, x^32 times the message, and with ones added onto its first 32 bits
unfoldable pub dividend : List ℕ → List Bool
dividend m = onto (replicate 32 true) (stream m ++ replicate 32 false)

-- the complement of the 32 bits that a division of the whole message leaves
unfoldable pub crc32 : List ℕ → ℕ
crc32 m = number (map not (divide (length (stream m)) (dividend m)))
