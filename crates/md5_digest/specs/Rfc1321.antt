-- MD5, RFC 1321. Padding, length and output (sections 3.1, 3.2 and 3.5) are those of every digest of the family; the state
-- (3.3) and the processing of a block of sixteen words (3.4) are here. Operations and T count from 0, and the RFC's from 1.
use Rattle.std.specs.Prelude.{ℕ, zero, suc, ◌+◌, ◌*◌, ◌/◌, ◌%◌, List, [], ◌∷◌, take, drop, bit_and, bit_or, bit_xor, slice_index}
use Rattle.digest.specs.Word.{◌⊞◌, complement, rotl}
use Rattle.digest.specs.Bytes.{little, number}
use Rattle.digest.specs.Digest.{Digest}

-- 3.3: the registers A, B, C, D
pub data State : Type 0 where
  four : ℕ → ℕ → ℕ → ℕ → State

abbrev pub state : List ℕ → State
state h = four (slice_index h 0) (slice_index h 1) (slice_index h 2) (slice_index h 3)

-- 3.4: the functions
abbrev pub F : ℕ → ℕ → ℕ → ℕ
F x y z = bit_or (bit_and x y) (bit_and (complement x) z)

abbrev pub G : ℕ → ℕ → ℕ → ℕ
G x y z = bit_or (bit_and x z) (bit_and y (complement z))

abbrev pub H : ℕ → ℕ → ℕ → ℕ
H x y z = bit_xor (bit_xor x y) z

abbrev pub I : ℕ → ℕ → ℕ → ℕ
I x y z = bit_xor y (bit_or x (complement z))

-- 3.4: the table, the integer part of 4294967296 times abs(sin(i)), i in radians
unfoldable pub T : List ℕ
T =
    0xd76aa478 ∷ 0xe8c7b756 ∷ 0x242070db ∷ 0xc1bdceee
    ∷ 0xf57c0faf ∷ 0x4787c62a ∷ 0xa8304613 ∷ 0xfd469501
    ∷ 0x698098d8 ∷ 0x8b44f7af ∷ 0xffff5bb1 ∷ 0x895cd7be
    ∷ 0x6b901122 ∷ 0xfd987193 ∷ 0xa679438e ∷ 0x49b40821
    ∷ 0xf61e2562 ∷ 0xc040b340 ∷ 0x265e5a51 ∷ 0xe9b6c7aa
    ∷ 0xd62f105d ∷ 0x02441453 ∷ 0xd8a1e681 ∷ 0xe7d3fbc8
    ∷ 0x21e1cde6 ∷ 0xc33707d6 ∷ 0xf4d50d87 ∷ 0x455a14ed
    ∷ 0xa9e3e905 ∷ 0xfcefa3f8 ∷ 0x676f02d9 ∷ 0x8d2a4c8a
    ∷ 0xfffa3942 ∷ 0x8771f681 ∷ 0x6d9d6122 ∷ 0xfde5380c
    ∷ 0xa4beea44 ∷ 0x4bdecfa9 ∷ 0xf6bb4b60 ∷ 0xbebfbc70
    ∷ 0x289b7ec6 ∷ 0xeaa127fa ∷ 0xd4ef3085 ∷ 0x04881d05
    ∷ 0xd9d4d039 ∷ 0xe6db99e5 ∷ 0x1fa27cf8 ∷ 0xc4ac5665
    ∷ 0xf4292244 ∷ 0x432aff97 ∷ 0xab9423a7 ∷ 0xfc93a039
    ∷ 0x655b59c3 ∷ 0x8f0ccc92 ∷ 0xffeff47d ∷ 0x85845dd1
    ∷ 0x6fa87e4f ∷ 0xfe2ce6e0 ∷ 0xa3014314 ∷ 0x4e0811a1
    ∷ 0xf7537e82 ∷ 0xbd3af235 ∷ 0x2ad7d2bb ∷ 0xeb86d391
    ∷ []

-- 3.4: a = b + ((a + F(b,c,d) + X[k] + T[i]) <<< s)
unfoldable pub operation : (ℕ → ℕ → ℕ → ℕ) → ℕ → ℕ → ℕ → ℕ → ℕ → ℕ → ℕ → ℕ
operation f a b c d x s t = b ⊞ rotl s (a ⊞ f b c d ⊞ x ⊞ t)

-- 3.4: what the sixteen operations of a round share: the function, which word operation i takes, and the four shifts in turn
pub record Round : Type 0 where
  pub function : ℕ → ℕ → ℕ → ℕ
  pub word : ℕ → ℕ
  pub shifts : List ℕ

abbrev pub rounds : ℕ → Round
rounds zero = record { function = F; word = λ i. i % 16; shifts = 7 ∷ 12 ∷ 17 ∷ 22 ∷ [] }
rounds (suc zero) = record { function = G; word = λ i. (5 * i + 1) % 16; shifts = 5 ∷ 9 ∷ 14 ∷ 20 ∷ [] }
rounds (suc (suc zero)) = record { function = H; word = λ i. (3 * i + 5) % 16; shifts = 4 ∷ 11 ∷ 16 ∷ 23 ∷ [] }
rounds (suc (suc (suc n))) = record { function = I; word = λ i. 7 * i % 16; shifts = 6 ∷ 10 ∷ 15 ∷ 21 ∷ [] }

-- operation i on the words X; the next one has the registers in the order D, A, B, C
unfoldable pub turn : List ℕ → ℕ → State → State
turn x i (four a b c d) =
    let r = rounds (i / 16) in
    four d (operation r.function a b c d (slice_index x (r.word i)) (slice_index r.shifts (i % 4)) (slice_index T i)) b c

-- the first n operations
unfoldable pub turns : List ℕ → ℕ → State → State
turns x zero s = s
turns x (suc i) s = turn x i (turns x i s)

-- 2: the first n words of a block, low byte first
abbrev pub words : ℕ → List ℕ → List ℕ
words zero m = []
words (suc n) m = number little (take 4 m) ∷ words n (drop 4 m)

-- 3.4: A = A + AA, B = B + BB, C = C + CC, D = D + DD
abbrev pub sums : State → State → List ℕ
sums (four a₀ b₀ c₀ d₀) (four a b c d) = (a ⊞ a₀) ∷ (b ⊞ b₀) ∷ (c ⊞ c₀) ∷ (d ⊞ d₀) ∷ []

unfoldable pub step : List ℕ → List ℕ → List ℕ
step h m = sums (state h) (turns (words 16 m) 64 (state h))

abbrev pub md5 : Digest
md5 =
    record {
      block = 64;
      order = little;
      start = 0x67452301 ∷ 0xefcdab89 ∷ 0x98badcfe ∷ 0x10325476 ∷ [];
      step = step;
    }
