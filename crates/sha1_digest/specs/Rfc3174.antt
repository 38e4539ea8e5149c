-- SHA-1 as RFC 3174 has it. The padding of section 4 and the run over all blocks are those of `digest`, which this uses with
-- SHA-1's parameters; here are the functions and constants of section 5 and the block of section 6.1.
use Rattle.std.specs.Prelude.{ℕ, zero, suc, ◌+◌, ◌-◌, ◌*◌, cond, List, [], ◌∷◌, ◌++◌, take, drop, bit_and, bit_or, bit_xor, nat_lt, slice_index, slice_index_or}
use Rattle.digest.specs.Word.{◌⊞◌, complement, rotl}
use Rattle.digest.specs.Bytes.{big, number}
use Rattle.digest.specs.Digest.{Digest}

-- section 5: f(t;B,C,D)
abbrev pub choose : ℕ → ℕ → ℕ → ℕ
choose B C D = bit_or (bit_and B C) (bit_and (complement B) D)

abbrev pub parity : ℕ → ℕ → ℕ → ℕ
parity B C D = bit_xor (bit_xor B C) D

abbrev pub majority : ℕ → ℕ → ℕ → ℕ
majority B C D = bit_or (bit_or (bit_and B C) (bit_and B D)) (bit_and C D)

unfoldable pub f : ℕ → ℕ → ℕ → ℕ → ℕ
f t B C D = cond (nat_lt t 20) (choose B C D) (cond (nat_lt t 40) (parity B C D) (cond (nat_lt t 60) (majority B C D) (parity B C D)))

-- section 5: K(t)
unfoldable pub K : ℕ → ℕ
K t = cond (nat_lt t 20) 0x5A827999 (cond (nat_lt t 40) 0x6ED9EBA1 (cond (nat_lt t 60) 0x8F1BBCDC 0xCA62C1D6))

-- section 6.1 a: the first n of the words W(0), .., W(15) of a block
abbrev pub first : List ℕ → ℕ → List ℕ
first m zero = []
first m (suc n) = first m n ++ (number big (take 4 (drop (4 * n) m)) ∷ [])

-- section 6.1 b: W(t) = S^1(W(t-3) XOR W(t-8) XOR W(t-14) XOR W(t-16)), behind the t words W(0), .., W(t-1)
abbrev pub W : List ℕ → ℕ → ℕ
W w t = rotl 1 (bit_xor (bit_xor (bit_xor (slice_index w (t - 3)) (slice_index w (t - 8))) (slice_index w (t - 14))) (slice_index w (t - 16)))

-- sixteen words and n more
abbrev pub more : List ℕ → ℕ → List ℕ
more m zero = first m 16
more m (suc n) = more m n ++ (W (more m n) (16 + n) ∷ [])

unfoldable pub schedule : List ℕ → List ℕ
schedule m = more m 64

-- the words A, B, C, D, E
pub data State : Type 0 where
  five : ℕ → ℕ → ℕ → ℕ → ℕ → State

-- section 6.1 d: TEMP = S^5(A) + f(t;B,C,D) + E + W(t) + K(t); E = D; D = C; C = S^30(B); B = A; A = TEMP
unfoldable pub round : List ℕ → ℕ → State → State
round w t (five A B C D E) = five (rotl 5 A ⊞ f t B C D ⊞ E ⊞ slice_index_or w t 0 ⊞ K t) A (rotl 30 B) C D

-- the first n of the rounds t = 0, .., 79
unfoldable pub rounds : List ℕ → ℕ → State → State
rounds w zero s = s
rounds w (suc t) s = round w t (rounds w t s)

abbrev pub state : List ℕ → State
state h = five (slice_index h 0) (slice_index h 1) (slice_index h 2) (slice_index h 3) (slice_index h 4)

-- section 6.1 e: H0 = H0 + A, and so on
abbrev pub sums : List ℕ → State → List ℕ
sums h (five A B C D E) = (slice_index_or h 0 0 ⊞ A) ∷ (slice_index_or h 1 0 ⊞ B) ∷ (slice_index_or h 2 0 ⊞ C) ∷ (slice_index_or h 3 0 ⊞ D) ∷ (slice_index_or h 4 0 ⊞ E) ∷ []

-- section 6.1 a to e: one block
unfoldable pub step : List ℕ → List ℕ → List ℕ
step h m = sums h (rounds (schedule m) 80 (state h))

abbrev pub sha1 : Digest
sha1 =
    record {
      block = 64;
      order = big;
      start = 0x67452301 ∷ 0xEFCDAB89 ∷ 0x98BADCFE ∷ 0x10325476 ∷ 0xC3D2E1F0 ∷ [];
      step = step;
    }
