-- Bytes and numbers. SHA-1 has a word's high byte first (RFC 3174 section 2), MD5 its low byte (RFC 1321 section 2).
use Rattle.std.specs.Prelude.{ℕ, zero, suc, ◌+◌, ◌*◌, ◌/◌, ◌%◌, List, [], ◌∷◌, reverse, Bool, true, false}

pub data Order : Type 0 where
  big little : Order

-- the number that the bytes write, low byte first
abbrev pub low_first : List ℕ → ℕ
low_first [] = 0
low_first (b ∷ bs) = b + 256 * low_first bs

-- the n low bytes of a number, low byte first
abbrev pub lows : ℕ → ℕ → List ℕ
lows zero x = []
lows (suc n) x = x % 256 ∷ lows n (x / 256)

abbrev pub number : Order → List ℕ → ℕ
number little bs = low_first bs
number big bs = low_first (reverse bs)

abbrev pub bytes : Order → ℕ → ℕ → List ℕ
bytes little n x = lows n x
bytes big n x = reverse (lows n x)

-- an order as the code names it: is the high byte first?
abbrev pub ordered : Bool → Order
ordered true = big
ordered false = little
