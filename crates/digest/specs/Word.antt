-- Words of 32 bits: RFC 3174 sections 2 and 3, RFC 1321 section 2. AND, OR and XOR are `bit_and`, `bit_or` and `bit_xor` of the
-- kit's `lib.Bits`, which go through the binary digits.
use Rattle.std.specs.Prelude.{ℕ, ◌+◌, ◌-◌, ◌*◌, ◌/◌, ◌%◌, ◌^◌}
use Rattle.std.specs.Int.Bits.{bit_or}

-- X + Y, modulo 2^32
infixl 60 ◌⊞◌
abbrev pub ◌⊞◌ : ℕ → ℕ → ℕ
x ⊞ y = (x + y) % 2 ^ 32

-- NOT X
abbrev pub complement : ℕ → ℕ
complement x = 2 ^ 32 - 1 - x

-- the circular left shift S^n(X), 0 ≤ n < 32: (X << n) OR (X >> 32 - n)
abbrev pub rotl : ℕ → ℕ → ℕ
rotl n x = bit_or (x * 2 ^ n % 2 ^ 32) (x / 2 ^ (32 - n))
