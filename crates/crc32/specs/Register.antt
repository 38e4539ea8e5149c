-- CRC-32 by a register of 32 bits, which takes a message bit by bit and in parts, as the sample code of RFC 1952 section 8 does.
-- The register's lowest bit is the coefficient of x^31.
-- Assumes nothing.
use Rattle.std.specs.Prelude.{ℕ, zero, suc, ◌-◌, ◌/◌, Bool, cond, List, [], ◌∷◌}
use Rattle.std.specs.Int.Bits.{bit_xor}
use Rattle.crc32.specs.Crc.{xor, odd}

abbrev pub start : ℕ
start = 0xffff_ffff

-- the register after one bit
unfoldable pub withBit : ℕ → Bool → ℕ
withBit c b = cond (xor (odd c) b) (bit_xor (c / 2) 0xedb8_8320) (c / 2)

-- the register after the k low bits of n, the lowest first
unfoldable pub with_bits : ℕ → ℕ → ℕ → ℕ
with_bits zero c n = c
with_bits (suc k) c n = with_bits k (withBit c (odd n)) (n / 2)

-- the register after more bytes
unfoldable pub fed : ℕ → List ℕ → ℕ
fed c [] = c
fed c (b ∷ bs) = fed (with_bits 8 c b) bs

-- the CRC-32 that a register stands for: its complement
abbrev pub finished : ℕ → ℕ
finished c = 0xffff_ffff - c
