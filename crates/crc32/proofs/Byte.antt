-- A byte at a step (`byte`): the entry that the register's eight low bits and the byte select, added to the rest of the register.
-- A bit step takes a number that was added along with it (`mix`); so do k steps, by induction on k.
-- Assumes nothing.
use mathlib.Core.Path.{◌≡◌, refl, sym, ap, ap₂, ◌∙◌}
use mathlib.Core.Bool.{Bool, true, false, cond}
use Prim.Native.Nat.{ℕ, zero, suc, ◌*◌, ◌/◌, ◌%◌, ◌^◌, ◌<◌}
use native.Mathlib.Nat.{mod-lt, mod-eq_of_lt, mul-one, pow-suc}
use native.Mathlib.Omega.{arith}
use lib.Arith.{lt-one}
use lib.Bits.{bit_xor, xor_comm, xor_zero_r, xor_shr, xor_mod, xor_shifted, shifted_half, shifted_even}
use lib.Dec.{eqb}
use lib.Pow.{pow_pos, split}
use Rattle.crc32.proofs.Bit.{odd_xor, xor_swap}
use Rattle.crc32.specs.Crc.{xor, odd}
use Rattle.crc32.specs.Register.{withBit, with_bits}
use Rattle.crc32.specs.Table.{entry}

-- a zero bit into a register with n added is n's low bit into the register, and the rest of n added
mix_cond : (t : Bool) (c n p : ℕ) → cond (xor t false) (bit_xor (bit_xor c n) p) (bit_xor c n) ≡ bit_xor (cond t (bit_xor c p) c) n
mix_cond true c n p = xor_swap c n p
mix_cond false c n p = refl

mix : (c n : ℕ) → withBit (bit_xor c n) false ≡ bit_xor (withBit c (odd n)) (n / 2)
unfolding withBit
mix c n = rw (odd_xor c n, xor_shr c n 1) (mix_cond (xor (odd c) (odd n)) (c / 2) (n / 2) 0xedb8_8320)

-- k bits one after the other, or all added first
gathered : (k c n : ℕ) → n < 2 ^ k → with_bits k c n ≡ with_bits k (bit_xor c n) 0
unfolding with_bits
gathered zero c n h = sym (ap (bit_xor c) (lt-one h) ∙ xor_zero_r c)
gathered (suc k) c n h =
    gathered k (withBit c (odd n)) (n / 2) (omega (arith, pow-suc 2 k)) ∙ ap (λ (d : ℕ). with_bits k d 0) (sym (mix c n))

-- what stands above the k low bits is shifted down as it is
passed : (k c a : ℕ) → with_bits k (bit_xor c (a * 2 ^ k)) 0 ≡ bit_xor (with_bits k c 0) a
unfolding with_bits
passed zero c a = ap (bit_xor c) (mul-one a)
passed (suc k) c a =
    ap (λ (d : ℕ). with_bits k d 0)
    (mix c (a * 2 ^ suc k) ∙ ap₂ (λ (x y : ℕ). bit_xor (withBit c (eqb x 1)) y) (shifted_even a k) (shifted_half a k))
    ∙ passed k (withBit c false) a

parted : (x k : ℕ) → x ≡ bit_xor (x % 2 ^ k) (x / 2 ^ k * 2 ^ k)
parted x k = sym (xor_comm (x % 2 ^ k) (x / 2 ^ k * 2 ^ k) ∙ xor_shifted (x / 2 ^ k) k (x % 2 ^ k) (mod-lt x (pow_pos k)) ∙ split x k)

pub byte : (c b : ℕ) → b < 256 → with_bits 8 c b ≡ bit_xor (c / 256) (entry (bit_xor (c % 256) b))
unfolding entry
byte c b h =
    gathered 8 c b h ∙ ap (λ (x : ℕ). with_bits 8 x 0) (parted (bit_xor c b) 8) ∙ passed 8 (bit_xor c b % 256) (bit_xor c b / 256)
    ∙ ap₂ (λ (x y : ℕ). bit_xor (with_bits 8 x 0) y)
    (xor_mod c b 8 ∙ ap (bit_xor (c % 256)) (mod-eq_of_lt h))
    (xor_shr c b 8 ∙ ap (bit_xor (c / 256)) (omega arith) ∙ xor_zero_r (c / 256))
    ∙ xor_comm (with_bits 8 (bit_xor (c % 256) b) 0) (c / 256)
