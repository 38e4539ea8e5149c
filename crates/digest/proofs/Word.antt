-- The circular shift, as the library's `rotate_left` says it, is RFC 3174's: at a shift by 0 both leave the word.
use Rattle.std.proofs.Common.{◌≡◌, ℕ, zero, suc, ◌+◌, ◌-◌, ◌*◌, ◌/◌, ◌%◌, ◌^◌, ◌<◌, max, sym, refl, ap₂, ◌∙◌, arith}
use native.Mathlib.Nat.{div-add-mod'}
use lib.Arith.{bin_ind}
use lib.Bits.{bit_or, or_step, or_zero_r}
use Rattle.digest.specs.Word.{rotl}

or_self : (x : ℕ) → bit_or x x ≡ x
or_self =
    bin_ind (λ (n : ℕ). bit_or n n ≡ n) refl
    (λ n ih. let m : max (n % 2) (n % 2) ≡ n % 2 = omega arith in or_step n n ∙ ap₂ (λ (x y : ℕ). x * 2 + y) ih m ∙ div-add-mod' n 2)

pub rotated : (x k : ℕ) → x < 2 ^ 32 → k < 32 → bit_or (x * 2 ^ k % 2 ^ 32) (x / 2 ^ ((32 - k) % 32)) ≡ rotl k x
rotated x zero h lt =
    let low : x * 2 ^ 0 % 2 ^ 32 ≡ x = omega arith in
    let all : x / 2 ^ 0 ≡ x = omega arith in
    let high : x / 2 ^ 32 ≡ 0 = omega arith in
    rw (low, all, high, or_self x) (sym (or_zero_r x))
rotated x (suc k) h lt =
    let e : (32 - suc k) % 32 ≡ 32 - suc k = omega arith in
    rw e
