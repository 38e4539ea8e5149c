-- The round functions in fewer operations, on words of k bits: two expressions that go digit by digit are equal where they
-- are on single digits (`agree`). `choose_is` and `majority_is` are two uses.
use mathlib.Core.Path.{◌≡◌, refl, sym, ap, ap₂, ◌∙◌}
use Prim.Native.Nat.{ℕ, zero, suc, ◌+◌, ◌-◌, ◌*◌, ◌/◌, ◌%◌, ◌^◌, ◌<◌}
use native.Mathlib.Nat.{div-add-mod', pow-suc, not-suc-le-zero, le_of_suc-le-suc}
use native.Mathlib.Omega.{arith}
use lib.Arith.{lt-one}
use lib.Bits.{bit_and, bit_or, bit_xor, and_shr, or_shr, xor_shr, and_mod, or_mod, xor_mod}

-- what holds of 0 and of 1 holds of a digit
both : (P : ℕ → Type 0) → P 0 → P 1 → (x : ℕ) → x < 2 → P x
both P p q zero h = p
both P p q (suc zero) h = q
both P p q (suc (suc x)) h = absurd (not-suc-le-zero (le_of_suc-le-suc (le_of_suc-le-suc h)))

-- two functions of three digits are equal where they are at the eight
each : (f g : ℕ → ℕ → ℕ → ℕ) → f 0 0 0 ≡ g 0 0 0 → f 0 0 1 ≡ g 0 0 1 → f 0 1 0 ≡ g 0 1 0 → f 0 1 1 ≡ g 0 1 1 → f 1 0 0 ≡ g 1 0 0
    → f 1 0 1 ≡ g 1 0 1 → f 1 1 0 ≡ g 1 1 0 → f 1 1 1 ≡ g 1 1 1 → (x y z : ℕ) → x < 2 → y < 2 → z < 2 → f x y z ≡ g x y z
each f g a b c d e h i j x y z hx hy hz =
    both (λ x. f x y z ≡ g x y z)
    (both (λ y. f 0 y z ≡ g 0 y z) (both (λ z. f 0 0 z ≡ g 0 0 z) a b z hz) (both (λ z. f 0 1 z ≡ g 0 1 z) c d z hz) y hy)
    (both (λ y. f 1 y z ≡ g 1 y z) (both (λ z. f 1 0 z ≡ g 1 0 z) e h z hz) (both (λ z. f 1 1 z ≡ g 1 1 z) i j z hz) y hy)
    x hx

digit : (x : ℕ) → x % 2 < 2
digit x = omega arith

halved : (k x : ℕ) → x < 2 ^ suc k → x / 2 < 2 ^ k
halved k x h = let p : 2 ^ suc k ≡ 2 ^ k * 2 = pow-suc 2 k in omega arith

-- an expression in three words of k bits goes digit by digit
record Digitwise (L : ℕ → ℕ → ℕ → ℕ → ℕ) : Type 0 where
  half : (k b c d : ℕ) → b < 2 ^ suc k → L (suc k) b c d / 2 ≡ L k (b / 2) (c / 2) (d / 2)
  last : (k b c d : ℕ) → b < 2 ^ suc k → L (suc k) b c d % 2 ≡ L 1 (b % 2) (c % 2) (d % 2)

module _ (L R : ℕ → ℕ → ℕ → ℕ → ℕ) (hL : Digitwise L) (hR : Digitwise R) (none : L 0 0 0 0 ≡ R 0 0 0 0)
    (one : (x y z : ℕ) → x < 2 → y < 2 → z < 2 → L 1 x y z ≡ R 1 x y z) where
  agree : (k b c d : ℕ) → b < 2 ^ k → c < 2 ^ k → d < 2 ^ k → L k b c d ≡ R k b c d
  agree zero b c d hb hc hd = rw (lt-one hb, lt-one hc, lt-one hd) none
  agree (suc k) b c d hb hc hd =
      sym (div-add-mod' (L (suc k) b c d) 2)
      ∙ ap₂ (λ (x y : ℕ). x * 2 + y)
      (hL.half k b c d hb ∙ agree k (b / 2) (c / 2) (d / 2) (halved k b hb) (halved k c hc) (halved k d hd) ∙ sym (hR.half k b c d hb))
      (hL.last k b c d hb ∙ one (b % 2) (c % 2) (d % 2) (digit b) (digit c) (digit d) ∙ sym (hR.last k b c d hb))
      ∙ div-add-mod' (R (suc k) b c d) 2

not_half : (k b : ℕ) → b < 2 ^ suc k → (2 ^ suc k - 1 - b) / 2 ≡ 2 ^ k - 1 - b / 2
not_half k b h = let p : 2 ^ suc k ≡ 2 ^ k * 2 = pow-suc 2 k in omega arith

not_last : (k b : ℕ) → b < 2 ^ suc k → (2 ^ suc k - 1 - b) % 2 ≡ 1 - b % 2
not_last k b h = let p : 2 ^ suc k ≡ 2 ^ k * 2 = pow-suc 2 k in omega arith

short : ℕ → ℕ → ℕ → ℕ → ℕ
short k b c d = bit_xor d (bit_and b (bit_xor c d))

long : ℕ → ℕ → ℕ → ℕ → ℕ
long k b c d = bit_or (bit_and b c) (bit_and (2 ^ k - 1 - b) d)

short_digits : Digitwise short
unfolding short
short_digits =
    record {
      half = λ k b c d h. xor_shr d _ 1 ∙ ap (bit_xor (d / 2)) (and_shr b _ 1 ∙ ap (bit_and (b / 2)) (xor_shr c d 1));
      last = λ k b c d h. xor_mod d _ 1 ∙ ap (bit_xor (d % 2)) (and_mod b _ 1 ∙ ap (bit_and (b % 2)) (xor_mod c d 1));
    }

long_digits : Digitwise long
unfolding long
long_digits =
    record {
      half = λ k b c d h. or_shr (bit_and b c) _ 1 ∙ ap₂ bit_or (and_shr b c 1) (and_shr (2 ^ suc k - 1 - b) d 1 ∙ ap (λ (x : ℕ). bit_and x (d / 2)) (not_half k b h));
      last = λ k b c d h. or_mod (bit_and b c) _ 1 ∙ ap₂ bit_or (and_mod b c 1) (and_mod (2 ^ suc k - 1 - b) d 1 ∙ ap (λ (x : ℕ). bit_and x (d % 2)) (not_last k b h));
    }

choose_one : (x y z : ℕ) → x < 2 → y < 2 → z < 2 → short 1 x y z ≡ long 1 x y z
unfolding short long
choose_one = each (short 1) (long 1) refl refl refl refl refl refl refl refl

-- (b AND c) OR ((NOT b) AND d)
pub choose_is : (k b c d : ℕ) → b < 2 ^ k → c < 2 ^ k → d < 2 ^ k → bit_xor d (bit_and b (bit_xor c d)) ≡ bit_or (bit_and b c) (bit_and (2 ^ k - 1 - b) d)
unfolding short long
choose_is = agree short long short_digits long_digits refl choose_one

fewer : ℕ → ℕ → ℕ → ℕ → ℕ
fewer k b c d = bit_or (bit_and b c) (bit_and d (bit_or b c))

pairs : ℕ → ℕ → ℕ → ℕ → ℕ
pairs k b c d = bit_or (bit_or (bit_and b c) (bit_and b d)) (bit_and c d)

fewer_digits : Digitwise fewer
unfolding fewer
fewer_digits =
    record {
      half = λ k b c d h. or_shr (bit_and b c) _ 1 ∙ ap₂ bit_or (and_shr b c 1) (and_shr d _ 1 ∙ ap (bit_and (d / 2)) (or_shr b c 1));
      last = λ k b c d h. or_mod (bit_and b c) _ 1 ∙ ap₂ bit_or (and_mod b c 1) (and_mod d _ 1 ∙ ap (bit_and (d % 2)) (or_mod b c 1));
    }

pairs_digits : Digitwise pairs
unfolding pairs
pairs_digits =
    record {
      half = λ k b c d h. or_shr (bit_or (bit_and b c) (bit_and b d)) _ 1 ∙ ap₂ bit_or (or_shr (bit_and b c) _ 1 ∙ ap₂ bit_or (and_shr b c 1) (and_shr b d 1)) (and_shr c d 1);
      last = λ k b c d h. or_mod (bit_or (bit_and b c) (bit_and b d)) _ 1 ∙ ap₂ bit_or (or_mod (bit_and b c) _ 1 ∙ ap₂ bit_or (and_mod b c 1) (and_mod b d 1)) (and_mod c d 1);
    }

majority_one : (x y z : ℕ) → x < 2 → y < 2 → z < 2 → fewer 1 x y z ≡ pairs 1 x y z
unfolding fewer pairs
majority_one = each (fewer 1) (pairs 1) refl refl refl refl refl refl refl refl

-- (b AND c) OR (b AND d) OR (c AND d)
pub majority_is : (k b c d : ℕ) → b < 2 ^ k → c < 2 ^ k → d < 2 ^ k → bit_or (bit_and b c) (bit_and d (bit_or b c)) ≡ bit_or (bit_or (bit_and b c) (bit_and b d)) (bit_and c d)
unfolding fewer pairs
majority_is = agree fewer pairs fewer_digits pairs_digits refl majority_one
