-- Numbers in network byte order: their bytes and back (`from_to`, `to_from`), a number of two parts (`to_be_append`), XOR byte by byte
-- (`to_be_xor`), and that the RFC's bytes and the library's are the source's (`network_is`, `library_bytes`).
use mathlib.Core.Path.{◌≡◌, refl, sym, ap, ap₂, ◌∙◌}
use mathlib.Core.List.{List, [], ◌∷◌, ◌++◌, append_assoc, append-nil}
use Prim.Native.Nat.{ℕ, zero, suc, ◌+◌, ◌*◌, ◌/◌, ◌%◌, ◌^◌, ◌≤◌, ◌<◌}
use native.Mathlib.Nat.{pow-suc, mul_assoc, mul_comm, add-mul, add-zero, add-suc, mul-le-mul_right, mod-eq_of_lt, div-add-mod', mod-lt, zero-add}
use native.Mathlib.Numerals.{one-add}
use native.Mathlib.Omega.{arith}
use lib.Dec.{lit<}
use lib.ListN.{length, length-append}
use lib.Bits.{bit_xor, xor_shr, xor_mod}
use Rattle.std.specs.Int.{bytes_high_first}
use Rattle.stun_address.specs.Source.{to_be, from_be, from_be_after, xored}
use Rattle.stun_address.specs.Rfc.{network}

-- every element is a byte
abbrev pub Bytes : List ℕ → Type 0
Bytes [] = Unit
Bytes (b ∷ bs) = (b < 256) × Bytes bs

pub length-to_be : (n x : ℕ) → length (to_be n x) ≡ n
length-to_be zero x = refl
length-to_be (suc n) x = length-append (to_be n (x / 256)) _ ∙ ap (λ (k : ℕ). k + 1) (length-to_be n (x / 256)) ∙ omega arith

less : (n y : ℕ) → y < 256 ^ suc n → y / 256 < 256 ^ n
less n y h = let p : 256 ^ suc n ≡ 256 ^ n * 256 = pow-suc 256 n in omega arith

-- the bytes of a number of two parts
pub to_be_append : (m n x y : ℕ) → y < 256 ^ n → to_be (m + n) (x * 256 ^ n + y) ≡ to_be m x ++ to_be n y
to_be_append m zero x y h = let e : x * 1 + y ≡ x = omega arith in rw (add-zero, e) (sym (append-nil (to_be m x)))
to_be_append m (suc n) x y h =
    let p : x * 256 ^ suc n ≡ x * 256 ^ n * 256 = ap (λ (k : ℕ). x * k) (pow-suc 256 n) ∙ sym (mul_assoc x (256 ^ n) 256) in
    let q : (x * 256 ^ suc n + y) / 256 ≡ x * 256 ^ n + y / 256 = omega arith in
    let r : (x * 256 ^ suc n + y) % 256 ≡ y % 256 = omega arith in
    rw (add-suc, q, r, to_be_append m n x (y / 256) (less n y h), append_assoc)

-- one byte more at the end
from_be_snoc : (a b : ℕ) (l : List ℕ) → from_be_after a (l ++ (b ∷ [])) ≡ from_be_after a l * 256 + b
from_be_snoc a b [] = refl
from_be_snoc a b (x ∷ l) = from_be_snoc (a * 256 + x) b l

pub from_to : (n x : ℕ) → x < 256 ^ n → from_be (to_be n x) ≡ x
from_to zero x h = omega arith
from_to (suc n) x h = from_be_snoc 0 (x % 256) (to_be n (x / 256)) ∙ ap (λ (k : ℕ). k * 256 + x % 256) (from_to n (x / 256) (less n x h)) ∙ omega arith

from_be_shift : (a : ℕ) (l : List ℕ) → from_be_after a l ≡ a * 256 ^ length l + from_be l
from_be_shift a [] = omega arith
from_be_shift a (b ∷ l) =
    let P = 256 ^ length l in
    let p : 256 ^ suc (length l) ≡ P * 256 = pow-suc 256 (length l) in
    let u : (a * 256 + b) * P ≡ a * 256 * P + b * P = add-mul (a * 256) b P in
    let v : a * 256 * P ≡ a * 256 ^ suc (length l) = mul_assoc a 256 P ∙ ap (λ (k : ℕ). a * k) (mul_comm 256 P ∙ sym p) in
    let w : from_be (b ∷ l) ≡ b * P + from_be l = ap (λ (k : ℕ). from_be_after k l) (omega arith) ∙ from_be_shift b l in
    from_be_shift (a * 256 + b) l ∙ omega arith

-- the first byte is the highest
pub from_be_cons : (b : ℕ) (l : List ℕ) → from_be (b ∷ l) ≡ b * 256 ^ length l + from_be l
from_be_cons b l = ap (λ (k : ℕ). from_be_after k l) (omega arith) ∙ from_be_shift b l

pub from_be_less : (l : List ℕ) → Bytes l → from_be l < 256 ^ length l
from_be_less [] h = lit< tt
from_be_less (b ∷ l) h =
    let P = 256 ^ length l in
    let p : 256 ^ suc (length l) ≡ P * 256 = pow-suc 256 (length l) in
    let u : b * P ≤ 255 * P = mul-le-mul_right P (omega arith) in
    omega (arith, from_be_cons b l, from_be_less l h.1)

pub to_from : (l : List ℕ) → Bytes l → to_be (length l) (from_be l) ≡ l
to_from [] h = refl
to_from (b ∷ l) h =
    let e : b % 256 ≡ b = mod-eq_of_lt h.0 in
    ap₂ to_be (sym (one-add (length l))) (from_be_cons b l) ∙ to_be_append 1 (length l) b (from_be l) (from_be_less l h.1) ∙ rw (e, to_from l h.1)

xored_snoc : (l r : List ℕ) (a b : ℕ) → length l ≡ length r → xored (l ++ (a ∷ [])) (r ++ (b ∷ [])) ≡ xored l r ++ (bit_xor a b ∷ [])
xored_snoc [] [] a b e = refl
xored_snoc [] (y ∷ r) a b e = absurd (omega arith)
xored_snoc (x ∷ l) [] a b e = absurd (omega arith)
xored_snoc (x ∷ l) (y ∷ r) a b e = ap (λ (t : List ℕ). bit_xor x y ∷ t) (xored_snoc l r a b (omega arith))

pub to_be_xor : (n x y : ℕ) → to_be n (bit_xor x y) ≡ xored (to_be n x) (to_be n y)
to_be_xor zero x y = refl
to_be_xor (suc n) x y =
    ap₂ (λ (l : List ℕ) (b : ℕ). l ++ (b ∷ [])) (ap (to_be n) (xor_shr x y 8) ∙ to_be_xor n (x / 256) (y / 256)) (xor_mod x y 8)
    ∙ sym (xored_snoc (to_be n (x / 256)) (to_be n (y / 256)) _ _ (length-to_be n (x / 256) ∙ sym (length-to_be n (y / 256))))

pos : (n : ℕ) → 0 < 256 ^ n
pos zero = lit< tt
pos (suc n) = let p : 256 ^ suc n ≡ 256 ^ n * 256 = pow-suc 256 n in omega (arith, pos n)

-- a number from its high and its low bytes
split : (n x : ℕ) → x / 256 ^ n * 256 ^ n + x % 256 ^ n ≡ x
split n x = div-add-mod' x (256 ^ n)

to_be_mod : (n x : ℕ) → to_be n (x % 256 ^ n) ≡ to_be n x
to_be_mod n x = sym (to_be_append 0 n (x / 256 ^ n) (x % 256 ^ n) (mod-lt x (pos n))) ∙ ap₂ to_be (zero-add n) (split n x)

-- the two byte orders are one
pub network_is : (n x : ℕ) → network n x ≡ to_be n x
network_is zero x = refl
network_is (suc n) x =
    ap (λ (r : List ℕ). x / 256 ^ n % 256 ∷ r) (network_is n x ∙ sym (to_be_mod n x))
    ∙ sym (to_be_append 1 n (x / 256 ^ n) (x % 256 ^ n) (mod-lt x (pos n))) ∙ ap₂ to_be (one-add n) (split n x)

-- the library's bytes are these too
library_bytes_are : (n x : ℕ) → bytes_high_first n x ≡ network n x
library_bytes_are zero x = refl
library_bytes_are (suc zero) x = let e : x ≡ x / 1 = omega arith in ap (λ (y : ℕ). y % 256 ∷ []) e
library_bytes_are (suc (suc n)) x = ap (λ (r : List ℕ). x / 256 ^ suc n % 256 ∷ r) (library_bytes_are (suc n) x)

pub library_bytes : (n x : ℕ) → bytes_high_first n x ≡ to_be n x
library_bytes n x = library_bytes_are n x ∙ network_is n x
