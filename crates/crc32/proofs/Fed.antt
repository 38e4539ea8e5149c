-- A register that is fed a message: a part behind a part, a byte before the rest, four bytes before the rest, and nothing after the end.
-- Assumes nothing.
use mathlib.Core.Path.{◌≡◌, refl, sym, ap, ◌∙◌}
use mathlib.Core.List.{List, [], ◌∷◌, ◌++◌}
use Prim.Native.Nat.{ℕ, zero, suc, ◌+◌, ◌*◌, ◌≤◌, ◌<◌}
use native.Mathlib.Nat.{zero-mul, le_of_suc-le-suc, not-suc-le-zero}
use native.Mathlib.Numerals.{add-one}
use native.Mathlib.Omega.{arith}
use lib.ListN.{length, get_or, take, drop, drop_of_length-le, take-append-drop}
use lib.Seq.{drop-cons, drop-drop}
use Rattle.std.specs.Simd.{first_chunks}
use Rattle.crc32.specs.Register.{with_bits, fed}

-- the register r after the byte at i of s, which is before the one at j
pub fed_next : (s : List ℕ) (c r i j : ℕ) → i < length s → j ≡ i + 1 → r ≡ with_bits 8 c (get_or s i 0) → fed r (drop j s) ≡ fed c (drop i s)
unfolding fed
fed_next s c r i j h e f = rw (f, e, add-one, drop-cons s i 0)

pub fed_end : (s : List ℕ) (c i : ℕ) → length s ≤ i → fed c (drop i s) ≡ c
unfolding fed
fed_end s c i h = rw (drop_of_length-le s h)

pub fed_append : (c : ℕ) (a b : List ℕ) → fed c (a ++ b) ≡ fed (fed c a) b
unfolding fed
fed_append c [] b = refl
fed_append c (x ∷ a) b = fed_append (with_bits 8 c x) a b

chunk_at : (n k : ℕ) (s : List ℕ) (i : ℕ) → i < k → get_or (first_chunks n k s) i [] ≡ take n (drop (i * n) s)
chunk_at n zero s i h = absurd (not-suc-le-zero h)
chunk_at n (suc k) s zero h = rw zero-mul
chunk_at n (suc k) s (suc i) h =
    let e : n + i * n ≡ suc i * n = omega arith in
    chunk_at n k (drop n s) i (le_of_suc-le-suc h) ∙ ap (take n) (drop-drop (i * n) n s ∙ ap (λ (j : ℕ). drop j s) e)

-- the four bytes at 4 * i of s are before those at 4 * (i + 1)
pub fed_four : (s : List ℕ) (fours : List (List ℕ)) (k c c' i : ℕ) → fours ≡ first_chunks 4 k s → i < k → c' ≡ fed c (get_or fours i [])
    → fed c' (drop ((i + 1) * 4) s) ≡ fed c (drop (i * 4) s)
fed_four s fours k c c' i e h p =
    let m : i * 4 + 4 ≡ (i + 1) * 4 = omega arith in
    let rest : drop 4 (drop (i * 4) s) ≡ drop ((i + 1) * 4) s = drop-drop 4 (i * 4) s ∙ ap (λ (j : ℕ). drop j s) m in
    rw (p, e, chunk_at 4 k s i h, ← rest)
    (sym (fed_append c (take 4 (drop (i * 4) s)) (drop 4 (drop (i * 4) s))) ∙ ap (fed c) (take-append-drop 4 (drop (i * 4) s)))
