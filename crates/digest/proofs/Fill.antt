-- A block that fills up from the front: `onto n p` is p with zeros up to n, and one more byte lands right after p.
use mathlib.Core.Path.{◌≡◌, refl, sym, ap, ◌∙◌}
use Prim.Native.Nat.{ℕ, zero, suc, ◌+◌, ◌-◌, ◌≤◌, ◌<◌, min}
use native.Mathlib.Nat.{suc-sub-suc, sub-zero}
use native.Mathlib.Numerals.{add-one}
use native.Mathlib.Omega.{arith}
use mathlib.Core.List.{List, [], ◌∷◌, ◌++◌, append_assoc, append-nil}
use lib.ListN.{length, take, drop, drop_of_length-le, set, replicate, get_or, length-append, length-take}
use lib.Seq.{set_at, take-append-add, append_snoc, take-suc, take_at, drop_at}
use borrow.Rule.Slice.PartMut.{put_mid}
use lib.Seq.{drop-drop}
use Rattle.std.proofs.lemmas.List.{drop-replicate, take-replicate, take_min}
use Rattle.digest.specs.Running.{filled}

abbrev pub onto : ℕ → List ℕ → List ℕ
onto n p = p ++ replicate (n - length p) 0

-- one zero is taken off the front
zeros_suc : {k j : ℕ} → k ≡ suc j → replicate {A = ℕ} k 0 ≡ 0 ∷ replicate j 0
zeros_suc e = ap (λ (n : ℕ). replicate n 0) e

pub onto_more : (n : ℕ) (p : List ℕ) (v : ℕ) → length p < n → set (onto n p) (length p) v ≡ onto n (p ++ (v ∷ []))
onto_more n p v h =
    let k : n - length p ≡ suc (n - suc (length p)) = omega arith in
    let l : n - length (p ++ (v ∷ [])) ≡ n - suc (length p) = simp length-append (omega arith) in
    rw (zeros_suc k, set_at p 0 (replicate (n - suc (length p)) 0) v (length p) refl, l) (sym (append_snoc p v _))

-- the next byte of q lands behind p and the first i bytes of q
pub onto_next : (n : ℕ) (p q : List ℕ) (i k : ℕ) → k ≡ length p + i → i < length q → k < n → set (onto n (p ++ take i q)) k (get_or q i 0) ≡ onto n (p ++ take (i + 1) q)
onto_next n p q i k e h room =
    let l : k ≡ length (p ++ take i q) = simp (length-append, length-take) (omega arith) in
    let t : (p ++ take i q) ++ (get_or q i 0 ∷ []) ≡ p ++ take (i + 1) q = rw (add-one, take-suc q i 0 h) (append_assoc p (take i q) _) in
    ap (λ (k : ℕ). set (onto n (p ++ take i q)) k (get_or q i 0)) l ∙ onto_more n (p ++ take i q) (get_or q i 0) (omega arith) ∙ ap (onto n) t

pub take-onto : (n k : ℕ) (xs : List ℕ) → n ≤ length xs + k → take n (xs ++ replicate k 0) ≡ onto n (take n xs)
take-onto zero k xs h = refl
take-onto (suc n) k [] h = rw sub-zero (take-replicate (suc n) k 0 (omega arith))
take-onto (suc n) k (x ∷ xs) h = rw suc-sub-suc (ap {B = List ℕ} (λ l. x ∷ l) (take-onto n k xs (omega arith)))

pub filled_onto : (n : ℕ) (xs : List ℕ) → filled n xs ≡ onto n (take n xs)
filled_onto n xs = take-onto n n xs (omega arith)

-- what stands in a block of n after p and the part of q that fits
pub filled_append : (n : ℕ) (p q : List ℕ) → length p ≤ n → filled n (p ++ q) ≡ onto n (p ++ take (min (n - length p) (length q)) q)
filled_append n p q h =
    let e : n ≡ length p + (n - length p) = omega arith in
    filled_onto n (p ++ q)
    ∙ ap (onto n) (ap (λ (k : ℕ). take k (p ++ q)) e ∙ take-append-add p q (n - length p) ∙ ap (λ (l : List ℕ). p ++ l) (sym (take_min (n - length p) q)))

-- the two copies, of `from` bytes and of n bytes, lay what was to be laid
pub laid_end : (before part : List ℕ) (at from n : ℕ) → length before ≡ 64 → from ≡ min at 64 → n ≡ min (64 - from) (length part)
    → onto 64 (take from before ++ take n part) ≡ filled 64 (take at before ++ part)
laid_end before part at from n h f e =
    let m : from ≡ min at (length before) = omega arith in
    let same : take from before ≡ take at before = ap (λ (k : ℕ). take k before) m ∙ take_min at before in
    let l : length (take at before) ≡ from = simp length-take (omega arith) in
    let e' : n ≡ min (64 - length (take at before)) (length part) = rw l e in
    rw (same, e') (sym (filled_append 64 (take at before) part (omega arith)))

-- the same where the second copy is a write to a part of a block whose front is the first
pub laid_by : (before part zeros front behind : List ℕ) (at from n k : ℕ) → length before ≡ 64 → zeros ≡ replicate 64 0 → from ≡ min at 64
    → n ≡ min (length part) (64 - from) → k ≡ n → front ≡ take from before → behind ≡ take n part
    → put_mid from k (front ++ drop from zeros) behind ≡ filled 64 (take at before ++ part)
laid_by before part zeros front behind at from n k h z f e m p q =
    let l : length front ≡ from = rw (p, length-take) (omega arith) in
    let r : length behind ≡ n = rw (q, length-take) (omega arith) in
    let s : 64 - from - k ≡ 64 - length (front ++ behind) = simp length-append (omega arith) in
    let rest : drop k (drop from zeros) ≡ replicate (64 - length (front ++ behind)) 0 =
    rw (z, drop-replicate {X = ℕ} from 64 0, drop-replicate {X = ℕ} k (64 - from) 0, s) in
    rw (take_at front (drop from zeros) from l, drop_at front (drop from zeros) from l, rest)
    (sym (append_assoc front behind _) ∙ rw (p, q) (laid_end before part at from n h f (omega arith)))

-- the length is written at the end of a last block
pub put_length : (block new size : List ℕ) → length block ≡ 64 → new ≡ size → put_mid 56 8 block new ≡ take 56 block ++ size
put_length block new size h e =
    let rest : drop 8 (drop 56 block) ≡ [] = drop-drop 8 56 block ∙ drop_of_length-le block {i = 64} (omega arith) in
    rw (rest, e) (ap (λ (x : List ℕ). take 56 block ++ x) (append-nil size))
