-- Words as bytes, one more word at a turn, with zeros behind them; and where the words fill the place, they alone (`whole`).
use Rattle.std.proofs.Common.{◌≡◌, ℕ, ◌+◌, ◌-◌, ◌*◌, ◌/◌, ◌<◌, ◌≤◌, List, [], ◌∷◌, ◌++◌, length, get_or, take, drop, replicate, ap, ap₂, ◌∙◌, sym, refl, arith, add-one, take_all, drop-drop}
use mathlib.Core.List.{flat_map}
use lib.ListN.{take-append-drop, length-take, length-append}
use lib.Seq.{take-suc, take_at}
use borrow.Rule.Slice.PartMut.{put_mid}
use Rattle.std.proofs.lemmas.List.{flat_map_more, drop-replicate}
use Rattle.std.proofs.lemmas.Slice.{take-put_mid, drop-put_mid}
use Rattle.digest.specs.Bytes.{Order, big, little, bytes}
use Rattle.digest.specs.Running.{filled}
use Rattle.digest.proofs.Fill.{onto, filled_onto}

pub none : (f : ℕ → List ℕ) → [] ≡ flat_map f []
unfolding flat_map
none f = refl

pub more : (f : ℕ → List ℕ) (words places new : List ℕ) (i k : ℕ) → i < length words → 4 * i + 4 ≤ length places → length new ≡ 4
    → new ≡ f (get_or words i 0) → take (4 * i) places ≡ flat_map f (take i words)
    → take (4 * (i + 1)) (put_mid (4 * i) k places new) ≡ flat_map f (take (i + 1) words)
unfolding flat_map
more f words places new i k h room four e inv =
    take-put_mid (4 * i) k places new (4 * (i + 1)) (omega arith) (omega arith)
    ∙ ap₂ ◌++◌ inv e ∙ flat_map_more f [] (take i words) (get_or words i 0) ∙ ap (flat_map f) (rw add-one (sym (take-suc words i 0 h)))

-- what is behind the word stays zeros
pub behind : (n : ℕ) (places new : List ℕ) (i k : ℕ) → 4 * i + 4 ≤ length places → length new ≡ 4 → k ≡ 4
    → drop (4 * i) places ≡ replicate (n - 4 * i) 0 → drop (4 * (i + 1)) (put_mid (4 * i) k places new) ≡ replicate (n - 4 * (i + 1)) 0
behind n places new i k room four e inv =
    let at : 4 * i + 4 ≡ 4 * (i + 1) = omega arith in
    let left : n - 4 * i - 4 ≡ n - 4 * (i + 1) = omega arith in
    drop-put_mid (4 * i) k places new (4 * (i + 1)) (omega arith) (omega arith) (omega arith)
    ∙ sym (drop-drop 4 (4 * i) places ∙ ap (λ (j : ℕ). drop j places) at)
    ∙ ap (drop 4) inv ∙ drop-replicate {X = ℕ} 4 (n - 4 * i) 0 ∙ ap (λ (j : ℕ). replicate j 0) left

-- what stands before the zeros is what the place is filled with
pub all : (n k : ℕ) (places front : List ℕ) → length places ≡ n → k ≤ n → take k places ≡ front → drop k places ≡ replicate (n - k) 0
    → places ≡ filled n front
all n k places front l le e z =
    let m : length front ≡ k = rw (← e, length-take) (omega arith) in
    sym (take-append-drop k places) ∙ ap₂ ◌++◌ e (z ∙ ap (λ (j : ℕ). replicate (n - j) 0) (sym m))
    ∙ sym (filled_onto n front ∙ ap (onto n) (take_all n front (omega arith)))

length_four : (o : Order) (x : ℕ) → length (bytes o 4 x) ≡ 4
length_four big x = refl
length_four little x = refl

length_words : (o : Order) (words : List ℕ) → length (flat_map (bytes o 4) words) ≡ 4 * length words
unfolding flat_map
length_words o [] = refl
length_words o (x ∷ xs) = length-append (bytes o 4 x) (flat_map (bytes o 4) xs) ∙ ap₂ ◌+◌ (length_four o x) (length_words o xs) ∙ omega arith

pub whole : (o : Order) (words : List ℕ) (n : ℕ) → n ≡ 4 * length words
    → filled n (flat_map (bytes o 4) (take (n / 4) words)) ≡ flat_map (bytes o 4) words
whole o words n e =
    ap (λ (x : List ℕ). filled n (flat_map (bytes o 4) x)) (take_all (n / 4) words (omega arith))
    ∙ take_at (flat_map (bytes o 4) words) (replicate n 0) n (length_words o words ∙ sym e)
