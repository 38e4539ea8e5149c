-- A list of known length, element by element.
use mathlib.Core.Path.{◌≡◌, refl, sym, ap, ◌∙◌}
use Prim.Native.Nat.{ℕ, zero, suc, ◌+◌, ◌≤◌}
use native.Mathlib.Numerals.{towards_suc}
use native.Mathlib.Omega.{arith}
use mathlib.Core.List.{List, [], ◌∷◌}
use lib.ListN.{length, get_or, take, drop, drop_of_length-le}
use lib.Seq.{drop-cons}

-- the n elements from index k on
abbrev pub elements : List ℕ → ℕ → ℕ → List ℕ
elements l k zero = []
elements l k (suc n) = get_or l k 0 ∷ elements l (suc k) n

pub take-elements : (l : List ℕ) (k n : ℕ) → k + n ≤ length l → take n (drop k l) ≡ elements l k n
take-elements l k zero h = refl
take-elements l k (suc n) h =
    rw (drop-cons l k 0 (omega arith)) (ap {B = List ℕ} (λ r. get_or l k 0 ∷ r) (take-elements l (suc k) n (omega arith)))

pub drop-elements : (l : List ℕ) (k n : ℕ) → length l ≡ k + n → drop k l ≡ elements l k n
drop-elements l k zero h = drop_of_length-le l {i = k} (omega arith)
drop-elements l k (suc n) h =
    drop-cons l k 0 (omega arith) ∙ ap {B = List ℕ} (λ r. get_or l k 0 ∷ r) (drop-elements l (suc k) n (omega arith))

pub all_elements : (l : List ℕ) (n : ℕ) → length l ≡ n → l ≡ elements l 0 n
all_elements l n h = drop-elements l 0 n (omega arith)

-- the four bytes of a word, as the code reads them
pub take_four : (l : List ℕ) (k : ℕ) → k + 4 ≤ length l
    → take 4 (drop k l) ≡ get_or l k 0 ∷ get_or l (k + 1) 0 ∷ get_or l (k + 2) 0 ∷ get_or l (k + 3) 0 ∷ []
take_four l k h = take-elements l k 4 h ∙ simp towards_suc
