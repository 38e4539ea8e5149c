-- One byte more of a row: the ranges that `following` lists against the text from a place on, a range and a byte at a time.
use mathlib.Core.Path.{◌≡◌, refl, sym, ap, ap₂, ◌∙◌}
use mathlib.Core.Bool.{Bool, false, cond, ◌&&◌, and-false}
use mathlib.Core.List.{List, [], ◌∷◌}
use Prim.Native.Nat.{ℕ, zero, suc, ◌+◌, ◌-◌, ◌≤◌, ◌<◌}
use native.Mathlib.Nat.{zero-add, sub-zero}
use native.Mathlib.Omega.{arith}
use lib.ListN.{length, drop, get_or, drop_of_length-le}
use lib.Seq.{drop-cons}
use lib.Dec.{leb}
use borrow.Author.Tests.{lt-leb, le-leb, eq-eqb, ne_eqb}
use Rattle.stun_text.specs.Utf8.{Range, ◌‥◌, within, agree}
use Rattle.std.specs.Prelude.{Ok, Err}
use Rattle.stun_text.specs.Following.{following, followed}

-- the row's first k ranges agree, and n bytes of the rest do
pub stops : (a k n more : ℕ) → a ≡ k + n → n ≡ 0 → k < more → Err (k + 1) ≡ followed more a
stops a k n more e z h = let f : k + 1 ≡ suc a = omega arith in rw (ne_eqb a more (omega arith)) (ap Err f)

pub ends : (a k n more : ℕ) → a ≡ k + n → n ≡ 0 → k ≡ more → Ok (more + 1) ≡ followed more a
ends a k n more e z h = let f : more + 1 ≡ suc a = omega arith in rw (eq-eqb a more (omega arith)) (ap Ok f)

agree_nil : (row : List Range) → agree row [] ≡ 0
agree_nil [] = refl
agree_nil (r ∷ row) = refl

-- the text ends
pub past : (row : List Range) (s : List ℕ) (i : ℕ) → length s ≤ i → agree row (drop i s) ≡ 0
past row s i h = ap (agree row) (drop_of_length-le s h) ∙ agree_nil row

-- the byte is below the range, or above it
outside_first : (n lo hi b : ℕ) (l : List ℕ) → within (lo ‥ hi) b ≡ false → agree (following n lo hi) (b ∷ l) ≡ 0
outside_first zero lo hi b l e = refl
outside_first (suc n) lo hi b l e = ap (λ (t : Bool). cond t (suc (agree (following n 0x80 0xBF) l)) 0) e

module _ (n lo hi : ℕ) (s : List ℕ) (i : ℕ) (h : i < length s) where
  pub below : get_or s i 0 < lo → agree (following n lo hi) (drop i s) ≡ 0
  below k = ap (agree (following n lo hi)) (drop-cons s i 0 h) ∙ outside_first n lo hi (get_or s i 0) _ (ap (λ (t : Bool). t && leb (get_or s i 0) hi) (lt-leb lo (get_or s i 0) k))

  pub above : hi < get_or s i 0 → agree (following n lo hi) (drop i s) ≡ 0
  above k =
      ap (agree (following n lo hi)) (drop-cons s i 0 h)
      ∙ outside_first n lo hi (get_or s i 0) _ (ap (λ (t : Bool). leb lo (get_or s i 0) && t) (lt-leb (get_or s i 0) hi k) ∙ and-false (leb lo (get_or s i 0)))

-- the byte is in the range, and the next ones are to be in theirs
inside_first : (n m lo hi b : ℕ) (l : List ℕ) → n ≡ suc m → lo ≤ b → b ≤ hi → agree (following n lo hi) (b ∷ l) ≡ suc (agree (following m 0x80 0xBF) l)
inside_first n m lo hi b l e h k =
    ap (λ (j : ℕ). agree (following j lo hi) (b ∷ l)) e
    ∙ ap (λ (t : Bool). cond t (suc (agree (following m 0x80 0xBF) l)) 0) (ap₂ (λ (p q : Bool). p && q) (le-leb lo b h) (le-leb b hi k))

pub inside : (a more k lo hi : ℕ) (s : List ℕ) → a ≡ k + agree (following (more - k) lo hi) (drop k s) → k < more → k < length s
    → lo ≤ get_or s k 0 → get_or s k 0 ≤ hi → a ≡ (k + 1) + agree (following (more - (k + 1)) 0x80 0xBF) (drop (k + 1) s)
inside a more k lo hi s e h r p q =
    let i : suc k ≡ k + 1 = omega arith in
    let d : drop (suc k) s ≡ drop (k + 1) s = ap (λ (j : ℕ). drop j s) i in
    let f : agree (following (more - k) lo hi) (drop k s) ≡ suc (agree (following (more - (k + 1)) 0x80 0xBF) (drop (k + 1) s)) =
    ap (agree (following (more - k) lo hi)) (drop-cons s k 0 r)
    ∙ inside_first (more - k) (more - (k + 1)) lo hi (get_or s k 0) _ (omega arith) p q
    ∙ ap (λ (l : List ℕ). suc (agree (following (more - (k + 1)) 0x80 0xBF) l)) d in
    omega arith

-- at the start no range has been passed
pub starts : (more low high : ℕ) (s : List ℕ) → agree (following more low high) s ≡ 0 + agree (following (more - 0) low high) s
starts more low high s =
    sym (ap (λ (n : ℕ). 0 + agree (following n low high) s) (sub-zero more) ∙ zero-add (agree (following more low high) s))

-- at the end none is left
pub none_left : (n lo hi : ℕ) (l : List ℕ) → n ≡ 0 → agree (following n lo hi) l ≡ 0
none_left n lo hi l e = ap (λ (j : ℕ). agree (following j lo hi) l) e
