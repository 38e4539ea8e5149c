-- A text laid into its room, zeros after it: what the copying has done, and that such a text is tidy.
use mathlib.Core.Path.{◌≡◌, refl, sym, ap, ◌∙◌}
use mathlib.Core.List.{List, ◌∷◌, ◌++◌}
use Prim.Native.Nat.{ℕ, zero, suc, ◌+◌, ◌-◌, ◌≤◌}
use native.Mathlib.Nat.{not-suc-le-zero, le_of_suc-le-suc, sub-zero, suc-sub-suc, zero-sub}
use native.Mathlib.Omega.{arith}
use lib.ListN.{length, take, drop, replicate}
use lib.Seq.{take-append-add, drop-append_seam}
use Rattle.stun_text.specs.Lossy.{text_of}
use Rattle.turn_state.specs.View.{TidyText}

module _ {A : Type 0} (a : A) where
  pub take_replicate : (k n : ℕ) → k ≤ n → take k (replicate n a) ≡ replicate k a
  take_replicate zero n h = refl
  take_replicate (suc k) zero h = absurd (not-suc-le-zero h)
  take_replicate (suc k) (suc n) h = ap {B = List A} (λ l. a ∷ l) (take_replicate k n (le_of_suc-le-suc h))

  pub drop_replicate : (k n : ℕ) → drop k (replicate n a) ≡ replicate (n - k) a
  drop_replicate zero n = ap (λ (m : ℕ). replicate m a) (sym (sub-zero n))
  drop_replicate (suc k) zero = ap (λ (m : ℕ). replicate m a) (sym (zero-sub (suc k)))
  drop_replicate (suc k) (suc n) = drop_replicate k n ∙ ap (λ (m : ℕ). replicate m a) (sym (suc-sub-suc n k))

-- a text with zeros up to n
padded : (n : ℕ) (l : List ℕ) → length l ≤ n → take n (l ++ replicate n 0) ≡ l ++ replicate (n - length l) 0
padded n l h =
    let e : n ≡ length l + (n - length l) = omega arith in
    ap (λ (k : ℕ). take k (l ++ replicate n 0)) e
    ∙ take-append-add l (replicate n 0) (n - length l)
    ∙ ap (λ (r : List ℕ). l ++ r) (take_replicate 0 (n - length l) n (omega arith))

zeros_after : (n : ℕ) (l : List ℕ) → length l ≤ n → drop (length l) (take n (l ++ replicate n 0)) ≡ replicate (n - length l) 0
zeros_after n l h = ap (drop (length l)) (padded n l h) ∙ drop-append_seam l (replicate (n - length l) 0)

pub text_tidy : (l : List ℕ) → length l ≤ 763 → TidyText (text_of l)
text_tidy l h = record { fits = h; zeros = zeros_after 763 l h }

-- n zeros, over which a text has been laid
pub laid : (n : ℕ) (l : List ℕ) → length l ≤ n → l ++ drop (length l) (replicate n 0) ≡ take n (l ++ replicate n 0)
laid n l h = ap (λ (r : List ℕ). l ++ r) (drop_replicate 0 (length l) n) ∙ sym (padded n l h)
