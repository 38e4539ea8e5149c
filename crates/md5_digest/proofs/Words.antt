-- The words of a block, one by one.
use Rattle.std.proofs.Common.{◌≡◌, ℕ, zero, suc, ◌+◌, ◌*◌, ◌<◌, List, get_or, take, drop, refl, ap, ◌∙◌, le_of_suc-le-suc, not-suc-le-zero, arith, drop-drop}
use Rattle.digest.specs.Bytes.{little, number}
use Rattle.md5_digest.specs.Rfc1321.{words}

pub words_at : (n : ℕ) (m : List ℕ) (i : ℕ) → i < n → get_or (words n m) i 0 ≡ number little (take 4 (drop (4 * i) m))
words_at zero m i h = absurd (not-suc-le-zero h)
words_at (suc n) m zero h = refl
words_at (suc n) m (suc i) h =
    let e : 4 + 4 * i ≡ 4 * suc i = omega arith in
    words_at n (drop 4 m) i (le_of_suc-le-suc h) ∙ ap (λ (l : List ℕ). number little (take 4 l)) (drop-drop (4 * i) 4 m ∙ ap (λ (k : ℕ). drop k m) e)
