-- The words of a block's schedule, one more at a turn: the first t of the array are the definition's first t.
use Rattle.std.proofs.Common.{◌≡◌, ℕ, suc, ◌+◌, ◌-◌, ◌*◌, ◌<◌, ◌≤◌, List, [], ◌∷◌, ◌++◌, length, get_or, take, drop, set, sym, ap, ◌∙◌, add-one, arith, get_or-take, take-suc-set}
use lib.Bits.{bit_xor}
use Rattle.digest.specs.Word.{rotl}
use Rattle.digest.specs.Bytes.{number, big}
use Rattle.sha1_digest.specs.Rfc3174.{first, more, W}

module _ (m w : List ℕ) (t v : ℕ) (room : t < length w) where
  taken : (l : List ℕ) → take t w ≡ l → take (t + 1) (set w t v) ≡ l ++ (v ∷ [])
  taken l e = rw add-one (take-suc-set w t v room ∙ ap (λ (x : List ℕ). x ++ (v ∷ [])) e)

  pub first_next : take t w ≡ first m t → v ≡ number big (take 4 (drop (4 * t) m)) → take (t + 1) (set w t v) ≡ first m (t + 1)
  first_next e p = taken (first m t) e ∙ rw (add-one, p)

  -- the words that the next one is made of stand in the array
  back : (k : ℕ) → 0 < k → 16 ≤ t → take t w ≡ more m (t - 16) → get_or w (t - k) 0 ≡ get_or (more m (t - 16)) (16 + (t - 16) - k) 0
  back k pos ge e =
      let n : 16 + (t - 16) ≡ t = omega arith in
      rw (n, ← e) (sym (get_or-take t w (t - k) 0 (omega arith)))

  pub more_next : 16 ≤ t → take t w ≡ more m (t - 16)
      → v ≡ rotl 1 (bit_xor (bit_xor (bit_xor (get_or w (t - 3) 0) (get_or w (t - 8) 0)) (get_or w (t - 14) 0)) (get_or w (t - 16) 0))
      → take (t + 1) (set w t v) ≡ more m (t + 1 - 16)
  more_next ge e p =
      let n : t + 1 - 16 ≡ suc (t - 16) = omega arith in
      let q : v ≡ W (more m (t - 16)) (16 + (t - 16)) =
      p ∙ rw (back 3 (omega arith) ge e, back 8 (omega arith) ge e, back 14 (omega arith) ge e, back 16 (omega arith) ge e) in
      taken (more m (t - 16)) e ∙ rw (n, q)
