-- A message in parts has the digest of the whole: `fed_run`, `finished_run`. Blocks are taken off the front one by one
-- (`absorbed_long`, `left_long`), so what a part leaves over stands before the next part (`absorbed_append`, `left_append`).
use mathlib.Core.Path.{◌≡◌, refl, sym, ap, ◌∙◌}
use Prim.Native.Nat.{ℕ, zero, suc, ◌*◌, ◌/◌, ◌%◌, ◌^◌, ◌≤◌, ◌<◌}
use native.Mathlib.Nat.{div-eq_of_lt, div-eq-sub-div, div-lt_iff_lt-mul, le-div_iff_mul-le, zero-mul, suc-mul, add_comm, one-mul, zero-mod, zero-add, mod-add-mod, mod-eq-sub-div-mul, mod-lt}
use native.Mathlib.Numerals.{add-one}
use native.Mathlib.Omega.{arith}
use mathlib.Core.List.{List, [], ◌++◌, append_assoc}
use lib.ListN.{length, take, drop, length-append, length-drop}
use lib.Seq.{drop-drop, take-append-le, drop-append-le, take-take, take_at}
use Rattle.digest.specs.Digest.{Digest, padding, absorbed, result, digest}
use Rattle.digest.specs.Running.{Running, filled, left, held, fresh, fed, finished, run}

pub same_running : {w w' : List ℕ} {n n' : ℕ} {t t' : List ℕ} → w ≡ w' → n ≡ n' → t ≡ t'
    → ◌≡◌ {A = Running} (record { words = w; count = n; tail = t }) (record { words = w'; count = n'; tail = t' })
same_running p q r = λ i. record { words = p i; count = q i; tail = r i }

module _ (d : Digest) (pos : 0 < d.block) where
  -- one block more than what is left without it
  more : (m : List ℕ) → d.block ≤ length m → length m / d.block ≡ suc (length (drop d.block m) / d.block)
  more m h = div-eq-sub-div pos h ∙ add-one _ ∙ ap (λ (n : ℕ). suc (n / d.block)) (sym (length-drop d.block m))

  pub absorbed_short : (h m : List ℕ) → length m < d.block → absorbed d h m ≡ h
  unfolding absorbed
  absorbed_short h m lt = rw (div-eq_of_lt lt)

  pub left_short : (m : List ℕ) → length m < d.block → left d m ≡ m
  unfolding left
  left_short m lt = rw (div-eq_of_lt lt, zero-mul)

  pub absorbed_long : (h m : List ℕ) → d.block ≤ length m → absorbed d h m ≡ absorbed d (d.step h (take d.block m)) (drop d.block m)
  unfolding absorbed
  absorbed_long h m le = rw (more m le)

  pub left_long : (m : List ℕ) → d.block ≤ length m → left d m ≡ left d (drop d.block m)
  unfolding left
  left_long m le = rw (more m le, suc-mul, add_comm) (sym (drop-drop _ d.block m))

  pub length-left : (m : List ℕ) → length (left d m) ≡ length m % d.block
  unfolding left
  length-left m = length-drop _ m ∙ sym (mod-eq-sub-div-mul (length m) d.block)

  -- fewer than n blocks are left of m without its first
  fewer : {n : ℕ} (m : List ℕ) → d.block ≤ length m → length m / d.block ≡ suc n → length (drop d.block m) / d.block ≡ n
  fewer m h e = let e' : suc (length (drop d.block m) / d.block) ≡ suc _ = sym (more m h) ∙ e in omega arith

  short : (m : List ℕ) → length m / d.block ≡ 0 → length m < d.block
  short m e = let h : length m / d.block < 1 = omega arith in rw one-mul at ((div-lt_iff_lt-mul pos).0 h)

  long : {n : ℕ} (m : List ℕ) → length m / d.block ≡ suc n → d.block ≤ length m
  long m e = let h : 1 ≤ length m / d.block = omega arith in rw one-mul at ((le-div_iff_mul-le pos).0 h)

  absorbed_append_n : (n : ℕ) (h m q : List ℕ) → length m / d.block ≡ n → absorbed d h (m ++ q) ≡ absorbed d (absorbed d h m) (left d m ++ q)
  absorbed_append_n zero h m q e = rw (absorbed_short h m (short m e), left_short m (short m e))
  absorbed_append_n (suc n) h m q e =
      let le : d.block ≤ length m = long m e in
      let le' : d.block ≤ length (m ++ q) = rw length-append (omega arith) in
      rw (absorbed_long h (m ++ q) le', take-append-le d.block m q le, drop-append-le d.block m q le, absorbed_long h m le, left_long m le)
      (absorbed_append_n n _ (drop d.block m) q (fewer m le e))

  left_append_n : (n : ℕ) (m q : List ℕ) → length m / d.block ≡ n → left d (m ++ q) ≡ left d (left d m ++ q)
  left_append_n zero m q e = rw (left_short m (short m e))
  left_append_n (suc n) m q e =
      let le : d.block ≤ length m = long m e in
      let le' : d.block ≤ length (m ++ q) = rw length-append (omega arith) in
      rw (left_long (m ++ q) le', drop-append-le d.block m q le, left_long m le) (left_append_n n (drop d.block m) q (fewer m le e))

  pub absorbed_append : (h m q : List ℕ) → absorbed d h (m ++ q) ≡ absorbed d (absorbed d h m) (left d m ++ q)
  absorbed_append h m q = absorbed_append_n _ h m q refl

  pub left_append : (m q : List ℕ) → left d (m ++ q) ≡ left d (left d m ++ q)
  left_append m q = left_append_n _ m q refl

  -- what is counted modulo 2^64 tells the place in the block
  module _ (whole : (n : ℕ) → n % 2 ^ 64 % d.block ≡ n % d.block) where
    held_fresh : held d (fresh d) ≡ []
    unfolding fresh
    held_fresh = rw zero-mod

    run_is : (m : List ℕ) → run d m ≡ record { words = absorbed d d.start m; count = length m % 2 ^ 64; tail = filled d.block (left d m) }
    unfolding fed fresh
    run_is m =
        same_running (ap (λ (l : List ℕ). absorbed d d.start (l ++ m)) held_fresh) (ap (λ (n : ℕ). n % 2 ^ 64) (zero-add (length m)))
        (ap (λ (l : List ℕ). filled d.block (left d (l ++ m))) held_fresh)

    held_run : (m : List ℕ) → held d (record { words = absorbed d d.start m; count = length m % 2 ^ 64; tail = filled d.block (left d m) }) ≡ left d m
    held_run m =
        rw (whole (length m), ← length-left m)
        (take-take (length (left d m)) d.block _ (omega (arith, length-left m, mod-lt (length m) pos)) ∙ take_at (left d m) _ _ refl)

    pub fed_run : (m part : List ℕ) → fed d (run d m) part ≡ run d (m ++ part)
    unfolding fed
    fed_run m part =
        ap (λ (r : Running). fed d r part) (run_is m)
        ∙ same_running
        (ap (λ (l : List ℕ). absorbed d (absorbed d d.start m) (l ++ part)) (held_run m) ∙ sym (absorbed_append d.start m part))
        (rw length-append (omega arith))
        (ap (λ (l : List ℕ). filled d.block (left d (l ++ part))) (held_run m)
        ∙ ap (filled d.block) (sym (left_append m part)))
        ∙ sym (run_is (m ++ part))

    -- two parts are one
    pub fed_append : (m a b : List ℕ) → fed d (fed d (run d m) a) b ≡ fed d (run d m) (a ++ b)
    fed_append m a b =
        ap (λ (r : Running). fed d r b) (fed_run m a) ∙ fed_run (m ++ a) b ∙ ap (run d) (append_assoc m a b) ∙ sym (fed_run m (a ++ b))

    padding_mod : (n : ℕ) → padding d (n % 2 ^ 64) ≡ padding d n
    unfolding padding
    padding_mod n =
        let e : 8 * (n % 2 ^ 64) % 2 ^ 64 ≡ 8 * n % 2 ^ 64 = omega arith in
        rw (e, ← mod-add-mod (n % 2 ^ 64) d.block 9, whole n, mod-add-mod n d.block 9)

    pub finished_run : (m : List ℕ) → finished d (run d m) ≡ digest d m
    unfolding finished digest
    finished_run m =
        ap (finished d) (run_is m)
        ∙ rw (held_run m, padding_mod (length m)) (ap (result d) (sym (absorbed_append d.start m (padding d (length m)))))

-- a message in one part, over blocks of 64 bytes
pub one_part : (d : Digest) {r r' : Running} {out : List ℕ} (m : List ℕ) → d.block ≡ 64 → r ≡ fresh d → r' ≡ fed d r m → out ≡ finished d r' → out ≡ digest d m
one_part d m is64 e f o =
    o ∙ ap (finished d) (f ∙ ap (λ (r : Running). fed d r m) e) ∙ finished_run d (omega arith) (λ n. rw is64 (omega arith)) m
