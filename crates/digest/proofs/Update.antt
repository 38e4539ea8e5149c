-- One more part, block by block, for a digest over blocks of 64 bytes: a part that fills no block (`fed_short`), one that
-- does (`fed_long`), and in the latter each block that lies in the part itself (`again_block`, `next_left`). `fed_end` is
-- what a loop over slices of the part comes to, and `fed_chunks` what one over its blocks does (`next_chunk`).
use mathlib.Core.Path.{◌≡◌, refl, sym, ap, ap₂, ◌∙◌}
use Prim.Native.Nat.{ℕ, zero, suc, ◌+◌, ◌-◌, ◌*◌, ◌/◌, ◌%◌, ◌^◌, ◌≤◌, ◌<◌}
use native.Mathlib.Nat.{zero-mul, sub-zero, le_of_suc-le-suc, not-suc-le-zero}
use native.Mathlib.Numerals.{add-one}
use native.Mathlib.Omega.{arith}
use mathlib.Core.List.{List, [], ◌++◌, append_assoc}
use lib.ListN.{length, get_or, take, drop, replicate, take-append-drop, length-take, length-drop, length-append}
use lib.Seq.{take_all, take_at, drop_at, drop-drop}
use Rattle.std.specs.Simd.{first_chunks}
use Rattle.digest.specs.Digest.{Digest, blocks, absorbed}
use Rattle.digest.specs.Running.{Running, filled, left, held, fresh, fed}
use Rattle.digest.proofs.Parts.{same_running, absorbed_short, absorbed_long, left_short, left_long}

chunk_at : (n k : ℕ) (s : List ℕ) (i : ℕ) → i < k → get_or (first_chunks n k s) i [] ≡ take n (drop (i * n) s)
chunk_at n zero s i h = absurd (not-suc-le-zero h)
chunk_at n (suc k) s zero h = rw zero-mul
chunk_at n (suc k) s (suc i) h =
    let e : n + i * n ≡ suc i * n = omega arith in
    chunk_at n k (drop n s) i (le_of_suc-le-suc h) ∙ ap (take n) (drop-drop (i * n) n s ∙ ap (λ (j : ℕ). drop j s) e)

module _ (d : Digest) (is64 : d.block ≡ 64) where
  pos : 0 < d.block
  pos = omega arith

  module _ (part : List ℕ) (i : ℕ) where
    pub next_block : (h : List ℕ) → i + 64 ≤ length part → absorbed d h (drop i part) ≡ absorbed d (d.step h (take 64 (drop i part))) (drop (i + 64) part)
    next_block h le =
        absorbed_long d pos h (drop i part) (simp length-drop (omega arith)) ∙ rw (is64, drop-drop 64 i part)

    pub next_left : i + 64 ≤ length part → left d (drop i part) ≡ left d (drop (i + 64) part)
    next_left le = left_long d pos (drop i part) (simp length-drop (omega arith)) ∙ rw (is64, drop-drop 64 i part)

    pub again_block : (h h' : List ℕ) → i + 64 ≤ length part → h' ≡ d.step h (take (i + 64 - i) (drop i part))
        → absorbed d h' (drop (i + 64) part) ≡ absorbed d h (drop i part)
    again_block h h' le e =
        let n : i + 64 - i ≡ 64 = omega arith in
        rw (e, n) (sym (next_block h le))

    pub no_block : (h : List ℕ) → length part < i + 64 → absorbed d h (drop i part) ≡ h
    no_block h lt = absorbed_short d pos h (drop i part) (simp length-drop (omega arith))

    pub no_left : length part < i + 64 → left d (drop i part) ≡ drop i part
    no_left lt = left_short d pos (drop i part) (simp length-drop (omega arith))

  one_more : (n : ℕ) (h m : List ℕ) → blocks d (suc n) h m ≡ d.step (blocks d n h m) (take 64 (drop (n * 64) m))
  one_more zero h m = rw is64
  one_more (suc n) h m =
      let e : d.block + n * 64 ≡ suc n * 64 = omega arith in
      one_more n (d.step h (take d.block m)) (drop d.block m)
      ∙ ap (λ (x : List ℕ). d.step (blocks d (suc n) h m) (take 64 x)) (drop-drop (n * 64) d.block m ∙ ap (λ (j : ℕ). drop j m) e)

  pub next_chunk : (m m' : List ℕ) (chunks : List (List ℕ)) (k i : ℕ) (h₀ h h' : List ℕ) → m' ≡ m → chunks ≡ first_chunks 64 k m' → i < k
      → h ≡ blocks d i h₀ m → h' ≡ d.step h (get_or chunks i []) → h' ≡ blocks d (i + 1) h₀ m
  next_chunk m m' chunks k i h₀ h h' s e lt p q =
      let chunk : get_or chunks i [] ≡ take 64 (drop (i * 64) m) =
      ap (λ (c : List (List ℕ)). get_or c i []) e ∙ chunk_at 64 k m' i lt ∙ ap (λ (x : List ℕ). take 64 (drop (i * 64) x)) s in
      rw add-one (q ∙ ap₂ d.step p chunk ∙ sym (one_more i h₀ m))

  module _ (r : Running) (full : length r.tail ≡ 64) (part : List ℕ) where
    abbrev pub waiting : List ℕ
    waiting = take (r.count % 64) r.tail

    length-waiting : length waiting ≡ r.count % 64
    length-waiting = simp length-take (omega arith)

    held_is : held d r ≡ waiting
    held_is = rw is64

    pub fed_short : length part < 64 - r.count % 64
        → fed d r part ≡ record { words = r.words; count = (r.count + length part) % 2 ^ 64; tail = filled 64 (waiting ++ part) }
    unfolding fed
    fed_short lt =
        let l : length (waiting ++ part) < d.block = simp length-append (omega (arith, length-waiting)) in
        same_running (ap (λ (x : List ℕ). absorbed d r.words (x ++ part)) held_is ∙ absorbed_short d pos r.words (waiting ++ part) l)
        refl
        (ap (λ (x : List ℕ). filled d.block (left d (x ++ part))) held_is ∙ rw (left_short d pos (waiting ++ part) l, is64))

    pub fed_long : 64 - r.count % 64 ≤ length part
        → fed d r part
        ≡ record {
          words = absorbed d (d.step r.words (filled 64 (waiting ++ take (64 - r.count % 64) part))) (drop (64 - r.count % 64) part);
          count = (r.count + length part) % 2 ^ 64;
          tail = filled 64 (left d (drop (64 - r.count % 64) part));
        }
    unfolding fed
    fed_long le =
        let room : ℕ = 64 - r.count % 64 in
        let front : List ℕ = waiting ++ take room part in
        let l : length front ≡ 64 = simp (length-append, length-take) (omega arith) in
        let cut : waiting ++ part ≡ front ++ drop room part =
        ap (λ (x : List ℕ). waiting ++ x) (sym (take-append-drop room part)) ∙ sym (append_assoc waiting _ _) in
        let long : d.block ≤ length (front ++ drop room part) = rw length-append (omega arith) in
        let whole : filled 64 front ≡ front = take_at front (replicate 64 0) 64 l in
        same_running
        (ap (λ (x : List ℕ). absorbed d r.words (x ++ part)) held_is
        ∙ ap (absorbed d r.words) cut
        ∙ absorbed_long d pos r.words (front ++ drop room part) long
        ∙ rw (is64, take_at front (drop room part) 64 l, drop_at front (drop room part) 64 l, whole))
        refl
        (ap (λ (x : List ℕ). filled d.block (left d (x ++ part))) held_is
        ∙ rw (cut, left_long d pos (front ++ drop room part) long, is64, drop_at front (drop room part) 64 l))

    -- the front laid and taken, then block after block up to i, then the rest laid
    pub fed_end : (i count : ℕ) (first words₀ words tail : List ℕ) → 64 - r.count % 64 ≤ length part
        → first ≡ filled 64 (waiting ++ take (64 - r.count % 64 - 0) part) → words₀ ≡ d.step r.words first
        → absorbed d words (drop i part) ≡ absorbed d words₀ (drop (64 - r.count % 64) part)
        → left d (drop i part) ≡ left d (drop (64 - r.count % 64) part) → length part < i + 64
        → count ≡ (r.count + length part) % 2 ^ 64 → tail ≡ filled 64 (take (length part - i) (drop i part))
        → ◌≡◌ {A = Running} (record { words = words; count = count; tail = tail }) (fed d r part)
    fed_end i count first words₀ words tail le f w a b end n t =
        same_running
        (sym (no_block part i words end) ∙ a ∙ rw (w, f, sub-zero))
        n
        (t ∙ ap (filled 64) (take_all (length part - i) (drop i part) (simp length-drop (omega arith)) ∙ sym (no_left part i end) ∙ b))
        ∙ sym (fed_long le)

    -- the code: the front laid and taken, then the blocks of the rest, and what is left of it laid
    pub fed_chunks : (i : ℕ) {count : ℕ} {m first words₀ words rest tail : List ℕ} → 64 - r.count % 64 ≤ length part
        → m ≡ drop (64 - r.count % 64) part
        → first ≡ filled 64 (waiting ++ take (64 - r.count % 64) part) → words₀ ≡ d.step r.words first
        → i ≡ length m / 64 → words ≡ blocks d i words₀ (drop (64 - r.count % 64) part) → rest ≡ drop (length m / 64 * 64) m
        → count ≡ (r.count + length part) % 2 ^ 64 → tail ≡ filled 64 rest
        → ◌≡◌ {A = Running} (record { words = words; count = count; tail = tail }) (fed d r part)
    unfolding absorbed left
    fed_chunks i {count} {m} {first} {words₀} {words} {rest} {tail} le e f w n a b c t =
        let room : ℕ = 64 - r.count % 64 in
        let at : ℕ = room + length m / 64 * 64 in
        let l : length m ≡ length part - room = rw (e, length-drop) in
        let end : length part < at + 64 = omega arith in
        let behind : drop (length m / 64 * 64) m ≡ drop at part =
        ap (drop (length m / 64 * 64)) e ∙ drop-drop (length m / 64 * 64) room part in
        fed_end at count first words₀ words tail le
        (f ∙ rw sub-zero)
        w
        (no_block part at words end ∙ a ∙ rw (n, e, is64))
        (no_left part at end ∙ sym behind ∙ rw (e, is64))
        end
        c
        (t ∙ ap (filled 64) (b ∙ behind ∙ sym (take_all (length part - at) (drop at part) (simp length-drop (omega arith)))))

-- before the first part
pub fresh_is : (d : Digest) {words tail : List ℕ} → d.block ≡ 64 → words ≡ d.start → tail ≡ replicate 64 0
    → ◌≡◌ {A = Running} (record { words = words; count = 0; tail = tail }) (fresh d)
unfolding fresh
fresh_is d is64 w t = same_running w refl (t ∙ rw is64)
