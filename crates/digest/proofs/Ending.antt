-- The end of a message over blocks of 64 bytes: with 56 bytes or more in the last block the padding takes a second one.
-- `ending_short` and `ending_long` say the block or the two that are left, `finished_short` and `finished_long` the digest
-- that the code makes of them.
use mathlib.Core.Path.{◌≡◌, refl, sym, ap, ap₂, ◌∙◌}
use Prim.Native.Nat.{ℕ, ◌+◌, ◌-◌, ◌*◌, ◌%◌, ◌^◌, ◌≤◌, ◌<◌}
use native.Mathlib.Omega.{arith}
use mathlib.Core.List.{List, [], ◌∷◌, ◌++◌, append_assoc, append-nil}
use lib.ListN.{length, take, replicate, length-append, length-take, length-replicate, replicate-append-replicate}
use lib.Seq.{take_all, take-take, take_at, drop_at}
use Rattle.digest.specs.Bytes.{Order, big, little, bytes}
use Rattle.digest.specs.Digest.{Digest, padding, absorbed, result}
use Rattle.digest.specs.Running.{Running, filled, finished}
use Rattle.digest.proofs.Fill.{onto, take-onto, filled_onto}
use Rattle.digest.proofs.Parts.{absorbed_short, absorbed_long}

length_eight : (o : Order) (x : ℕ) → length (bytes o 8 x) ≡ 8
length_eight big x = refl
length_eight little x = refl

-- a message of one block, and a first block with more behind it
module _ (d : Digest) (is64 : d.block ≡ 64) (h : List ℕ) where
  pos : 0 < d.block
  pos = omega arith

  first_block : (m q : List ℕ) → length m ≡ 64 → absorbed d h (m ++ q) ≡ absorbed d (d.step h m) q
  first_block m q l =
      absorbed_long d pos h (m ++ q) (simp length-append (omega arith))
      ∙ rw (is64, take_at m q 64 l, drop_at m q 64 l)

  last_one : (m : List ℕ) → length m ≡ 64 → absorbed d h m ≡ d.step h m
  last_one m l = ap (absorbed d h) (sym (append-nil m)) ∙ first_block m [] l ∙ absorbed_short d pos (d.step h m) [] pos

-- a run of zeros is parted
parted : (p q : List ℕ) (a b : ℕ) → p ++ (replicate (a + b) 0 ++ q) ≡ (p ++ replicate a 0) ++ (replicate b 0 ++ q)
parted p q a b = rw (← replicate-append-replicate a b, append_assoc {A = ℕ} (replicate a 0)) (sym (append_assoc p _ _))

-- the bytes that wait, with the bit 1 behind them
abbrev pub marked : List ℕ → List ℕ
marked held = held ++ (0x80 ∷ [])

-- the length behind a message of n bytes
abbrev pub length_field : Digest → ℕ → List ℕ
length_field d n = bytes d.order 8 (8 * n % 2 ^ 64)

module _ (d : Digest) (is64 : d.block ≡ 64) (h held : List ℕ) (n : ℕ) (at : length held ≡ n % 64) where
  pad : (z : ℕ) → (64 - (n + 9) % 64) % 64 ≡ z → held ++ padding d n ≡ marked held ++ (replicate z 0 ++ length_field d n)
  unfolding padding
  pad z e = rw (is64, e) (sym (append_assoc held (0x80 ∷ []) _))

  pub ending_short : n % 64 < 56 → absorbed d h (held ++ padding d n) ≡ d.step h (take 56 (filled 64 (marked held)) ++ length_field d n)
  ending_short lt =
      let l : length (marked held) ≡ n % 64 + 1 = simp length-append (omega arith) in
      let front : take 56 (filled 64 (marked held)) ≡ onto 56 (marked held) =
      take-take 56 64 (marked held ++ replicate 64 0) (omega arith) ∙ take-onto 56 64 (marked held) (omega arith) ∙ ap (onto 56) (take_all 56 (marked held) (omega arith)) in
      let block : held ++ padding d n ≡ onto 56 (marked held) ++ length_field d n =
      pad (56 - length (marked held)) (omega arith) ∙ sym (append_assoc (marked held) _ _) in
      ap (absorbed d h) block
      ∙ last_one d is64 h (onto 56 (marked held) ++ length_field d n) (simp (length-append, length-replicate, length_eight) (omega arith))
      ∙ ap (λ (x : List ℕ). d.step h (x ++ length_field d n)) (sym front)

  pub ending_long : 56 ≤ n % 64 → absorbed d h (held ++ padding d n) ≡ d.step (d.step h (filled 64 (marked held))) (take 56 (replicate 64 0) ++ length_field d n)
  ending_long ge =
      let l : length (marked held) ≡ n % 64 + 1 = simp length-append (omega arith) in
      let front : filled 64 (marked held) ≡ onto 64 (marked held) =
      filled_onto 64 (marked held) ∙ ap (onto 64) (take_all 64 (marked held) (omega arith)) in
      let blocks : held ++ padding d n ≡ onto 64 (marked held) ++ (replicate 56 0 ++ length_field d n) =
      pad (64 - length (marked held) + 56) (omega arith) ∙ parted (marked held) (length_field d n) (64 - length (marked held)) 56 in
      ap (absorbed d h) blocks
      ∙ first_block d is64 h (onto 64 (marked held)) (replicate 56 0 ++ length_field d n) (simp (length-append, length-replicate) (omega arith))
      ∙ last_one d is64 _ (replicate 56 0 ++ length_field d n) (simp (length-append, length-replicate, length_eight) (omega arith))
      ∙ ap (λ (x : List ℕ). d.step (d.step h x) (replicate 56 0 ++ length_field d n)) (sym front)

-- the code: the bit 1 laid behind what waits, and the length in that block or in one more
module _ (d : Digest) (is64 : d.block ≡ 64) (r : Running) (full : length r.tail ≡ 64) where
  waits : length (take (r.count % 64) r.tail) ≡ r.count % 64
  waits = simp length-take (omega arith)

  pub finished_short : {o : Order} {front last words : List ℕ} → o ≡ d.order → r.count % 64 < 56
      → front ≡ filled 64 (marked (take (r.count % 64) r.tail)) → last ≡ take 56 front ++ bytes o 8 (8 * r.count % 2 ^ 64)
      → words ≡ d.step r.words last → result d words ≡ finished d r
  unfolding finished
  finished_short {o} {front} e lt f l w =
      ap (result d)
      (w ∙ ap (d.step r.words) (l ∙ ap₂ (λ (x : List ℕ) (o : Order). take 56 x ++ bytes o 8 (8 * r.count % 2 ^ 64)) f e)
      ∙ sym (ending_short d is64 r.words (take (r.count % 64) r.tail) r.count waits lt))
      ∙ rw is64

  pub finished_long : {o : Order} {front last words₁ words₂ : List ℕ} → o ≡ d.order → 56 ≤ r.count % 64
      → front ≡ filled 64 (marked (take (r.count % 64) r.tail)) → words₁ ≡ d.step r.words front
      → last ≡ take 56 (replicate 64 0) ++ bytes o 8 (8 * r.count % 2 ^ 64) → words₂ ≡ d.step words₁ last → result d words₂ ≡ finished d r
  unfolding finished
  finished_long e ge f w l v =
      ap (result d)
      (v ∙ ap₂ d.step (w ∙ ap (d.step r.words) f) (l ∙ ap (λ (o : Order). take 56 (replicate 64 0) ++ bytes o 8 (8 * r.count % 2 ^ 64)) e)
      ∙ sym (ending_long d is64 r.words (take (r.count % 64) r.tail) r.count waits ge))
      ∙ rw is64
