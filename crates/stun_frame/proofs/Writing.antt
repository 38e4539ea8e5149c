-- What `encode_channel_data` leaves, for each of its answers, over the parts that are put one after the other.
use mathlib.Core.Path.{◌≡◌, refl, sym, ap, ap₂, ◌∙◌}
use mathlib.Core.Logic.{◌⊎◌, inl, inr}
use mathlib.Core.List.{List, [], ◌∷◌, ◌++◌, append_assoc}
use Prim.Native.Nat.{ℕ, ◌+◌, ◌/◌, ◌%◌, ◌^◌, ◌≤◌, ◌<◌}
use native.Mathlib.Omega.{arith}
use borrow.Author.Tests.{lt-ltb, le-ltb}
use lib.ListN.{length, drop, replicate, length-append, length-replicate}
use lib.Seq.{take_at, drop_at, drop-drop}
use borrow.Rule.Slice.PartMut.{put_mid}
use Rattle.std.specs.Int.{w16, to_be_bytes}
use Rattle.std.specs.Prelude.{Ok, Err}
use Rattle.stun_frame.specs.declared.Unwritten.TheVariants.{TooLong, NoRoom}
use Rattle.stun_frame.specs.Source.{to_be, padding, encode_channel_data, Written, written, room_after, Wrote}
use Rattle.stun_frame.proofs.Reading.{compared}

pub length_channel_data : (n : ℕ) (b : List ℕ) → length (encode_channel_data n b) ≡ 4 + length b + padding (length b)
unfolding encode_channel_data
length_channel_data n b = simp (length-append, length-replicate) (omega arith)

-- two bytes by the library are the source's
pub two_bytes : (x : ℕ) → x < 2 ^ 16 → to_be_bytes w16 x ≡ to_be x
two_bytes x h = let e : x / 256 % 256 ≡ x / 256 = omega arith in ap (λ (y : ℕ). y ∷ x % 256 ∷ []) e

-- a part that is put where the last one ended
pub next : (p q s o : List ℕ) (at k : ℕ) → o ≡ p ++ q → length p ≡ at → put_mid at k o s ≡ (p ++ s) ++ drop k q
next p q s o at k e f =
    ap (λ (l : List ℕ). put_mid at k l s) e ∙ ap₂ (λ (x y : List ℕ). x ++ (s ++ drop k y)) (take_at p q at f) (drop_at p q at f) ∙ sym (append_assoc p s (drop k q))

module _ (n : ℕ) (b out : List ℕ) where
  pub wrote_long : 65535 < length b → Wrote n b out (Err TooLong) out
  unfolding written
  wrote_long h = record { answered = rw (lt-ltb 65535 (length b) h); left = rw (lt-ltb 65535 (length b) h) }

  pub wrote_narrow : length b ≤ 65535 → length out < 4 + length b + padding (length b) → Wrote n b out (Err NoRoom) out
  unfolding written
  wrote_narrow h g =
      let g' : length out < length (encode_channel_data n b) = rw length_channel_data g in
      record { answered = rw (le-ltb 65535 (length b) h, lt-ltb (length out) (length (encode_channel_data n b)) g'); left = rw (le-ltb 65535 (length b) h, lt-ltb (length out) (length (encode_channel_data n b)) g') }

  is_written : length b ≤ 65535 → 4 + length b + padding (length b) ≤ length out → written n b out ≡ Ok (4 + length b + padding (length b))
  unfolding written
  is_written h g =
      let g' : length (encode_channel_data n b) ≤ length out = rw length_channel_data g in
      rw (le-ltb 65535 (length b) h, le-ltb (length out) (length (encode_channel_data n b)) g', length_channel_data)

  -- the four parts
  all_put : (h l d z : List ℕ) (k m : ℕ) → length h ≡ 2 → length l ≡ 2 → length d ≡ length b → k ≡ length b
      → put_mid (4 + length b) m (put_mid 4 k (put_mid 2 2 (put_mid 0 2 out h) l) d) z ≡ (h ++ l ++ d ++ z) ++ drop (4 + length b + m) out
  all_put h l d z k m eh el ed ek =
      next ((h ++ l) ++ d) _ z _ (4 + length b) m
      (next (h ++ l) _ d _ 4 k (next h _ l _ 2 2 (next [] out h out 0 2 refl refl) eh) (rw (length-append, eh, el)))
      (rw (length-append, length-append, eh, el, ed))
      ∙ rw (drop-drop, drop-drop, drop-drop) (ap (λ (j : ℕ). (h ++ l ++ d ++ z) ++ drop j out) (omega arith))

  pub wrote_all : (h l d z : List ℕ) (k m j : ℕ) → n < 2 ^ 16 → length b ≤ 65535 → 4 + length b + padding (length b) ≤ length out
      → h ≡ to_be_bytes w16 n → l ≡ to_be_bytes w16 (length b) → d ≡ b → k ≡ length b → m ≡ padding (length b) → j ≡ m → z ≡ replicate j 0
      → Wrote n b out (Ok (4 + length b + padding (length b))) (put_mid (4 + length b) m (put_mid 4 k (put_mid 2 2 (put_mid 0 2 out h) l) d) z)
  unfolding encode_channel_data
  wrote_all h l d z k m j f e g eh el ed ek em ej ez =
      let w : written n b out ≡ Ok (4 + length b + padding (length b)) = is_written e g in
      let eh' : h ≡ to_be n = eh ∙ two_bytes n f in
      let el' : l ≡ to_be (length b) = el ∙ two_bytes (length b) (omega arith) in
      let ez' : z ≡ replicate (padding (length b)) 0 = ez ∙ ap (λ (i : ℕ). replicate i 0) (ej ∙ em) in
      let p : put_mid (4 + length b) m (put_mid 4 k (put_mid 2 2 (put_mid 0 2 out h) l) d) z ≡ (h ++ l ++ d ++ z) ++ drop (4 + length b + m) out =
      all_put h l d z k m (ap length eh') (ap length el') (ap length ed) ek in
      record {
        answered = sym w;
        left = p ∙ rw (w, eh', el', ed, ez', em);
      }

not_long : (k : ℕ) → ◌≡◌ {A = Written} (Ok k) (Err TooLong) → ⊥
not_long k e = let z : ◌≡◌ {A = ℕ} 0 1 = cc in omega arith

not_narrow : (k : ℕ) → ◌≡◌ {A = Written} (Ok k) (Err NoRoom) → ⊥
not_narrow k e = let z : ◌≡◌ {A = ℕ} 0 1 = cc in omega arith

-- the contract's two equations
pub equations : {n : ℕ} {b out after : List ℕ} {a : Written} → Wrote n b out a after → (a ≡ written n b out) × (after ≡ room_after a (encode_channel_data n b) out)
equations {n} {b} {out} w = (w.answered, w.left ∙ ap (λ (d : Written). room_after d (encode_channel_data n b) out) (sym w.answered))

-- an answer `Ok`: all of the message stands in front, and its length fits
pub was_written : {n k : ℕ} {b out after : List ℕ} → Wrote n b out (Ok k) after
    → (length b ≤ 65535) × (k ≡ length (encode_channel_data n b)) × (after ≡ encode_channel_data n b ++ drop k out)
was_written {n} {k} {b} {out} {after} w = go (compared 65535 (length b)) (compared (length out) (4 + length b + padding (length b)))
  where
    go : (65535 < length b) ⊎ (length b ≤ 65535) → (length out < 4 + length b + padding (length b)) ⊎ (4 + length b + padding (length b) ≤ length out)
        → (length b ≤ 65535) × (k ≡ length (encode_channel_data n b)) × (after ≡ encode_channel_data n b ++ drop k out)
    go (inl h) g = absurd (not_long k (w.answered ∙ sym (wrote_long n b out h).answered))
    go (inr h) (inl g) = absurd (not_narrow k (w.answered ∙ sym (wrote_narrow n b out h g).answered))
    go (inr h) (inr g) =
        let e : written n b out ≡ Ok k = sym w.answered in
        let f : ◌≡◌ {A = Written} (Ok k) (Ok (4 + length b + padding (length b))) = w.answered ∙ is_written n b out h g in
        let m : k ≡ 4 + length b + padding (length b) = cc in
        (h, m ∙ sym (length_channel_data n b), w.left ∙ ap (λ (a : Written). room_after a (encode_channel_data n b) out) e)
