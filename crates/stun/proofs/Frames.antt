-- A stream's frames, for every slice: each answer stands exactly where the bytes begin such a frame (`frame_only`, `corrupt_only`,
-- `incomplete_only`), and no frame is longer than 65,555 bytes or than the slice (`frame_most`).
use mathlib.Core.Path.{◌≡◌, refl, sym, ap, subst, ◌∙◌}
use mathlib.Core.Logic.{◌↔◌, ◌⊎◌, inl, inr}
use mathlib.Core.List.{List}
use Prim.Native.Nat.{ℕ, zero, suc, ◌+◌, ◌/◌, ◌^◌, ◌≤◌, ◌<◌}
use native.Mathlib.Omega.{arith}
use borrow.Author.Tests.{le-leb, lt-leb}
use lib.ListN.{length, get_or}
use Rattle.stun_frame.specs.declared.Frame.{Frame}
use Rattle.stun_frame.specs.declared.Frame.TheVariants.{Incomplete, Whole, Corrupt}
use Rattle.stun_frame.specs.Source.{field_at, whole, stream_frame_len}
use Rattle.stun_frame.proofs.Reading.{compared, frame_start, frame_stun, frame_channel, frame_corrupt, rounded}
use Rattle.stun_address.proofs.Network.{Bytes}
use Rattle.stun.specs.Reading.{Begun, stun, channel}
use Rattle.stun.proofs.Reading.{byte}

-- the four cases
data Seen (s : List ℕ) : Frame → Type 0 where
  few : length s < 4 → Seen s Incomplete
  all : {n : ℕ} → 4 ≤ length s → Begun s n → n ≤ length s → Seen s (Whole n)
  part : {n : ℕ} → 4 ≤ length s → Begun s n → length s < n → Seen s Incomplete
  wrong : 4 ≤ length s → 2 ≤ get_or s 0 0 / 2 ^ 6 → Seen s Corrupt

module _ (s : List ℕ) (bytes : Bytes s) where
  begun : {n : ℕ} → 4 ≤ length s → Begun s n → stream_frame_len s ≡ whole (length s) n
  begun h (stun t) = sym (frame_stun s (field_at s 2) h refl t)
  begun h (channel t) =
      sym (frame_channel s (field_at s 2) h refl t)
      ∙ ap (λ (k : ℕ). whole (length s) (4 + k)) (rounded (field_at s 2 + 3) (omega (arith, byte s bytes 2, byte s bytes 3)))

  found : {n : ℕ} → 4 ≤ length s → Begun s n → n ≤ length s → stream_frame_len s ≡ Whole n
  found {n} h b l = begun h b ∙ rw (le-leb n (length s) l)

  not_yet : {n : ℕ} → 4 ≤ length s → Begun s n → length s < n → stream_frame_len s ≡ Incomplete
  not_yet {n} h b l = begun h b ∙ rw (lt-leb n (length s) l)

  broken : 4 ≤ length s → 2 ≤ get_or s 0 0 / 2 ^ 6 → stream_frame_len s ≡ Corrupt
  broken h t = sym (frame_corrupt s h (λ e. omega arith) (λ e. omega arith))

  seen : Seen s (stream_frame_len s)
  seen = start (compared (length s) 4)
    where
      sized : {n : ℕ} → 4 ≤ length s → Begun s n → (length s < n) ⊎ (n ≤ length s) → Seen s (stream_frame_len s)
      sized h b (inl l) = subst (Seen s) (sym (not_yet h b l)) (part h b l)
      sized h b (inr l) = subst (Seen s) (sym (found h b l)) (all h b l)

      top : 4 ≤ length s → (k : ℕ) → get_or s 0 0 / 2 ^ 6 ≡ k → Seen s (stream_frame_len s)
      top h zero e = sized h (stun e) (compared _ _)
      top h (suc zero) e = sized h (channel e) (compared _ _)
      top h (suc (suc k)) e = subst (Seen s) (sym (broken h (omega arith))) (wrong h (omega arith))

      start : (length s < 4) ⊎ (4 ≤ length s) → Seen s (stream_frame_len s)
      start (inl h) = subst (Seen s) (frame_start s h) (few h)
      start (inr h) = top h _ refl

  pub frame_only : (n : ℕ) → (stream_frame_len s ≡ Whole n) ↔ ((4 ≤ length s) × Begun s n × (n ≤ length s))
  frame_only n = (only seen, λ w. found w.0 w.1 w.2)
    where
      only : {f : Frame} → Seen s f → f ≡ Whole n → (4 ≤ length s) × Begun s n × (n ≤ length s)
      only (few h) e = absurd (let z : ◌≡◌ {A = ℕ} 0 1 = cc in omega arith)
      only (all {n = m} h b l) e =
          let q : m ≡ n = cc in
          (h, subst (Begun s) q b, subst (λ (k : ℕ). k ≤ length s) q l)
      only (part h b l) e = absurd (let z : ◌≡◌ {A = ℕ} 0 1 = cc in omega arith)
      only (wrong h t) e = absurd (let z : ◌≡◌ {A = ℕ} 0 1 = cc in omega arith)

  -- top bits 2 or 3
  pub corrupt_only : (stream_frame_len s ≡ Corrupt) ↔ ((4 ≤ length s) × (2 ≤ get_or s 0 0 / 2 ^ 6))
  corrupt_only = (only seen, λ w. broken w.0 w.1)
    where
      only : {f : Frame} → Seen s f → f ≡ Corrupt → (4 ≤ length s) × (2 ≤ get_or s 0 0 / 2 ^ 6)
      only (few h) e = absurd (let z : ◌≡◌ {A = ℕ} 0 1 = cc in omega arith)
      only (all h b l) e = absurd (let z : ◌≡◌ {A = ℕ} 0 1 = cc in omega arith)
      only (part h b l) e = absurd (let z : ◌≡◌ {A = ℕ} 0 1 = cc in omega arith)
      only (wrong h t) e = (h, t)

  -- fewer than four bytes, or than the frame that they begin
  pub incomplete_only : (stream_frame_len s ≡ Incomplete) ↔ ((length s < 4) ⊎ ((n : ℕ) × Begun s n × (length s < n)))
  incomplete_only = (only seen, back)
    where
      only : {f : Frame} → Seen s f → f ≡ Incomplete → (length s < 4) ⊎ ((n : ℕ) × Begun s n × (length s < n))
      only (few h) e = inl h
      only (all h b l) e = absurd (let z : ◌≡◌ {A = ℕ} 0 1 = cc in omega arith)
      only (part {n} h b l) e = inr (n, b, l)
      only (wrong h t) e = absurd (let z : ◌≡◌ {A = ℕ} 0 1 = cc in omega arith)

      back : (length s < 4) ⊎ ((n : ℕ) × Begun s n × (length s < n)) → stream_frame_len s ≡ Incomplete
      back (inl h) = sym (frame_start s h)
      back (inr (n, b, l)) = by (compared (length s) 4)
        where
          by : (length s < 4) ⊎ (4 ≤ length s) → stream_frame_len s ≡ Incomplete
          by (inl h) = sym (frame_start s h)
          by (inr h) = not_yet h b l

  pub frame_most : (n : ℕ) → stream_frame_len s ≡ Whole n → (n ≤ 65555) × (n ≤ length s)
  frame_most n e = let w = (frame_only n).0 e in (most w.1, w.2)
    where
      most : {m : ℕ} → Begun s m → m ≤ 65555
      most (stun t) = omega (arith, byte s bytes 2, byte s bytes 3)
      most (channel t) = omega (arith, byte s bytes 2, byte s bytes 3)
