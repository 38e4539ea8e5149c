-- Streams: a frame by the RFCs that a stream starts with is found whole with its length (`frame_found`), which is at most
-- 65,555 (`frame_least`); no proper initial part of it is taken for a frame (`frame_part`); so frame after frame comes out of a
-- stream (`stream_cut`).
use mathlib.Core.Path.{◌≡◌, refl, sym, ap, ◌∙◌}
use mathlib.Core.Logic.{◌⊎◌, inl, inr}
use mathlib.Core.List.{List, [], ◌∷◌, ◌++◌, append_assoc}
use Prim.Native.Nat.{ℕ, zero, suc, ◌+◌, ◌*◌, ◌/◌, ◌≤◌, ◌<◌}
use native.Mathlib.Omega.{arith}
use borrow.Author.Tests.{le-leb, lt-leb}
use lib.ListN.{length, get_or, take, drop, length-append, get_or-append}
use lib.Seq.{take_at, drop_at, get_or-take, length-take-le}
use Rattle.stun_frame.specs.declared.Frame.{Frame}
use Rattle.stun_frame.specs.declared.Frame.TheVariants.{Incomplete, Whole, Corrupt}
use Rattle.stun_frame.specs.Source.{whole, stream_frame_len}
use Rattle.stun_frame.specs.Rfc.{stun_message, channel_message, Framed, stun, channel, stream, AllFramed}
use Rattle.stun_frame.proofs.Reading.{frame_start, frame_stun, frame_channel, rounded, compared}

-- a frame's first four bytes give its length
pub record Headed (f : List ℕ) : Type 0 where
  pub four : 4 ≤ length f
  pub least : length f ≤ 65555
  pub found : (s : List ℕ) → 4 ≤ length s → get_or s 0 0 ≡ get_or f 0 0 → get_or s 2 0 ≡ get_or f 2 0 → get_or s 3 0 ≡ get_or f 3 0 → stream_frame_len s ≡ whole (length s) (length f)

headed : {f : List ℕ} → Framed f → Headed f
headed (stun {typ} {id} {body} p) =
    let n : length (stun_message typ id body) ≡ 20 + length body = omega (arith, length-append id body) in
    record {
      four = omega arith;
      least = omega arith;
      found = λ s h a b c. sym (frame_stun s (length body) h (omega arith) (omega arith)) ∙ ap (whole (length s)) (sym n);
    }
headed (channel {number} {body} {pad} p q) =
    let n : length (channel_message number body ++ pad) ≡ 4 + (length body + 3) / 4 * 4 = omega (arith, length-append body pad) in
    record {
      four = omega arith;
      least = omega arith;
      found = λ s h a b c.
          sym (frame_channel s (length body) h (omega arith) (omega arith))
          ∙ ap (λ (k : ℕ). whole (length s) (4 + k)) (rounded (length body + 3) (omega arith)) ∙ ap (whole (length s)) (sym n);
    }

pub frame_least : {f : List ℕ} → Framed f → length f ≤ 65555
frame_least p = (headed p).least

whole_all : (have total : ℕ) → total ≤ have → whole have total ≡ Whole total
whole_all have total h = rw (le-leb total have h)

whole_part : (have total : ℕ) → have < total → whole have total ≡ Incomplete
whole_part have total h = rw (lt-leb total have h)

-- it is found, whatever follows
pub frame_found : {f : List ℕ} → Framed f → (rest : List ℕ) → stream_frame_len (f ++ rest) ≡ Whole (length f)
frame_found {f} p rest =
    let g : Headed f = headed p in
    let n : length (f ++ rest) ≡ length f + length rest = length-append f rest in
    g.found (f ++ rest) (omega (arith, g.four)) (get_or-append f rest 0 0 (omega (arith, g.four))) (get_or-append f rest 0 2 (omega (arith, g.four)))
    (get_or-append f rest 0 3 (omega (arith, g.four)))
    ∙ whole_all (length (f ++ rest)) (length f) (omega arith)

-- and not before it is there whole
pub frame_part : {f : List ℕ} → Framed f → (k : ℕ) → k < length f → stream_frame_len (take k f) ≡ Incomplete
frame_part {f} p k h = go (compared k 4)
  where
    n : length (take k f) ≡ k
    n = length-take-le k f (omega arith)

    go : (k < 4) ⊎ (4 ≤ k) → stream_frame_len (take k f) ≡ Incomplete
    go (inl l) = sym (frame_start (take k f) (omega (arith, n)))
    go (inr g) =
        (headed p).found (take k f) (omega (arith, n)) (get_or-take k f 0 0 (omega arith)) (get_or-take k f 2 0 (omega arith)) (get_or-take k f 3 0 (omega arith))
        ∙ whole_part (length (take k f)) (length f) (omega (arith, n))

-- what a reader gets that takes up to n frames, one after the other
abbrev step : Frame → List ℕ → (List ℕ → List (List ℕ)) → List (List ℕ)
step (Whole k) s more = take k s ∷ more (drop k s)
step Incomplete s more = []
step Corrupt s more = []

abbrev pub cut : ℕ → List ℕ → List (List ℕ)
cut zero s = []
cut (suc n) s = step (stream_frame_len s) s (λ t. cut n t)

pub stream_cut : (fs : List (List ℕ)) → AllFramed fs → (rest : List ℕ) → cut (length fs) (stream fs ++ rest) ≡ fs
stream_cut [] p rest = refl
stream_cut (f ∷ fs) p rest =
    let t : List ℕ = stream fs ++ rest in
    ap (cut (suc (length fs))) (append_assoc f (stream fs) rest)
    ∙ rw (frame_found p.0 t, take_at f t (length f) refl, drop_at f t (length f) refl, stream_cut fs p.1 rest)
