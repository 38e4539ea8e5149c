-- The definitions of specs/Source.antt case by case, as the proofs of the functions and the joining laws use them.
use mathlib.Core.Path.{◌≡◌, refl, sym, ◌∙◌}
use mathlib.Core.Bool.{Bool, true, false, ◌&&◌}
use mathlib.Core.Logic.{◌⊎◌, inl, inr}
use mathlib.Core.List.{List}
use Prim.Native.Nat.{ℕ, ◌+◌, ◌-◌, ◌*◌, ◌/◌, ◌^◌, ◌≤◌, ◌<◌}
use native.Mathlib.Omega.{arith}
use borrow.Author.Tests.{le-leb, lt-leb, lt-ltb, le-ltb, leb-true, ltb-true, ltb-false, ne_eqb}
use lib.ListN.{length, get_or}
use Rattle.std.specs.Prelude.{Option, Some, None}
use lib.Dec.{ltb, leb}
use lib.Bits.{bit_and, and_high}
use Rattle.stun_frame.specs.declared.ChannelData.{ChannelData}
use Rattle.stun_frame.specs.declared.Frame.TheVariants.{Incomplete, Corrupt}
use Rattle.stun_frame.specs.Source.{is_channel_data, field_at, decode_channel_data, whole, stream_frame_len}

pub compared : (a b : ℕ) → (a < b) ⊎ (b ≤ a)
compared a b = go (ltb a b) refl
  where
    go : (t : Bool) → ltb a b ≡ t → (a < b) ⊎ (b ≤ a)
    go true e = inl (ltb-true a b e)
    go false e = inr (ltb-false a b e)

first : (a b : Bool) → (a && b) ≡ true → a ≡ true
first true b e = refl
first false b e = e

second : (a b : Bool) → (a && b) ≡ true → b ≡ true
second true b e = e
second false true e = refl
second false false e = e

pub channel_long : (s : List ℕ) → is_channel_data s ≡ true → 4 ≤ length s
unfolding is_channel_data
channel_long s e = leb-true 4 (length s) (first _ _ e)

pub channel_first : (s : List ℕ) → is_channel_data s ≡ true → (0x40 ≤ get_or s 0 0) × (get_or s 0 0 ≤ 0x7F)
unfolding is_channel_data
channel_first s e =
    let f : (leb 0x40 (get_or s 0 0) && leb (get_or s 0 0) 0x7F) ≡ true = second (leb 4 (length s)) _ e in
    (leb-true 0x40 (get_or s 0 0) (first _ _ f), leb-true (get_or s 0 0) 0x7F (second (leb 0x40 (get_or s 0 0)) _ f))

pub channel_found : (s : List ℕ) (n m : ℕ) → is_channel_data s ≡ true → n ≡ field_at s 0 → m ≡ field_at s 2 → 4 + m ≤ length s → ◌≡◌ {A = Option ChannelData} (Some (record { number = n; start = 4; len = m })) (decode_channel_data s)
unfolding decode_channel_data
channel_found s n m e p q h = rw (p, q, e, le-leb (4 + field_at s 2) (length s) (rw q at h))

pub channel_short : (s : List ℕ) (m : ℕ) → is_channel_data s ≡ true → m ≡ field_at s 2 → length s < 4 + m → None ≡ decode_channel_data s
unfolding decode_channel_data
channel_short s m e q h = rw (e, lt-leb (4 + field_at s 2) (length s) (rw q at h))

pub channel_none : (s : List ℕ) → is_channel_data s ≡ false → None ≡ decode_channel_data s
unfolding decode_channel_data
channel_none s e = rw e

data_nothing : {d : ChannelData} → ◌≡◌ {A = Option ChannelData} (Some d) None → ⊥
data_nothing e = let z : ◌≡◌ {A = ℕ} 0 1 = cc in omega arith

some_is : {d e : ChannelData} → ◌≡◌ {A = Option ChannelData} (Some d) (Some e) → d ≡ e
some_is e = cc

-- what an answer `Some` tells
pub record Found (s : List ℕ) (d : ChannelData) : Type 0 where
  pub first : (0x40 ≤ get_or s 0 0) × (get_or s 0 0 ≤ 0x7F)
  pub numbered : d.number ≡ field_at s 0
  pub started : d.start ≡ 4
  pub counted : d.len ≡ field_at s 2
  pub room : 4 + d.len ≤ length s

pub channel_of : (s : List ℕ) (d : ChannelData) → decode_channel_data s ≡ Some d → Found s d
channel_of s d e = go (is_channel_data s) (compared (length s) (4 + field_at s 2)) refl
  where
    go : (t : Bool) → (length s < 4 + field_at s 2) ⊎ (4 + field_at s 2 ≤ length s) → is_channel_data s ≡ t → Found s d
    go false r c = absurd (data_nothing (sym e ∙ sym (channel_none s c)))
    go true (inl r) c = absurd (data_nothing (sym e ∙ sym (channel_short s (field_at s 2) c refl r)))
    go true (inr r) c =
        let f : d ≡ record { number = field_at s 0; start = 4; len = field_at s 2 } = some_is (sym e ∙ sym (channel_found s (field_at s 0) (field_at s 2) c refl refl r)) in
        let m : d.len ≡ field_at s 2 = λ i. (f i).len in
        record { first = channel_first s c; numbered = λ i. (f i).number; started = λ i. (f i).start; counted = m; room = omega arith }

pub frame_start : (s : List ℕ) → length s < 4 → Incomplete ≡ stream_frame_len s
unfolding stream_frame_len
frame_start s h = rw (lt-ltb (length s) 4 h)

module _ (s : List ℕ) (m : ℕ) (h : 4 ≤ length s) (e : m ≡ field_at s 2) where
  pub frame_stun : get_or s 0 0 / 2 ^ 6 ≡ 0 → whole (length s) (20 + m) ≡ stream_frame_len s
  unfolding stream_frame_len
  frame_stun t = rw (le-ltb (length s) 4 h, t, e)

  pub frame_channel : get_or s 0 0 / 2 ^ 6 ≡ 1 → whole (length s) (4 + bit_and (m + 3) (2 ^ 64 - 1 - 3)) ≡ stream_frame_len s
  unfolding stream_frame_len
  frame_channel t = rw (le-ltb (length s) 4 h, t, e)

pub frame_corrupt : (s : List ℕ) → 4 ≤ length s → (get_or s 0 0 / 2 ^ 6 ≡ 0 → ⊥) → (get_or s 0 0 / 2 ^ 6 ≡ 1 → ⊥) → Corrupt ≡ stream_frame_len s
unfolding stream_frame_len
frame_corrupt s h a b = simp (le-ltb (length s) 4 h, ne_eqb (get_or s 0 0 / 2 ^ 6) 0 a, ne_eqb (get_or s 0 0 / 2 ^ 6) 1 b)

-- (n & !3) rounds down to a multiple of four
pub rounded : (n : ℕ) → n < 2 ^ 64 → bit_and n (2 ^ 64 - 1 - 3) ≡ n / 4 * 4
rounded n h = and_high n 62 2 ∙ omega arith
