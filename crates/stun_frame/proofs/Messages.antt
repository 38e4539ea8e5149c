-- One message: what is well-formed by the RFCs is read as it was written, and what `encode_channel_data` writes is well-formed
-- and reads back (`channel_read`, `channel_written`, `round_trip`). A STUN message and a ChannelData message are never taken
-- for each other (`stun_read`, `apart`).
use mathlib.Core.Path.{◌≡◌, refl, sym, ap, subst, ◌∙◌}
use mathlib.Core.Bool.{true, false, and-false}
use mathlib.Core.List.{List, [], ◌∷◌, ◌++◌, append_assoc}
use Prim.Native.Nat.{ℕ, ◌+◌, ◌*◌, ◌/◌, ◌%◌, ◌≤◌, ◌<◌}
use native.Mathlib.Omega.{arith}
use borrow.Author.Tests.{le-leb}
use lib.ListN.{length, get_or, take, drop, replicate, length-append, length-drop, length-replicate, take-append-drop}
use lib.Seq.{take_at, drop-drop, length-take-le}
use lib.Dec.{leb}
use lib.Bits.{bit_and, and_high}
use Rattle.std.specs.Prelude.{Some, Ok, Err}
use Rattle.stun_frame.specs.declared.ChannelData.{ChannelData}
use Rattle.stun_frame.specs.declared.Unwritten.TheVariants.{TooLong, NoRoom}
use Rattle.stun_frame.specs.Source.{is_stun, is_channel_data, decode_channel_data, part, padding, encode_channel_data, Written, room_after, number_of, Wrote}
use Rattle.stun_frame.specs.Rfc.{StunParts, stun_message, ChannelParts, channel_message, Padding, Framed, channel}
use Rattle.stun_frame.proofs.Reading.{channel_first, channel_found, Found, channel_of}
use Rattle.stun_frame.proofs.Writing.{was_written}

-- top two bits of a byte
top_bits : (b : ℕ) → bit_and b 0xC0 ≡ b / 64 % 4 * 64
top_bits b = and_high b 2 6

stun_by : (s : List ℕ) → 20 ≤ length s → get_or s 0 0 < 64 → get_or s 4 0 ≡ 0x21 → get_or s 5 0 ≡ 0x12 → get_or s 6 0 ≡ 0xA4 → get_or s 7 0 ≡ 0x42 → is_stun s ≡ true
unfolding is_stun
stun_by s n t a b c d =
    let z : bit_and (get_or s 0 0) 0xC0 ≡ 0 = top_bits (get_or s 0 0) ∙ omega arith in
    rw (le-leb 20 (length s) n, z, a, b, c, d)

pub stun_read : {typ : ℕ} {id body : List ℕ} → StunParts typ id body → (rest : List ℕ) → is_stun (stun_message typ id body ++ rest) ≡ true
stun_read {typ} {id} {body} p rest =
    stun_by (stun_message typ id body ++ rest) (omega (arith, length-append (id ++ body) rest, length-append id body)) (omega arith) refl refl refl refl

channel_by : (s : List ℕ) → 4 ≤ length s → 0x40 ≤ get_or s 0 0 → get_or s 0 0 ≤ 0x7F → is_channel_data s ≡ true
unfolding is_channel_data
channel_by s n a b = rw (le-leb 4 (length s) n, le-leb 0x40 (get_or s 0 0) a, le-leb (get_or s 0 0) 0x7F b)

-- bytes are not both
pub apart : (s : List ℕ) → is_channel_data s ≡ true → is_stun s ≡ false
unfolding is_stun
apart s e =
    let z : bit_and (get_or s 0 0) 0xC0 ≡ 64 = top_bits (get_or s 0 0) ∙ omega (arith, channel_first s e) in
    rw (z, and-false (leb 20 (length s)))

-- a ChannelData message is read with or without padding, and with anything after it
pub channel_is : {number : ℕ} {body : List ℕ} → ChannelParts number body → (rest : List ℕ) → is_channel_data (channel_message number body ++ rest) ≡ true
channel_is {number} {body} p rest = channel_by (channel_message number body ++ rest) (omega arith) (omega arith) (omega arith)

pub channel_read : {number : ℕ} {body : List ℕ} → ChannelParts number body → (rest : List ℕ)
    → decode_channel_data (channel_message number body ++ rest) ≡ Some (record { number = number; start = 4; len = length body })
channel_read {number} {body} p rest =
    sym
    (channel_found (channel_message number body ++ rest) number (length body) (channel_is p rest) (omega arith) (omega arith) (omega (arith, length-append body rest)))

pub channel_part : (number : ℕ) (body rest : List ℕ) → part (channel_message number body ++ rest) 4 (length body) ≡ body
channel_part number body rest = take_at body rest (length body) refl

-- what is written is well-formed
pub padding_is : (body : List ℕ) → Padding body (replicate (padding (length body)) 0)
padding_is body =
    let zeros : List ℕ = replicate (padding (length body)) 0 in
    let e : length zeros ≡ padding (length body) = length-replicate (padding (length body)) 0 in
    record { least = omega arith; whole = omega arith }

pub channel_written : {number : ℕ} {body : List ℕ} → ChannelParts number body → Framed (encode_channel_data number body)
unfolding encode_channel_data
channel_written {number} {body} p = channel p (padding_is body)

-- what the room holds after an answer `Ok` reads back, whatever it held before, and is a frame
pub record Back (number : ℕ) (body after : List ℕ) (k : ℕ) : Type 0 where
  pub read : decode_channel_data after ≡ Some (record { number = number; start = 4; len = length body })
  pub same : part after 4 (length body) ≡ body
  pub framed : Framed (take k after)

pub round_trip : {number k : ℕ} {body out after : List ℕ} → Wrote number body out (Ok k) after → 0x4000 ≤ number → number ≤ 0x7FFF → Back number body after k
unfolding encode_channel_data
round_trip {number} {k} {body} {out} {after} w a b =
    let h : (length body ≤ 65535) × (k ≡ length (encode_channel_data number body)) × (after ≡ encode_channel_data number body ++ drop k out) = was_written w in
    let p : ChannelParts number body = record { from = a; to = b; fits = omega (arith, h.0) } in
    let pad : List ℕ = replicate (padding (length body)) 0 in
    let e : after ≡ channel_message number body ++ (pad ++ drop k out) = h.2 ∙ append_assoc (channel_message number body) pad (drop k out) in
    record {
      read = ap decode_channel_data e ∙ channel_read p _;
      same = ap (λ (s : List ℕ). part s 4 (length body)) e ∙ channel_part number body _;
      framed = subst (λ (s : List ℕ). Framed s) (sym (ap (take k) h.2 ∙ take_at (encode_channel_data number body) (drop k out) k (sym h.1))) (channel_written p);
    }

unchanged : (a : Written) (v out : List ℕ) → (number_of a ≡ 0 → ⊥) → room_after a v out ≡ out
unchanged (Ok k) v out h = absurd (h refl)
unchanged (Err TooLong) v out h = refl
unchanged (Err NoRoom) v out h = refl

-- a refusal changes no byte
pub refused : {number : ℕ} {body out after : List ℕ} {a : Written} → Wrote number body out a after → (number_of a ≡ 0 → ⊥) → after ≡ out
refused {number} {body} {out} {after} {a} w h =
    w.left ∙ ap (λ (x : Written). room_after x (encode_channel_data number body) out) (sym w.answered) ∙ unchanged a (encode_channel_data number body) out h

four_first : (s : List ℕ) → 4 ≤ length s → s ≡ get_or s 0 0 ∷ get_or s 1 0 ∷ get_or s 2 0 ∷ get_or s 3 0 ∷ drop 4 s
four_first [] h = absurd (omega arith)
four_first (a ∷ []) h = absurd (omega arith)
four_first (a ∷ b ∷ []) h = absurd (omega arith)
four_first (a ∷ b ∷ c ∷ []) h = absurd (omega arith)
four_first (a ∷ b ∷ c ∷ d ∷ r) h = refl

-- what reads as ChannelData is well-formed, its bytes being bytes: with `channel_read`, exactly that is read
pub record Formed (s : List ℕ) (d : ChannelData) : Type 0 where
  pub starts : d.start ≡ 4
  pub parts : ChannelParts d.number (part s 4 d.len)
  pub whole : s ≡ channel_message d.number (part s 4 d.len) ++ drop (4 + d.len) s

pub channel_only : (s : List ℕ) (d : ChannelData) → ((i : ℕ) → get_or s i 0 < 256) → decode_channel_data s ≡ Some d → Formed s d
channel_only s d b e =
    let number : ℕ = d.number in
    let len : ℕ = d.len in
    let f : Found s d = channel_of s d e in
    let n : length (part s 4 len) ≡ len = length-take-le len (drop 4 s) (omega (arith, f.room, length-drop 4 s)) in
    let four : 4 ≤ length s = omega (arith, f.room) in
    let h : number / 256 ≡ get_or s 0 0 = omega (arith, f.numbered, b 1) in
    let l : number % 256 ≡ get_or s 1 0 = omega (arith, f.numbered, b 1) in
    let h' : length (part s 4 len) / 256 ≡ get_or s 2 0 = omega (arith, f.counted, b 3) in
    let l' : length (part s 4 len) % 256 ≡ get_or s 3 0 = omega (arith, f.counted, b 3) in
    record {
      starts = f.started;
      parts = record { from = omega (arith, f.numbered, f.first.0); to = omega (arith, f.numbered, f.first.1, b 1); fits = omega (arith, f.counted, b 2, b 3) };
      whole =
          four_first s four
          ∙ λ i. sym h i ∷ sym l i ∷ sym h' i ∷ sym l' i ∷ sym (ap (λ (r : List ℕ). part s 4 len ++ r) (sym (drop-drop len 4 s)) ∙ take-append-drop len (drop 4 s)) i;
    }
