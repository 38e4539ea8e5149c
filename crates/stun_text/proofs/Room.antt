-- The room that fills up: it holds the parts so far and zeros after them, and the replaced text is those parts and the replaced
-- rest.
use mathlib.Core.Path.{◌≡◌, refl, sym, ap, ap₂, ◌∙◌}
use mathlib.Core.Bool.{Bool, true, false, cond}
use mathlib.Core.List.{List, [], ◌∷◌, ◌++◌, append-nil, append_assoc}
use Prim.Native.Nat.{ℕ, zero, suc, ◌+◌, ◌-◌, ◌≤◌, ◌<◌}
use native.Mathlib.Nat.{not-suc-le-zero, le_of_suc-le-suc, sub-zero, suc-sub-suc, zero-sub}
use native.Mathlib.Omega.{arith}
use lib.ListN.{length, take, drop, replicate, length-append, length-replicate}
use lib.Seq.{paste, take-append-add, take-append_seam, drop-append-add, take-length}
use lib.Dec.{leb}
use borrow.Rule.Slice.PartMut.{put_mid}
use Rattle.std.proofs.lemmas.Slice.{put_mid-paste}
use borrow.Author.Tests.{le-leb, lt-leb}
use Rattle.std.specs.Prelude.{Result, Ok, Err}
use Rattle.stun_text.specs.declared.Text.{Text}
use Rattle.stun_text.specs.declared.TooLong.{TooLong}
use Rattle.stun_text.specs.Utf8.{replaced}
use Rattle.stun_text.specs.Following.{cut}
use Rattle.stun_text.specs.Lossy.{filled, text_of, lossy_of}
use Rattle.stun_text.proofs.Cut.{replaced_end, subpart_next}

take-zeros : (k n : ℕ) → k ≤ n → take {A = ℕ} k (replicate n 0) ≡ replicate k 0
take-zeros zero n h = refl
take-zeros (suc k) zero h = absurd (not-suc-le-zero h)
take-zeros (suc k) (suc n) h = ap {B = List ℕ} (λ l. 0 ∷ l) (take-zeros k n (le_of_suc-le-suc h))

drop-zeros : (k n : ℕ) → drop {A = ℕ} k (replicate n 0) ≡ replicate (n - k) 0
drop-zeros zero n = ap (λ (m : ℕ). replicate m 0) (sym (sub-zero n))
drop-zeros (suc k) zero = ap (λ (m : ℕ). replicate m 0) (sym (zero-sub (suc k)))
drop-zeros (suc k) (suc n) = drop-zeros k n ∙ ap (λ (m : ℕ). replicate m 0) (sym (suc-sub-suc n k))

-- a text with zeros up to n
pad : (n : ℕ) (p : List ℕ) → length p ≤ n → take n (p ++ replicate n 0) ≡ p ++ replicate (n - length p) 0
pad n p h =
    let e : n ≡ length p + (n - length p) = omega arith in
    ap (λ (k : ℕ). take k (p ++ replicate n 0)) e
    ∙ take-append-add p (replicate n 0) (n - length p)
    ∙ ap (λ (l : List ℕ). p ++ l) (take-zeros (n - length p) n (omega arith))

length_pad : (n : ℕ) (p : List ℕ) → length p ≤ n → length (take n (p ++ replicate n 0)) ≡ n
length_pad n p h = ap length (pad n p h) ∙ simp (length-append, length-replicate) (omega arith)

-- one more part lands right after it
paste_pad : (n : ℕ) (p q : List ℕ) → length p + length q ≤ n → paste (take n (p ++ replicate n 0)) (length p) q (length q) ≡ take n ((p ++ q) ++ replicate n 0)
paste_pad n p q h =
    let z : List ℕ = replicate (n - length p) 0 in
    let l : length (p ++ q) ≡ length p + length q = length-append p q in
    let r : n - length p - length q ≡ n - length (p ++ q) = omega arith in
    ap (λ (d : List ℕ). paste d (length p) q (length q)) (pad n p (omega arith))
    ∙ ap₂ (λ (a b : List ℕ). a ++ b ++ drop (length p + length q) (p ++ z)) (take-append_seam p z) (take-length q)
    ∙ ap (λ (t : List ℕ). p ++ q ++ t) (drop-append-add p z (length q) ∙ drop-zeros (length q) (n - length p) ∙ ap (λ (m : ℕ). replicate m 0) r)
    ∙ sym (pad n (p ++ q) (omega arith))

-- what the room holds, of len bytes and zeros, when the text has been read up to i
pub record Written (s bytes : List ℕ) (len i : ℕ) : Type 0 where
  pub text : List ℕ
  pub long : length text ≡ len
  pub laid : bytes ≡ filled text
  pub rest : replaced s ≡ text ++ replaced (drop i s)
  pub many : length (replaced s) ≡ len + length (replaced (drop i s))

pub written_none : (s : List ℕ) → Written s (filled []) 0 0
written_none s = record { text = []; long = refl; laid = refl; rest = refl; many = omega arith }

module _ {s bytes : List ℕ} {len i : ℕ} (room : len ≤ 763) (w : Written s bytes len i) where
  -- the next part is laid
  pub written_next : (part laid : List ℕ) (n k j : ℕ) → laid ≡ part → k ≡ n → n ≡ length part → len + n ≤ 763
      → replaced (drop i s) ≡ part ++ replaced (drop j s) → Written s (put_mid len k bytes laid) (len + n) j
  written_next part laid n k j o q e h r =
      record {
        text = w.text ++ part;
        long = length-append w.text part ∙ ap₂ (λ (a b : ℕ). a + b) w.long (sym e);
        laid =
            put_mid-paste len k bytes laid part (length part) o (omega (arith, e, q)) refl
            ∙ ap₂ (λ (d : List ℕ) (k : ℕ). paste d k part (length part)) w.laid (sym w.long)
            ∙ paste_pad 763 w.text part (omega (arith, w.long, e));
        rest = w.rest ∙ ap (λ (l : List ℕ). w.text ++ l) r ∙ sym (append_assoc w.text part (replaced (drop j s)));
        many = omega (arith, w.many, e, simp length-append at (ap length r));
      }

  -- the next part has no room
  pub written_over : (part more : List ℕ) → replaced (drop i s) ≡ part ++ more → 763 < len + length part → ◌≡◌ {A = Result Text TooLong} (Err (record {})) (lossy_of s)
  unfolding lossy_of
  written_over part more r h =
      let l : length (replaced s) ≡ len + (length part + length more) =
      ap length (w.rest ∙ ap (λ (l : List ℕ). w.text ++ l) r) ∙ simp length-append (omega (arith, w.long)) in
      let b : leb (length (replaced s)) 763 ≡ false = lt-leb (length (replaced s)) 763 (omega arith) in
      sym (ap (λ (t : Bool). cond {A = Result Text TooLong} t (Ok (text_of (replaced s))) (Err (record {}))) b)

  -- the text has been read to its end
  pub written_all : length s ≤ i → ◌≡◌ {A = Result Text TooLong} (Ok (record { bytes = bytes; len = len })) (lossy_of s)
  unfolding lossy_of
  written_all h =
      let e : replaced s ≡ w.text = w.rest ∙ ap (λ (l : List ℕ). w.text ++ l) (replaced_end s i h) ∙ append-nil w.text in
      let l : length (replaced s) ≡ len = ap length e ∙ w.long in
      let b : leb (length (replaced s)) 763 ≡ true = le-leb (length (replaced s)) 763 (omega arith) in
      ap₂ {C = Result Text TooLong} (λ (a : List ℕ) (k : ℕ). Ok (record { bytes = a; len = k })) (w.laid ∙ ap filled (sym e)) (sym l)
      ∙ sym (ap (λ (t : Bool). cond {A = Result Text TooLong} t (Ok (text_of (replaced s))) (Err (record {}))) b)

-- the mark for an ill-formed part takes three bytes
pub mark_next : (s : List ℕ) (i n : ℕ) → i < length s → Err n ≡ cut (drop i s) → 3 ≤ length (replaced (drop i s))
mark_next s i n h e = omega (arith, ap length (subpart_next s i n h e))

-- a replaced text that is too long
pub over : (s : List ℕ) → 763 < length (replaced s) → lossy_of s ≡ Err (record {})
unfolding lossy_of
over s h = ap (λ (t : Bool). cond {A = Result Text TooLong} t (Ok (text_of (replaced s))) (Err (record {}))) (lt-leb (length (replaced s)) 763 h)
