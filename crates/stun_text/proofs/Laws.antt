-- Laws of the replacement: a well-formed text stays as it is, a replaced text is well-formed, ASCII is well-formed; and of
-- what `lossy` answers: when the text fits, and that its bytes are then the replaced text.
use mathlib.Core.Path.{◌≡◌, refl, sym, ap, ap₂, ◌∙◌}
use mathlib.Core.Bool.{Bool, true, false, cond, ◌&&◌, false≢true}
use mathlib.Core.List.{List, [], ◌∷◌, ◌++◌}
use mathlib.Core.Logic.{⊎_elim}
use Prim.Native.Nat.{ℕ, zero, suc, ◌≤◌, ◌<◌}
use native.Mathlib.Nat.{not-suc-le-zero}
use native.Mathlib.Omega.{arith}
use lib.ListN.{length, take, drop, get_or, replicate, length-drop, length-append, take-append-drop}
use lib.Seq.{length-take-le, drop_at, take-take, take-append_seam}
use lib.Dec.{leb}
use Rattle.std.specs.Prelude.{Result, Ok, Err, is_ok, IfOk}
use Rattle.stun_text.specs.declared.Text.{Text}
use Rattle.stun_text.specs.declared.TooLong.{TooLong}
use borrow.Author.Tests.{leb-true, le-leb, eqb-true, eq-eqb}
use Rattle.stun_text.specs.Utf8.{Range, within, table, agree, whole, size, replacement, replaced, well_formed}
use Rattle.stun_text.specs.Lossy.{text_of, lossy_of}
use Rattle.stun_text.proofs.Table.{begins, first_byte}
use Rattle.stun_text.proofs.Cut.{size_pos, size_le, replaced_next, well_formed_next, replaced_end, well_formed_end}

both_true : (p q : Bool) → (p && q) ≡ true → (p ≡ true) × (q ≡ true)
both_true true q e = (refl, e)
both_true false q e = absurd (false≢true e)

left_over : (b : ℕ) (l : List ℕ) → length (drop (size (b ∷ l)) (b ∷ l)) ≤ length l
left_over b l = rw length-drop (omega (arith, size_pos (b ∷ l)))

kept : (n : ℕ) (l : List ℕ) → length l ≤ n → well_formed l ≡ true → replaced l ≡ l
kept zero [] h e = replaced_end [] 0 (omega arith)
kept zero (b ∷ l) h e = absurd (not-suc-le-zero h)
kept (suc n) [] h e = replaced_end [] 0 (omega arith)
kept (suc n) (b ∷ l) h e =
    let t = b ∷ l in
    let w : (whole t ≡ true) × (well_formed (drop (size t) t) ≡ true) = both_true _ _ (sym (well_formed_next t (omega arith)) ∙ e) in
    replaced_next t (omega arith)
    ∙ ap₂ (λ (q : Bool) (r : List ℕ). cond q (take (size t) t) replacement ++ r) w.0 (kept n (drop (size t) t) (omega (arith, left_over b l)) w.1)
    ∙ take-append-drop (size t) t

pub well_formed_kept : (l : List ℕ) → well_formed l ≡ true → replaced l ≡ l
well_formed_kept l e = kept (length l) l (omega arith) e

-- the bytes of a row's sequence agree whatever follows them
agree_take : (row : List Range) (l r : List ℕ) → agree row l ≡ length row → agree row (take (length row) l ++ r) ≡ length row
agree_take [] l r e = refl
agree_take (g ∷ row) [] r e = absurd (let z : suc (length row) ≤ 0 = omega arith in not-suc-le-zero z)
agree_take (g ∷ row) (b ∷ l) r e = go (within g b) (agree_take row l r) e
  where
    go : (q : Bool) → (agree row l ≡ length row → agree row (take (length row) l ++ r) ≡ length row)
        → cond q (suc (agree row l)) 0 ≡ suc (length row) → cond q (suc (agree row (take (length row) l ++ r))) 0 ≡ suc (length row)
    go true more k = ap suc (more (omega arith))
    go false more k = absurd (let z : suc (length row) ≤ 0 = omega arith in not-suc-le-zero z)

-- a well-formed sequence is the first part of itself and whatever follows it
whole_take : (l r : List ℕ) → 0 < length l → whole l ≡ true → (whole (take (size l) l ++ r) ≡ true) × (size (take (size l) l ++ r) ≡ size l)
whole_take [] r h e = absurd (not-suc-le-zero h)
whole_take (b ∷ l) r h e =
    ⊎_elim
    (λ p.
    let row = p.0 in
    let a : agree row l ≡ length row = eqb-true _ _ (sym (p.1 l).1 ∙ e) in
    let s : size (b ∷ l) ≡ suc (length row) = (p.1 l).0 ∙ ap suc a in
    let t : agree row (take (length row) l ++ r) ≡ length row = agree_take row l r a in
    let m : (whole (b ∷ (take (length row) l ++ r)) ≡ true) × (size (b ∷ (take (length row) l ++ r)) ≡ suc (length row)) =
    ((p.1 _).1 ∙ eq-eqb _ _ t, (p.1 _).0 ∙ ap suc t) in
    let d : take (size (b ∷ l)) (b ∷ l) ++ r ≡ b ∷ (take (length row) l ++ r) = ap (λ (n : ℕ). take n (b ∷ l) ++ r) s in
    (ap whole d ∙ m.0, ap size d ∙ m.1 ∙ sym s))
    (λ p. absurd (false≢true (sym (p l) ∙ e)))
    (first_byte b)

-- a well-formed part in front of a well-formed text
well_formed_cons : (p r : List ℕ) → 0 < length p → whole (p ++ r) ≡ true → size (p ++ r) ≡ length p → well_formed r ≡ true → well_formed (p ++ r) ≡ true
well_formed_cons p r h w s e =
    let l : 0 < length (p ++ r) = rw length-append (omega arith) in
    well_formed_next (p ++ r) l
    ∙ ap₂ (λ (q : Bool) (n : ℕ). q && well_formed (drop n (p ++ r))) w s
    ∙ ap well_formed (drop_at p r (length p) refl)
    ∙ e

replacement_whole : (r : List ℕ) → (whole (replacement ++ r) ≡ true) × (size (replacement ++ r) ≡ 3)
replacement_whole r =
    let b = begins (take 5 table) (drop 6 table) 0xEE 0xEF 2 0x80 0xBF 0xEF refl tt tt (omega arith) (omega arith) in
    (b.good (0xBF ∷ 0xBD ∷ r), b.long (0xBF ∷ 0xBD ∷ r))

none : well_formed (replaced []) ≡ true
none = ap well_formed (replaced_end [] 0 (omega arith)) ∙ well_formed_end [] 0 (omega arith)

mended : (n : ℕ) (l : List ℕ) → length l ≤ n → well_formed (replaced l) ≡ true
mended zero [] h = none
mended zero (b ∷ l) h = absurd (not-suc-le-zero h)
mended (suc n) [] h = none
mended (suc n) (b ∷ l) h =
    let t = b ∷ l in
    ap well_formed (replaced_next t (omega arith)) ∙ go (whole t) refl (mended n (drop (size t) t) (omega (arith, left_over b l)))
  where
    rest : List ℕ
    rest = replaced (drop (size (b ∷ l)) (b ∷ l))

    go : (q : Bool) → whole (b ∷ l) ≡ q → well_formed rest ≡ true → well_formed (cond q (take (size (b ∷ l)) (b ∷ l)) replacement ++ rest) ≡ true
    go true w e =
        let m = whole_take (b ∷ l) rest (omega arith) w in
        let k : length (take (size (b ∷ l)) (b ∷ l)) ≡ size (b ∷ l) = length-take-le (size (b ∷ l)) (b ∷ l) (size_le (b ∷ l) (omega arith)) in
        well_formed_cons (take (size (b ∷ l)) (b ∷ l)) rest (omega (arith, size_pos (b ∷ l))) m.0 (m.1 ∙ sym k) e
    go false w e = well_formed_cons replacement rest (omega arith) (replacement_whole rest).0 (replacement_whole rest).1 e

pub replaced_well_formed : (l : List ℕ) → well_formed (replaced l) ≡ true
replaced_well_formed l = mended (length l) l (omega arith)

pub replaced_twice : (l : List ℕ) → replaced (replaced l) ≡ replaced l
replaced_twice l = well_formed_kept (replaced l) (replaced_well_formed l)

pub ascii_well_formed : (l : List ℕ) → ((k : ℕ) → k < length l → get_or l k 0 < 128) → well_formed l ≡ true
ascii_well_formed [] h = well_formed_end [] 0 (omega arith)
ascii_well_formed (b ∷ l) h =
    let r = begins [] (drop 1 table) 0x00 0x7F 0 0x80 0xBF b refl tt tt (omega arith) (omega (arith, h 0 (omega arith))) in
    well_formed_cons (b ∷ []) l (omega arith) (r.good l) (r.long l) (ascii_well_formed l (λ k m. h (suc k) (omega arith)))

module _ (l : List ℕ) where
  pub lossy_fits : is_ok (lossy_of l) ≡ leb (length (replaced l)) 763
  unfolding lossy_of
  lossy_fits = go (leb (length (replaced l)) 763)
    where
      go : (t : Bool) → is_ok (cond {A = Result Text TooLong} t (Ok (text_of (replaced l))) (Err (record {}))) ≡ t
      go true = refl
      go false = refl

  pub lossy_len : IfOk (lossy_of l) (λ (t : Text). t.len ≤ 763)
  unfolding lossy_of
  lossy_len = go (leb (length (replaced l)) 763) refl
    where
      go : (t : Bool) → leb (length (replaced l)) 763 ≡ t
          → IfOk (cond {A = Result Text TooLong} t (Ok (text_of (replaced l))) (Err (record {}))) (λ (u : Text). u.len ≤ 763)
      go true e = leb-true (length (replaced l)) 763 e
      go false e = tt

  pub lossy_text : length (replaced l) ≤ 763 → lossy_of l ≡ Ok (text_of (replaced l))
  unfolding lossy_of
  lossy_text h = ap (λ (t : Bool). cond {A = Result Text TooLong} t (Ok (text_of (replaced l))) (Err (record {}))) (le-leb (length (replaced l)) 763 h)

  -- a text that fits, read back from the room
  pub text_bytes : length l ≤ 763 → take (text_of l).len (text_of l).bytes ≡ l
  text_bytes h = take-take (length l) 763 (l ++ replicate 763 0) h ∙ take-append_seam l (replicate 763 0)

-- the bytes of a replaced text that fits
pub lossy_bytes : (l : List ℕ) → IfOk (lossy_of l) (λ (t : Text). take t.len t.bytes ≡ replaced l)
unfolding lossy_of
lossy_bytes l = go (leb (length (replaced l)) 763) refl
  where
    go : (t : Bool) → leb (length (replaced l)) 763 ≡ t
        → IfOk (cond {A = Result Text TooLong} t (Ok (text_of (replaced l))) (Err (record {}))) (λ (u : Text). take u.len u.bytes ≡ replaced l)
    go true e = text_bytes (replaced l) (leb-true (length (replaced l)) 763 e)
    go false e = tt
