-- The integrity check and RFC 8489 section 14.5, both ways: it passes on every message that is signed under the key (`signed_passes`); what
-- passes is so signed, where its MESSAGE-INTEGRITY has the RFC's 20 bytes (`passes_signed`); without one nothing passes
-- (`unsigned_fails`). Anything may follow the message.
use mathlib.Core.Path.{◌≡◌, refl, sym, ap, ap₂, subst, ◌∙◌}
use Prim.Native.Nat.{ℕ, zero, suc, ◌+◌, ◌/◌, ◌%◌, ◌^◌, ◌≤◌, ◌<◌}
use native.Mathlib.Omega.{arith}
use mathlib.Core.List.{List, [], ◌∷◌, ◌++◌, append_assoc}
use mathlib.Core.Bool.{Bool, true, false, cond, false≢true, and-eq-true_iff}
use borrow.Author.Tests.{le-leb, lt-leb, le-ltb, lt-ltb, eq-eqb, eqb-true}
use lib.Dec.{leb, eqb}
use lib.ListN.{length, take, drop, length-append}
use lib.Seq.{take_at, drop_at}
use Rattle.digest.specs.Hmac.{hmac}
use Rattle.sha1_digest.specs.Rfc3174.{sha1}
use Rattle.stun_frame.specs.Rfc.{two, StunParts, stun_message}
use Rattle.stun_walk.specs.Rfc.{Part, AllFormed, body, value_of}
use Rattle.std.specs.Prelude.{Option, None, Some}
use Rattle.stun_walk.proofs.Reading.{past, typ_at, len_at, length-past, past_is}
use Rattle.stun_check.specs.Source.{integrity_from, integrity_at, verified, covered, same, u16_at, padded}
use Rattle.stun_write.specs.Source.{header}
use Rattle.stun_write.specs.Rfc.{up_to}
use Rattle.stun_write.proofs.Lengths.{length-header}
use Rattle.stun.specs.Rfc.{WellFormed}
use Rattle.stun.specs.Signed.{Signed}

same_self : (l : List ℕ) → same l l ≡ true
same_self [] = refl
same_self (x ∷ l) =
    let rest = same_self l in
    rw (eq-eqb x x refl, rest)

same_is : (a b : List ℕ) → b ≡ a → same a b ≡ true
same_is a b e = rw e (same_self a)

same_true : (a b : List ℕ) → same a b ≡ true → a ≡ b
same_true [] [] e = refl
same_true [] (y ∷ b) e = absurd (false≢true e)
same_true (x ∷ a) [] e = absurd (false≢true e)
same_true (x ∷ a) (y ∷ b) e = let t = (and-eq-true_iff (eqb x y) (same a b)).0 e in ap₂ (λ (h : ℕ) (l : List ℕ). h ∷ l) (eqb-true x y t.0) (same_true a b t.1)

body_append : (a b : List Part) → body (a ++ b) ≡ body a ++ body b
body_append [] b = refl
body_append (x ∷ a) b = rw (body_append a b) (simp append_assoc)

formed_split : (a b : List Part) → AllFormed (a ++ b) → AllFormed a × AllFormed b
formed_split [] b f = (tt, f)
formed_split (x ∷ a) b f = let r = formed_split a b f.1 in ((f.0, r.0), r.1)

-- the first attribute is not of the type, and none of the others
missed : (q : Bool) (v : List ℕ) (rest : Option (List ℕ)) → cond q (Some v) rest ≡ None → (q ≡ false) × (rest ≡ None)
missed false v rest e = (refl, e)
missed true v rest e = absurd (let z : ◌≡◌ {A = ℕ} 0 1 = cc in omega arith)

-- from one place on the search finds what it finds from a later one on
record Passed (b : List ℕ) (n from to : ℕ) : Type 0 where
  fuel : ℕ
  enough : n + from ≤ fuel + to
  finds : integrity_from n b from ≡ integrity_from fuel b to

onward : {b : List ℕ} {n from next end to : ℕ} → integrity_from (suc n) b from ≡ integrity_from n b next → from < next → Passed b n next end → end ≡ to → Passed b (suc n) from to
onward {b} step lt r e =
    record { fuel = r.fuel; enough = omega (arith, r.enough); finds = step ∙ r.finds ∙ ap (integrity_from r.fuel b) e }

-- where the attributes between them are no MESSAGE-INTEGRITY
passed : (before : List Part) (b pre after : List ℕ) (n : ℕ) → value_of 8 before ≡ None → AllFormed before → b ≡ pre ++ (body before ++ after)
    → length pre + length (body before) ≤ 20 + u16_at b 2 → length (body before) ≤ n → Passed b n (length pre) (length pre + length (body before))
unfolding integrity_from
passed [] b pre after n u f is end enough = record { fuel = n; enough = omega arith; finds = ap (integrity_from n b) (omega arith) }
passed (x ∷ before) b pre after zero u f is end enough = absurd (omega arith)
passed (x ∷ before) b pre after (suc n) u f is end enough =
    let size : length (body (x ∷ before)) ≡ 4 + (length x.value + (length x.pad + length (body before))) = simp length-append (omega arith) in
    let whole : length b ≡ length pre + (length (body (x ∷ before)) + length after) = ap length is ∙ simp length-append in
    let go : leb (length pre + 4) (20 + u16_at b 2) ≡ true = le-leb (length pre + 4) (20 + u16_at b 2) (omega arith) in
    let lies : leb (length pre + 4) (length b) ≡ true = le-leb (length pre + 4) (length b) (omega arith) in
    let m = missed (eqb x.typ 8) x.value (value_of 8 before) u in
    let next : List ℕ = past b pre after x before f.0 is in
    let q : length next ≡ length pre + 4 + padded (length x.value) = length-past b pre after x before f.0 is in
    let step : integrity_from (suc n) b (length pre) ≡ integrity_from n b (length next) =
    rw (go, lies, typ_at b pre after x before f.0 is, m.0, len_at b pre after x before f.0 is, q) in
    onward step (omega arith)
    (passed before b next after n m.1 f.1 (past_is b pre after x before f.0 is) (omega (arith, f.0)) (omega arith))
    (omega (arith, f.0))

module _ (typ : ℕ) (id rest : List ℕ) (parts : List Part) (good : StunParts typ id (body parts)) (formed : AllFormed parts) where
  abbrev bytes_of : List ℕ
  bytes_of = stun_message typ id (body parts) ++ rest

  abbrev front : List ℕ
  front = header typ (length (body parts)) id

  twenty : length front ≡ 20
  twenty = length-header typ (length (body parts)) id good.ided

  long : length bytes_of ≡ 20 + length (body parts) + length rest
  long = simp length-append (omega (arith, good.ided))

  counted : u16_at bytes_of 2 ≡ length (body parts)
  counted = omega arith

  is : bytes_of ≡ front ++ (body parts ++ rest)
  is = simp append_assoc

  -- without a MESSAGE-INTEGRITY the search ends behind the last attribute
  none : value_of 8 parts ≡ None → integrity_at bytes_of ≡ length bytes_of
  unfolding integrity_from
  none u =
      let r = passed parts bytes_of front rest (length bytes_of) u formed is (omega (arith, twenty, counted)) (omega (arith, long)) in
      ap (integrity_from (length bytes_of) bytes_of) (sym twenty) ∙ r.finds ∙ stop r.fuel
    where
      stop : (k : ℕ) → integrity_from k bytes_of (length front + length (body parts)) ≡ length bytes_of
      stop zero = refl
      stop (suc k) = rw (lt-leb (length front + length (body parts) + 4) (20 + u16_at bytes_of 2) (omega (arith, twenty, counted)))

  fails : (key : List ℕ) → value_of 8 parts ≡ None → verified bytes_of key ≡ false
  unfolding verified
  fails key u = rw (none u, lt-ltb (length bytes_of) (length bytes_of + 24) (omega arith))

  -- with one, `mine` the first
  module _ (before : List Part) (mine : Part) (after : List Part) (split : parts ≡ before ++ (mine ∷ after)) (u : value_of 8 before ≡ None) (t : mine.typ ≡ 8)
      (n : length mine.value ≡ 20) where
    abbrev place : List ℕ
    place = front ++ body before

    apart : body parts ≡ body before ++ body (mine ∷ after)
    apart = ap body split ∙ body_append before (mine ∷ after)

    placed : bytes_of ≡ place ++ (body (mine ∷ after) ++ rest)
    placed =
        is ∙ ap (λ (l : List ℕ). front ++ l) (ap (λ (l : List ℕ). l ++ rest) apart ∙ append_assoc (body before) _ rest)
        ∙ sym (append_assoc front (body before) _)

    formed_all : AllFormed before × AllFormed (mine ∷ after)
    formed_all = formed_split before (mine ∷ after) (subst AllFormed split formed)

    length-place : length place ≡ 20 + length (body before)
    length-place = length-append front (body before) ∙ omega (arith, twenty)

    size : length (body parts) ≡ length (body before) + (24 + length (body after))
    size =
        let s : length (body (mine ∷ after)) ≡ 4 + (length mine.value + (length mine.pad + length (body after))) = simp length-append (omega arith) in
        ap length apart ∙ length-append (body before) _ ∙ omega (arith, formed_all.1.0)

    found : integrity_at bytes_of ≡ 20 + length (body before)
    unfolding integrity_from
    found =
        let from : bytes_of ≡ front ++ (body before ++ (body (mine ∷ after) ++ rest)) = placed ∙ append_assoc front (body before) _ in
        let r = passed before bytes_of front (body (mine ∷ after) ++ rest) (length bytes_of) u formed_all.0 from (omega (arith, twenty, counted, size)) (omega (arith, long, size)) in
        ap (integrity_from (length bytes_of) bytes_of) (sym twenty) ∙ r.finds ∙ ap (integrity_from r.fuel bytes_of) (omega (arith, twenty, length-place)) ∙ here r.fuel (omega (arith, r.enough, twenty, long, size)) ∙ length-place
      where
        here : (k : ℕ) → 0 < k → integrity_from k bytes_of (length place) ≡ length place
        here zero h = absurd (omega arith)
        here (suc k) h =
            let go : leb (length place + 4) (20 + u16_at bytes_of 2) ≡ true = le-leb (length place + 4) (20 + u16_at bytes_of 2) (omega (arith, length-place, counted, size)) in
            let lies : leb (length place + 4) (length bytes_of) ≡ true = le-leb (length place + 4) (length bytes_of) (omega (arith, length-place, long, size)) in
            rw (go, lies, typ_at bytes_of place rest mine after formed_all.1.0 placed, eq-eqb mine.typ 8 t)

    -- the bytes that the check covers, and those that it compares
    covered_is : covered bytes_of (20 + length (body before)) ≡ up_to typ id (body before) (body (mine ∷ []))
    covered_is =
        let m : length (body before ++ body (mine ∷ [])) ≡ length (body before) + 24 =
        let s : length (body (mine ∷ [])) ≡ 4 + (length mine.value + (length mine.pad + 0)) = simp length-append (omega arith) in
        length-append (body before) _ ∙ omega (arith, formed_all.1.0) in
        let w : (20 + length (body before) + 4) % 2 ^ 16 ≡ length (body before) + 24 = omega (arith, good.fits, size) in
        let hi : (length (body before) + 24) / 256 % 256 ≡ (length (body before) + 24) / 256 = omega (arith, good.fits, size) in
        let d : drop 4 (take (20 + length (body before)) bytes_of) ≡ (0x21 ∷ 0x12 ∷ 0xA4 ∷ 0x42 ∷ []) ++ id ++ body before =
        ap (drop 4) (ap (take (20 + length (body before))) placed ∙ take_at place _ (20 + length (body before)) length-place) in
        rw (w, hi, d, m)

    value_is : take 20 (drop (20 + length (body before) + 4) bytes_of) ≡ mine.value
    value_is =
        let head : List ℕ = place ++ (two mine.typ ++ two (length mine.value)) in
        let tail : List ℕ = mine.pad ++ (body after ++ rest) in
        let l : length head ≡ 20 + length (body before) + 4 = length-append place _ ∙ omega (arith, length-place) in
        let s : bytes_of ≡ head ++ (mine.value ++ tail) = placed ∙ simp append_assoc in
        ap (λ (x : List ℕ). take 20 (drop (20 + length (body before) + 4) x)) s ∙ ap (take 20) (drop_at head (mine.value ++ tail) _ l) ∙ take_at mine.value tail 20 n

    compared : (key : List ℕ) → verified bytes_of key ≡ same (hmac sha1 key (up_to typ id (body before) (body (mine ∷ [])))) mine.value
    unfolding verified
    compared key =
        rw (found, le-ltb (length bytes_of) (20 + length (body before) + 24) (omega (arith, long, size)), covered_is, value_is)

-- the first attribute of a type, and what stands before and after it
record Cut (t : ℕ) (parts : List Part) (v : List ℕ) : Type 0 where
  before : List Part
  mine : Part
  after : List Part
  split : parts ≡ before ++ (mine ∷ after)
  first : value_of t before ≡ None
  typed : mine.typ ≡ t
  valued : mine.value ≡ v

cut : (t : ℕ) (parts : List Part) (v : List ℕ) → value_of t parts ≡ Some v → Cut t parts v
cut t [] v e = absurd (let z : ◌≡◌ {A = ℕ} 0 1 = cc in omega arith)
cut t (a ∷ more) v e = go (eqb a.typ t) refl e (cut t more v)
  where
    go : (q : Bool) → eqb a.typ t ≡ q → cond q (Some a.value) (value_of t more) ≡ Some v → (value_of t more ≡ Some v → Cut t more v) → Cut t (a ∷ more) v
    go true q i rest = record { before = []; mine = a; after = more; split = refl; first = refl; typed = eqb-true a.typ t q; valued = cc }
    go false q i rest =
        let c : Cut t more v = rest i in
        record {
          before = a ∷ c.before;
          mine = c.mine;
          after = c.after;
          split = ap (λ (l : List Part). a ∷ l) c.split;
          first = rw q c.first;
          typed = c.typed;
          valued = c.valued;
        }

pub signed_passes : {key m : List ℕ} → Signed key m → (rest : List ℕ) → verified (m ++ rest) key ≡ true
signed_passes {key} {m} s rest =
    let parts : List Part = s.before ++ (s.mine ∷ s.after) in
    let w : WellFormed m s.typ s.id parts = s.message in
    ap (λ (l : List ℕ). verified (l ++ rest) key) w.whole
    ∙ compared s.typ s.id rest parts w.header w.attributes s.before s.mine s.after refl s.first s.typed s.twenty key
    ∙ same_is _ _ s.code

module _ {m : List ℕ} {typ : ℕ} {id : List ℕ} {parts : List Part} (w : WellFormed m typ id parts) (key rest : List ℕ) where
  pub passes_signed : {v : List ℕ} → value_of 0x0008 parts ≡ Some v → length v ≡ 20 → verified (m ++ rest) key ≡ true → Signed key m
  passes_signed {v} e n p =
      let c : Cut 8 parts v = cut 8 parts v e in
      let l : length c.mine.value ≡ 20 = ap length c.valued ∙ n in
      let q = compared typ id rest parts w.header w.attributes c.before c.mine c.after c.split c.first c.typed l key in
      record {
        typ = typ;
        id = id;
        before = c.before;
        mine = c.mine;
        after = c.after;
        message = subst (λ (l : List Part). WellFormed m typ id l) c.split w;
        first = c.first;
        typed = c.typed;
        twenty = l;
        code = sym (same_true _ _ (sym q ∙ ap (λ (l : List ℕ). verified (l ++ rest) key) (sym w.whole) ∙ p));
      }

  pub unsigned_fails : value_of 0x0008 parts ≡ None → verified (m ++ rest) key ≡ false
  unsigned_fails u = ap (λ (l : List ℕ). verified (l ++ rest) key) w.whole ∙ fails typ id rest parts w.header w.attributes key u
