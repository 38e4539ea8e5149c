-- `decode` reads what the grammar of specs/Reading.antt derives, as the derivation says (`readable_reads`), and nothing else
-- (`reads_readable`). RFC 8489's messages have a derivation, with anything after them (`formed_readable`); one that counts all the bytes, a
-- multiple of four, is such a message (`readable_formed`).
use mathlib.Core.Path.{◌≡◌, refl, sym, ap, ap₂, subst, ◌∙◌}
use Prim.Native.Nat.{ℕ, zero, suc, ◌+◌, ◌-◌, ◌*◌, ◌/◌, ◌%◌, ◌^◌, ◌≤◌, ◌<◌, min}
use native.Mathlib.Omega.{arith}
use native.Mathlib.Decide.{dec_le}
use native.Mathlib.Nat.{lt_of_not-le, mod-eq_of_lt}
use mathlib.Core.Logic.{◌⊎◌, inl, inr}
use mathlib.Core.List.{List, [], ◌∷◌, ◌++◌, map, append_assoc}
use mathlib.Core.Bool.{Bool, true, false, cond, ◌&&◌, and-eq-true_iff}
use borrow.Author.Tests.{le-leb, lt-leb, leb-true, eqb-true}
use lib.Dec.{leb, eqb}
use lib.ListN.{length, get_or, take, drop, replicate, length-append, length-take, length-drop, take-append-drop, drop_of_length-le}
use lib.Seq.{take_at, drop_at, drop-drop, length-take-le, get_or-append-add, get_or-append_seam}
use lib.Bits.{bit_and, and_high}
use Rattle.lists.proofs.Elements.{take_four}
use Rattle.stun_frame.specs.Source.{field_at, is_stun}
use Rattle.stun_frame.specs.Rfc.{two}
use Rattle.stun_address.proofs.Network.{Bytes}
use Rattle.std.specs.Prelude.{Some}
use Rattle.stun_walk.specs.Source.{Attribute as Placed, attributes_from, attributes, inside, padded, readable, first, get_of}
use Rattle.stun_walk.specs.Rfc.{Part, AllFormed, body, value_of}
use Rattle.stun_walk.proofs.Reading.{Meaning, seen, meant}
use Rattle.stun_walk.proofs.Message.{Reads, looked}
use Rattle.stun_walk.proofs.Values.{decoded_some}
use Rattle.stun.specs.Rfc.{WellFormed}
use Rattle.stun.specs.Reading.{Attribute, Attributes, done, next, Readable}

field_behind : (pre rest : List ℕ) (x : ℕ) → field_at (pre ++ (two x ++ rest)) (length pre) ≡ x
field_behind pre rest x =
    let a : get_or (pre ++ (two x ++ rest)) (length pre) 0 ≡ x / 256 = get_or-append_seam pre (x / 256) (x % 256 ∷ rest) 0 in
    let b : get_or (pre ++ (two x ++ rest)) (length pre + 1) 0 ≡ x % 256 = get_or-append-add pre (two x ++ rest) 1 0 in
    rw (a, b) (omega arith)

-- one attribute at the place where `pre` ends
module _ (b pre rest : List ℕ) (a : Part) (is : b ≡ pre ++ (two a.typ ++ (two (length a.value) ++ (a.value ++ (a.pad ++ rest))))) where
  abbrev past : List ℕ
  past = pre ++ (two a.typ ++ (two (length a.value) ++ (a.value ++ a.pad)))

  typ_at : field_at b (length pre) ≡ a.typ
  typ_at = rw is (field_behind pre _ a.typ)

  len_at : field_at b (length pre + 2) ≡ length a.value
  len_at =
      let l : length pre + 2 ≡ length (pre ++ two a.typ) = simp length-append (omega arith) in
      let s : b ≡ (pre ++ two a.typ) ++ (two (length a.value) ++ (a.value ++ (a.pad ++ rest))) = is ∙ sym (append_assoc pre (two a.typ) _) in
      rw (s, l) (field_behind (pre ++ two a.typ) _ (length a.value))

  value_at : take (length a.value) (drop (length pre + 4) b) ≡ a.value
  value_at =
      let head : List ℕ = (pre ++ two a.typ) ++ two (length a.value) in
      let l : length head ≡ length pre + 4 = simp length-append (omega arith) in
      let s : b ≡ head ++ (a.value ++ (a.pad ++ rest)) = is ∙ simp append_assoc in
      rw (s, drop_at head (a.value ++ (a.pad ++ rest)) (length pre + 4) l) (take_at a.value _ (length a.value) refl)

  length-past : length past ≡ length pre + (4 + length a.value + length a.pad)
  length-past = simp length-append (omega arith)

  past_is : b ≡ past ++ rest
  past_is = is ∙ simp append_assoc

empty_list : (l : List ℕ) → length l ≡ 0 → l ≡ []
empty_list [] e = refl
empty_list (x ∷ l) e = absurd (omega arith)

-- padding is missing only at the buffer's end
gap : (missing r : ℕ) → (0 < missing → r ≡ 0) → (missing ≡ 0) ⊎ (r ≡ 0)
gap zero r h = inl refl
gap (suc m) r h = inr (h (omega arith))

-- so behind an attribute the walk stands where the next one begins, or past the end
after : (left v pad missing p end long r : ℕ) → (missing ≡ 0) ⊎ (r ≡ 0) → left ≡ end - p → 4 ≤ left → long ≡ p + (4 + v + pad) + r → end ≤ long
    → pad + missing < 4 → (v + pad + missing) % 4 ≡ 0
    → (left - (4 + v + pad) ≡ end - (p + 4 + padded v)) × (4 ≤ left - (4 + v + pad) → p + 4 + padded v ≡ p + (4 + v + pad))
after left v pad missing p end long r (inl m) l h w f s k = (omega arith, λ g. omega arith)
after left v pad missing p end long r (inr m) l h w f s k = (omega arith, λ g. omega arith)

-- what the walk finds from p on, with n attributes enough
record Walked (b : List ℕ) (n p : ℕ) (parts : List Part) : Type 0 where
  found : map (seen b) (attributes_from n b p) ≡ map meant parts
  lies : inside b (attributes_from n b p) ≡ true
  firsts : (t : ℕ) → looked b (first t (attributes_from n b p)) ≡ value_of t parts

-- one attribute more in front
stepped : (b : List ℕ) (n p to : ℕ) (a : Part) (more : List Part)
    → attributes_from (suc n) b p ≡ record { at = p; typ = a.typ; len = length a.value } ∷ attributes_from n b to
    → take (length a.value) (drop (p + 4) b) ≡ a.value → p + 4 + length a.value ≤ length b → Walked b n to more → Walked b (suc n) p (a ∷ more)
stepped b n p to a more step value room r =
    record {
      found = ap (map (seen b)) step ∙ ap₂ (λ (x : Meaning) (xs : List Meaning). x ∷ xs) (λ i. record { typ = a.typ; value = value i }) r.found;
      lies = ap (inside b) step ∙ rw (le-leb (p + 4 + length a.value) (length b) room, r.lies);
      firsts = λ t. ap (λ (l : List Placed). looked b (first t l)) step ∙ pick t (eqb a.typ t);
    }
  where
    pick : (t : ℕ) (q : Bool)
        → looked b (cond q (Some (record { start = p + 4; len = length a.value })) (first t (attributes_from n b to))) ≡ cond q (Some a.value) (value_of t more)
    pick t true = ap Some value
    pick t false = r.firsts t

module _ (b : List ℕ) (fits : 20 + field_at b 2 ≤ length b) where
  abbrev end : ℕ
  end = 20 + field_at b 2

  empty : (n p : ℕ) → end < p + 4 → attributes_from n b p ≡ []
  unfolding attributes_from
  empty zero p h = refl
  empty (suc n) p h = rw (lt-leb (p + 4) end h)

  walked : {left : ℕ} {bytes : List ℕ} {parts : List Part} → Attributes left bytes parts → (pre : List ℕ) (n p : ℕ) → b ≡ pre ++ bytes
      → left ≡ end - p → (4 ≤ left → p ≡ length pre) → length b ≤ p + n → Walked b n p parts
  unfolding attributes_from
  walked (done h) pre n p is l at enough =
      let e : attributes_from n b p ≡ [] = empty n p (omega arith) in
      record { found = rw e; lies = rw e; firsts = λ t. rw e }
  walked (next h a d) pre zero p is l at enough = absurd (omega arith)
  walked (next {left} {a = x} {rest} {more} h a d) pre (suc n) p is l at enough =
      let v : ℕ = length x.value in
      let here : p ≡ length pre = at h in
      let to : ℕ = p + 4 + padded v in
      let w : length b ≡ length pre + (4 + v + length x.pad) + length rest = ap length (past_is b pre rest x is) ∙ length-append (past b pre rest x is) rest ∙ omega (arith, length-past b pre rest x is) in
      let m = after left v (length x.pad) a.missing p end (length b) (length rest) (gap a.missing (length rest) (λ m. ap length (a.ends m))) l h (omega arith) fits a.least a.boundary in
      let r = walked d (past b pre rest x is) n to (past_is b pre rest x is) m.0 (λ g. m.1 g ∙ omega (arith, length-past b pre rest x is)) (omega arith) in
      let step : attributes_from (suc n) b p ≡ record { at = p; typ = x.typ; len = v } ∷ attributes_from n b to =
      rw (le-leb (p + 4) end (omega arith), here, typ_at b pre rest x is, len_at b pre rest x is) in
      stepped b n p to x more step (rw here (value_at b pre rest x is)) (omega arith) r

module _ (typ count : ℕ) (id bytes : List ℕ) (parts : List Part) (top : typ < 2 ^ 14) (ided : length id ≡ 12) (there : count ≤ length bytes)
    (d : Attributes count bytes parts) where
  abbrev front : List ℕ
  front = two typ ++ (two count ++ ((0x21 ∷ 0x12 ∷ 0xA4 ∷ 0x42 ∷ []) ++ id))

  abbrev message : List ℕ
  message = two typ ++ (two count ++ ((0x21 ∷ 0x12 ∷ 0xA4 ∷ 0x42 ∷ []) ++ (id ++ bytes)))

  long : length message ≡ 20 + length bytes
  long = omega (arith, ided, length-append id bytes)

  typ_is : field_at message 0 ≡ typ
  typ_is = omega arith

  count_is : field_at message 2 ≡ count
  count_is = omega arith

  stun : is_stun message ≡ true
  unfolding is_stun
  stun =
      let t : bit_and (typ / 256) 0xC0 ≡ 0 = and_high (typ / 256) 2 6 ∙ omega arith in
      rw (le-leb 20 (length message) (omega (arith, long)), t)

  walk : Walked message (length message) 20 parts
  walk =
      walked message (omega (arith, long, count_is)) d front (length message) 20 refl (omega (arith, count_is)) (λ h. omega (arith, ided)) (omega arith)

  is_readable : readable message ≡ true
  unfolding readable
  is_readable = rw (stun, count_is, le-leb (20 + count) (length message) (omega (arith, long)), walk.lies)

  firsts_are : (t : ℕ) → looked message (get_of message t) ≡ value_of t parts
  unfolding get_of
  firsts_are t = let g : get_of message t ≡ first t (attributes message) = rw is_readable in ap (looked message) g ∙ walk.firsts t

  all_read : Reads message typ id parts
  all_read =
      record {
        read = is_readable;
        head = sym (decoded_some message is_readable typ id (sym typ_is) (sym (take_at id bytes 12 ided)));
        each = walk.found;
        lookup = firsts_are;
      }

-- what has a derivation is read by it: type, id, each attribute in order, the first of each type
pub readable_reads : {b : List ℕ} {typ : ℕ} {id : List ℕ} {parts : List Part} → Readable b typ id parts → Reads b typ id parts
readable_reads {b} {typ} {id} {parts} r =
    subst (λ (m : List ℕ). Reads m typ id parts) (sym r.header) (all_read typ r.count id r.bytes parts r.top r.ided r.there r.attributes)

-- the RFC's attributes, with anything after them
formed_attributes : (parts : List Part) (rest : List ℕ) → AllFormed parts → Attributes (length (body parts)) (body parts ++ rest) parts
formed_attributes [] rest f = let z : 0 < 4 = omega arith in done z
formed_attributes (a ∷ more) rest f =
    let size : length (body (a ∷ more)) ≡ 4 + length a.value + length a.pad + length (body more) = simp length-append (omega arith) in
    let l : length (body more) ≡ length (body (a ∷ more)) - (4 + length a.value + length a.pad) = omega arith in
    let is : two a.typ ++ (two (length a.value) ++ (a.value ++ (a.pad ++ (body more ++ rest)))) ≡ body (a ∷ more) ++ rest = simp append_assoc in
    let one : Attribute a (body more ++ rest) =
    record { typed = f.0.typed; short = f.0.short; missing = 0; least = omega (arith, f.0.least); boundary = omega (arith, f.0.whole); ends = λ h. absurd (omega arith) } in
    subst (λ (bytes : List ℕ). Attributes (length (body (a ∷ more))) bytes (a ∷ more)) is
    (next (omega arith) one (subst (λ (left : ℕ). Attributes left (body more ++ rest) more) l (formed_attributes more rest f.1)))

pub formed_readable : {m : List ℕ} {typ : ℕ} {id : List ℕ} {parts : List Part} → WellFormed m typ id parts → (rest : List ℕ) → Readable (m ++ rest) typ id parts
formed_readable {m} {typ} {id} {parts} w rest =
    record {
      count = length (body parts);
      bytes = body parts ++ rest;
      top = w.header.top;
      ided = w.header.ided;
      counted = w.header.fits;
      there = omega (arith, length-append (body parts) rest);
      header = ap (λ (l : List ℕ). l ++ rest) w.whole ∙ simp append_assoc;
      attributes = formed_attributes parts rest w.attributes;
    }

-- and back, where they end on a 32-bit boundary and nothing is behind them
attributes_formed : {left : ℕ} {bytes : List ℕ} {parts : List Part} → Attributes left bytes parts → length bytes ≡ left → left % 4 ≡ 0
    → AllFormed parts × (bytes ≡ body parts)
attributes_formed (done {left} {bytes} h) n w = (tt, empty_list bytes (omega arith))
attributes_formed (next {left} {a} {rest} {more} h one d) n w =
    let size : length (two a.typ ++ (two (length a.value) ++ (a.value ++ (a.pad ++ rest)))) ≡ 4 + length a.value + length a.pad + length rest = simp length-append (omega arith) in
    let m : one.missing ≡ 0 = none_missing (gap one.missing (length rest) (λ g. ap length (one.ends g))) (omega arith) in
    let r = attributes_formed d (omega arith) (omega (arith, one.boundary)) in (
      (record { typed = one.typed; short = one.short; least = omega (arith, one.least); whole = omega (arith, one.boundary) }, r.0),
      ap (λ (l : List ℕ). two a.typ ++ (two (length a.value) ++ (a.value ++ (a.pad ++ l)))) r.1,
    )
  where
    none_missing : (one.missing ≡ 0) ⊎ (length rest ≡ 0) → length a.value + length a.pad + length rest + 4 ≡ left → one.missing ≡ 0
    none_missing (inl m) s = m
    none_missing (inr z) s = omega (arith, one.least, one.boundary)

pub readable_formed : {b : List ℕ} {typ : ℕ} {id : List ℕ} {parts : List Part} (r : Readable b typ id parts) → length r.bytes ≡ r.count → r.count % 4 ≡ 0
    → WellFormed b typ id parts
readable_formed {typ = typ} {id} {parts} r n w =
    let f = attributes_formed r.attributes n w in
    let l : r.count ≡ length (body parts) = sym n ∙ ap length f.1 in
    record {
      header = record { top = r.top; ided = r.ided; fits = omega (arith, r.counted); whole = omega arith };
      attributes = f.0;
      whole = r.header ∙ ap₂ (λ (k : ℕ) (x : List ℕ). two typ ++ (two k ++ ((0x21 ∷ 0x12 ∷ 0xA4 ∷ 0x42 ∷ []) ++ (id ++ x)))) l f.1;
    }

pub byte : (l : List ℕ) → Bytes l → (i : ℕ) → get_or l i 0 < 256
byte [] h i = omega arith
byte (x ∷ l) h zero = h.0
byte (x ∷ l) h (suc i) = byte l h.1 i

-- a field's two bytes
field_bytes : (b : List ℕ) → Bytes b → (p : ℕ) → two (field_at b p) ≡ get_or b p 0 ∷ get_or b (p + 1) 0 ∷ []
field_bytes b h p = ap₂ (λ (x y : ℕ). x ∷ y ∷ []) (omega (arith, byte b h (p + 1))) (omega (arith, byte b h (p + 1)))

-- k bytes from p on, and the rest
parted : (b : List ℕ) (p k : ℕ) → drop p b ≡ take k (drop p b) ++ drop (p + k) b
parted b p k = sym (take-append-drop k (drop p b)) ∙ ap (λ (l : List ℕ). take k (drop p b) ++ l) (drop-drop k p b)

module _ (b : List ℕ) (bytes : Bytes b) where
  -- a header of four bytes
  headed : (p : ℕ) → p + 4 ≤ length b → drop p b ≡ two (field_at b p) ++ (two (field_at b (p + 2)) ++ drop (p + 4) b)
  headed p h =
      let three : get_or b (p + 3) 0 ≡ get_or b (p + 2 + 1) 0 = ap (λ (i : ℕ). get_or b i 0) (omega arith) in
      parted b p 4 ∙ ap (λ (l : List ℕ). l ++ drop (p + 4) b) (take_four b p h)
      ∙ ap₂ (λ (x y : List ℕ). x ++ (y ++ drop (p + 4) b)) (sym (field_bytes b bytes p)) (ap (λ (x : ℕ). get_or b (p + 2) 0 ∷ x ∷ []) three ∙ sym (field_bytes b bytes (p + 2)))

  -- the attribute at p, its padding as far as the buffer has it
  abbrev part_at : ℕ → Part
  part_at p =
      let v : ℕ = field_at b (p + 2) in
      record { typ = field_at b p; value = take v (drop (p + 4) b); pad = take (padded v - v) (drop (p + 4 + v) b) }

  module _ (p : ℕ) (room : p + 4 + field_at b (p + 2) ≤ length b) where
    abbrev size : ℕ
    size = field_at b (p + 2)

    abbrev to : ℕ
    to = p + 4 + padded size

    valued : length (part_at p).value ≡ size
    valued = length-take-le size (drop (p + 4) b) (omega (arith, length-drop (p + 4) b))

    -- so many bytes of its padding are there
    pads : length (part_at p).pad ≡ min (padded size - size) (length b - (p + 4 + size))
    pads = length-take (padded size - size) (drop (p + 4 + size) b) ∙ ap (min (padded size - size)) (length-drop (p + 4 + size) b)

    stands : two (part_at p).typ ++ (two (length (part_at p).value) ++ ((part_at p).value ++ ((part_at p).pad ++ drop to b))) ≡ drop p b
    stands =
        let e : p + 4 + size + (padded size - size) ≡ to = omega arith in
        let rest : drop (p + 4) b ≡ (part_at p).value ++ ((part_at p).pad ++ drop to b) =
        parted b (p + 4) size ∙ ap (λ (l : List ℕ). (part_at p).value ++ l) (parted b (p + 4 + size) (padded size - size) ∙ ap (λ (k : ℕ). (part_at p).pad ++ drop k b) e) in
        sym (headed p (omega arith) ∙ ap₂ (λ (k : ℕ) (l : List ℕ). two (field_at b p) ++ (two k ++ l)) (sym valued) rest)

    attribute : Attribute (part_at p) (drop to b)
    attribute =
        record {
          typed = omega (arith, byte b bytes p, byte b bytes (p + 1));
          short = omega (arith, valued, byte b bytes (p + 2), byte b bytes (p + 2 + 1));
          missing = padded size - size - length (part_at p).pad;
          least = omega (arith, pads);
          boundary = omega (arith, pads, valued);
          ends = λ h. drop_of_length-le b {i = to} (omega (arith, pads));
        }

  module _ (fits : 20 + field_at b 2 ≤ length b) where
    abbrev Derived : ℕ → List ℕ → Type 0
    Derived left l = (parts : List Part) × Attributes left l parts

    none : (left : ℕ) (l : List ℕ) → left < 4 → Derived left l
    none left l h = ([], done h)

    abbrev left_at : ℕ → ℕ
    left_at p = 20 + field_at b 2 - p

    -- the attribute at p, and those behind it
    one_more : (p : ℕ) → p + 4 ≤ 20 + field_at b 2 → (room : p + 4 + field_at b (p + 2) ≤ length b)
        → (to p room ≤ length b → Derived (left_at (to p room)) (drop (to p room) b)) → Derived (left_at p) (drop p b)
    one_more p g room rest = joined behind
      where
        Behind : Type 0
        Behind = Derived (left_at p - (4 + length (part_at p).value + length (part_at p).pad)) (drop (to p room) b)

        behind : Behind
        behind = elim (dec_le (to p room) (length b)) [
          | yes l ↦ subst (λ (k : ℕ). Derived k (drop (to p room) b)) (omega (arith, valued p room, pads p room)) (rest l)
          | no l ↦ none _ _ (omega (arith, lt_of_not-le l, valued p room, pads p room))
        ]

        joined : Behind → Derived (left_at p) (drop p b)
        joined (more, d) =
            (part_at p ∷ more, subst (λ (l : List ℕ). Attributes (left_at p) l (part_at p ∷ more)) (stands p room) (next (omega arith) (attribute p room) d))

    derived : (n p : ℕ) → inside b (attributes_from n b p) ≡ true → length b ≤ p + n → Derived (left_at p) (drop p b)
    unfolding attributes_from
    derived zero p i enough = none (left_at p) (drop p b) (omega arith)
    derived (suc n) p i enough =
        elim (dec_le (p + 4) (20 + field_at b 2)) [
          | no g ↦ none (left_at p) (drop p b) (omega (arith, lt_of_not-le g))
          | yes g ↦
              let s : attributes_from (suc n) b p ≡ record { at = p; typ = field_at b p; len = field_at b (p + 2) } ∷ attributes_from n b (p + 4 + padded (field_at b (p + 2))) =
              rw (le-leb (p + 4) (20 + field_at b 2) g) in
              let j = (and-eq-true_iff (leb (p + 4 + field_at b (p + 2)) (length b)) _).0 (ap (inside b) (sym s) ∙ i) in
              one_more p g (leb-true (p + 4 + field_at b (p + 2)) (length b) j.0) (λ l. derived n (p + 4 + padded (field_at b (p + 2))) j.1 (omega arith))
        ]

-- a byte whose top two bits are zero
small : (x : ℕ) → x < 256 → x / 64 % 4 * 64 ≡ 0 → x < 64
small x h e =
    let d : x / 64 < 4 = omega arith in
    omega (arith, mod-eq_of_lt d)

record Head (b : List ℕ) : Type 0 where
  long : 20 ≤ length b
  top : bit_and (get_or b 0 0) 0xC0 ≡ 0
  cookie : get_or b 4 0 ∷ get_or b 5 0 ∷ get_or b 6 0 ∷ get_or b 7 0 ∷ [] ≡ 0x21 ∷ 0x12 ∷ 0xA4 ∷ 0x42 ∷ []

stun_head : (b : List ℕ) → is_stun b ≡ true → Head b
unfolding is_stun
stun_head b e =
    let s = (and-eq-true_iff _ _).0 e in
    let t = (and-eq-true_iff (leb 20 (length b)) _).0 s.0 in
    let c = (and-eq-true_iff _ _).0 s.1 in
    let d = (and-eq-true_iff _ _).0 c.0 in
    let f = (and-eq-true_iff (eqb (get_or b 4 0) 0x21) _).0 d.0 in
    record {
      long = leb-true 20 (length b) t.0;
      top = eqb-true _ 0 t.1;
      cookie = λ i. eqb-true (get_or b 4 0) 0x21 f.0 i ∷ eqb-true (get_or b 5 0) 0x12 f.1 i ∷ eqb-true (get_or b 6 0) 0xA4 d.1 i ∷ eqb-true (get_or b 7 0) 0x42 c.1 i ∷ [];
    }

headed_by : (b : List ℕ) → Bytes b → Head b
    → b ≡ two (field_at b 0) ++ (two (field_at b 2) ++ ((0x21 ∷ 0x12 ∷ 0xA4 ∷ 0x42 ∷ []) ++ (take 12 (drop 8 b) ++ drop 20 b)))
headed_by b bytes h =
    let magic : drop 4 b ≡ (0x21 ∷ 0x12 ∷ 0xA4 ∷ 0x42 ∷ []) ++ drop 8 b =
    parted b 4 4 ∙ ap (λ (l : List ℕ). l ++ drop 8 b) (take_four b 4 (omega (arith, h.long)) ∙ h.cookie) in
    headed b bytes 0 (omega (arith, h.long)) ∙ ap (λ (l : List ℕ). two (field_at b 0) ++ (two (field_at b 2) ++ l)) magic
    ∙ ap (λ (l : List ℕ). two (field_at b 0) ++ (two (field_at b 2) ++ ((0x21 ∷ 0x12 ∷ 0xA4 ∷ 0x42 ∷ []) ++ l))) (parted b 8 12)

-- and nothing else is read
pub reads_readable : (b : List ℕ) → Bytes b → readable b ≡ true → (typ : ℕ) × (id : List ℕ) × (parts : List Part) × Readable b typ id parts
unfolding readable
reads_readable b bytes e =
    let r = (and-eq-true_iff (is_stun b && leb (20 + field_at b 2) (length b)) (inside b (attributes b))).0 e in
    let q = (and-eq-true_iff (is_stun b) (leb (20 + field_at b 2) (length b))).0 r.0 in
    let h : Head b = stun_head b q.0 in
    let fits : 20 + field_at b 2 ≤ length b = leb-true (20 + field_at b 2) (length b) q.1 in
    let d = derived b bytes fits (length b) 20 r.1 (omega arith) in
    let t : get_or b 0 0 / 64 % 4 * 64 ≡ 0 = sym (and_high (get_or b 0 0) 2 6) ∙ h.top in
    let zeros : get_or b 0 0 < 64 = small (get_or b 0 0) (byte b bytes 0) t in (
      field_at b 0,
      take 12 (drop 8 b),
      d.0,
      record {
        count = field_at b 2;
        bytes = drop 20 b;
        top = omega (arith, byte b bytes 1);
        ided = length-take-le 12 (drop 8 b) (omega (arith, length-drop 8 b));
        counted = omega (arith, byte b bytes 2, byte b bytes 3);
        there = omega (arith, length-drop 20 b);
        header = headed_by b bytes h;
        attributes = subst (λ (k : ℕ). Attributes k (drop 20 b) d.0) (omega arith) d.1;
      },
    )

-- the inputs that specs/Reading.antt names are read, and one that is cut short is not
abbrev behind : ℕ → List ℕ → List ℕ
behind count l = (0x00 ∷ 0x01 ∷ 0x00 ∷ count ∷ 0x21 ∷ 0x12 ∷ 0xA4 ∷ 0x42 ∷ []) ++ replicate 12 0 ++ l

bytes_after : readable (behind 0 (0x00 ∷ [])) ≡ true
unfolding readable attributes_from is_stun
bytes_after = refl

no_multiple : readable (behind 1 (0x00 ∷ [])) ≡ true
unfolding readable attributes_from is_stun
no_multiple = refl

abbrev one : List ℕ
one = 0x00 ∷ 0x06 ∷ 0x00 ∷ 0x01 ∷ 0x41 ∷ []

no_padding : looked (behind 5 one) (get_of (behind 5 one) 6) ≡ Some (0x41 ∷ [])
unfolding get_of readable attributes_from is_stun
no_padding = refl

value_past : looked (behind 4 one) (get_of (behind 4 one) 6) ≡ Some (0x41 ∷ [])
unfolding get_of readable attributes_from is_stun
value_past = refl

value_cut : readable (behind 4 (take 4 one)) ≡ false
unfolding readable attributes_from is_stun
value_cut = refl
