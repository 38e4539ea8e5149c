-- What is alike is read alike: a message whose MESSAGE-INTEGRITY and FINGERPRINT values are blanked reads like itself, since the walk passes
-- over values, and no two of its attributes share a byte. First two examples: messages that differ in a FINGERPRINT of 4 bytes are alike,
-- those that differ in one that declares 5 are not.
use Rattle.std.specs.Prelude.{Some, Option, None}
use mathlib.Core.Path.{◌≡◌, refl, ap, ap₂, sym, subst, ◌∙◌}
use mathlib.Core.Bool.{Bool, true, false, cond, ◌&&◌, ◌||◌}
use mathlib.Core.List.{List, [], ◌∷◌}
use Prim.Native.Nat.{ℕ, zero, suc, ◌+◌, ◌*◌, ◌-◌, ◌≤◌, ◌<◌, min}
use native.Mathlib.Omega.{arith}
use lib.ListN.{length, get_or, take, drop, length-take, length-drop}
use lib.Seq.{ext_get_or, get_or-take, get_or-drop}
use lib.Dec.{ltb, leb, eqb}
use borrow.Author.Tests.{leb-true, le-leb, lt-leb, le-ltb, lt-ltb, eqb-true, ne_eqb}
use Rattle.stun_frame.specs.Source.{is_stun, is_channel_data, field_at, from_be, decode_channel_data}
use Rattle.stun_walk.specs.Source.{Attribute, padded, attributes_from, attributes, inside, readable, first, get_of, code_in, error_code_of, lifetime_in, lifetime_of, address_in, xor_addr_of}
use Rattle.stun_address.specs.Source.{decode_xor_addr}
use Rattle.turn_state.specs.Source.{tid_of, text_found, get_str}
use Rattle.turn.proofs.Steps.{never}
use Rattle.demands.specs.Alike.{secret, hidden, blank_from, blanked, Alike}
use Rattle.stun_walk.specs.declared.Value.{Value}

abbrev found_at : ℕ → ℕ → Option Value
found_at start len = Some (record { start = start; len = len })

abbrev start_of : Option Value → ℕ
start_of None = 0
start_of (Some v) = v.start

abbrev len_of : Option Value → ℕ
len_of None = 0
len_of (Some v) = v.len

-- a Binding success with one attribute of a FINGERPRINT's type, whose value begins with `b`
abbrev with_four : ℕ → List ℕ
with_four b = 1 ∷ 1 ∷ 0 ∷ 8 ∷ 0x21 ∷ 0x12 ∷ 0xA4 ∷ 0x42 ∷ 0 ∷ 0 ∷ 0 ∷ 0 ∷ 0 ∷ 0 ∷ 0 ∷ 0 ∷ 0 ∷ 0 ∷ 0 ∷ 0 ∷ 0x80 ∷ 0x28 ∷ 0 ∷ 4 ∷ b ∷ 0 ∷ 0 ∷ 0 ∷ []

abbrev with_five : ℕ → List ℕ
with_five b = 1 ∷ 1 ∷ 0 ∷ 12 ∷ 0x21 ∷ 0x12 ∷ 0xA4 ∷ 0x42 ∷ 0 ∷ 0 ∷ 0 ∷ 0 ∷ 0 ∷ 0 ∷ 0 ∷ 0 ∷ 0 ∷ 0 ∷ 0 ∷ 0 ∷ 0x80 ∷ 0x28 ∷ 0 ∷ 5 ∷ b ∷ 0 ∷ 0 ∷ 0 ∷ 0 ∷ 0 ∷ 0 ∷ 0 ∷ []

pub four_alike : Alike (with_four 1) (with_four 2)
unfolding blanked is_stun attributes_from
four_alike = refl

pub five_not : ¬ (Alike (with_five 1) (with_five 2))
unfolding blanked is_stun attributes_from
five_not e = let z : ◌≡◌ {A = ℕ} 1 2 = ap (λ (l : List ℕ). get_or l 24 0) e in omega arith

-- bytes that are not hidden stay
length-blank : (l : List Attribute) (k : ℕ) (a : List ℕ) → length (blank_from l k a) ≡ length a
length-blank l k [] = refl
length-blank l k (b ∷ a) = ap suc (length-blank l (k + 1) a)

get_or_blank : (l : List Attribute) (k : ℕ) (a : List ℕ) (i : ℕ) → hidden l (k + i) ≡ false → get_or (blank_from l k a) i 0 ≡ get_or a i 0
get_or_blank l k [] i h = refl
get_or_blank l k (b ∷ a) zero h = let e : k + 0 ≡ k = omega arith in ap (λ (x : Bool). cond x 0 b) (subst (λ (n : ℕ). hidden l n ≡ false) e h)
get_or_blank l k (b ∷ a) (suc i) h = let e : k + suc i ≡ k + 1 + i = omega arith in get_or_blank l (k + 1) a i (subst (λ (n : ℕ). hidden l n ≡ false) e h)

-- parts with the same bytes are the same
same_part : (a b : List ℕ) (start len : ℕ) → length a ≡ length b → ((i : ℕ) → start ≤ i → i < start + len → get_or a i 0 ≡ get_or b i 0) → take len (drop start a) ≡ take len (drop start b)
same_part a b start len e h =
    ext_get_or 0 (take len (drop start a)) (take len (drop start b))
    (length-take len (drop start a) ∙ ap (min len) (length-drop start a ∙ ap (λ (n : ℕ). n - start) e ∙ sym (length-drop start b)) ∙ sym (length-take len (drop start b)))
    (λ i q. let z : length (take len (drop start a)) ≡ min len (length a - start) = length-take len (drop start a) ∙ ap (min len) (length-drop start a) in
    let lt : i < len = omega arith in
    get_or-take len (drop start a) i 0 lt ∙ get_or-drop start a i 0 ∙ h (start + i) (omega arith) (omega arith) ∙ sym (get_or-drop start b i 0) ∙ sym (get_or-take len (drop start b) i 0 lt))

-- tests
no_first : (s a b y : Bool) → a ≡ false → y ≡ false → ((s && (a && b)) || y) ≡ false
no_first true false b y p q = q
no_first false false b y p q = q
no_first true true b y p q = never p
no_first false true b y p q = never p

skip : (s a b y : Bool) → b ≡ false → ((s && (a && b)) || y) ≡ y
skip true true false y p = refl
skip true false false y p = refl
skip false true false y p = refl
skip false false false y p = refl
skip s a true y p = never p

open_one : (s x y : Bool) → s ≡ false → y ≡ false → ((s && x) || y) ≡ false
open_one false x y p q = q
open_one true x y p q = never p

same_node : (b : Bool) (x : Attribute) (l m : List Attribute) → (b ≡ true → l ≡ m) → cond b (x ∷ l) [] ≡ cond b (x ∷ m) []
same_node true x l m h = ap (λ (r : List Attribute). x ∷ r) (h refl)
same_node false x l m h = refl

module _ (a : List ℕ) where
  abbrev after : ℕ → ℕ
  after p = p + 4 + padded (field_at a (p + 2))

  abbrev here : ℕ → Attribute
  here p = record { at = p; typ = field_at a p; len = field_at a (p + 2) }

  -- no value begins before p + 4
  walk_low : (n p i : ℕ) → i < p + 4 → hidden (attributes_from n a p) i ≡ false
  unfolding attributes_from
  walk_low zero p i h = refl
  walk_low (suc n) p i h = by (leb (p + 4) (20 + field_at a 2)) (walk_low n (after p) i (omega arith))
    where
      by : (b : Bool) → hidden (attributes_from n a (after p)) i ≡ false → hidden (cond b (here p ∷ attributes_from n a (after p)) []) i ≡ false
      by true rest = no_first (secret (here p)) (leb (p + 4) i) (ltb i (p + 4 + field_at a (p + 2))) _ (lt-leb (p + 4) i h) rest
      by false rest = refl

  -- from the next attribute on, this one hides nothing
  walk_next : (n p i : ℕ) → leb (p + 4) (20 + field_at a 2) ≡ true → after p ≤ i → hidden (attributes_from (suc n) a p) i ≡ hidden (attributes_from n a (after p)) i
  unfolding attributes_from
  walk_next n p i e h =
      rw e (skip (secret (here p)) (leb (p + 4) i) (ltb i (p + 4 + field_at a (p + 2))) (hidden (attributes_from n a (after p)) i) (le-ltb i (p + 4 + field_at a (p + 2)) (omega arith)))

  -- a list of that length that has the bytes which are not hidden has the same walk
  module _ (b : List ℕ) (keeps : (i : ℕ) → hidden (attributes a) i ≡ false → get_or b i 0 ≡ get_or a i 0) where
    kept_low : (i : ℕ) → i < 24 → get_or b i 0 ≡ get_or a i 0
    kept_low i h = keeps i (walk_low (length a) 20 i h)

    kept_field : (i : ℕ) → get_or b i 0 ≡ get_or a i 0 → get_or b (i + 1) 0 ≡ get_or a (i + 1) 0 → field_at b i ≡ field_at a i
    kept_field i p q = ap₂ (λ (x y : ℕ). from_be x y) p q

    kept_from : (n p : ℕ) → ((i : ℕ) → p ≤ i → hidden (attributes a) i ≡ hidden (attributes_from n a p) i) → attributes_from n b p ≡ attributes_from n a p
    unfolding attributes_from
    kept_from zero p inv = refl
    kept_from (suc n) p inv =
        let at : (i : ℕ) → p ≤ i → i < p + 4 → get_or b i 0 ≡ get_or a i 0 = λ i l h. keeps i (inv i l ∙ walk_low (suc n) p i h) in
        let f : field_at b p ≡ field_at a p = kept_field p (at p (omega arith) (omega arith)) (at (p + 1) (omega arith) (omega arith)) in
        let g : field_at b (p + 2) ≡ field_at a (p + 2) = kept_field (p + 2) (at (p + 2) (omega arith) (omega arith)) (at (p + 2 + 1) (omega arith) (omega arith)) in
        let e : field_at b 2 ≡ field_at a 2 = kept_field 2 (kept_low 2 (omega arith)) (kept_low (2 + 1) (omega arith)) in
        let fields : attributes_from (suc n) b p ≡ cond (leb (p + 4) (20 + field_at a 2)) (here p ∷ attributes_from n b (after p)) [] =
        λ i. cond (leb (p + 4) (20 + e i)) (record { at = p; typ = f i; len = g i } ∷ attributes_from n b (p + 4 + padded (g i))) [] in
        fields
        ∙ same_node (leb (p + 4) (20 + field_at a 2)) (here p) (attributes_from n b (after p)) (attributes_from n a (after p))
        (λ q. kept_from n (after p) (λ i l. inv i (omega arith) ∙ walk_next n p i q l))

    kept_walk : length b ≡ length a → attributes b ≡ attributes a
    kept_walk e = ap (λ (n : ℕ). attributes_from n b 20) e ∙ kept_from (length a) 20 (λ i l. refl)

    kept_stun : length b ≡ length a → is_stun b ≡ is_stun a
    unfolding is_stun
    kept_stun e = rw (e, kept_low 0 (omega arith), kept_low 4 (omega arith), kept_low 5 (omega arith), kept_low 6 (omega arith), kept_low 7 (omega arith))

  abbrev blank : List ℕ
  blank = blank_from (attributes a) 0 a

  clear : (i : ℕ) → hidden (attributes a) i ≡ false → get_or blank i 0 ≡ get_or a i 0
  clear i h = get_or_blank (attributes a) 0 a i (let e : 0 + i ≡ i = omega arith in rw e h)

  low : (i : ℕ) → i < 24 → get_or blank i 0 ≡ get_or a i 0
  low = kept_low blank clear

  field : (i : ℕ) → get_or blank i 0 ≡ get_or a i 0 → get_or blank (i + 1) 0 ≡ get_or a (i + 1) 0 → field_at blank i ≡ field_at a i
  field = kept_field blank clear

  blank_walk : attributes blank ≡ attributes a
  blank_walk = kept_walk blank clear (length-blank (attributes a) 0 a)

  -- what `first` finds from p on begins at p + 4 or later, and hides nothing of it unless its type is one of the two
  first_from : (t n p start len : ℕ) → first t (attributes_from n a p) ≡ found_at start len → p + 4 ≤ start
  unfolding attributes_from
  first_from t zero p start len e = let z : ◌≡◌ {A = ℕ} 0 1 = cc in let f : ⊥ = omega arith in absurd f
  first_from t (suc n) p start len e = by (leb (p + 4) (20 + field_at a 2)) (eqb (field_at a p) t) refl e (first_from t n (after p) start len)
    where
      by : (b c : Bool) → eqb (field_at a p) t ≡ c → first t (cond b (here p ∷ attributes_from n a (after p)) []) ≡ found_at start len
          → (first t (attributes_from n a (after p)) ≡ found_at start len → after p + 4 ≤ start) → p + 4 ≤ start
      by false c q e rest = let z : ◌≡◌ {A = ℕ} 0 1 = cc in let f : ⊥ = omega arith in absurd f
      by true true q e rest = let h : found_at (p + 4) (field_at a (p + 2)) ≡ found_at start len = (rw q at e) in let z : p + 4 ≡ start = ap start_of h in omega arith
      by true false q e rest = let h : first t (attributes_from n a (after p)) ≡ found_at start len = (rw q at e) in let z = rest h in omega arith

  first_clear : (t : ℕ) → eqb t 0x0008 ≡ false → eqb t 0x8028 ≡ false → (n p start len i : ℕ) → first t (attributes_from n a p) ≡ found_at start len → start ≤ i → i < start + len
      → hidden (attributes_from n a p) i ≡ false
  unfolding attributes_from
  first_clear t u v zero p start len i e l h = refl
  first_clear t u v (suc n) p start len i e l h =
      by (leb (p + 4) (20 + field_at a 2)) (eqb (field_at a p) t) refl e (first_from t n (after p) start len) (λ k. first_clear t u v n (after p) start len i k l h)
    where
      by : (b c : Bool) → eqb (field_at a p) t ≡ c → first t (cond b (here p ∷ attributes_from n a (after p)) []) ≡ found_at start len
          → (first t (attributes_from n a (after p)) ≡ found_at start len → after p + 4 ≤ start) → (first t (attributes_from n a (after p)) ≡ found_at start len → hidden (attributes_from n a (after p)) i ≡ false)
          → hidden (cond b (here p ∷ attributes_from n a (after p)) []) i ≡ false
      by false c q e from rest = refl
      by true true q e from rest =
          let k : found_at (p + 4) (field_at a (p + 2)) ≡ found_at start len = (rw q at e) in
          let z : p + 4 ≡ start = ap start_of k in
          let y : field_at a (p + 2) ≡ len = ap len_of k in
          let typ : field_at a p ≡ t = eqb-true (field_at a p) t q in
          let shut : secret (here p) ≡ false = rw (typ, u, v) in
          open_one (secret (here p)) (leb (p + 4) i && ltb i (p + 4 + field_at a (p + 2))) _ shut (walk_low n (after p) i (omega arith))
      by true false q e from rest =
          let k : first t (attributes_from n a (after p)) ≡ found_at start len = (rw q at e) in
          let z = from k in
          skip (secret (here p)) (leb (p + 4) i) (ltb i (p + 4 + field_at a (p + 2))) (hidden (attributes_from n a (after p)) i) (le-ltb i (p + 4 + field_at a (p + 2)) (omega arith)) ∙ rest k

  same_length : length blank ≡ length a
  same_length = length-blank (attributes a) 0 a

  blank_stun : is_stun blank ≡ is_stun a
  blank_stun = kept_stun blank clear same_length

  same_inside : (l : List Attribute) → inside blank l ≡ inside a l
  same_inside [] = refl
  same_inside (x ∷ l) = ap₂ (λ (n : ℕ) (r : Bool). leb (x.at + 4 + x.len) n && r) same_length (same_inside l)

  blank_readable : readable blank ≡ readable a
  unfolding readable
  blank_readable =
      let f : field_at blank 2 ≡ field_at a 2 = field 2 (low 2 (omega arith)) (low (2 + 1) (omega arith)) in
      let w : inside blank (attributes blank) ≡ inside a (attributes a) = ap (inside blank) blank_walk ∙ same_inside (attributes a) in
      λ i. blank_stun i && leb (20 + f i) (same_length i) && w i

  blank_get : (t : ℕ) → get_of blank t ≡ get_of a t
  unfolding get_of
  blank_get t = λ i. cond (blank_readable i) (first t (blank_walk i)) None

  blank_type : field_at blank 0 ≡ field_at a 0
  blank_type = field 0 (low 0 (omega arith)) (low (0 + 1) (omega arith))

  blank_tid : tid_of blank ≡ tid_of a
  blank_tid = same_part blank a 8 12 same_length (λ i l h. low i (omega arith))

  blank_channel : decode_channel_data blank ≡ decode_channel_data a
  unfolding decode_channel_data is_channel_data
  blank_channel =
      rw (same_length, low 0 (omega arith), low 1 (omega arith), low 2 (omega arith), low 3 (omega arith))

  -- values of other types
  module _ (t : ℕ) (u : eqb t 0x0008 ≡ false) (v : eqb t 0x8028 ≡ false) where
    value_byte : (start len : ℕ) → get_of a t ≡ found_at start len → (i : ℕ) → start ≤ i → i < start + len → get_or blank i 0 ≡ get_or a i 0
    unfolding get_of
    value_byte start len e i l h = by (readable a) e
      where
        by : (b : Bool) → cond b (first t (attributes a)) None ≡ found_at start len → get_or blank i 0 ≡ get_or a i 0
        by true e = clear i (first_clear t u v (length a) 20 start len i e l h)
        by false e = let z : ◌≡◌ {A = ℕ} 0 1 = cc in let f : ⊥ = omega arith in absurd f

    value_part : (start len : ℕ) → get_of a t ≡ found_at start len → take len (drop start blank) ≡ take len (drop start a)
    value_part start len e = same_part blank a start len same_length (value_byte start len e)

    blank_addr : xor_addr_of blank t ≡ xor_addr_of a t
    unfolding xor_addr_of
    blank_addr = ap (address_in blank) (blank_get t) ∙ by (get_of a t) refl
      where
        by : (f : Option Value) → get_of a t ≡ f → address_in blank f ≡ address_in a f
        by None e = refl
        by (Some f) e = ap₂ decode_xor_addr (value_part f.start f.len e) blank_tid

    blank_str : get_str blank t ≡ get_str a t
    blank_str = ap (text_found blank) (blank_get t) ∙ by (get_of a t) refl
      where
        by : (f : Option Value) → get_of a t ≡ f → text_found blank f ≡ text_found a f
        by None e = refl
        by (Some f) e = ap (λ (x : List ℕ). Some (Rattle.stun_text.specs.Utf8.replaced x)) (value_part f.start f.len e)

  blank_code : error_code_of blank ≡ error_code_of a
  unfolding error_code_of
  blank_code = ap (code_in blank) (blank_get 0x0009) ∙ by (get_of a 0x0009) refl
    where
      by : (f : Option Value) → get_of a 0x0009 ≡ f → code_in blank f ≡ code_in a f
      by None e = refl
      by (Some f) e = short (ltb f.len 4) refl
        where
          short : (b : Bool) → ltb f.len 4 ≡ b → code_in blank (found_at f.start f.len) ≡ code_in a (found_at f.start f.len)
          short true q = rw q
          short false q =
              let l : 4 ≤ f.len = borrow.Author.Tests.ltb-false f.len 4 q in
              rw (q, value_byte 0x0009 refl refl f.start f.len e (f.start + 2) (omega arith) (omega arith), value_byte 0x0009 refl refl f.start f.len e (f.start + 3) (omega arith) (omega arith))

  blank_lifetime : lifetime_of blank ≡ lifetime_of a
  unfolding lifetime_of
  blank_lifetime = ap (lifetime_in blank) (blank_get 0x000D) ∙ by (get_of a 0x000D) refl
    where
      by : (f : Option Value) → get_of a 0x000D ≡ f → lifetime_in blank f ≡ lifetime_in a f
      by None e = refl
      by (Some f) e = short (ltb f.len 4) refl
        where
          short : (b : Bool) → ltb f.len 4 ≡ b → lifetime_in blank (found_at f.start f.len) ≡ lifetime_in a (found_at f.start f.len)
          short true q = rw q
          short false q =
              let l : 4 ≤ f.len = borrow.Author.Tests.ltb-false f.len 4 q in
              let at : (i : ℕ) → f.start ≤ i → i < f.start + f.len → get_or blank i 0 ≡ get_or a i 0 = value_byte 0x000D refl refl f.start f.len e in
              let g : field_at blank f.start ≡ field_at a f.start = field f.start (at f.start (omega arith) (omega arith)) (at (f.start + 1) (omega arith) (omega arith)) in
              let h : field_at blank (f.start + 2) ≡ field_at a (f.start + 2) = field (f.start + 2) (at (f.start + 2) (omega arith) (omega arith)) (at (f.start + 2 + 1) (omega arith) (omega arith)) in
              λ i. cond (ltb f.len 4) None (Some (g i * 65536 + h i))

-- so whatever does not tell a message from the blanked one does not tell two that are alike
pub alike_reads : {A : Type 0} (f : List ℕ → A) → ((a : List ℕ) → f (blank a) ≡ f a) → (a b : List ℕ) → Alike a b → f a ≡ f b
unfolding blanked
alike_reads f h a b e = sym (one a (is_stun a)) ∙ ap f e ∙ one b (is_stun b)
  where
    one : (x : List ℕ) (s : Bool) → f (cond s (blank x) x) ≡ f x
    one x true = h x
    one x false = refl

-- all that `handle` reads of a datagram, but for the check
pub record ReadAlike (a b : List ℕ) : Type 0 where
  pub channel : decode_channel_data a ≡ decode_channel_data b
  pub readable : readable a ≡ readable b
  pub typ : field_at a 0 ≡ field_at b 0
  pub tid : tid_of a ≡ tid_of b
  pub peer : xor_addr_of a 0x0012 ≡ xor_addr_of b 0x0012
  pub body : get_of a 0x0013 ≡ get_of b 0x0013
  pub relayed : xor_addr_of a 0x0016 ≡ xor_addr_of b 0x0016
  pub mapped : xor_addr_of a 0x0020 ≡ xor_addr_of b 0x0020
  pub lifetime : lifetime_of a ≡ lifetime_of b
  pub code : error_code_of a ≡ error_code_of b
  pub realm : get_str a 0x0014 ≡ get_str b 0x0014
  pub nonce : get_str a 0x0015 ≡ get_str b 0x0015

pub read_alike : (a b : List ℕ) → Alike a b → ReadAlike a b
read_alike a b h =
    record {
      channel = alike_reads decode_channel_data blank_channel a b h;
      readable = alike_reads readable blank_readable a b h;
      typ = alike_reads (λ x. field_at x 0) blank_type a b h;
      tid = alike_reads tid_of blank_tid a b h;
      peer = alike_reads (λ x. xor_addr_of x 0x0012) (λ x. blank_addr x 0x0012 refl refl) a b h;
      body = alike_reads (λ x. get_of x 0x0013) (λ x. blank_get x 0x0013) a b h;
      relayed = alike_reads (λ x. xor_addr_of x 0x0016) (λ x. blank_addr x 0x0016 refl refl) a b h;
      mapped = alike_reads (λ x. xor_addr_of x 0x0020) (λ x. blank_addr x 0x0020 refl refl) a b h;
      lifetime = alike_reads lifetime_of blank_lifetime a b h;
      code = alike_reads error_code_of blank_code a b h;
      realm = alike_reads (λ x. get_str x 0x0014) (λ x. blank_str x 0x0014 refl refl) a b h;
      nonce = alike_reads (λ x. get_str x 0x0015) (λ x. blank_str x 0x0015 refl refl) a b h;
    }

-- the other way round: of one length, and equal in every byte that the walk of one does not hide
hidden_blank : (l : List Attribute) (k : ℕ) (a : List ℕ) (i : ℕ) → hidden l (k + i) ≡ true → get_or (blank_from l k a) i 0 ≡ 0
hidden_blank l k [] i h = refl
hidden_blank l k (b ∷ a) zero h = let e : k + 0 ≡ k = omega arith in ap (λ (x : Bool). cond x 0 b) (subst (λ (n : ℕ). hidden l n ≡ true) e h)
hidden_blank l k (b ∷ a) (suc i) h = let e : k + suc i ≡ k + 1 + i = omega arith in hidden_blank l (k + 1) a i (subst (λ (n : ℕ). hidden l n ≡ true) e h)

same_blank : (l : List Attribute) (a b : List ℕ) → length a ≡ length b → ((i : ℕ) → hidden l i ≡ false → get_or a i 0 ≡ get_or b i 0) → blank_from l 0 a ≡ blank_from l 0 b
same_blank l a b e h =
    ext_get_or 0 (blank_from l 0 a) (blank_from l 0 b) (length-blank l 0 a ∙ e ∙ sym (length-blank l 0 b)) (λ i q. by i (hidden l i) refl)
  where
    at : (i : ℕ) (x : Bool) → hidden l i ≡ x → hidden l (0 + i) ≡ x
    at i x q = let z : 0 + i ≡ i = omega arith in rw z q

    by : (i : ℕ) (x : Bool) → hidden l i ≡ x → get_or (blank_from l 0 a) i 0 ≡ get_or (blank_from l 0 b) i 0
    by i true q = hidden_blank l 0 a i (at i true q) ∙ sym (hidden_blank l 0 b i (at i true q))
    by i false q = get_or_blank l 0 a i (at i false q) ∙ h i q ∙ sym (get_or_blank l 0 b i (at i false q))

pub bytes_alike : (a b : List ℕ) → length a ≡ length b → ((i : ℕ) → hidden (attributes a) i ≡ false → get_or a i 0 ≡ get_or b i 0) → is_stun a ≡ true → Alike a b
unfolding blanked
bytes_alike a b e h s =
    let keeps : (i : ℕ) → hidden (attributes a) i ≡ false → get_or b i 0 ≡ get_or a i 0 = λ i q. sym (h i q) in
    let walk : attributes b ≡ attributes a = kept_walk a b keeps (sym e) in
    let stun : is_stun b ≡ true = kept_stun a b keeps (sym e) ∙ s in
    let one : cond (is_stun a) (blank_from (attributes a) 0 a) a ≡ blank_from (attributes a) 0 a = rw s in
    let two : cond (is_stun b) (blank_from (attributes b) 0 b) b ≡ blank_from (attributes b) 0 b = rw stun in
    one ∙ same_blank (attributes a) a b e h ∙ ap (λ (l : List Attribute). blank_from l 0 b) (sym walk) ∙ sym two
