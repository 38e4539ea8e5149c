-- Reading gives RFC 8489's meaning on every message that is well-formed by it, with anything after it: type, id, each
-- attribute in order, the first of each type, the code and the lifetime (`Reads`).
use mathlib.Core.Path.{◌≡◌, refl, sym, ap, ap₂, ◌∙◌}
use Prim.Native.Nat.{ℕ, ◌+◌, ◌*◌, ◌/◌, ◌%◌, ◌^◌, ◌≤◌, ◌<◌}
use native.Mathlib.Nat.{add-zero, add_assoc}
use native.Mathlib.Omega.{arith}
use mathlib.Core.List.{List, [], ◌∷◌, ◌++◌, map, append_assoc}
use mathlib.Core.Bool.{Bool, true, false, cond}
use borrow.Author.Tests.{le-leb}
use lib.ListN.{length, get_or, take, drop, length-append, length-take}
use lib.Seq.{take_at, get_or-take, get_or-drop}
use lib.Dec.{eqb}
use lib.Bits.{bit_and, and_comm, and_shifted}
use Rattle.stun_frame.specs.Source.{field_at, is_stun}
use Rattle.stun_frame.specs.Rfc.{two, stun_message, StunParts}
use Rattle.std.specs.Prelude.{Option, Some, None}
use Rattle.stun_walk.specs.declared.Value.{Value}
use Rattle.stun_walk.specs.Source.{Attribute, attributes, readable, decoded, first, get_of, value_in, error_code_of, lifetime_of}
use Rattle.stun_walk.specs.Rfc.{Part, AllFormed, body, value_of}
use Rattle.stun_walk.proofs.Reading.{Meaning, seen, meant, Walked, walked}
use Rattle.stun_walk.proofs.Values.{decoded_some, code_some, lifetime_some}

-- the value that a lookup found
abbrev pub looked : List ℕ → Option Value → Option (List ℕ)
looked b None = None
looked b (Some v) = Some (value_in b v)

-- the first of a type among meanings
abbrev of_type : ℕ → List Meaning → Option (List ℕ)
of_type t [] = None
of_type t (m ∷ more) = cond (eqb m.typ t) (Some m.value) (of_type t more)

first_seen : (b : List ℕ) (t : ℕ) (l : List Attribute) → looked b (first t l) ≡ of_type t (map (seen b) l)
first_seen b t [] = refl
first_seen b t (a ∷ more) = pick (eqb a.typ t) (first_seen b t more)
  where
    pick : (q : Bool) → looked b (first t more) ≡ of_type t (map (seen b) more)
        → looked b (cond q (Some (record { start = a.at + 4; len = a.len })) (first t more)) ≡ cond q (Some (take a.len (drop (a.at + 4) b))) (of_type t (map (seen b) more))
    pick true e = refl
    pick false e = e

first_meant : (t : ℕ) (parts : List Part) → of_type t (map meant parts) ≡ value_of t parts
first_meant t [] = refl
first_meant t (a ∷ more) = ap (cond (eqb a.typ t) (Some a.value)) (first_meant t more)

-- the top two bits of a type below 2^14
no_top : (typ : ℕ) → typ < 2 ^ 14 → bit_and (typ / 256) 0xC0 ≡ 0
no_top typ h = and_comm (typ / 256) 0xC0 ∙ and_shifted 3 6 (typ / 256) (omega arith)

pub record Reads (b : List ℕ) (typ : ℕ) (id : List ℕ) (parts : List Part) : Type 0 where
  pub read : readable b ≡ true
  pub head : decoded b ≡ Some (record { typ = typ; id = id })
  pub each : map (seen b) (attributes b) ≡ map meant parts
  pub lookup : (t : ℕ) → looked b (get_of b t) ≡ value_of t parts

module _ (typ : ℕ) (id after : List ℕ) (parts : List Part) (good : StunParts typ id (body parts)) (formed : AllFormed parts) where
  abbrev message : List ℕ
  message = stun_message typ id (body parts) ++ after

  long : length message ≡ 20 + length (body parts) + length after
  long = simp length-append (omega (arith, good.ided))

  len_is : field_at message 2 ≡ length (body parts)
  len_is = omega arith

  typ_is : field_at message 0 ≡ typ
  typ_is = omega arith

  stun : is_stun message ≡ true
  unfolding is_stun
  stun = rw (le-leb 20 (length message) (omega (arith, long)), no_top typ good.top)

  abbrev header : List ℕ
  header = two typ ++ (two (length (body parts)) ++ ((0x21 ∷ 0x12 ∷ 0xA4 ∷ 0x42 ∷ []) ++ id))

  twenty : length header ≡ 20
  twenty = simp length-append (omega (arith, good.ided))

  walk : Walked message (length message) 20 parts
  walk =
      rw twenty at
      (walked parts message header after (length message) formed (simp append_assoc) (rw (twenty, len_is) (omega arith)) (omega (arith, long)))

  is_readable : readable message ≡ true
  unfolding readable
  is_readable = rw (stun, len_is, le-leb (20 + length (body parts)) (length message) (omega (arith, long)), walk.lies)

  found : (t : ℕ) → looked message (get_of message t) ≡ value_of t parts
  unfolding get_of
  found t =
      let g : get_of message t ≡ first t (attributes message) = rw is_readable in
      ap (looked message) g ∙ first_seen message t (attributes message) ∙ ap (of_type t) walk.found ∙ first_meant t parts

  pub reads : Reads message typ id parts
  reads =
      record {
        read = is_readable;
        head = sym (decoded_some message is_readable typ id (sym typ_is) (sym (ap (take 12) (append_assoc id (body parts) after) ∙ take_at id (body parts ++ after) 12 good.ided)));
        each = walk.found;
        lookup = found;
      }

-- a lookup that found a value found it somewhere
record Somewhere (b : List ℕ) (f : Option Value) (v : List ℕ) : Type 0 where
  lies : Value
  at : f ≡ Some lies
  is : value_in b lies ≡ v

somewhere : (b : List ℕ) (f : Option Value) (v : List ℕ) → looked b f ≡ Some v → Somewhere b f v
somewhere b None v e = absurd (let z : ◌≡◌ {A = ℕ} 0 1 = cc in omega arith)
somewhere b (Some lies) v e = record { lies = lies; at = refl; is = cc }

-- the bytes of the value stand in the message
module _ (b v : List ℕ) (start len : ℕ) (is : take len (drop start b) ≡ v) where
  byte : (i : ℕ) → i < length v → get_or b (start + i) 0 ≡ get_or v i 0
  byte i h =
      let n : length v ≡ length (take len (drop start b)) = ap length (sym is) in
      sym (ap (λ (l : List ℕ). get_or l i 0) (sym is) ∙ get_or-take len (drop start b) i 0 (omega (arith, length-take len (drop start b))) ∙ get_or-drop start b i 0)

  least : length v ≤ len
  least = omega (arith, ap length (sym is), length-take len (drop start b))

-- section 14.8: an ERROR-CODE of 4 bytes or more has its class in 3 bits and its number in 8
pub code_reads : (b : List ℕ) (v : List ℕ) → looked b (get_of b 0x0009) ≡ Some v → 4 ≤ length v
    → error_code_of b ≡ Some (get_or v 2 0 % 8 * 100 + get_or v 3 0)
code_reads b v e h =
    let s = somewhere b (get_of b 0x0009) v e in
    sym
    (code_some b s.lies s.at (omega (arith, least b v s.lies.start s.lies.len s.is)) _
    (sym (ap₂ (λ (x y : ℕ). x % 8 * 100 + y) (byte b v s.lies.start s.lies.len s.is 2 (omega arith)) (byte b v s.lies.start s.lies.len s.is 3 (omega arith)))))

-- RFC 8656 section 18.2: a LIFETIME of 4 bytes is a 32-bit number of seconds
pub lifetime_reads : (b : List ℕ) (v : List ℕ) → looked b (get_of b 0x000D) ≡ Some v → 4 ≤ length v
    → lifetime_of b ≡ Some (field_at v 0 * 65536 + field_at v 2)
lifetime_reads b v e h =
    let s = somewhere b (get_of b 0x000D) v e in
    let at = byte b v s.lies.start s.lies.len s.is in
    let zero : get_or b s.lies.start 0 ≡ get_or v 0 0 = ap (λ (n : ℕ). get_or b n 0) (sym (add-zero s.lies.start)) ∙ at 0 (omega arith) in
    let one : get_or b (s.lies.start + 1) 0 ≡ get_or v 1 0 = at 1 (omega arith) in
    let two' : get_or b (s.lies.start + 2) 0 ≡ get_or v 2 0 = at 2 (omega arith) in
    let three : get_or b (s.lies.start + 2 + 1) 0 ≡ get_or v 3 0 = ap (λ (n : ℕ). get_or b n 0) (add_assoc s.lies.start 2 1) ∙ at 3 (omega arith) in
    sym
    (lifetime_some b s.lies s.at (omega (arith, least b v s.lies.start s.lies.len s.is)) _
    (rw (zero, one, two', three)))
