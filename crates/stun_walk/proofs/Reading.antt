-- On a message that is well-formed by RFC 8489 the walk finds its attributes, each with its value, in order (`reads`): place
-- by place, what stands before is what the walk has passed.
use mathlib.Core.Path.{◌≡◌, refl, sym, ap, ap₂, ◌∙◌}
use Prim.Native.Nat.{ℕ, zero, suc, ◌+◌, ◌/◌, ◌%◌, ◌≤◌}
use native.Mathlib.Omega.{arith}
use mathlib.Core.List.{List, [], ◌∷◌, ◌++◌, map, append_assoc}
use mathlib.Core.Bool.{true, false}
use borrow.Author.Tests.{le-leb, lt-leb}
use lib.ListN.{length, get_or, take, drop, length-append}
use lib.Seq.{take_at, drop_at, get_or-append-add, get_or-append_seam}
use lib.Dec.{leb}
use Rattle.stun_frame.specs.Source.{field_at}
use Rattle.stun_frame.specs.Rfc.{two}
use Rattle.stun_walk.specs.Source.{Attribute, attributes_from, inside, padded}
use Rattle.stun_walk.specs.Rfc.{Part, Formed, AllFormed, body}

-- what an attribute of the walk, and one of the RFC's, is: a type and a value
pub record Meaning : Type 0 where
  pub typ : ℕ
  pub value : List ℕ

abbrev pub seen : List ℕ → Attribute → Meaning
seen b a = record { typ = a.typ; value = take a.len (drop (a.at + 4) b) }

abbrev pub meant : Part → Meaning
meant a = record { typ = a.typ; value = a.value }

-- two bytes behind pre are the number that they write
field_behind : (pre rest : List ℕ) (x : ℕ) → field_at (pre ++ (two x ++ rest)) (length pre) ≡ x
field_behind pre rest x =
    let a : get_or (pre ++ (two x ++ rest)) (length pre) 0 ≡ x / 256 = get_or-append_seam pre (x / 256) (x % 256 ∷ rest) 0 in
    let b : get_or (pre ++ (two x ++ rest)) (length pre + 1) 0 ≡ x % 256 = get_or-append-add pre (two x ++ rest) 1 0 in
    rw (a, b) (omega arith)

-- one attribute at the place where pre ends
module _ (b pre after : List ℕ) (a : Part) (more : List Part) (formed : Formed a) (is : b ≡ pre ++ (body (a ∷ more) ++ after)) where
  abbrev pub value : List ℕ
  value = a.value

  -- what stands before the next one
  abbrev pub past : List ℕ
  past = pre ++ (two a.typ ++ (two (length value) ++ (value ++ a.pad)))

  pub typ_at : field_at b (length pre) ≡ a.typ
  typ_at = rw is (field_behind pre _ a.typ)

  pub len_at : field_at b (length pre + 2) ≡ length value
  len_at =
      let l : length pre + 2 ≡ length (pre ++ two a.typ) = simp length-append (omega arith) in
      let s : b ≡ (pre ++ two a.typ) ++ (two (length value) ++ ((value ++ (a.pad ++ body more)) ++ after)) = is ∙ sym (append_assoc pre (two a.typ) _) in
      rw (s, l) (field_behind (pre ++ two a.typ) _ (length value))

  value_at : take (length value) (drop (length pre + 4) b) ≡ value
  value_at =
      let head : List ℕ = (pre ++ two a.typ) ++ two (length value) in
      let l : length head ≡ length pre + 4 = simp length-append (omega arith) in
      let s : b ≡ head ++ (value ++ ((a.pad ++ body more) ++ after)) = is ∙ simp append_assoc in
      rw (s, drop_at head (value ++ ((a.pad ++ body more) ++ after)) (length pre + 4) l) (take_at value _ (length value) refl)

  pub length-past : length past ≡ length pre + 4 + padded (length value)
  length-past = simp length-append (omega arith)

  pub past_is : b ≡ past ++ (body more ++ after)
  past_is = is ∙ simp append_assoc

-- the walk over the attributes of the RFC, with n attributes enough
pub record Walked (b : List ℕ) (n p : ℕ) (parts : List Part) : Type 0 where
  pub found : map (seen b) (attributes_from n b p) ≡ map meant parts
  pub lies : inside b (attributes_from n b p) ≡ true

pub walked : (parts : List Part) (b pre after : List ℕ) (n : ℕ) → AllFormed parts → b ≡ pre ++ (body parts ++ after)
    → 20 + field_at b 2 ≡ length pre + length (body parts) → length (body parts) ≤ n → Walked b n (length pre) parts
unfolding attributes_from
walked [] b pre after zero f is end enough = record { found = refl; lies = refl }
walked [] b pre after (suc n) f is end enough =
    let stop : leb (length pre + 4) (20 + field_at b 2) ≡ false = lt-leb (length pre + 4) (20 + field_at b 2) (omega arith) in
    record { found = rw stop; lies = rw stop }
walked (a ∷ more) b pre after zero f is end enough = absurd (omega arith)
walked (a ∷ more) b pre after (suc n) f is end enough =
    let value : List ℕ = a.value in
    let size : length (body (a ∷ more)) ≡ 4 + (length value + (length a.pad + length (body more))) = simp length-append (omega arith) in
    let whole : length b ≡ length pre + (length (body (a ∷ more)) + length after) = ap length is ∙ simp length-append in
    let go : leb (length pre + 4) (20 + field_at b 2) ≡ true = le-leb (length pre + 4) (20 + field_at b 2) (omega arith) in
    let q = length-past b pre after a more f.0 is in
    let rest =
    walked more b (past b pre after a more f.0 is) after n f.1 (past_is b pre after a more f.0 is) (omega (arith, f.0)) (omega arith) in
    let step : attributes_from (suc n) b (length pre)
    ≡ record { at = length pre; typ = a.typ; len = length value } ∷ attributes_from n b (length (past b pre after a more f.0 is)) =
    rw (go, typ_at b pre after a more f.0 is, len_at b pre after a more f.0 is, q) in
    record {
      found =
          ap (map (seen b)) step
          ∙ ap₂ (λ (x : Meaning) (xs : List Meaning). x ∷ xs) (λ i. record { typ = a.typ; value = value_at b pre after a more f.0 is i }) rest.found;
      lies = ap (inside b) step ∙ rw (le-leb (length pre + 4 + length value) (length b) (omega arith), rest.lies);
    }
