-- What the lookup finds lies in the message, behind its header (`get_inside`), and a message that the pass has not refused is readable.
use mathlib.Core.Path.{◌≡◌, refl, sym}
use Prim.Native.Nat.{ℕ, zero, suc, ◌+◌, ◌≤◌}
use native.Mathlib.Omega.{arith}
use mathlib.Core.List.{List, [], ◌∷◌}
use mathlib.Core.Bool.{Bool, true, false, ◌&&◌, cond, false≢true}
use borrow.Author.Tests.{leb-true}
use lib.ListN.{length}
use lib.Dec.{leb, eqb}
use Rattle.std.specs.Prelude.{Option, Some, None}
use Rattle.stun_frame.specs.Source.{field_at, is_stun}
use Rattle.stun_walk.specs.declared.Value.{Value}
use Rattle.stun_walk.specs.Source.{Attribute, attributes_from, attributes, inside, readable, padded, first, get_of}
use Rattle.stun_walk.specs.Scan.{scanned}
use Rattle.stun_walk.proofs.Walk.{stun_long}

and_left : (a b : Bool) → (a && b) ≡ true → a ≡ true
and_left true b e = refl
and_left false b e = e

and_right : (a b : Bool) → (a && b) ≡ true → b ≡ true
and_right true b e = e
and_right false b e = absurd (false≢true e)

none_some : {A : Type 0} {x : A} → ◌≡◌ {A = Option A} None (Some x) → ⊥
none_some e = let z : ◌≡◌ {A = ℕ} 0 1 = cc in omega arith

some_is : {A : Type 0} {x y : A} → ◌≡◌ {A = Option A} (Some x) (Some y) → x ≡ y
some_is e = cc

abbrev Lies : List ℕ → Value → Type 0
Lies buf v = (24 ≤ v.start) × (v.start + v.len ≤ length buf)

first_inside : (n : ℕ) (buf : List ℕ) (t p : ℕ) → 20 ≤ p → inside buf (attributes_from n buf p) ≡ true → (v : Value) → first t (attributes_from n buf p) ≡ Some v → Lies buf v
unfolding attributes_from
first_inside zero buf t p h i v e = absurd (none_some e)
first_inside (suc n) buf t p h i v e =
    go (leb (p + 4) (20 + field_at buf 2)) (λ i e. first_inside n buf t (p + 4 + padded (field_at buf (p + 2))) (omega arith) i v e) i e
  where
    rest : List Attribute
    rest = attributes_from n buf (p + 4 + padded (field_at buf (p + 2)))

    this : Attribute
    this = record { at = p; typ = field_at buf p; len = field_at buf (p + 2) }

    here : Bool
    here = leb (p + 4 + field_at buf (p + 2)) (length buf)

    Later : Type 0
    Later = inside buf rest ≡ true → first t rest ≡ Some v → Lies buf v

    pick : (asked : Bool) → Later → here ≡ true → inside buf rest ≡ true → cond asked (Some (record { start = p + 4; len = field_at buf (p + 2) })) (first t rest) ≡ Some v → Lies buf v
    pick true later l i e =
        let s : record { start = p + 4; len = field_at buf (p + 2) } ≡ v = some_is e in
        let a : p + 4 ≡ v.start = λ i. (s i).start in
        let b : field_at buf (p + 2) ≡ v.len = λ i. (s i).len in
        (omega arith, omega (arith, leb-true (p + 4 + field_at buf (p + 2)) (length buf) l))
    pick false later l i e = later i e

    go : (more : Bool) → Later → inside buf (cond more (this ∷ rest) []) ≡ true → first t (cond more (this ∷ rest) []) ≡ Some v → Lies buf v
    go false later i e = absurd (none_some e)
    go true later i e = pick (eqb (field_at buf p) t) later (and_left here _ i) (and_right here _ i) e

module _ (buf : List ℕ) where
  all_inside : readable buf ≡ true → inside buf (attributes buf) ≡ true
  unfolding readable
  all_inside e = and_right (is_stun buf && leb (20 + field_at buf 2) (length buf)) _ e

  module _ (t : ℕ) where
    -- the value lies in the message, behind its header
    pub get_inside : (v : Value) → get_of buf t ≡ Some v → (24 ≤ v.start) × (v.start + v.len ≤ length buf)
    unfolding get_of
    get_inside v e = go (readable buf) refl e
      where
        go : (r : Bool) → readable buf ≡ r → cond r (first t (attributes buf)) None ≡ Some v → (24 ≤ v.start) × (v.start + v.len ≤ length buf)
        go false r e = absurd (none_some e)
        go true r e = first_inside (length buf) buf t 20 (omega arith) (all_inside r) v e

    -- what a pass over an unreadable message, and over a readable one, answers
    pub scanned_none : scanned buf t ≡ None → (readable buf ≡ false) × (None ≡ get_of buf t)
    unfolding scanned get_of
    scanned_none e = go (readable buf) e
      where
        go : (r : Bool) → cond r (Some (first t (attributes buf))) None ≡ None → (r ≡ false) × (None ≡ cond r (first t (attributes buf)) None)
        go true e = absurd (none_some (sym e))
        go false e = (refl, refl)

    pub scanned_some : (found : Option Value) → scanned buf t ≡ Some found → (readable buf ≡ true) × (found ≡ get_of buf t)
    unfolding scanned get_of
    scanned_some found e = go (readable buf) e
      where
        go : (r : Bool) → cond r (Some (first t (attributes buf))) None ≡ Some found → (r ≡ true) × (found ≡ cond r (first t (attributes buf)) None)
        go true e = (refl, sym (some_is e))
        go false e = absurd (none_some e)

  pub readable_long : readable buf ≡ true → 20 ≤ length buf
  unfolding readable
  readable_long e = stun_long buf (and_left (is_stun buf) _ (and_left _ _ e))
