-- One step by its tests (`step_outside`, `step_end`, `step_past`, `step_some`). On a readable message the steps from 20 are
-- its attributes, in order (`steps_attributes`), and no place reached has a value that passes the end (`never_past`).
use mathlib.Core.Path.{◌≡◌, refl, sym, ap, ◌∙◌}
use Prim.Native.Nat.{ℕ, zero, suc, ◌+◌, ◌*◌, ◌≤◌, ◌<◌}
use native.Mathlib.Nat.{lt_of_not-le}
use native.Mathlib.Decide.{dec_le}
use native.Mathlib.Omega.{arith}
use mathlib.Core.List.{List, [], ◌∷◌}
use mathlib.Core.Bool.{Bool, true, false, ◌&&◌, cond, and-false}
use borrow.Author.Tests.{le-leb, lt-leb, leb-true}
use lib.ListN.{length, get_or}
use lib.Dec.{leb}
use Rattle.stun_frame.specs.Source.{field_at, is_stun}
use Rattle.stun_walk.specs.Source.{attributes_from, attributes, inside, readable, padded, Attribute as «Found»}
use Rattle.stun_walker.specs.Source.{step_of, steps, Reached, start, onward}
use Rattle.stun_walker.specs.declared.Step.{Step}
use Rattle.stun_walker.specs.declared.Step.TheVariants.{Attribute, Past, Done}

module _ (buf : List ℕ) (p : ℕ) where
  -- the length, from its two bytes
  pub len_at : get_or buf (p + 2) 0 * 256 + get_or buf (p + 3) 0 ≡ field_at buf (p + 2)
  len_at = let e : p + 3 ≡ p + 2 + 1 = omega arith in rw e

  -- the header passes the buffer's end
  pub step_outside : length buf < p + 4 → Done ≡ step_of buf p
  unfolding step_of
  step_outside h = rw (lt-leb (p + 4) (length buf) h, and-false)

  -- the header passes the length field's end
  pub step_end : 20 + field_at buf 2 < p + 4 → Done ≡ step_of buf p
  unfolding step_of
  step_end h = rw (lt-leb (p + 4) (20 + field_at buf 2) h)

  module _ (here : p + 4 ≤ 20 + field_at buf 2) (fits : p + 4 ≤ length buf) where
    pub step_past : length buf < p + 4 + field_at buf (p + 2) → Past ≡ step_of buf p
    unfolding step_of
    step_past h =
        rw (le-leb (p + 4) (20 + field_at buf 2) here, le-leb (p + 4) (length buf) fits, lt-leb (p + 4 + field_at buf (p + 2)) (length buf) h)

    -- what was read, and the padding
    pub step_some : (typ len : ℕ) → typ ≡ field_at buf p → len ≡ field_at buf (p + 2) → p + 4 + len ≤ length buf
        → Attribute typ (p + 4) len (p + 4 + padded len) ≡ step_of buf p
    unfolding step_of
    step_some typ len t l h =
        let v : p + 4 + field_at buf (p + 2) ≤ length buf = omega arith in
        rw (t, l, le-leb (p + 4) (20 + field_at buf 2) here, le-leb (p + 4) (length buf) fits, le-leb (p + 4 + field_at buf (p + 2)) (length buf) v)

both : (a b : Bool) → (a && b) ≡ true → (a ≡ true) × (b ≡ true)
both true b e = (refl, e)
both false b e = (e, absurd (omega (arith, ap {B = ℕ} (λ (x : Bool). cond x 1 0) e)))

abbrev next_of : List ℕ → ℕ → ℕ
next_of buf p = p + 4 + padded (field_at buf (p + 2))

abbrev this : List ℕ → ℕ → Step
this buf p = Attribute (field_at buf p) (p + 4) (field_at buf (p + 2)) (next_of buf p)

-- a message whose length field stays inside the buffer
module _ (buf : List ℕ) (whole : 20 + field_at buf 2 ≤ length buf) where
  some : (p n : ℕ) → p + 4 ≤ 20 + field_at buf 2
      → attributes_from (suc n) buf p ≡ record { at = p; typ = field_at buf p; len = field_at buf (p + 2) } ∷ attributes_from n buf (next_of buf p)
  unfolding attributes_from
  some p n here = rw (le-leb (p + 4) (20 + field_at buf 2) here)

  none : (p n : ℕ) → 20 + field_at buf 2 < p + 4 → attributes_from (suc n) buf p ≡ []
  unfolding attributes_from
  none p n h = rw (lt-leb (p + 4) (20 + field_at buf 2) h)

  -- where the values from p on lie inside the buffer, the step at p meets an attribute, and those after it lie inside too
  turn : (p n : ℕ) → p + 4 ≤ 20 + field_at buf 2 → inside buf (attributes_from (suc n) buf p) ≡ true
      → (this buf p ≡ step_of buf p) × (inside buf (attributes_from n buf (next_of buf p)) ≡ true)
  turn p n here i =
      let h = both (leb (p + 4 + field_at buf (p + 2)) (length buf)) _ (sym (ap (inside buf) (some p n here)) ∙ i) in
      (step_some buf p here (omega arith) _ _ refl refl (leb-true (p + 4 + field_at buf (p + 2)) (length buf) h.0), h.1)

  steps_from : (n p : ℕ) → inside buf (attributes_from n buf p) ≡ true → steps n buf p ≡ attributes_from n buf p
  unfolding steps attributes_from
  steps_from zero p i = refl
  steps_from (suc n) p i =
      elim (dec_le (p + 4) (20 + field_at buf 2)) [
        | yes h ↦
            let t = turn p n h i in
            rw (← t.0)
            (ap (λ (l : List «Found»). record { at = p; typ = field_at buf p; len = field_at buf (p + 2) } ∷ l) (steps_from n (next_of buf p) t.1)
            ∙ sym (some p n h))
        | no h ↦ rw (← step_end buf p (lt_of_not-le h)) (sym (none p n (lt_of_not-le h)))
      ]

  -- from p on every value lies inside the buffer, with attributes enough
  record Within (p : ℕ) : Type 0 where
    fuel : ℕ
    enough : length buf ≤ p + fuel
    within : inside buf (attributes_from fuel buf p) ≡ true

  on : (p : ℕ) → Within p → p + 4 ≤ 20 + field_at buf 2 → (this buf p ≡ step_of buf p) × Within (next_of buf p)
  on p w h = go w.fuel w.enough w.within
    where
      go : (n : ℕ) → length buf ≤ p + n → inside buf (attributes_from n buf p) ≡ true → (this buf p ≡ step_of buf p) × Within (next_of buf p)
      go zero e i = absurd (omega arith)
      go (suc n) e i = let t = turn p n h i in (t.0, record { fuel = n; enough = omega arith; within = t.1 })

  module _ (all : inside buf (attributes buf) ≡ true) where
    reached : {p : ℕ} → Reached buf p → Within p
    reached start = record { fuel = length buf; enough = omega arith; within = all }
    reached (onward {p} {next = n} r e) =
        elim (dec_le (p + 4) (20 + field_at buf 2)) [
          | yes h ↦
              let t = on p (reached r) h in
              let same : next_of buf p ≡ n = cc in
              rw same at t.1
          | no h ↦
              let d = step_end buf p (lt_of_not-le h) in
              let z : ◌≡◌ {A = ℕ} 0 1 = cc in
              absurd (omega arith)
        ]

    not_past : {p : ℕ} → Reached buf p → step_of buf p ≡ Past → ⊥
    not_past {p} r e =
        elim (dec_le (p + 4) (20 + field_at buf 2)) [
          | yes h ↦
              let t = on p (reached r) h in
              let z : ◌≡◌ {A = ℕ} 0 1 = cc in
              omega arith
          | no h ↦
              let d = step_end buf p (lt_of_not-le h) in
              let z : ◌≡◌ {A = ℕ} 0 1 = cc in
              omega arith
        ]

-- what `readable` says
parts : (buf : List ℕ) → readable buf ≡ true → (20 + field_at buf 2 ≤ length buf) × (inside buf (attributes buf) ≡ true)
unfolding readable
parts buf e =
    let a = both (is_stun buf && leb (20 + field_at buf 2) (length buf)) _ e in
    (leb-true (20 + field_at buf 2) (length buf) (both (is_stun buf) _ a.0).1, a.1)

pub steps_attributes : (buf : List ℕ) → readable buf ≡ true → steps (length buf) buf 20 ≡ attributes buf
steps_attributes buf e = let r = parts buf e in steps_from buf r.0 (length buf) 20 r.1

pub never_past : (buf : List ℕ) (p : ℕ) → readable buf ≡ true → Reached buf p → step_of buf p ≡ Past → ⊥
never_past buf p e = let r = parts buf e in not_past buf r.0 r.1
