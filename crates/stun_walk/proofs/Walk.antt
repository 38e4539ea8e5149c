-- The one pass over a message. `Left` is what a turn keeps: with attributes enough from p on, the definition finds there what
-- it finds from the start. A turn stops (`left_none`), meets a value that passes the end (`left_past`) or passes over one
-- (`left_next`).
use mathlib.Core.Path.{◌≡◌, refl, sym, ap, ◌∙◌}
use Prim.Native.Nat.{ℕ, zero, suc, ◌+◌, ◌≤◌, ◌<◌}
use native.Mathlib.Omega.{arith}
use mathlib.Core.List.{List, [], ◌∷◌}
use mathlib.Core.Bool.{Bool, true, false, ◌&&◌, cond}
use borrow.Author.Tests.{le-leb, lt-leb, leb-true}
use lib.ListN.{length, get_or}
use lib.Dec.{eqb}
use Rattle.std.specs.Prelude.{Option, Some, None}
use Rattle.std.specs.Option.{option_or}
use Rattle.stun_frame.specs.Source.{from_be, field_at, is_stun}
use Rattle.stun_walk.specs.declared.Value.{Value}
use Rattle.stun_walk.specs.Source.{Attribute, attributes_from, attributes, inside, readable, padded, first}
use Rattle.stun_walk.specs.Scan.{scanned}

and_left : (a b : Bool) → (a && b) ≡ true → a ≡ true
and_left true b e = refl
and_left false b e = e

-- a STUN message has its 20 bytes
pub stun_long : (buf : List ℕ) → is_stun buf ≡ true → 20 ≤ length buf
unfolding is_stun
stun_long buf e = leb-true 20 (length buf) (and_left _ _ (and_left _ _ e))

pub record Left (buf : List ℕ) (t p : ℕ) (hit : Option Value) : Type 0 where
  pub fuel : ℕ
  pub enough : length buf ≤ p + fuel
  pub within : inside buf (attributes_from fuel buf p) ≡ inside buf (attributes buf)
  pub finds : option_or hit (first t (attributes_from fuel buf p)) ≡ first t (attributes buf)

pub left_start : (buf : List ℕ) (t : ℕ) → Left buf t 20 None
left_start buf t = record { fuel = length buf; enough = omega arith; within = refl; finds = refl }

-- what the whole pass answers
pub scanned_at : (buf : List ℕ) (t : ℕ) (hit : Option Value) → is_stun buf ≡ true → 20 + field_at buf 2 ≤ length buf → inside buf (attributes buf) ≡ true
    → hit ≡ first t (attributes buf) → Some hit ≡ scanned buf t
unfolding scanned readable
scanned_at buf t hit s e i h = rw (s, le-leb (20 + field_at buf 2) (length buf) e, i, h)

pub not_stun : (buf : List ℕ) (t : ℕ) → is_stun buf ≡ false → None ≡ scanned buf t
unfolding scanned readable
not_stun buf t s = rw s

pub cut_short : (buf : List ℕ) (t : ℕ) → is_stun buf ≡ true → length buf < 20 + field_at buf 2 → None ≡ scanned buf t
unfolding scanned readable
cut_short buf t s e = rw (s, lt-leb (20 + field_at buf 2) (length buf) e)

pub past_end : (buf : List ℕ) (t : ℕ) → is_stun buf ≡ true → 20 + field_at buf 2 ≤ length buf → inside buf (attributes buf) ≡ false → None ≡ scanned buf t
unfolding scanned readable
past_end buf t s e i = rw (s, le-leb (20 + field_at buf 2) (length buf) e, i)

or_none : (hit : Option Value) → option_or hit None ≡ hit
or_none None = refl
or_none (Some v) = refl

-- one attribute more is kept, or looked for
or_first : (hit : Option Value) (asked : Bool) (v : Value) (more : Option Value)
    → option_or (option_or hit (cond asked (Some v) None)) more ≡ option_or hit (cond asked (Some v) more)
or_first None true v more = refl
or_first None false v more = refl
or_first (Some w) true v more = refl
or_first (Some w) false v more = refl

module _ (buf : List ℕ) (t p : ℕ) (hit : Option Value) (left : Left buf t p hit) where
  pub left_none : 20 + field_at buf 2 < p + 4 → (inside buf (attributes buf) ≡ true) × (hit ≡ first t (attributes buf))
  unfolding attributes_from
  left_none h =
      (sym left.within ∙ ap (inside buf) (empty left.fuel), sym (or_none hit) ∙ ap (λ (l : List Attribute). option_or hit (first t l)) (sym (empty left.fuel)) ∙ left.finds)
    where
      empty : (n : ℕ) → attributes_from n buf p ≡ []
      empty zero = refl
      empty (suc n) = rw (lt-leb (p + 4) (20 + field_at buf 2) h)

  module _ (here : p + 4 ≤ 20 + field_at buf 2) (fits : 20 + field_at buf 2 ≤ length buf) where
    abbrev this : Attribute
    this = record { at = p; typ = field_at buf p; len = field_at buf (p + 2) }

    abbrev value : Value
    value = record { start = p + 4; len = field_at buf (p + 2) }

    abbrev next : ℕ
    next = p + 4 + padded (field_at buf (p + 2))

    some : (n : ℕ) → attributes_from (suc n) buf p ≡ this ∷ attributes_from n buf next
    unfolding attributes_from
    some n = rw (le-leb (p + 4) (20 + field_at buf 2) here)

    pub left_past : length buf < p + 4 + field_at buf (p + 2) → inside buf (attributes buf) ≡ false
    left_past h = sym left.within ∙ past left.fuel left.enough
      where
        past : (n : ℕ) → length buf ≤ p + n → inside buf (attributes_from n buf p) ≡ false
        past zero e = absurd (omega arith)
        past (suc n) e = ap (inside buf) (some n) ∙ rw (lt-leb (p + 4 + field_at buf (p + 2)) (length buf) h)

    left_on : p + 4 + field_at buf (p + 2) ≤ length buf → Left buf t next (option_or hit (cond (eqb (field_at buf p) t) (Some value) None))
    left_on h = go left.fuel left.enough left.within left.finds
      where
        go : (n : ℕ) → length buf ≤ p + n → inside buf (attributes_from n buf p) ≡ inside buf (attributes buf)
            → option_or hit (first t (attributes_from n buf p)) ≡ first t (attributes buf)
            → Left buf t next (option_or hit (cond (eqb (field_at buf p) t) (Some value) None))
        go zero e w f = absurd (omega arith)
        go (suc n) e w f =
            record {
              fuel = n;
              enough = omega arith;
              within = sym (rw (le-leb (p + 4 + field_at buf (p + 2)) (length buf) h)) ∙ sym (ap (inside buf) (some n)) ∙ w;
              finds =
                  or_first hit (eqb (field_at buf p) t) value (first t (attributes_from n buf next))
                  ∙ sym (ap (λ (l : List Attribute). option_or hit (first t l)) (some n)) ∙ f;
            }

    -- with the numbers that the code reads
    pub left_next : (typ len size : ℕ) (kept : Option Value) → typ ≡ field_at buf p → len ≡ from_be (get_or buf (p + 2) 0) (get_or buf (p + 3) 0) → size ≡ padded len
        → kept ≡ option_or hit (cond (eqb typ t) (Some (record { start = p + 4; len = len })) None) → p + 4 + len ≤ length buf → Left buf t (p + 4 + size) kept
    left_next typ len size kept a b c d h =
        let t : p + 3 ≡ p + 2 + 1 = omega arith in
        let e : len ≡ field_at buf (p + 2) = b ∙ ap (λ (j : ℕ). from_be (get_or buf (p + 2) 0) (get_or buf j 0)) t in
        rw (d, a, c, e) (left_on (rw e at h))

-- a value that passes the end, with attributes enough from p on
pub past_here : (buf : List ℕ) (p fuel : ℕ) → p + 4 ≤ 20 + field_at buf 2 → 20 + field_at buf 2 ≤ length buf → length buf ≤ p + fuel
    → length buf < p + 4 + field_at buf (p + 2) → inside buf (attributes_from fuel buf p) ≡ false
unfolding attributes_from
past_here buf p zero here fits e h = absurd (omega arith)
past_here buf p (suc n) here fits e h = rw (le-leb (p + 4) (20 + field_at buf 2) here, lt-leb (p + 4 + field_at buf (p + 2)) (length buf) h)
