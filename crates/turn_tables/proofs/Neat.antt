-- A tidy table stays tidy once a tidy row is put last or replaces one, or one is taken out: over any rows, any room.
use mathlib.Core.Path.{◌≡◌, sym, ap, ◌∙◌}
use mathlib.Core.List.{List, ◌∷◌, ◌++◌}
use Prim.Native.Nat.{ℕ, zero, suc, ◌+◌, ◌-◌, ◌<◌, min}
use native.Mathlib.Nat.{not-suc-le-zero, le_of_suc-le-suc}
use native.Mathlib.Numerals.{add-one}
use native.Mathlib.Omega.{arith}
use lib.ListN.{length, take, drop, set, get_or, replicate, length-take, length-drop, length-replicate}
use lib.Seq.{get_or-take, take-suc-set, take-set-lt, take-take, drop-set-lt, drop-drop}
use Rattle.turn_state.specs.View.{Each, no_rows, row, TidyTable}
use Rattle.turn_tables.specs.Rows.{closed}
use Rattle.turn_tables.proofs.Views.{closed_front, closed_back}

module _ {R : Type 0} {tidy : R → Type 0} where
  each_append : {a b : List R} → Each tidy a → Each tidy b → Each tidy (a ++ b)
  each_append no_rows q = q
  each_append (row t p) q = row t (each_append p q)

  each_take : (n : ℕ) {l : List R} → Each tidy l → Each tidy (take n l)
  each_take zero p = no_rows
  each_take (suc n) no_rows = no_rows
  each_take (suc n) (row t p) = row t (each_take n p)

  each_drop : (n : ℕ) {l : List R} → Each tidy l → Each tidy (drop n l)
  each_drop zero p = p
  each_drop (suc n) no_rows = no_rows
  each_drop (suc n) (row t p) = each_drop n p

  each_set : {l : List R} (i : ℕ) (v : R) → tidy v → Each tidy l → Each tidy (set l i v)
  each_set i v t no_rows = no_rows
  each_set zero v t (row s p) = row t p
  each_set (suc i) v t (row s p) = row s (each_set i v t p)

  module _ (blank : R) (room len : ℕ) (rows : List R) (t : TidyTable tidy blank room len rows) where
    pub tidy_pushed : (r : R) → tidy r → len < room → TidyTable tidy blank room (len + 1) (set rows len r)
    tidy_pushed r n h =
        let long : length rows ≡ room = omega (arith, simp (length-drop, length-replicate) at (ap length t.blanks)) in
        let one : room - len ≡ suc (room - (len + 1)) = omega arith in
        record {
          fits = omega arith;
          each = rw (add-one, take-suc-set rows len r (omega arith)) (each_append t.each (row n no_rows));
          blanks =
              drop-set-lt (len + 1) rows len r (omega arith)
              ∙ sym (drop-drop 1 len rows)
              ∙ ap (drop 1) t.blanks
              ∙ ap (λ (k : ℕ). drop 1 (replicate k blank)) one;
        }

    pub tidy_put : (i : ℕ) (r : R) → tidy r → i < len → TidyTable tidy blank room len (set rows i r)
    tidy_put i r n h =
        record {
          fits = t.fits;
          each = rw (take-set-lt len rows i r h) (each_set i r n t.each);
          blanks = drop-set-lt len rows i r h ∙ t.blanks;
        }

    pub tidy_removed : (i : ℕ) → length rows ≡ room → i < len → TidyTable tidy blank room (len - 1) (closed blank len rows i)
    tidy_removed i full h =
        let f = t.fits in
        let front : Each tidy (take i rows) = rw (← take-take i len rows (omega arith)) (each_take i t.each) in
        let one : suc (room - len) ≡ room - (len - 1) = omega arith in
        record {
          fits = omega arith;
          each = rw (closed_front rows len i blank (omega arith) h) (each_append front (each_drop (suc i) t.each));
          blanks =
              closed_back rows len i blank (omega arith) h
              ∙ ap (λ (l : List R). blank ∷ l) t.blanks
              ∙ ap (λ (k : ℕ). replicate k blank) one;
        }

-- a row of a tidy table is tidy
pub each_at : {R : Type 0} {tidy : R → Type 0} {l : List R} (i : ℕ) (z : R) → Each tidy l → i < length l → tidy (get_or l i z)
each_at i z no_rows h = absurd (not-suc-le-zero h)
each_at zero z (row t p) h = t
each_at (suc i) z (row t p) h = each_at i z p (le_of_suc-le-suc h)

pub tidy_row : {R : Type 0} {tidy : R → Type 0} (blank : R) (room len : ℕ) (rows : List R) (i : ℕ) (z : R) → length rows ≡ room → i < min len room
    → TidyTable tidy blank room len rows → tidy (get_or rows i z)
tidy_row blank room len rows i z full h t =
    rw (← get_or-take len rows i z (omega arith)) (each_at i z t.each (rw length-take (omega arith)))
