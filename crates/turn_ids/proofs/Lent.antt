-- The ids that are lent: one more of them, one that is lent is the definition's, and each has twelve bytes.
use mathlib.Core.Path.{◌≡◌, refl, sym, ap, ◌∙◌}
use mathlib.Core.Bool.{Bool, true, false, cond}
use mathlib.Core.List.{List, [], ◌∷◌, ◌++◌}
use Prim.Native.Nat.{ℕ, zero, suc, ◌+◌, ◌*◌, ◌≤◌, ◌<◌}
use native.Mathlib.Nat.{add-zero}
use native.Mathlib.Omega.{arith}
use borrow.Author.Tests.{lt-ltb, ltb-true}
use lib.ListN.{length, take, drop, replicate, length-take, length-drop, length-replicate}
use lib.Dec.{ltb}
use Rattle.turn_state.specs.State.{ids_in, id_at}
use Rattle.turn_ids.specs.Ids.{lent_id, ids_from}

pub ids_more : (lent : List ℕ) (k n : ℕ) → ids_from lent k (suc n) ≡ ids_from lent k n ++ (id_at lent (k + n) ∷ [])
ids_more lent k zero = rw (add-zero k)
ids_more lent k (suc n) =
    let rest = ids_more lent (suc k) n in
    let e : suc k + n ≡ k + suc n = omega arith in
    ap (λ (r : List (List ℕ)). id_at lent k ∷ r) (rest ∙ ap (λ (m : ℕ). ids_from lent (suc k) n ++ (id_at lent m ∷ [])) e)

pub lent_is : (lent : List ℕ) (k : ℕ) → k < ids_in lent → lent_id lent k ≡ id_at lent k
lent_is lent k h = rw (lt-ltb k (ids_in lent) h)

-- twelve bytes, over any length
part_length : (lent : List ℕ) (at n : ℕ) → at + n ≤ length lent → length (take n (drop at lent)) ≡ n
part_length lent at n h = simp (length-take, length-drop) (omega arith)

lent_length : (lent : List ℕ) (k n : ℕ) (b : Bool) → (b ≡ true → n * k + n ≤ length lent)
    → length (cond b (take n (drop (n * k) lent)) (replicate n 0)) ≡ n
lent_length lent k n true h = part_length lent (n * k) n (h refl)
lent_length lent k n false h = length-replicate n 0

pub lent_twelve : (lent : List ℕ) (k : ℕ) → length (lent_id lent k) ≡ 12
lent_twelve lent k = lent_length lent k 12 (ltb k (ids_in lent)) (λ e. let h = ltb-true k (ids_in lent) e in omega arith)

-- an id that was lent has twelve bytes, and one that was not has none
pub id_twelve : (lent : List ℕ) (k : ℕ) → k < ids_in lent → length (id_at lent k) ≡ 12
id_twelve lent k h = ap length (sym (lent_is lent k h)) ∙ lent_twelve lent k

pub id_short : (lent : List ℕ) (k : ℕ) → length (id_at lent k) ≤ 12
id_short lent k = by_test (ltb k (ids_in lent))
  where
    by_test : (b : Bool) → length (cond b (take 12 (drop (12 * k) lent)) []) ≤ 12
    by_test true = rw length-take (omega arith)
    by_test false = omega arith
