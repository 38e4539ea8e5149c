-- Ids looked for among others: what a search has still to look at says what the whole says.
use Rattle.std.specs.Prelude.{Option, Some, None, is_some}
use mathlib.Core.Path.{◌≡◌, refl, ap, ◌∙◌}
use mathlib.Core.Bool.{Bool, true, false, cond, ◌||◌}
use mathlib.Core.List.{List, [], ◌∷◌, map}
use mathlib.Core.Logic.{◌⊎◌, inl, inr}
use Rattle.std.specs.List.{list_any, range_with_len}
use Rattle.stun_frame.proofs.Reading.{compared}
use Prim.Native.Nat.{ℕ, zero, suc, ◌+◌, ◌-◌, ◌≤◌, ◌<◌}
use native.Mathlib.Numerals.{add-one}
use native.Mathlib.Omega.{arith}
use Rattle.stun_check.specs.Source.{same}
use Rattle.turn_state.specs.Maps.{contains}
use Rattle.turn_state.specs.State.{Txn, ids_in, id_at}
use Rattle.turn_state.specs.Source.{under_id}
use Rattle.turn_state.specs.Number.{clash}
use Rattle.turn_tables.specs.Rows.{later, position}
use Rattle.turn_ids.specs.Ids.{lent_id, ids_from}
use Rattle.turn_ids.proofs.Lent.{lent_is}

-- requests under an id, by their ids
pub under_ids : (id : List ℕ) (txns : List Txn) → contains (under_id id) txns ≡ contains (λ x. same x id) (map (λ x. x.msg.tid) txns)
under_ids id [] = refl
under_ids id (t ∷ more) = ap (λ (b : Bool). cond (same t.msg.tid id) true b) (under_ids id more)

-- where there is a place, and where there is none
pub pending_is : (id : List ℕ) (txns : List Txn) → is_some (position (under_id id) txns) ≡ contains (λ x. same x id) (map (λ x. x.msg.tid) txns)
pending_is id [] = refl
pending_is id (t ∷ more) = by (same t.msg.tid id) (position (under_id id) more) (pending_is id more)
  where
    by : {c : Bool} (b : Bool) (p : Option ℕ) → is_some p ≡ c → is_some (cond b (Some 0) (later p)) ≡ cond b true c
    by true p e = refl
    by false (Some i) e = e
    by false None e = e

-- those from k up to n, which are lent: `id` is the one at k, as the code reads it
module _ (lent : List ℕ) (k n : ℕ) (h : k < n) (m : n ≤ ids_in lent) (id : List ℕ) (is : id ≡ lent_id lent k) where
  ids_cons : ids_from lent k (n - k) ≡ id ∷ ids_from lent (k + 1) (n - (k + 1))
  ids_cons =
      let e : n - k ≡ suc (n - (k + 1)) = omega arith in
      let w : id ≡ id_at lent k = is ∙ lent_is lent k (omega arith) in
      ap (ids_from lent k) e ∙ rw (add-one k, ← w)

  -- their clash
  module _ (pending : List (List ℕ)) where
    pub clash_pending : contains (λ x. same x id) pending ≡ true → clash pending (ids_from lent k (n - k)) ≡ true
    clash_pending e = ap (clash pending) ids_cons ∙ rw e

    pub clash_later : contains (λ x. same x id) pending ≡ false → contains (λ x. same x id) (ids_from lent (k + 1) (n - (k + 1))) ≡ true
        → clash pending (ids_from lent k (n - k)) ≡ true
    clash_later e f = ap (clash pending) ids_cons ∙ rw (e, f)

    pub clash_rest : contains (λ x. same x id) pending ≡ false → contains (λ x. same x id) (ids_from lent (k + 1) (n - (k + 1))) ≡ false
        → clash pending (ids_from lent k (n - k)) ≡ clash pending (ids_from lent (k + 1) (n - (k + 1)))
    clash_rest e f = ap (clash pending) ids_cons ∙ rw (e, f)

-- looked for among those from k on, n of which are lent
pub any_ids : (lent id : List ℕ) (k n : ℕ) → k + n ≤ ids_in lent → list_any (λ j. same (lent_id lent j) id) (range_with_len k n) ≡ contains (λ x. same x id) (ids_from lent k n)
any_ids lent id k zero h = refl
any_ids lent id k (suc n) h =
    let rest = any_ids lent id (k + 1) n (omega arith) in
    rw (lent_is lent k (omega arith)) (by (same (id_at lent k) id) (rest ∙ ap (λ (m : ℕ). contains (λ x. same x id) (ids_from lent m n)) (add-one k)))
  where
    by : {x y : Bool} (b : Bool) → x ≡ y → (b || x) ≡ cond b true y
    by true e = refl
    by false e = e

pub any_from : (lent id : List ℕ) (k n : ℕ) → n ≤ ids_in lent → list_any (λ j. same (lent_id lent j) id) (range_with_len k (n - k)) ≡ contains (λ x. same x id) (ids_from lent k (n - k))
any_from lent id k n h = by_cases (compared k n)
  where
    by_cases : (k < n) ⊎ (n ≤ k) → list_any (λ j. same (lent_id lent j) id) (range_with_len k (n - k)) ≡ contains (λ x. same x id) (ids_from lent k (n - k))
    by_cases (inl l) = any_ids lent id k (n - k) (omega arith)
    by_cases (inr l) = let e : n - k ≡ 0 = omega arith in rw e
