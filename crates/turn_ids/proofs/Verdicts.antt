-- The numbers 5 to 8: a request that would meet a full table, and the number of a run by what it met, used and wrote.
use mathlib.Core.Path.{◌≡◌, refl, sym, ap, ◌∙◌}
use mathlib.Core.Bool.{Bool, true, false, not, ◌&&◌, ◌||◌, and-false}
use mathlib.Core.List.{List, [], ◌∷◌, map}
use Prim.Native.Nat.{ℕ, ◌≤◌, ◌<◌, min}
use native.Mathlib.Omega.{arith}
use borrow.Author.Tests.{lt-ltb, le-ltb, le-leb, lt-leb, ltb-false}
use lib.ListN.{length}
use lib.Dec.{ltb, leb}
use Rattle.stun_check.specs.Source.{same}
use Rattle.turn_state.specs.declared.Requests.{Requests}
use Rattle.turn_state.specs.Maps.{contains}
use Rattle.turn_state.specs.State.{Txn, Turn, Run, ids_in, id_at}
use Rattle.turn_state.specs.Source.{under_id, under_drawn}
use Rattle.turn_state.specs.Number.{Given, number, above, full, first, clash, framed, pending}
use Rattle.turn_state.specs.View.{txns_in}
use Rattle.turn_tables.proofs.Laws.{txns_length}
use Rattle.turn_ids.specs.Ids.{lent_id, ids_from, request_full, verdict_of}
use Rattle.turn_ids.proofs.Lent.{lent_is, lent_twelve}
use Rattle.turn_ids.proofs.Clashing.{under_ids}

-- no record has an id that was not lent
pub contains_none : (l : List Txn) → contains (under_drawn []) l ≡ false
contains_none [] = refl
contains_none (t ∷ l) = contains_none l

-- an id of twelve bytes is one that was lent
pub contains_drawn : (id : List ℕ) (l : List Txn) → length id ≡ 12 → contains (under_id id) l ≡ contains (under_drawn id) l
contains_drawn [] l e = let z : ⊥ = omega arith in absurd z
contains_drawn (b ∷ bs) l e = refl

-- an id that is missing
pub id_missing : (lent : List ℕ) (k : ℕ) → ids_in lent ≤ k → id_at lent k ≡ []
id_missing lent k h = rw (le-ltb k (ids_in lent) h)

module _ (t : Requests) (rows : length t.rows ≡ 64) (lent : List ℕ) (k : ℕ) where
  pub not_full : t.len < 64 → false ≡ request_full (txns_in t) lent k
  unfolding request_full
  not_full h =
      let few : leb 64 (length (txns_in t)) ≡ false = lt-leb 64 (length (txns_in t)) (omega (arith, txns_length t rows)) in
      sym (rw few (and-false (not (contains (under_drawn (id_at lent k)) (txns_in t)))))

  many : 64 ≤ t.len → leb 64 (length (txns_in t)) ≡ true
  many h = le-leb 64 (length (txns_in t)) (omega (arith, txns_length t rows))

  pub full_missing : 64 ≤ t.len → ids_in lent ≤ k → true ≡ request_full (txns_in t) lent k
  unfolding request_full
  full_missing h m = sym (rw (id_missing lent k m, contains_none (txns_in t), many h))

  pub full_unless : (b : Bool) (id : List ℕ) → 64 ≤ t.len → k < ids_in lent → id ≡ lent_id lent k → b ≡ contains (λ x. same x id) (map (λ x. x.msg.tid) (txns_in t))
      → not b ≡ request_full (txns_in t) lent k
  unfolding request_full
  full_unless b id h m e f =
      let is : id ≡ id_at lent k = e ∙ lent_is lent k m in
      let twelve : length id ≡ 12 = ap length e ∙ lent_twelve lent k in
      let there : contains (under_drawn (id_at lent k)) (txns_in t) ≡ b =
      ap (λ (i : List ℕ). contains (under_drawn i) (txns_in t)) (sym is) ∙ sym (contains_drawn id (txns_in t) twelve) ∙ under_ids id (txns_in t) ∙ sym f in
      sym (rw (there, many h) (and-true (not b)))
    where
      and-true : (x : Bool) → (x && true) ≡ x
      and-true true = refl
      and-true false = refl

-- the number, condition by condition
module _ (full : Bool) (pending : List (List ℕ)) (lent : List ℕ) (n size room : ℕ) where
  pub five : full ≡ true → 5 ≡ verdict_of full pending lent n size room
  unfolding verdict_of
  five e = rw e

  pub six : full ≡ false → ids_in lent < n → 6 ≡ verdict_of full pending lent n size room
  unfolding verdict_of
  six e h = rw (e, lt-ltb (ids_in lent) n h)

  lent_all : (b : Bool) → n ≤ ids_in lent → b ≡ clash pending (ids_from lent 0 (min n (ids_in lent))) → clash pending (ids_from lent 0 n) ≡ b
  lent_all b h e =
      let m : min n (ids_in lent) ≡ n = omega arith in sym (rw m at e)

  pub seven : (b : Bool) → full ≡ false → n ≤ ids_in lent → b ≡ clash pending (ids_from lent 0 (min n (ids_in lent))) → b ≡ true → 7 ≡ verdict_of full pending lent n size room
  unfolding verdict_of
  seven b e h k f = rw (e, le-ltb (ids_in lent) n h, lent_all b h k, f)

  pub eight : (b : Bool) → full ≡ false → n ≤ ids_in lent → b ≡ clash pending (ids_from lent 0 (min n (ids_in lent))) → b ≡ false → room < size → 8 ≡ verdict_of full pending lent n size room
  unfolding verdict_of
  eight b e h k f r = rw (e, le-ltb (ids_in lent) n h, lent_all b h k, f, lt-ltb room size r)

  pub zero : (b : Bool) → full ≡ false → n ≤ ids_in lent → b ≡ clash pending (ids_from lent 0 (min n (ids_in lent))) → b ≡ false → size ≤ room → 0 ≡ verdict_of full pending lent n size room
  unfolding verdict_of
  zero b e h k f r = rw (e, le-ltb (ids_in lent) n h, lent_all b h k, f, le-ltb room size r)

  -- what a 0 says
  pub record Passed : Type 0 where
    pub free : full ≡ false
    pub lent_enough : n ≤ ids_in lent
    pub fits : size ≤ room

  pub passed : verdict_of full pending lent n size room ≡ 0 → Passed
  unfolding verdict_of
  passed e = by full refl (ltb (ids_in lent) n) refl (clash pending (ids_from lent 0 n)) (ltb room size) refl e
    where
      differ : {A : Type 0} (m : ℕ) → (m ≡ 0 → ⊥) → m ≡ 0 → A
      differ m h e = absurd (h e)

      by : (a : Bool) → full ≡ a → (b : Bool) → ltb (ids_in lent) n ≡ b → (c d : Bool) → ltb room size ≡ d → first ((5, a) ∷ (6, b) ∷ (7, c) ∷ (8, d) ∷ []) ≡ 0 → Passed
      by true ea b eb c d ed e = differ 5 (λ z. omega arith) e
      by false ea true eb c d ed e = differ 6 (λ z. omega arith) e
      by false ea false eb true d ed e = differ 7 (λ z. omega arith) e
      by false ea false eb false true ed e = differ 8 (λ z. omega arith) e
      by false ea false eb false false ed e = record { free = ea; lent_enough = ltb-false (ids_in lent) n eb; fits = ltb-false room size ed }

-- the number of a run in time that takes over no long text and writes no long body: by the table that it met, the ids and the bytes.
-- The bytes need be right only where the ids are lent.
pub number_is : (g : Given) (c : Turn) (s : Run) (b : Bool) (n size : ℕ) → g.time ≤ 9007199254740991 → above 763 s.report.texts ≡ false
    → (ltb 2048 g.data_len || above 65535 s.report.bodies) ≡ false → full s.report.added ≡ b → s.report.used ≡ ids_from g.ids 0 n
    → (n ≤ ids_in g.ids → length (framed s.out) ≡ size) → number g c s ≡ verdict_of b (pending c) g.ids n size g.room
unfolding number verdict_of
number_is g c s b n size t two four five used bytes =
    rw (le-ltb 9007199254740991 g.time t, two, four, five, used, length_ids g.ids 0 n) (by (ltb (ids_in g.ids) n) refl)
  where
    length_ids : (lent : List ℕ) (k n : ℕ) → length (ids_from lent k n) ≡ n
    length_ids lent k Prim.Native.Nat.zero = refl
    length_ids lent k (Prim.Native.Nat.suc n) = ap Prim.Native.Nat.suc (length_ids lent (Prim.Native.Nat.suc k) n)

    by : (l : Bool) → ltb (ids_in g.ids) n ≡ l
        → first ((5, b) ∷ (6, l) ∷ (7, clash (pending c) (ids_from g.ids 0 n)) ∷ (8, ltb g.room (length (framed s.out))) ∷ [])
        ≡ first ((5, b) ∷ (6, l) ∷ (7, clash (pending c) (ids_from g.ids 0 n)) ∷ (8, ltb g.room size) ∷ [])
    by true e = refl
    by false e = rw (bytes (ltb-false (ids_in g.ids) n e))
