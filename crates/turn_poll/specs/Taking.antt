-- The code's table with the requests that were asked for so far, beside the definition's: the same as long as ids are lent, and as many
-- records as there would be without. Where one of them meets a full table, so does the definition's.
use Rattle.std.specs.Prelude.{◌≡◌, true, false, List, ◌∷◌, map, reverse, ℕ, ◌+◌, ◌≤◌, length, Result, Ok, Err}
use Rattle.turn_state.specs.declared.Kind.{Kind}
use Rattle.turn_state.specs.declared.Asked.{Asked}
use Rattle.turn_state.specs.declared.Refusal.{Refusal}
use Rattle.turn_state.specs.declared.Refusal.TheVariants.{Full}
use Rattle.turn_state.specs.declared.Requests.{Requests}
use Rattle.turn_state.specs.State.{Txn, ids_in}
use Rattle.turn_state.specs.View.{kind_in, txns_in, TidyRequests}
use Rattle.turn_plan.specs.Follows.{requested, met_full}
use Rattle.turn_poll.specs.declared.Taken.{Taken}

-- `s` stands for the requests `txns` after those of the kinds `ks`, the last one first, came in, none of which met a full table
pub record Takes (next : ℕ) (lent : List ℕ) (ks : List Kind) (txns : List Txn) (s : Taken) : Type 0 where
  pub free : met_full next lent ks txns ≡ false
  pub short : length ks ≤ ids_in lent → s.extra ≡ 0
  pub held : length (requested next lent ks txns) ≡ length (txns_in s.table) + s.extra
  pub exact : length ks ≤ ids_in lent → txns_in s.table ≡ requested next lent ks txns

-- one more
pub record TookOne (s : Taken) (asked : Asked) (lent : List ℕ) (k next : ℕ) (r : Taken) : Type 0 where
  pub takes : (ks : List Kind) (txns : List Txn) → length ks ≡ k → Takes next lent ks txns s → Takes next lent (kind_in asked ∷ ks) txns r
  pub tidy : TidyRequests s.table → TidyRequests r.table
  pub small : r.table.len ≤ 64
  pub few : r.extra ≤ s.extra + 1

-- it meets a full table
pub record Met (s : Taken) (asked : Asked) (lent : List ℕ) (k next : ℕ) (refusal : Refusal) : Type 0 where
  pub five : refusal ≡ Full
  pub met : (ks : List Kind) (txns : List Txn) → length ks ≡ k → Takes next lent ks txns s → met_full next lent (kind_in asked ∷ ks) txns ≡ true

abbrev pub Took : Taken → Asked → List ℕ → ℕ → ℕ → Result Taken Refusal → Type 0
Took s asked lent k next (Ok r) = TookOne s asked lent k next r
Took s asked lent k next (Err refusal) = Met s asked lent k next refusal

-- all of them, from the table `t`; `kinds` are theirs, the last one first
abbrev pub kinds_of : List Asked → List Kind
kinds_of asks = reverse (map kind_in asks)

pub record TookTable (t : Requests) (kinds : List Kind) (lent : List ℕ) (next : ℕ) (r : Requests) : Type 0 where
  pub free : met_full next lent kinds (txns_in t) ≡ false
  pub exact : length kinds ≤ ids_in lent → txns_in r ≡ requested next lent kinds (txns_in t)
  pub tidy : TidyRequests t → TidyRequests r

pub record MetAll (t : Requests) (kinds : List Kind) (lent : List ℕ) (next : ℕ) (refusal : Refusal) : Type 0 where
  pub five : refusal ≡ Full
  pub met : met_full next lent kinds (txns_in t) ≡ true

abbrev pub TookAll : Requests → List Asked → List ℕ → ℕ → Result Requests Refusal → Type 0
TookAll t asks lent next (Ok r) = TookTable t (kinds_of asks) lent next r
TookAll t asks lent next (Err refusal) = MetAll t (kinds_of asks) lent next refusal
