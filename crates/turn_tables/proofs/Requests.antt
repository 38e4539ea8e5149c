-- The search for a request's row, at the row that has the key.
use Rattle.std.proofs.Common.{◌≡◌, ℕ, ◌<◌, Some, List, true, length, get_or, min}
use Rattle.turn_state.specs.declared.Request.{Request}
use Rattle.turn_state.specs.declared.Requests.{Requests}
use Rattle.turn_state.specs.Source.{under_id}
use Rattle.turn_state.specs.View.{txn_in, txns_in}
use Rattle.turn_tables.specs.Rows.{position}
use Rattle.turn_tables.proofs.Search.{Unseen, seen}

pub at_request : (id : List ℕ) (t : Requests) (i : ℕ) (d : Request) → length t.rows ≡ 64 → i < min t.len 64
    → Unseen txn_in (under_id id) t.rows i → under_id id (txn_in (get_or t.rows i d)) ≡ true → position (under_id id) (txns_in t) ≡ Some i
at_request id t i d full h none is-it = seen txn_in (under_id id) t.rows t.len 64 full i d h none is-it
