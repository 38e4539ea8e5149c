use Rattle.turn_state.specs.View.{no_id}
use Rattle.turn_tables.specs.Lists.{id_of, due_request}
use Rattle.turn_tables.proofs.Listing.{Listed}
use Rattle.turn_tables.proofs.due_requests.Given as goal

abbrev pub invariant-loop-i : goal.invariant-loop-i
invariant-loop-i l = Listed (due_request l.now) (λ r. id_of r.id) 64 (id_of no_id) l.t.rows l.i l.list.rows l.list.len
