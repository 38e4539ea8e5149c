use Rattle.turn_state.specs.View.{nowhere}
use Rattle.turn_tables.specs.Lists.{due_permission}
use Rattle.turn_tables.proofs.Listing.{Listed}
use Rattle.turn_tables.proofs.due_permissions.Given as goal

abbrev pub invariant-loop-i : goal.invariant-loop-i
invariant-loop-i l = Listed (due_permission l.now) (λ r. r.host) 32 nowhere.host l.t.rows l.i l.list.rows l.list.len
