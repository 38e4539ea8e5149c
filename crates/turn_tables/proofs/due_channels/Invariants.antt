use Rattle.turn_state.specs.View.{nowhere}
use Rattle.turn_tables.specs.Lists.{due_channel}
use Rattle.turn_tables.proofs.Listing.{Listed}
use Rattle.turn_tables.proofs.due_channels.Given as goal

abbrev pub invariant-loop-i : goal.invariant-loop-i
invariant-loop-i l = Listed (due_channel l.now) (λ r. r.peer) 32 nowhere l.t.rows l.i l.list.rows l.list.len
