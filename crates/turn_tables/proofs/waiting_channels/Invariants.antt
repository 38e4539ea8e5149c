use Rattle.turn_state.specs.View.{nowhere}
use Rattle.turn_tables.specs.Lists.{waiting_channel}
use Rattle.turn_tables.proofs.Listing.{Listed}
use Rattle.turn_tables.proofs.waiting_channels.Given as goal

abbrev pub invariant-loop-i : goal.invariant-loop-i
invariant-loop-i l = Listed (waiting_channel l.ip) (λ r. r.peer) 32 nowhere l.t.rows l.i l.list.rows l.list.len
