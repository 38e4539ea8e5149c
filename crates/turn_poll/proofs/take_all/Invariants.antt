use Prim.Native.Nat.{◌≤◌}
use lib.ListN.{take}
use Rattle.turn_state.specs.View.{txns_in, TidyRequests}
use Rattle.turn_poll.specs.Taking.{Takes, kinds_of}
use Rattle.turn_poll.proofs.take_all.Given as goal

abbrev pub invariant-loop-k : goal.invariant-loop-k
invariant-loop-k l =
    Takes l.next l.ids (kinds_of (take l.k l.asks)) (txns_in l.fn.table) l.taken
    × (TidyRequests l.fn.table → TidyRequests l.taken.table)
    × (l.taken.table.len ≤ 64)
    × (l.taken.extra ≤ l.k)
