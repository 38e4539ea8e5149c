use mathlib.Core.Path.{◌≡◌}
use mathlib.Core.List.{List, map}
use Prim.Native.Nat.{ℕ, ◌-◌, ◌≤◌, min}
use Rattle.turn_state.specs.declared.Requests.{Requests}
use Rattle.turn_state.specs.State.{ids_in}
use Rattle.turn_state.specs.Number.{clash}
use Rattle.turn_state.specs.View.{txns_in}
use Rattle.turn_ids.specs.Ids.{ids_from}
use Rattle.turn_ids.proofs.clashes.Given as goal

-- the ids that are pending
abbrev pub tids : Requests → List (List ℕ)
tids t = map (λ x. x.msg.tid) (txns_in t)

-- the clash of all used ids is that of those from k on
abbrev pub invariant-loop-k : goal.invariant-loop-k
invariant-loop-k l =
    (l.n ≤ ids_in l.ids) × (clash (tids l.t) (ids_from l.ids l.k (l.n - l.k)) ≡ clash (tids l.t) (ids_from l.ids 0 (min l.used (ids_in l.ids))))
