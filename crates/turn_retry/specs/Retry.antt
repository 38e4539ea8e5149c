-- The retry of a request after its first 401 or 438 answer: the request is out of the map, and the definition's `retry` puts it back.
use Rattle.std.specs.Prelude.{List, ℕ}
use Rattle.turn_state.specs.Maps.{get, remove, if_let}
use Rattle.turn_state.specs.State.{Run, set_txns, on_self}
use Rattle.turn_state.specs.Source.{under_id, retry}

-- the run without the request of that id
abbrev pub without : List ℕ → Run → Run
without id s = on_self (set_txns (remove (under_id id) s.self.txns)) s

-- the request of that id is tried again, where there is one
unfoldable pub retried : ℕ → List ℕ → List ℕ → Run → Run
retried now buf id s = if_let (get (under_id id) s.self.txns) (λ t. retry now buf t (without id s)) s
