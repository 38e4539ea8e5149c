-- `turn_deadline::earliest_request` meets its contract: `min` over the rows in use.
use Rattle.std.proofs.Common.{rules, tests, take, refl, ap, Some, ℕ, List, min, ◌∙◌}
use Rattle.std.specs.List.{reduce}
use Rattle.std.proofs.lemmas.Iterator.{YieldsList-from_slice, YieldsList-from_map}
use Rattle.std.proofs.lemmas.Iterator.Consumers.{min_from_yields_List}
use Rattle.turn_state.specs.declared.Request.{Request}
use Rattle.turn_state.specs.View.{txn_in}
use Rattle.turn_deadline.specs.Times.{of_request}
use Rattle.turn_deadline.proofs.Scan.{least_row, map_some}
use Rattle.turn_deadline.proofs.earliest_request.Goals as goal

pub returns : goal.returns
returns c =
    let t = c.args.t in
    least_row of_request txn_in (λ (r : Request). Some r.next) (λ (r : Request). refl) t.rows t.len 64 c.min.result _ c.well_formed.0.1.1.0.1.0.1 c.min.ensures
    (min_from_yields_List c.map.result _ c.min-2.ensures.ran
    (YieldsList-from_map _ (λ (r : Request). r.next) (YieldsList-from_slice (take c.min.result t.rows) cc) c.map.ensures.closure (λ x r q k. (search rules, search (rules, tests))))
    ∙ ap (λ (l : List ℕ). reduce min l) (map_some (λ (r : Request). r.next) (take c.min.result t.rows)))
