-- `turn_deadline::earliest_channel` meets its contract: `min` over the rows in use that wait for something.
use Rattle.std.proofs.Common.{rules, tests, take}
use Rattle.std.specs.Bool.{then_some}
use Rattle.std.proofs.lemmas.Iterator.{YieldsList-from_slice}
use Rattle.std.proofs.lemmas.Iterator.Consumers.{YieldsList-from_filter_map, min_from_yields_List}
use Rattle.turn_state.specs.declared.Channel.{Channel}
use Rattle.turn_state.specs.View.{chan_in}
use Rattle.turn_deadline.specs.Times.{of_channel}
use Rattle.turn_deadline.proofs.Scan.{least_row, then_cond}
use Rattle.turn_deadline.proofs.earliest_channel.Goals as goal

pub returns : goal.returns
returns c =
    let t = c.args.t in
    least_row of_channel chan_in _ (λ (r : Channel). then_cond r.bound r.at) t.rows t.len 32 c.min.result _ c.well_formed.0.1.1.0.1.0.1 c.min.ensures
    (min_from_yields_List c.filter_map.result _ c.min-2.ensures.ran
    (YieldsList-from_filter_map _ (λ (r : Channel). then_some r.bound r.at) (YieldsList-from_slice (take c.min.result t.rows) cc) c.filter_map.ensures.closure (λ x r q k. (search rules, search (rules, tests)))))
