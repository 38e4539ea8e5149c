-- `turn_frames::asks_size` meets its contract: the sum over the rows in use.
use Rattle.std.proofs.Common.{rules, tests, of_calls, arith, ◌+◌, take}
use Rattle.std.proofs.lemmas.Iterator.{YieldsList-from_slice, YieldsList-from_map}
use Rattle.std.proofs.lemmas.Iterator.Consumers.{sum_by_from_yields_List, fits_by_from_yields_list}
use Rattle.turn_state.specs.declared.Asked.{Asked}
use Rattle.turn_packet.specs.Source.{packet_size}
use Rattle.turn_packet.proofs.Laws.{packet_bound}
use Rattle.turn_frames.proofs.Steps.{summed, summed_bound}
use Rattle.turn_frames.proofs.asks_size.Goals as goal

pub sum-requires : goal.sum-requires
sum-requires c =
    let rows = c.args.a.rows in
    record {
      can = search of_calls;
      finite = search of_calls;
      fits =
          fits_by_from_yields_list (λ (r : Asked). 3 + packet_size c.args.c r) (take c.min.result rows) c.map.result _
          (YieldsList-from_map _ (λ (r : Asked). 3 + packet_size c.args.c r) (YieldsList-from_slice (take c.min.result rows) cc) c.map.ensures.closure (λ x r q k. (search rules, search (rules, tests))))
          (omega (arith, summed_bound (λ (r : Asked). packet_size c.args.c r) (packet_bound c.args.c) rows c.args.a.len 65 c.min.result c.well_formed.1.0.1.1.0.1.0.1 c.min.ensures));
    }

pub returns : goal.returns
returns c =
    let rows = c.args.a.rows in
    summed (λ (r : Asked). packet_size c.args.c r) (packet_bound c.args.c) rows c.args.a.len 65 c.min.result c.sum.result c.well_formed.1.0.1.1.0.1.0.1 c.min.ensures (omega arith)
    (sum_by_from_yields_List (λ (r : Asked). 3 + packet_size c.args.c r) (take c.min.result rows) c.map.result c.sum.result c.sum.ensures.ran
    (YieldsList-from_map _ (λ (r : Asked). 3 + packet_size c.args.c r) (YieldsList-from_slice (take c.min.result rows) cc) c.map.ensures.closure (λ x r q k. (search rules, search (rules, tests)))))
