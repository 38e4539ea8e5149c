-- `turn_tables::find_channel` meets its contract: `position` over the rows in use, read as the records that they mean.
use Rattle.std.proofs.Common.{rules, tests, take}
use Rattle.std.proofs.lemmas.Iterator.{YieldsList-from_slice}
use Rattle.std.proofs.lemmas.Iterator.Search.{position_from_yields_List}
use Rattle.turn_state.specs.declared.Channel.{Channel}
use Rattle.turn_state.specs.Source.{for_peer}
use Rattle.turn_state.specs.View.{chan_in}
use Rattle.turn_tables.proofs.Search.{first_row}
use Rattle.turn_tables.proofs.find_channel.Goals as goal

pub returns : goal.returns
returns c =
    let t = c.args.t in
    first_row chan_in (for_peer c.args.peer) t.rows t.len 32 c.min.result c.position.result c.well_formed.0.1.1.0.1.0.1 c.min.ensures
    (position_from_yields_List (λ (r : Channel). for_peer c.args.peer (chan_in r)) _ _ c.position.result c.position.ensures.ran (YieldsList-from_slice (take c.min.result t.rows) cc)
    (λ x b q k. (search rules, search (rules, tests))))
