-- `turn_tables::find_request` meets its contract: `position` over the rows in use, read as the records that they mean.
use Rattle.std.proofs.Common.{rules, tests, take}
use Rattle.std.proofs.lemmas.Iterator.{YieldsList-from_slice}
use Rattle.std.proofs.lemmas.Iterator.Search.{position_from_yields_List}
use Rattle.turn_state.specs.declared.Request.{Request}
use Rattle.turn_state.specs.Source.{under_id}
use Rattle.turn_state.specs.View.{txn_in}
use Rattle.turn_tables.proofs.Search.{first_row, same_id}
use Rattle.turn_tables.proofs.find_request.Goals as goal

pub returns : goal.returns
returns c =
    let t = c.args.t in
    first_row txn_in (under_id c.args.id) t.rows t.len 64 c.min.result c.position.result c.well_formed.0.1.1.0.1.0.1 c.min.ensures
    (position_from_yields_List (λ (r : Request). under_id c.args.id (txn_in r)) _ _ c.position.result c.position.ensures.ran (YieldsList-from_slice (take c.min.result t.rows) cc)
    (λ x b q k. (search rules, search (rules, tests, same_id))))
