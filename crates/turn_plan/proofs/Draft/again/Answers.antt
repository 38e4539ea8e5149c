-- `turn_plan::Draft::again` meets its contract: the request goes last in its table, and stands last in what is sent.
use mathlib.Core.Path.{◌≡◌}
use Rattle.std.proofs.Common.{rules}
use lib.ListN.{length}
use Rattle.turn_plan.proofs.Drafting.{again_draft}
use Rattle.turn_plan.proofs.Draft.again.Goals as goal

pub returns : goal.returns
returns c =
    let full : length c.args.self.requests.rows ≡ 64 = search rules in
    let full-sends : length c.args.self.sends.rows ≡ 64 = search rules in
    let twelve : length c.args.row.id ≡ 12 = search rules in
    again_draft c.args.self c.args.row c.args.now _ _ _ full full-sends c.requires.0 c.requires.1 twelve c.wait.ensures.0 c.insert_request.ensures c.push_request.ensures
