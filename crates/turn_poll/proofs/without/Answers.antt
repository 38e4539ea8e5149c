-- `turn_poll::without` meets its contract.
use mathlib.Core.Path.{◌≡◌, sym, ◌∙◌}
use Rattle.std.proofs.Common.{rules}
use lib.ListN.{length}
use Rattle.turn_poll.proofs.Permitting.{without_found}
use Rattle.turn_poll.proofs.without.Goals as goal

pub returns-in-Some : goal.returns-in-Some
returns-in-Some c =
    let rows : length c.args.t.rows ≡ 64 = search rules in
    without_found c.args.t c.args.id rows _ _ (sym c.find_request.ensures ∙ c.in-Some.is) c.remove_request.ensures
