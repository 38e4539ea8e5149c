-- `turn_poll::grant` meets its contract: over the permission that is there, last, or refused.
use mathlib.Core.Path.{◌≡◌, sym, ◌∙◌}
use Rattle.std.proofs.Common.{rules}
use lib.ListN.{length}
use Rattle.turn_poll.proofs.Permitting.{grant_found, grant_new}
use Rattle.turn_poll.proofs.grant.Goals as goal

pub returns-in-Some : goal.returns-in-Some
returns-in-Some c =
    let rows : length c.args.t.rows ≡ 32 = search rules in
    grant_found c.args.t c.args.ip c.args.now _ rows c.from.ensures.0 c.from.ensures.1 _ _ (sym c.find_permission.ensures ∙ c.in-Some.is) c.put_permission.ensures

pub returns-else-t-ge-PERMISSION_ROOM : goal.returns-else-t-ge-PERMISSION_ROOM
returns-else-t-ge-PERMISSION_ROOM c =
    let rows : length c.args.t.rows ≡ 32 = search rules in
    grant_new c.args.t c.args.ip c.args.now _ rows c.from.ensures.0 c.from.ensures.1 _ (sym c.find_permission.ensures ∙ c.in-None.is) c.if-t-ge-PERMISSION_ROOM.false c.push_permission.ensures
