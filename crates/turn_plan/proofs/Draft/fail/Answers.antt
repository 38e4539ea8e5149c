-- `turn_plan::Draft::fail` meets its contract: a permission or a channel is taken out, or was not there.
use mathlib.Core.Path.{◌≡◌, sym, ◌∙◌}
use Rattle.std.proofs.Common.{rules}
use lib.ListN.{length}
use Rattle.turn_plan.proofs.Drafting.{fail_permission, fail_no_permission, fail_channel, fail_no_channel}
use Rattle.turn_plan.proofs.Draft.fail.Goals as goal

pub returns-in-Some : goal.returns-in-Some
returns-in-Some c =
    let full : length c.args.self.permissions.rows ≡ 32 = search rules in
    rw c.in-Permission.is (fail_permission c.args.self _ _ _ full (sym c.find_permission.ensures ∙ c.in-Some.is) c.remove_permission.ensures)

pub returns-in-None : goal.returns-in-None
returns-in-None c =
    rw c.in-Permission.is (fail_no_permission c.args.self _ (sym c.find_permission.ensures ∙ c.in-None.is))

pub returns-in-Some-find_channel : goal.returns-in-Some-find_channel
returns-in-Some-find_channel c =
    let full : length c.args.self.channels.rows ≡ 32 = search rules in
    rw c.in-ChannelBind.is (fail_channel c.args.self _ 0 _ _ full (sym c.find_channel.ensures ∙ c.in-Some-find_channel.is) c.remove_channel.ensures)

pub returns-in-None-find_channel : goal.returns-in-None-find_channel
returns-in-None-find_channel c =
    rw c.in-ChannelBind.is (fail_no_channel c.args.self _ 0 (sym c.find_channel.ensures ∙ c.in-None-find_channel.is))
