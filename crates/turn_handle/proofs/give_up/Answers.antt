-- `turn_handle::give_up` meets its contract, kind by kind.
use mathlib.Core.Path.{◌≡◌, sym, ◌∙◌}
use lib.ListN.{length}
use Rattle.turn_state.specs.declared.Reason.TheVariants.{Code}
use Rattle.turn_handle.proofs.Outcomes.{not_allocated, not_refreshed, not_permitted, none_permitted, not_bound, none_bound}
use Rattle.turn_handle.proofs.give_up.Goals as goal

pub returns-in-Allocate : goal.returns-in-Allocate
returns-in-Allocate c =
    rw (c.telling.ensures, sym c.from.ensures ∙ c.in-Allocate.is) (not_allocated c.args.client (Code c.args.code))

pub returns-in-Refresh : goal.returns-in-Refresh
returns-in-Refresh c =
    rw (c.quiet.ensures, sym c.from.ensures ∙ c.in-Refresh.is) (not_refreshed c.args.client (Code c.args.code) _)

pub returns-in-Some : goal.returns-in-Some
returns-in-Some c =
    let full : length c.args.client.permissions.rows ≡ 32 = c.well_formed.0.1.1.1.1.1.0.1.1.0.1.0.1 in
    rw (c.quiet-in-Some.ensures, sym c.from.ensures ∙ c.in-Permission.is)
    (not_permitted c.args.client (Code c.args.code) _ _ c.remove_permission.result full (sym c.find_permission.ensures ∙ c.in-Some.is) c.remove_permission.ensures)

pub returns-in-None : goal.returns-in-None
returns-in-None c =
    rw (c.quiet-in-None.ensures, sym c.from.ensures ∙ c.in-Permission.is)
    (none_permitted c.args.client (Code c.args.code) _ (sym c.find_permission.ensures ∙ c.in-None.is))

pub returns-in-Some-find_channel : goal.returns-in-Some-find_channel
returns-in-Some-find_channel c =
    let full : length c.args.client.channels.rows ≡ 32 = c.well_formed.0.1.1.1.1.1.1.0.1.1.0.1.0.1 in
    rw (c.quiet-in-Some-find_channel.ensures, sym c.from.ensures ∙ c.in-ChannelBind.is)
    (not_bound c.args.client (Code c.args.code) c.in-ChannelBind.peer _ _ c.remove_channel.result full (sym c.find_channel.ensures ∙ c.in-Some-find_channel.is) c.remove_channel.ensures)

pub returns-in-None-find_channel : goal.returns-in-None-find_channel
returns-in-None-find_channel c =
    rw (c.quiet-in-None-find_channel.ensures, sym c.from.ensures ∙ c.in-ChannelBind.is)
    (none_bound c.args.client (Code c.args.code) _ _ (sym c.find_channel.ensures ∙ c.in-None-find_channel.is))
