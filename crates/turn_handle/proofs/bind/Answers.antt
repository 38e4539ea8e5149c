-- `turn_handle::bind` meets its contract: the peer's channel in its place, or nothing.
use mathlib.Core.Path.{◌≡◌, sym, ◌∙◌}
use native.Mathlib.Omega.{arith}
use lib.ListN.{length}
use Rattle.turn_tables.proofs.Laws.{found_chan}
use Rattle.turn_handle.proofs.Outcomes.{binds, no_channel_bound}
use Rattle.turn_handle.proofs.bind.Goals as goal

pub returns-in_default : goal.returns-in_default
returns-in_default c =
    rw c.quiet.ensures (no_channel_bound c.args.client c.args.peer c.args.number c.args.now (sym c.find_channel.ensures ∙ c.in_default.is))

pub offset_bounds-client-i : goal.offset_bounds-client-i
offset_bounds-client-i c =
    let full : length c.args.client.channels.rows ≡ 32 = c.well_formed.0.1.1.1.1.1.1.0.1.1.0.1.0.1 in
    omega (arith, found_chan c.args.client.channels full _ _ (sym c.find_channel.ensures ∙ c.in-Some.is))

pub bounds-client-i : goal.bounds-client-i
bounds-client-i c =
    let full : length c.args.client.channels.rows ≡ 32 = c.well_formed.0.1.1.1.1.1.1.0.1.1.0.1.0.1 in
    omega (arith, found_chan c.args.client.channels full _ _ (sym c.find_channel.ensures ∙ c.in-Some.is))

pub returns : goal.returns
returns c =
    let full : length c.args.client.channels.rows ≡ 32 = c.well_formed.0.1.1.1.1.1.1.0.1.1.0.1.0.1 in
    let own = c.bound-own in
    rw c.quiet-2.ensures
    (binds c.args.client c.args.peer c.args.number c.args.now _ _ own.result c.put_channel.result full (sym c.find_channel.ensures ∙ c.in-Some.is) own.ensures.0 own.ensures.1 c.put_channel.ensures)
