-- `turn_handle::channel_data` meets its contract: the channel of that number, or none.
use mathlib.Core.Path.{◌≡◌, sym}
use native.Mathlib.Omega.{arith}
use lib.ListN.{length}
use Rattle.turn_state.specs.Source.{of_number}
use Rattle.turn_state.specs.View.{chans_in, no_channel}
use Rattle.turn_tables.proofs.Keys.{nowhere_get}
use Rattle.turn_tables.proofs.Laws.{found_chan, get_chan}
use Rattle.turn_handle.proofs.channel_data.Goals as goal

pub returns-in_err-i : goal.returns-in_err-i
returns-in_err-i c =
    rw (c.from_residual.ensures, nowhere_get (of_number c.args.«data».number) (chans_in c.args.t) (sym c.in_err-i.ensures))

pub offset_bounds-t-i : goal.offset_bounds-t-i
offset_bounds-t-i c =
    let full : length c.args.t.rows ≡ 32 = c.well_formed.0.1.1.0.1.0.1 in omega (arith, found_chan c.args.t full _ _ (sym c.in_ok-i.ensures))

pub bounds-t-i : goal.bounds-t-i
bounds-t-i c =
    let full : length c.args.t.rows ≡ 32 = c.well_formed.0.1.1.0.1.0.1 in omega (arith, found_chan c.args.t full _ _ (sym c.in_ok-i.ensures))

pub returns : goal.returns
returns c =
    let full : length c.args.t.rows ≡ 32 = c.well_formed.0.1.1.0.1.0.1 in
    rw (get_chan c.args.t full (of_number c.args.«data».number) c.in_ok-i.i no_channel (sym c.in_ok-i.ensures), c.from.ensures)
