-- `turn_send::channel_of` meets its contract: by the place of the first row of that key.
use mathlib.Core.Path.{◌≡◌, sym}
use native.Mathlib.Omega.{arith}
use lib.ListN.{length}
use Rattle.turn_state.specs.Source.{for_peer}
use Rattle.turn_state.specs.View.{chans_in}
use Rattle.turn_tables.proofs.Laws.{found_chan, get_chan}
use Rattle.turn_tables.proofs.Keys.{nowhere_get}
use Rattle.turn_send.proofs.channel_of.Goals as goal

pub returns-in_err-i : goal.returns-in_err-i
returns-in_err-i c = rw c.from_residual.ensures (sym (nowhere_get (for_peer c.args.peer) (chans_in c.args.t) (sym c.in_err-i.ensures)))

pub offset_bounds-t-i : goal.offset_bounds-t-i
offset_bounds-t-i c =
    let rows : length c.args.t.rows ≡ 32 = c.well_formed.0.1.1.0.1.0.1 in omega (arith, found_chan c.args.t rows (for_peer c.args.peer) _ (sym c.in_ok-i.ensures))

pub bounds-t-i : goal.bounds-t-i
bounds-t-i c =
    let rows : length c.args.t.rows ≡ 32 = c.well_formed.0.1.1.0.1.0.1 in omega (arith, found_chan c.args.t rows (for_peer c.args.peer) _ (sym c.in_ok-i.ensures))

pub returns : goal.returns
returns c =
    let rows : length c.args.t.rows ≡ 32 = c.well_formed.0.1.1.0.1.0.1 in sym (get_chan c.args.t rows (for_peer c.args.peer) c.in_ok-i.i _ (sym c.in_ok-i.ensures))
