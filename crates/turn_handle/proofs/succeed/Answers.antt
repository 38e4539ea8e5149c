-- `turn_handle::succeed` meets its contract, kind by kind.
use mathlib.Core.Path.{◌≡◌, sym, ◌∙◌}
use native.Mathlib.Omega.{arith}
use lib.ListN.{length}
use Rattle.turn_state.specs.declared.Kind.TheVariants.{Allocate, Refresh, ChannelBind}
use Rattle.turn_tables.proofs.Laws.{found_txn}
use Rattle.turn_handle.proofs.Arms.{succeeded, permits, bound_there}
use Rattle.turn_handle.proofs.succeed.Goals as goal

pub offset_bounds-before-i : goal.offset_bounds-before-i
offset_bounds-before-i c =
    let a = c.args in
    let full : length a.before.requests.rows ≡ 64 = c.well_formed.0.1.1.1.1.0.1.1.0.1.0.1 in
    omega (arith, found_txn a.before.requests full _ _ c.requires.1)

pub bounds-before-i : goal.bounds-before-i
bounds-before-i c =
    let a = c.args in
    let full : length a.before.requests.rows ≡ 64 = c.well_formed.0.1.1.1.1.0.1.1.0.1.0.1 in
    omega (arith, found_txn a.before.requests full _ _ c.requires.1)

pub returns-in-Allocate : goal.returns-in-Allocate
returns-in-Allocate c =
    let a = c.args in
    let full : length a.before.requests.rows ≡ 64 = c.well_formed.0.1.1.1.1.0.1.1.0.1.0.1 in
    let after = c.without in
    succeeded a.before a.id a.i _ full c.requires.1 a.now a.datagram.now a.ids.now a.out.now Allocate c.allocate.result after.result (sym c.from.ensures ∙ c.in-Allocate.is) c.requires.0 after.ensures c.allocate.ensures

pub returns-in-Refresh : goal.returns-in-Refresh
returns-in-Refresh c =
    let a = c.args in
    let full : length a.before.requests.rows ≡ 64 = c.well_formed.0.1.1.1.1.0.1.1.0.1.0.1 in
    let after = c.without-in-Refresh in
    succeeded a.before a.id a.i _ full c.requires.1 a.now a.datagram.now a.ids.now a.out.now (Refresh _) c.refresh.result after.result (sym c.from.ensures ∙ c.in-Refresh.is) c.requires.0 after.ensures c.refresh.ensures

pub returns-in-Permission : goal.returns-in-Permission
returns-in-Permission c =
    let a = c.args in
    let full : length a.before.requests.rows ≡ 64 = c.well_formed.0.1.1.1.1.0.1.1.0.1.0.1 in
    permits a.before a.id a.i _ full c.requires.1 a.now a.datagram.now a.ids.now a.out.now _ _ _ (sym c.from.ensures ∙ c.in-Permission.is) c.permit.ensures

pub returns-in-ChannelBind : goal.returns-in-ChannelBind
returns-in-ChannelBind c =
    let a = c.args in
    let full : length a.before.requests.rows ≡ 64 = c.well_formed.0.1.1.1.1.0.1.1.0.1.0.1 in
    let after = c.without-in-ChannelBind in
    succeeded a.before a.id a.i _ full c.requires.1 a.now a.datagram.now a.ids.now a.out.now (ChannelBind _ _) c.bind.result after.result (sym c.from.ensures ∙ c.in-ChannelBind.is) c.requires.0 after.ensures
    (bound_there after.result a.now _ _ a.datagram.now c.bind.result c.bind.ensures)
