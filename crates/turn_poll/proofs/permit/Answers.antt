-- `turn_poll::permit` meets its contract: refused for its time, for the full table, or what its plan comes to.
use Rattle.std.specs.Prelude.{Err}
use mathlib.Core.Path.{◌≡◌, refl}
use Rattle.std.proofs.Common.{rules}
use lib.ListN.{length}
use Rattle.turn_state.specs.Number.{given_of}
use Rattle.turn_state.specs.State.{begin}
use Rattle.turn_state.specs.View.{view}
use Rattle.turn_state.proofs.Answering.{late_meets, refused_meets}
use Rattle.turn_packet.proofs.Rooms.{rooms}
use Rattle.turn_poll.specs.Concluding.{permitted}
use Rattle.turn_poll.proofs.Permitting.{no_place, success_plan}
use Rattle.turn_poll.proofs.permit.Goals as goal

pub returns-then-now-gt-LATEST : goal.returns-then-now-gt-LATEST
returns-then-now-gt-LATEST c =
    λ buf.
    let a = c.args in
    late_meets a.client (given_of a.now a.ids.now (length a.out.now)) (permitted a.now buf a.id a.ip (begin (view a.client) a.ids.now)) a.out.now c.if-now-gt-LATEST.true

pub returns-in_err-granted : goal.returns-in_err-granted
returns-in_err-granted c =
    λ buf.
    let a = c.args in
    let rows : length a.client.requests.rows ≡ 64 = search rules in
    let house = rooms a.client.credentials _ c.well_formed.0.1.1.1.0 in
    let none = c.in_err-granted.ensures in
    let e : c.from_residual.result ≡ Err c.in_err-granted.field-0.0 = search rules in
    rw (e, none.five)
    (refused_meets a.client (given_of a.now a.ids.now (length a.out.now)) (permitted a.now buf a.id a.ip (begin (view a.client) a.ids.now)) a.out.now 5 refl
    (no_place a.client a.now a.ids.now a.id buf a.ip rows (length a.out.now) house c.if-now-gt-LATEST.false none.met))

pub returns : goal.returns
returns c =
    λ buf.
    let a = c.args in
    let d = c.binding-draft.ensures in
    let w = c.without.ensures in
    let g = c.in_ok-granted.ensures in
    let rows : length a.client.requests.rows ≡ 64 = search rules in
    c.conclude.ensures (permitted a.now buf a.id a.ip (begin (view a.client) a.ids.now))
    (λ n. d.tidy (w.1 n.requests) (g.tidy n.permissions) n.channels)
    (success_plan a.client a.now a.ids.now a.id buf a.ip rows c.binding-draft.result c.without.result c.in_ok-granted.granted d.means w.0 g.granted g.free)
