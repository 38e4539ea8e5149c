-- `turn_close::close` meets its contract, answer by answer.
use Rattle.std.specs.Prelude.{Err}
use Rattle.std.proofs.Common.{rules}
use mathlib.Core.Path.{◌≡◌, sym}
use lib.ListN.{length}
use borrow.Author.Tests.{not-true, not-false}
use Prim.Native.Nat.{◌+◌}
use Rattle.turn_state.specs.State.{begin}
use Rattle.turn_state.specs.View.{view}
use Rattle.turn_state.specs.Number.{given_of, number_of}
use Rattle.turn_state.proofs.Answering.{refused_meets}
use Rattle.turn_packet.proofs.Rooms.{rooms}
use Rattle.turn_ids.proofs.Verdicts.{passed}
use Rattle.turn_close.proofs.Closing.{run_of, idle, no_relay, closing_yet, refuses, decided, closed}
use Rattle.turn_close.proofs.close.Goals as goal
use Rattle.turn_close.proofs.close.Goals.{then-not-client-via-then-not-client, then-not-client-via-else-not-client+then-client}

pub returns-then-not-client : goal.returns-then-not-client
returns-then-not-client c =
    let a = c.args in
    let lent = a.ids.now in
    let none_left : run_of a.client lent ≡ begin (view a.client) lent =
    elim c.then-not-client.branch [
      | then-not-client-via-then-not-client w ↦ no_relay a.client lent (not-true _ w.if-not-client.true)
      | then-not-client-via-else-not-client+then-client w ↦ closing_yet a.client lent (not-false _ w.if-not-client.false) w.if-client.true
    ] in
    rw c.quiet.ensures (idle a.client lent a.out.now none_left)

pub returns-in_err-verdict : goal.returns-in_err-verdict
returns-in_err-verdict c =
    let a = c.args in
    let lent = a.ids.now in
    let house = rooms a.client.credentials _ c.well_formed.0.1.1.1.0 in
    let refusal = c.in_err-verdict.field-0.0 in
    let e : c.from_residual.result ≡ Err refusal = search rules in
    rw e
    (refused_meets a.client (given_of 0 lent (length a.out.now)) (run_of a.client lent) a.out.now (number_of refusal) (refuses refusal)
    (decided a.client lent a.out.now (not-false _ c.if-not-client.false) c.if-client.false house c.from-asked.result c.from-asked.ensures.0
    c.packet_size-size.result (number_of refusal) c.packet_size-size.ensures.0 c.in_err-verdict.ensures))

pub returns : goal.returns
returns c =
    let a = c.args in
    let lent = a.ids.now in
    let house = rooms a.client.credentials _ c.well_formed.0.1.1.1.0 in
    let q = c.from-asked in
    let p = c.packet_size-size in
    let w = c.write_packet in
    let relayed = not-false _ c.if-not-client.false in
    let number = decided a.client lent a.out.now relayed c.if-client.false house q.result q.ensures.0 p.result 0 p.ensures.0 c.in_ok-verdict.ensures in
    let ok = passed _ _ lent 1 (3 + p.result) (length a.out.now) (sym c.in_ok-verdict.ensures) in
    rw c.sending.ensures
    (closed a.client lent a.out.now relayed c.if-client.false house q.result q.ensures.0 p.result c.id_of-id.result w.result w.new.out _ ok.lent_enough
    number p.ensures.0 ok.fits c.id_of-id.ensures w.ensures.0 w.ensures.1 (search rules))
