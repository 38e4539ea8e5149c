-- `turn_send::send` meets its contract, answer by answer.
use mathlib.Core.Path.{◌≡◌, ap, sym, ◌∙◌}
use Rattle.std.specs.Prelude.{Err, option_map}
use native.Mathlib.Omega.{arith}
use borrow.Author.Tests.{not-true, not-false}
use borrow.Author.Rules.{rules}
use lib.ListN.{length}
use Rattle.turn_state.specs.View.{perm_in, chan_in}
use Rattle.turn_state.proofs.Answering.{late_meets}
use Rattle.turn_packet.proofs.Rooms.{rooms}
use Rattle.turn_send.specs.Sending.{given_of}
use Rattle.turn_send.proofs.Ranges.{address_kept}
use Rattle.turn_send.proofs.Answers.{run_of, no_relay, closing_yet, sends_of, goes_of, narrow, over_channel}
use Rattle.turn_send.proofs.send.Goals as goal
use Rattle.turn_send.proofs.send.Goals.{then-not-client-via-then-not-client, then-not-client-via-else-not-client+then-client}

pub returns-then-now-gt9007199254740991 : goal.returns-then-now-gt9007199254740991
returns-then-now-gt9007199254740991 c =
    let a = c.args in
    let body = a.«data».now in
    let lent = a.ids.now in
    let out = a.out.now in
    late_meets a.client (given_of a.now body lent (length out)) (run_of a.client a.now a.peer body lent) out (omega arith)

pub returns-then-not-client : goal.returns-then-not-client
returns-then-not-client c =
    let a = c.args in
    let body = a.«data».now in
    let lent = a.ids.now in
    let out = a.out.now in
    rw c.quiet.ensures
    (elim c.then-not-client.branch [
      | then-not-client-via-then-not-client w ↦ no_relay a.client a.now a.peer body lent out (omega arith) (omega arith) (not-true _ w.if-not-client.true)
      | then-not-client-via-else-not-client+then-client w ↦ closing_yet a.client a.now a.peer body lent out (omega arith) (omega arith) w.if-client.true
    ])

pub returns-in_err-size : goal.returns-in_err-size
returns-in_err-size c =
    let e = c.in_err-size.field-0.0 in
    let is : c.from_residual.result ≡ Err e = search rules in
    let a = c.args in
    let body = a.«data».now in
    let lent = a.ids.now in
    let out = a.out.now in
    let perm-rows : length a.client.permissions.rows ≡ 32 = c.well_formed.0.1.1.1.1.1.0.1.1.0.1.0.1 in
    let chan-rows : length a.client.channels.rows ≡ 32 = c.well_formed.0.1.1.1.1.1.1.0.1.1.0.1.0.1 in
    let both = c.in-Some-Some in
    let ep = ap (option_map perm_in) (sym both.is-0) ∙ c.permission_of-permission.ensures in
    let eq = ap (option_map chan_in) (sym both.is-1) ∙ c.channel_of-channel.ensures in
    let w = c.write_channel_data in
    rw is
    (narrow a.client a.now a.peer body lent out perm-rows chan-rows (rooms a.client.credentials _ c.well_formed.0.1.1.1.0) (address_kept a.peer _ c.well_formed.1.1.0) (omega arith) (omega arith) (not-false _ c.if-not-client.false) c.if-client.false
    both.field-0-0 both.row ep eq c.if-row.true w.result w.new.out w.ensures.0 w.ensures.1 e (sym c.or.ensures ∙ c.in_err-size.was))

pub returns : goal.returns
returns c =
    let a = c.args in
    let body = a.«data».now in
    let lent = a.ids.now in
    let out = a.out.now in
    let perm-rows : length a.client.permissions.rows ≡ 32 = c.well_formed.0.1.1.1.1.1.0.1.1.0.1.0.1 in
    let chan-rows : length a.client.channels.rows ≡ 32 = c.well_formed.0.1.1.1.1.1.1.0.1.1.0.1.0.1 in
    let both = c.in-Some-Some in
    let ep = ap (option_map perm_in) (sym both.is-0) ∙ c.permission_of-permission.ensures in
    let eq = ap (option_map chan_in) (sym both.is-1) ∙ c.channel_of-channel.ensures in
    let w = c.write_channel_data in
    rw c.sending.ensures
    (over_channel a.client a.now a.peer body lent out perm-rows chan-rows (rooms a.client.credentials _ c.well_formed.0.1.1.1.0) (address_kept a.peer _ c.well_formed.1.1.0) (omega arith) (omega arith) (not-false _ c.if-not-client.false) c.if-client.false
    both.field-0-0 both.row ep eq c.if-row.true w.result w.new.out w.ensures.0 w.ensures.1 c.in_ok-size.size (sym c.or.ensures ∙ c.in_ok-size.was))

pub returns-2 : goal.returns-2
returns-2 c =
    let a = c.args in
    let body = a.«data».now in
    let lent = a.ids.now in
    let out = a.out.now in
    let perm-rows : length a.client.permissions.rows ≡ 32 = c.well_formed.0.1.1.1.1.1.0.1.1.0.1.0.1 in
    let chan-rows : length a.client.channels.rows ≡ 32 = c.well_formed.0.1.1.1.1.1.1.0.1.1.0.1.0.1 in
    let fit = address_kept a.peer _ c.well_formed.1.1.0 in
    let r = c.route_of-route in
    let p = c.permission_of-permission in
    let q = c.channel_of-channel in
    c.conclude.ensures (run_of a.client a.now a.peer body lent) (goes_of a.client a.peer perm-rows chan-rows r.result p.result q.result p.ensures q.ensures r.ensures fit)
    (sends_of a.client a.peer perm-rows chan-rows r.result p.result q.result p.ensures q.ensures r.ensures a.now body lent (not-false _ c.if-not-client.false) c.if-client.false fit)
