-- `turn_retry::retry` meets its contract, answer by answer.
use Rattle.std.specs.Prelude.{Err}
use Rattle.turn_state.specs.Number.{given_of}
use mathlib.Core.Path.{◌≡◌, sym, ◌∙◌}
use native.Mathlib.Omega.{arith}
use borrow.Author.Rules.{rules}
use lib.ListN.{length}
use Rattle.turn_state.specs.State.{begin}
use Rattle.turn_state.specs.View.{view, no_request}
use Rattle.turn_state.proofs.Answering.{late_meets}
use Rattle.turn_state.proofs.Same.{sized}
use Rattle.turn_packet.proofs.Rooms.{rooms}
use Rattle.turn_retry.specs.Retry.{retried}
use Rattle.turn_retry.proofs.Texts.{reads_str, given_read, refused_two, long_given}
use Rattle.turn_retry.proofs.Rows.{found_lt, found_out}
use Rattle.turn_retry.proofs.Trying.{quiet, long_realm, long_nonce, refused, accepted}
use Rattle.turn_retry.proofs.retry.Goals as goal

pub returns-then-now-gt9007199254740991 : goal.returns-then-now-gt9007199254740991
returns-then-now-gt9007199254740991 c =
    let a = c.args in
    let lent = a.ids.now in
    let run = retried a.now a.datagram.now a.id (begin (view a.client) lent) in
    late_meets a.client (given_of a.now lent (length a.out.now)) run a.out.now c.if-now-gt9007199254740991.true

pub returns-in_default : goal.returns-in_default
returns-in_default c =
    let a = c.args in
    rw c.quiet.ensures
    (quiet a.client a.now a.datagram.now a.id a.ids.now a.out.now c.if-now-gt9007199254740991.false (sym c.find_request.ensures ∙ c.in_default.is))

pub offset_bounds-client-i : goal.offset_bounds-client-i
offset_bounds-client-i c =
    omega (arith, found_lt c.args.client c.args.id _ (sized c.args.client _ c.well_formed.0) (sym c.find_request.ensures ∙ c.in-Some.is))

pub bounds-client-i : goal.bounds-client-i
bounds-client-i c =
    omega (arith, found_lt c.args.client c.args.id _ (sized c.args.client _ c.well_formed.0) (sym c.find_request.ensures ∙ c.in-Some.is))

pub returns-in_err-realm : goal.returns-in_err-realm
returns-in_err-realm c =
    let a = c.args in
    let buf = a.datagram.now in
    let f = found_out a.client a.id _ (sized a.client _ c.well_formed.0) (sym c.find_request.ensures ∙ c.in-Some.is) no_request c.remove_request-less.result c.remove_request-less.ensures in
    let e = c.in_err-realm.field-0.0 in
    let no = sym c.or.ensures ∙ c.in_err-realm.was in
    let is : c.from_residual.result ≡ Err e = search rules in
    rw (is, refused_two c.get_str.result e no)
    (long_realm a.client a.now buf a.id a.ids.now a.out.now _ c.remove_request-less.result f c.if-now-gt9007199254740991.false (long_given buf 0x0014 c.get_str.result e c.get_str.ensures no))

pub returns-in_err-nonce : goal.returns-in_err-nonce
returns-in_err-nonce c =
    let a = c.args in
    let buf = a.datagram.now in
    let f = found_out a.client a.id _ (sized a.client _ c.well_formed.0) (sym c.find_request.ensures ∙ c.in-Some.is) no_request c.remove_request-less.result c.remove_request-less.ensures in
    let e = c.in_err-nonce.field-0.0 in
    let no = sym c.or-2.ensures ∙ c.in_err-nonce.was in
    let is : c.from_residual-in_err-nonce.result ≡ Err e = search rules in
    rw (is, refused_two c.get_str-2.result e no)
    (long_nonce a.client a.now buf a.id a.ids.now a.out.now _ c.remove_request-less.result f c.if-now-gt9007199254740991.false (long_given buf 0x0015 c.get_str-2.result e c.get_str-2.ensures no))

pub returns-in_err-verdict : goal.returns-in_err-verdict
returns-in_err-verdict c =
    let e = c.in_err-verdict.field-0.0 in
    let is : c.from_residual-in_err-verdict.result ≡ Err e = search rules in
    let a = c.args in
    let buf = a.datagram.now in
    let f = found_out a.client a.id _ (sized a.client _ c.well_formed.0) (sym c.find_request.ensures ∙ c.in-Some.is) _ c.remove_request-less.result c.remove_request-less.ensures in
    let realm = reads_str buf 0x0014 c.in_ok-realm.realm (sym c.get_str.ensures ∙ given_read c.get_str.result _ (sym c.or.ensures ∙ c.in_ok-realm.was)) in
    let nonce = reads_str buf 0x0015 c.in_ok-nonce.nonce (sym c.get_str-2.ensures ∙ given_read c.get_str-2.result _ (sym c.or-2.ensures ∙ c.in_ok-nonce.was)) in
    let k = c.learn_nonce-credentials in
    rw is
    (refused a.client a.now buf a.id a.ids.now a.out.now _ c.remove_request-less.result f c.if-now-gt9007199254740991.false c.in_ok-realm.realm c.in_ok-nonce.nonce realm nonce
    c.learn_realm-keyed.result k.result c.learn_realm-keyed.ensures k.ensures (rooms k.result _ k.type_inv) c.packet_size-size.result c.packet_size-size.ensures.0
    c.meets_full-full.result c.meets_full-full.ensures e c.in_err-verdict.ensures)

pub returns : goal.returns
returns c =
    let a = c.args in
    let buf = a.datagram.now in
    let f = found_out a.client a.id _ (sized a.client _ c.well_formed.0) (sym c.find_request.ensures ∙ c.in-Some.is) _ c.remove_request-less.result c.remove_request-less.ensures in
    let realm = reads_str buf 0x0014 c.in_ok-realm.realm (sym c.get_str.ensures ∙ given_read c.get_str.result _ (sym c.or.ensures ∙ c.in_ok-realm.was)) in
    let nonce = reads_str buf 0x0015 c.in_ok-nonce.nonce (sym c.get_str-2.ensures ∙ given_read c.get_str-2.result _ (sym c.or-2.ensures ∙ c.in_ok-nonce.was)) in
    let k = c.learn_nonce-credentials in
    rw c.sending.ensures
    (accepted a.client a.now buf a.id a.ids.now a.out.now _ c.remove_request-less.result f c.if-now-gt9007199254740991.false c.in_ok-realm.realm c.in_ok-nonce.nonce realm nonce
    c.learn_realm-keyed.result k.result c.learn_realm-keyed.ensures k.ensures (rooms k.result _ k.type_inv) c.packet_size-size.result c.packet_size-size.ensures.0
    c.meets_full-full.result c.meets_full-full.ensures c.id_of-own.result c.write_packet.result c.write_packet.new.out c.first_next.result c.again-later.result c.insert_request-after.result
    c.in_ok-verdict.ensures c.id_of-own.ensures c.write_packet.ensures.0 c.write_packet.ensures.1 (c.first_next.ensures.of_a_call c.if-now-gt9007199254740991.false) c.again-later.ensures c.insert_request-after.ensures)
