-- `turn_send::conclude` meets its contract: what the verdict says, and what is written then.
use Rattle.std.specs.Prelude.{Err}
use mathlib.Core.Path.{◌≡◌, ap, ap₂, sym, ◌∙◌}
use Prim.Native.Nat.{ℕ, ◌+◌, ◌≤◌}
use native.Mathlib.Omega.{arith}
use borrow.Author.Rules.{rules}
use lib.ListN.{length}
use Rattle.turn_state.specs.Number.{number_of}
use Rattle.turn_state.proofs.Answering.{refused_meets}
use Rattle.turn_packet.proofs.Rooms.{rooms}
use Rattle.turn_ids.specs.Ids.{lent_id}
use Rattle.turn_ids.proofs.Lent.{lent_twelve}
use Rattle.turn_ids.proofs.Verdicts.{passed}
use Rattle.turn_send.specs.Sending.{given_of}
use Rattle.turn_send.proofs.Ranges.{address_kept}
use Rattle.turn_send.proofs.Deciding.{nonzero, asks_one, tells_one, room_kept, decided, accepted}
use Rattle.turn_send.proofs.conclude.Goals as goal

pub returns-in_err-verdict : goal.returns-in_err-verdict
returns-in_err-verdict c =
    λ run goes f.
    let a = c.args in
    let r = a.route in
    let body = a.«data».now in
    let lent = a.ids.now in
    let out = a.out.now in
    let house = rooms a.client.credentials _ c.well_formed.0.1.1.1.0 in
    let full = c.is_full-full in
    let own = c.from-own.result in
    let used = own + c.from.result in
    let first = c.ask_size-first in
    let rest = c.data_size in
    let size = first.result + rest.result in
    let own-is = asks_one r.ask c.is_some.result own c.is_some.ensures c.from-own.ensures in
    let used-is = ap₂ (λ (x y : ℕ). x + y) own-is (tells_one r.line c.is_none.result c.from.result c.is_none.ensures c.from.ensures) in
    let size-is = ap₂ (λ (x y : ℕ). x + y) first.ensures.0 rest.ensures.0 in
    let e = c.in_err-verdict.field-0.0 in
    let is : c.from_residual.result ≡ Err e = search rules in
    let n = decided a.client r a.now a.peer body lent out run f c.requires.0 c.requires.1 house (number_of e) used size full.result c.in_err-verdict.ensures full.ensures used-is size-is in
    rw is (refused_meets a.client (given_of a.now body lent (length out)) run out (number_of e) (nonzero e) n)

pub write_ask-requires : goal.write_ask-requires
write_ask-requires c =
    let a = c.args in
    let r = a.route in
    let body = a.«data».now in
    let lent = a.ids.now in
    let out = a.out.now in
    let house = rooms a.client.credentials _ c.well_formed.0.1.1.1.0 in
    let full = c.is_full-full in
    let own = c.from-own.result in
    let used = own + c.from.result in
    let first = c.ask_size-first in
    let rest = c.data_size in
    let size = first.result + rest.result in
    let fits : size ≤ length out = (passed full.result _ lent used size (length out) (sym c.in_ok-verdict.ensures)).fits in
    omega (arith, fits, first.ensures.0)

pub write_data-requires : goal.write_data-requires
write_data-requires c =
    let a = c.args in
    let r = a.route in
    let body = a.«data».now in
    let lent = a.ids.now in
    let out = a.out.now in
    let house = rooms a.client.credentials _ c.well_formed.0.1.1.1.0 in
    let full = c.is_full-full in
    let own = c.from-own.result in
    let used = own + c.from.result in
    let first = c.ask_size-first in
    let rest = c.data_size in
    let size = first.result + rest.result in
    let fits : size ≤ length out = (passed full.result _ lent used size (length out) (sym c.in_ok-verdict.ensures)).fits in
    let twelve : length c.id_of-id.result ≡ 12 = ap length c.id_of-id.ensures ∙ lent_twelve lent 0 in
    let kept = room_kept a.client.credentials r.ask c.id_of-id.result out c.write_ask.new.out house twelve (omega (arith, fits, first.ensures.0)) c.write_ask.ensures in
    (c.requires.1, omega (arith, fits, kept, rest.ensures.0))

pub returns : goal.returns
returns c =
    λ run goes f.
    let a = c.args in
    let r = a.route in
    let body = a.«data».now in
    let lent = a.ids.now in
    let out = a.out.now in
    let house = rooms a.client.credentials _ c.well_formed.0.1.1.1.0 in
    let full = c.is_full-full in
    let own = c.from-own.result in
    let used = own + c.from.result in
    let first = c.ask_size-first in
    let rest = c.data_size in
    let size = first.result + rest.result in
    let own-is = asks_one r.ask c.is_some.result own c.is_some.ensures c.from-own.ensures in
    let used-is = ap₂ (λ (x y : ℕ). x + y) own-is (tells_one r.line c.is_none.result c.from.result c.is_none.ensures c.from.ensures) in
    let size-is = ap₂ (λ (x y : ℕ). x + y) first.ensures.0 rest.ensures.0 in
    let is = decided a.client r a.now a.peer body lent out run f c.requires.0 c.requires.1 house 0 used size full.result c.in_ok-verdict.ensures full.ensures used-is size-is in
    let rows : length a.client.requests.rows ≡ 64 = c.well_formed.0.1.1.1.1.0.1.1.0.1.0.1 in
    let perm-rows : length a.client.permissions.rows ≡ 32 = c.well_formed.0.1.1.1.1.1.0.1.1.0.1.0.1 in
    let chan-rows : length a.client.channels.rows ≡ 32 = c.well_formed.0.1.1.1.1.1.1.0.1.1.0.1.0.1 in
    let id = c.id_of-id in
    let other = c.id_of-other in
    rw c.sending.ensures
    (accepted a.client r a.now a.peer body lent out run f c.requires.0 c.requires.1 house goes (address_kept a.peer _ c.well_formed.1.1.1.0) rows perm-rows chan-rows is
    id.result other.result id.ensures (other.ensures ∙ ap (lent_id lent) own-is) c.with_request-after.result c.with_permission-after.result c.with_channel-after.result c.write_ask.new.out c.write_data.new.out
    first.result size own c.first_next-next.result first.ensures.0 size-is own-is (c.first_next-next.ensures.of_a_call c.requires.0) c.write_ask.ensures c.write_data.ensures
    c.with_request-after.ensures c.with_permission-after.ensures c.with_channel-after.ensures)
