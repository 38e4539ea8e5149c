-- `turn_handle::handle` meets its contract: refused for its time, data from a peer, nothing, or what an answer comes to.
use mathlib.Core.Path.{sym, ◌∙◌}
use lib.ListN.{length}
use Rattle.turn_state.specs.Number.{given_of}
use Rattle.turn_state.specs.State.{begin}
use Rattle.turn_state.specs.Source
use Rattle.turn_state.specs.View.{view}
use Rattle.turn_state.proofs.Answering.{late_meets}
use Rattle.turn_handle.proofs.Datagrams.{headed, channel_told, unread, indication_told, passed_on}
use Rattle.turn_handle.proofs.handle.Goals as goal

pub returns-then-now-gt9007199254740991 : goal.returns-then-now-gt9007199254740991
returns-then-now-gt9007199254740991 c =
    let a = c.args in
    let run = Source.handle a.now a.datagram.now (begin (view a.client) a.ids.now) in
    late_meets a.client (given_of a.now a.ids.now (length a.out.now)) run a.out.now c.if-now-gt9007199254740991.true

pub returns-in-Some : goal.returns-in-Some
returns-in-Some c =
    let a = c.args in
    let buf = a.datagram.now in
    channel_told a.client a.now buf a.ids.now a.out.now c.if-now-gt9007199254740991.false c.in-Some.«data» c.channel_data-event.result c.count.result (sym c.decode_channel_data.ensures ∙ c.in-Some.is)
    c.channel_data-event.ensures c.count.ensures

pub returns-in-None : goal.returns-in-None
returns-in-None c =
    let a = c.args in
    let buf = a.datagram.now in
    let message = sym c.decode_channel_data.ensures ∙ c.in_default.is in
    rw c.quiet.ensures (unread a.client a.now buf a.ids.now a.out.now c.if-now-gt9007199254740991.false message (sym c.decode.ensures ∙ c.in-None.is))

pub returns-then-header-eq-DATA_INDICATION : goal.returns-then-header-eq-DATA_INDICATION
returns-then-header-eq-DATA_INDICATION c =
    let a = c.args in
    let buf = a.datagram.now in
    let message = sym c.decode_channel_data.ensures ∙ c.in_default.is in
    let header = c.in-Some-decode.header in
    let head = headed buf header (sym c.decode.ensures ∙ c.in-Some-decode.is) in
    indication_told a.client a.now buf a.ids.now a.out.now c.if-now-gt9007199254740991.false message header head c.indicated-event.result c.count-then-header-eq-DATA_INDICATION.result
    c.if-header-eq-DATA_INDICATION.true c.indicated-event.ensures c.count-then-header-eq-DATA_INDICATION.ensures

pub returns-else-header-eq-DATA_INDICATION : goal.returns-else-header-eq-DATA_INDICATION
returns-else-header-eq-DATA_INDICATION c =
    let a = c.args in
    let buf = a.datagram.now in
    let message = sym c.decode_channel_data.ensures ∙ c.in_default.is in
    let header = c.in-Some-decode.header in
    let head = headed buf header (sym c.decode.ensures ∙ c.in-Some-decode.is) in
    passed_on a.client a.now buf a.ids.now a.out.now c.if-now-gt9007199254740991.false message header head _ _ c.if-header-eq-DATA_INDICATION.false c.answer.ensures
