-- `turn_poll::take_one` meets its contract, answer by answer.
use mathlib.Core.Path.{◌≡◌, ap, sym, ◌∙◌}
use Rattle.std.proofs.Common.{rules}
use native.Mathlib.Omega.{arith}
use lib.ListN.{length}
use Rattle.turn_state.specs.View.{asked_of}
use Rattle.turn_ids.proofs.Lent.{lent_twelve}
use Rattle.turn_poll.proofs.Coming.{none_full, none_more, put_over, put_last, put_nowhere}
use Rattle.turn_poll.proofs.take_one.Goals as goal

pub returns-then-held-ge-REQUEST_ROOM : goal.returns-then-held-ge-REQUEST_ROOM
returns-then-held-ge-REQUEST_ROOM c =
    let a = c.args in
    let rows : length a.s.table.rows ≡ 64 = search rules in
    none_full a.s a.asked a.ids.now a.k a.next c.requires.0 rows (rw (← c.id_count.ensures) c.if-id_count-k.true) c.if-held-ge-REQUEST_ROOM.true

pub returns-then-id_count-k : goal.returns-then-id_count-k
returns-then-id_count-k c =
    let a = c.args in
    let rows : length a.s.table.rows ≡ 64 = search rules in
    none_more a.s a.asked a.ids.now a.k a.next c.requires.0 rows (rw (← c.id_count.ensures) c.if-id_count-k.true) c.if-held-ge-REQUEST_ROOM.false

pub returns-in-Some : goal.returns-in-Some
returns-in-Some c =
    let a = c.args in
    let rows : length a.s.table.rows ≡ 64 = search rules in
    let x = c in
    put_over a.s a.asked _ a.ids.now _ a.k a.next c.requires.0 rows (rw (← c.id_count.ensures) c.if-id_count-k.false) c.id_of-id.ensures
    (c.from-2.ensures.0 ∙ ap asked_of c.from.ensures) (rw c.id_of-id.ensures (lent_twelve a.ids.now a.k))
    _ _ (sym c.find_request.ensures ∙ c.in-Some.is) c.put_request.ensures

pub returns-then-held-ge-REQUEST_ROOM-2 : goal.returns-then-held-ge-REQUEST_ROOM-2
returns-then-held-ge-REQUEST_ROOM-2 c =
    let a = c.args in
    let rows : length a.s.table.rows ≡ 64 = search rules in
    put_nowhere a.s a.asked _ a.ids.now _ a.k a.next c.requires.0 rows (rw (← c.id_count.ensures) c.if-id_count-k.false) c.id_of-id.ensures
    (c.from-2.ensures.0 ∙ ap asked_of c.from.ensures) (rw c.id_of-id.ensures (lent_twelve a.ids.now a.k))
    (sym c.find_request.ensures ∙ c.in-None.is) c.if-held-ge-REQUEST_ROOM-2.true

pub returns-else-held-ge-REQUEST_ROOM-2 : goal.returns-else-held-ge-REQUEST_ROOM-2
returns-else-held-ge-REQUEST_ROOM-2 c =
    let a = c.args in
    let rows : length a.s.table.rows ≡ 64 = search rules in
    put_last a.s a.asked _ a.ids.now _ a.k a.next c.requires.0 rows (rw (← c.id_count.ensures) c.if-id_count-k.false) c.id_of-id.ensures
    (c.from-2.ensures.0 ∙ ap asked_of c.from.ensures) (rw c.id_of-id.ensures (lent_twelve a.ids.now a.k))
    _ (sym c.find_request.ensures ∙ c.in-None.is) (omega (arith, c.if-held-ge-REQUEST_ROOM-2.false)) c.push_request.ensures
