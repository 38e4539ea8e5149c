-- `turn_frames::write_asks` meets its contract. Invariant (`Running`): the packets of the first i rows stand behind `at`.
use mathlib.Core.Path.{◌≡◌, refl}
use Prim.Native.Nat.{◌+◌, ◌<◌}
use native.Mathlib.Omega.{arith}
use lib.ListN.{length, take}
use Rattle.turn_packet.specs.Source.{packet_size}
use Rattle.turn_packet.proofs.Rooms.{rooms}
use Rattle.turn_packet.proofs.Places.{never}
use Rattle.turn_packet.proofs.Whole.{refused}
use Rattle.turn_frames.specs.Frames.{anew, asks_size}
use Rattle.turn_frames.proofs.Laws.{length_asks}
use Rattle.turn_frames.proofs.Steps.{running_start, running_written, running_put, running_more, running_length, running_end}
use Rattle.turn_frames.proofs.write_asks.Goals.{then-out-at-via-then-out-at, then-out-at-via-else-out-at+then-out-at-2}
use Rattle.turn_frames.proofs.write_asks.Goals as goal

pub returns-then-out-at : goal.returns-then-out-at
returns-then-out-at c =
    let a = c.args in
    let narrow : length a.out.now < a.at + asks_size a.c (take a.a.len a.a.rows) = elim c.then-out-at.branch [
      | then-out-at-via-then-out-at w ↦ omega arith
      | then-out-at-via-else-out-at+then-out-at-2 w ↦ omega (arith, c.asks_size-need.ensures.0)
    ] in
    (refused (a.at + asks_size a.c (take a.a.len a.a.rows)) (length a.out.now) narrow, refl)

pub loop-i-init : goal.loop-i-init
loop-i-init c =
    let a = c.args in
    let full : length a.a.rows ≡ 65 = c.well_formed.1.1.1.0.1.1.0.1.0.1 in
    let g = rooms a.c _ c.well_formed.1.1.0 in
    running_start (anew a.c a.ids.now) (packet_size a.c) a.a.rows a.a.len 65 c.min-n.result c.asks_size-need.result a.out.now a.at full
    c.min-n.ensures c.asks_size-need.ensures.0 (omega arith)
    (λ k. length_asks a.c g a.ids.now 0 (take k a.a.rows))

pub returns-in_err-place : goal.returns-in_err-place
returns-in_err-place c = absurd (never (running_written c.loop-i.invariant _ (omega (arith, c)) c.write_packet.ensures.0) c.in_err-place.was)

pub loop-i-preserved : goal.loop-i-preserved
loop-i-preserved c =
    let k = c.write_packet in
    running_more c.loop-i.invariant _ (omega (arith, c)) k.new.out c.in_ok-place.place (running_put c.loop-i.invariant _ (omega (arith, c)) _ (rw c.id_of-id.ensures at k.ensures) c.in_ok-place.was)

pub returns : goal.returns
returns c =
    let a = c.args in
    running_end c.loop-i.invariant _ _ (omega arith) (refl) c.asks_size-need.ensures.0

pub shape_of-out : goal.shape_of-out
shape_of-out c = running_length c.loop-i.invariant
