-- `turn_packet::write_packet` meets its contract: no room at all, too little of it, and the packet behind its head.
use mathlib.Core.Path.{◌≡◌, refl, sym, ◌∙◌}
use Prim.Native.Nat.{◌+◌, ◌≤◌}
use native.Mathlib.Omega.{arith}
use lib.ListN.{length, length-set}
use Rattle.turn_packet.specs.Source.{packet_size, packet_of}
use Rattle.turn_packet.proofs.Laws.{packet_length}
use Rattle.turn_packet.proofs.Places.{packet_put, same_place}
use Rattle.turn_packet.proofs.Rooms.{rooms}
use Rattle.turn_packet.proofs.Whole.{refused, answered}
use Rattle.turn_packet.proofs.write_packet.Goals as goal

pub returns-then-out-at : goal.returns-then-out-at
returns-then-out-at c =
    (refused (c.args.at + 3 + packet_size c.args.c c.args.a) (length c.args.out.now) (omega arith), refl)

pub returns-then-out-at-2 : goal.returns-then-out-at-2
returns-then-out-at-2 c =
    (refused (c.args.at + 3 + packet_size c.args.c c.args.a) (length c.args.out.now) (omega (arith, c.packet_size-size.ensures.0)), refl)

pub bounds-out-at-2 : goal.bounds-out-at-2
bounds-out-at-2 c = simp length-set (omega arith)

pub bounds-out-at-3 : goal.bounds-out-at-3
bounds-out-at-3 c = simp length-set (omega arith)

pub returns : goal.returns
returns c =
    let a = c.args in
    let size = c.in_ok-size.size in
    let is : size ≡ packet_size a.c a.a = sym (same_place c.in_ok-size.ensures.0 refl) in
    let w : a.at + 3 + size ≤ length a.out.now = omega (arith, c) in
    let g = rooms a.c _ c.well_formed.1.1.0 in
    let l = packet_length a.c g.username g.realm g.nonce a.a a.id a.under (omega (arith, c.well_formed)) (omega (arith, c.well_formed)) in (
      answered a.at size (packet_size a.c a.a) (length a.out.now) is (omega arith),
      packet_put a.out.now c.message.new.out (packet_of a.c a.a a.id a.under) a.at size (packet_size a.c a.a) is w (l ∙ sym is) c.in_ok-size.ensures.1,
    )
