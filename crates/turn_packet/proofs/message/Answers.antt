-- `turn_packet::message` meets its contract: attributes, credentials and seal, one after the other.
use mathlib.Core.Path.{sym, ap}
use native.Mathlib.Omega.{arith}
use Rattle.turn_packet.specs.Source.{own_size, packet_size}
use Rattle.turn_packet.proofs.Laws.{own_bound}
use Rattle.turn_packet.proofs.Rooms.{rooms}
use Rattle.turn_packet.proofs.Whole.{message_put}
use Rattle.turn_packet.proofs.message.Goals as goal

pub own-b-requires : goal.own-b-requires
unfolding packet_size
own-b-requires c =
    omega (arith, ap own_size c.from-kind.ensures)

pub auth-e-requires : goal.auth-e-requires
unfolding packet_size
auth-e-requires c =
    let e = ap own_size c.from-kind.ensures in
    (omega (arith, own_bound c.from-kind.result, c.own-b.ensures.0), omega (arith, e, c.own-b.ensures.0, c))

pub slice_bounds-seal-end : goal.slice_bounds-seal-end
slice_bounds-seal-end c =
    sym (rooms c.args.c _ c.well_formed.1.0).key

pub returns : goal.returns
returns c =
    message_put c.args.c c.args.a c.args.id c.args.under c.args.out.now c.own-b.new.out c.auth-e.new.out c.seal.new.out
    c.from-kind.result c.type_of.result c.own-b.result c.auth-e.result c.seal.result
    (rooms c.args.c _ c.well_formed.1.0) (omega (arith, c.well_formed)) c.requires c.from-kind.ensures c.type_of.ensures
    c.own-b.ensures c.auth-e.ensures c.seal.ensures
