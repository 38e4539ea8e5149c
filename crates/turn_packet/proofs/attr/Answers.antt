-- `turn_packet::attr` meets its contract: the writer of attributes finds room.
use Rattle.std.proofs.Common.{arith}
use Rattle.turn_packet.proofs.Places.{fits, same_place}
use Rattle.turn_packet.proofs.attr.Goals as goal

pub unwrap-requires : goal.unwrap-requires
unwrap-requires c =
    let a = c.args in
    let f = fits a.out.now c.push_attr.new.out a.value.now a.at a.typ c.push_attr.result (omega arith) (omega arith) (omega arith) c.push_attr.ensures.0 c.push_attr.ensures.1 in
    rw f.0

pub returns : goal.returns
returns c =
    let a = c.args in
    let f = fits a.out.now c.push_attr.new.out a.value.now a.at a.typ c.push_attr.result (omega arith) (omega arith) (omega arith) c.push_attr.ensures.0 c.push_attr.ensures.1 in
    (same_place c.unwrap.ensures f.0, f.1)
