-- `turn_packet::packet_size` meets its contract, with a key and without.
use mathlib.Core.Path.{ap, ◌∙◌}
use native.Mathlib.Omega.{arith}
use Rattle.stun_write.specs.Source.{integrity_size}
use Rattle.turn_packet.specs.Source.{own_size, packet_size}
use Rattle.turn_packet.proofs.packet_size.Goals as goal

pub returns-then-c : goal.returns-then-c
unfolding packet_size
returns-then-c c =
    let e = c.own_size.ensures.0 ∙ ap own_size c.from.ensures in
    (omega (arith, e, ap integrity_size c.if-c.true), omega arith)

pub returns-else-c : goal.returns-else-c
unfolding packet_size
returns-else-c c =
    let e = c.own_size.ensures.0 ∙ ap own_size c.from.ensures in
    (omega (arith, e, ap integrity_size c.if-c.false), omega arith)
