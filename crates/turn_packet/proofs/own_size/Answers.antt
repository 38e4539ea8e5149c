-- `turn_packet::own_size` meets its contract, kind by kind.
use mathlib.Core.Path.{ap}
use native.Mathlib.Omega.{arith}
use Rattle.turn_packet.specs.Source.{own_size}
use Rattle.turn_packet.proofs.own_size.Goals as goal

pub returns-in-ChannelBind : goal.returns-in-ChannelBind
returns-in-ChannelBind c =
    let e = ap own_size c.in-ChannelBind.is in
    (omega (arith, e, c.address_size-in-ChannelBind.ensures.0), omega (arith, c.address_size-in-ChannelBind.ensures.1))
