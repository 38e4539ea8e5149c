use Rattle.turn_packet.specs.Source.{packet_size}
use Rattle.turn_frames.specs.Frames.{anew}
use Rattle.turn_frames.proofs.Steps.{Running}
use Rattle.turn_frames.proofs.write_asks.Given as goal

abbrev pub invariant-loop-i : goal.invariant-loop-i
invariant-loop-i l = Running (anew l.c l.ids) (packet_size l.c) l.a.rows l.a.len l.n l.need l.initial.out l.at l.i l.place l.out
