use Rattle.turn_packet.specs.Source.{packet_size}
use Rattle.turn_frames.specs.Frames.{again}
use Rattle.turn_frames.proofs.Steps.{Running}
use Rattle.turn_frames.proofs.write_sends.Given as goal

abbrev pub invariant-loop-i : goal.invariant-loop-i
invariant-loop-i l = Running (λ k r. again l.c r) (λ r. packet_size l.c r.asked) l.t.rows l.t.len l.n l.size l.initial.out l.at l.i l.place l.out
