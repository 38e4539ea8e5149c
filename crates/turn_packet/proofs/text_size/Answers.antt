-- `turn_packet::text_size` meets its contract.
use mathlib.Core.Path.{◌≡◌, ap, ◌∙◌}
use native.Mathlib.Omega.{arith}
use lib.ListN.{length}
use Rattle.stun_write.specs.Source.{attr_size}
use Rattle.turn_packet.proofs.Laws.{length_text}
use Rattle.turn_packet.proofs.Rooms.{text_room}
use Prim.Native.Nat.{min}
use Rattle.turn_packet.proofs.text_size.Goals as goal

pub returns : goal.returns
returns c =
    let l : length c.as_slice-n.result.now ≡ min c.args.t.len 763 = ap length c.as_slice-n.ensures ∙ length_text c.args.t (text_room c.args.t _ c.well_formed.0) in
    (ap attr_size l, omega (arith, l))
