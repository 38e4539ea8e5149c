-- `turn_packet::text` meets its contract: the first bytes of the room are the attribute's value.
use mathlib.Core.Path.{◌≡◌, ap, ◌∙◌}
use native.Mathlib.Omega.{arith}
use borrow.Author.Rules.{rules}
use lib.ListN.{length}
use Rattle.stun_write.specs.Source.{attr_size}
use Rattle.turn_packet.proofs.Laws.{length_text}
use Rattle.turn_packet.proofs.Places.{put_as}
use Rattle.turn_packet.proofs.Rooms.{text_room}
use Rattle.turn_packet.proofs.text.Goals as goal

pub attr-requires : goal.attr-requires
attr-requires c =
    let l : length c.args.t.bytes ≡ 763 = text_room c.args.t _ c.well_formed.1.1.1.0 in
    let v = ap length c.as_slice.ensures ∙ length_text c.args.t l in
    (search rules, omega (arith, v), omega (arith, v))

pub returns : goal.returns
returns c =
    let l : length c.args.t.bytes ≡ 763 = text_room c.args.t _ c.well_formed.1.1.1.0 in
    put_as c.args.out.now c.attr.new.out c.args.at c.attr.result c.args.typ c.as_slice.ensures (ap attr_size (length_text c.args.t l)) c.attr.ensures
