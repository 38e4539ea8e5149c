-- `turn_packet::peer` meets its contract: the encoded address is the attribute's value.
use mathlib.Core.Path.{ap, ◌∙◌}
use native.Mathlib.Omega.{arith}
use lib.ListN.{length}
use Rattle.stun_write.specs.Source.{attr_size}
use Rattle.turn_packet.proofs.Laws.{encoded_value, encoded_fits, length_address, address_bound}
use Rattle.turn_packet.proofs.Places.{put_as}
use borrow.Author.Rules.{rules}
use Rattle.turn_packet.proofs.peer.Goals as goal

pub slice_bounds-attr-end : goal.slice_bounds-attr-end
slice_bounds-attr-end c =
    encoded_fits c.encode_xor_addr-e.result c.args.to c.args.under c.encode_xor_addr-e.ensures

pub attr-requires : goal.attr-requires
attr-requires c =
    let v = ap length (encoded_value c.encode_xor_addr-e.result c.args.to c.args.under c.encode_xor_addr-e.ensures) in
    let l = ap attr_size v ∙ length_address c.args.to c.args.under (omega (arith, c.well_formed)) in
    (search rules, omega (arith, l, address_bound c.args.to.ip), omega (arith, l))

pub returns : goal.returns
returns c =
    let v = encoded_value c.encode_xor_addr-e.result c.args.to c.args.under c.encode_xor_addr-e.ensures in
    put_as c.args.out.now c.attr.new.out c.args.at c.attr.result 0x0012 v (length_address c.args.to c.args.under (omega (arith, c.well_formed))) c.attr.ensures
