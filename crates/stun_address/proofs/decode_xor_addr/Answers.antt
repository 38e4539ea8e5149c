-- `stun_address::decode_xor_addr` meets its contract, test by test.
use mathlib.Core.Path.{refl}
use borrow.Author.Rules.{rules}
use native.Mathlib.Omega.{arith}
use Rattle.lists.proofs.Elements.{elements}
use Rattle.stun_address.proofs.Elements.{element_octets, read_2, read_4, read_8}
use Rattle.stun_address.proofs.Reading.{decode_v4, decode_v6}
use Rattle.stun_address.proofs.decode_xor_addr.Goals as goal

pub returns-then-family-eq1 : goal.returns-then-family-eq1
returns-then-family-eq1 c =
    let v = c.args.v.now in
    let port = c.from_be_bytes-port in
    let x = c.from_be_bytes-x in
    decode_v4 v c.args.id.now (omega arith) _ (omega (arith, port.type_inv)) (read_2 (elements v 2 2) _ (element_octets v 2 2 (search rules)) refl port.ensures) _ c.if-family-eq1.true
    (omega (arith, x.type_inv)) (read_4 (elements v 4 4) _ (element_octets v 4 4 (search rules)) refl x.ensures)

pub returns-then-v-ge20 : goal.returns-then-v-ge20
returns-then-v-ge20 c =
    let v = c.args.v.now in
    let port = c.from_be_bytes-port in
    let m = c.masks-m in
    let x = c.from_be_bytes-high in
    let y = c.from_be_bytes-low in
    decode_v6 v c.args.id.now (omega arith) _ (omega (arith, port.type_inv)) (read_2 (elements v 2 2) _ (element_octets v 2 2 (search rules)) refl port.ensures) _ _ _ _ (omega arith) c.if-v-ge20.true
    (omega (arith, x.type_inv)) (omega (arith, y.type_inv)) (omega (arith, m.type_inv)) (omega (arith, m.type_inv)) (read_8 (elements v 4 8) _ (element_octets v 4 8 (search rules)) refl x.ensures)
    (read_8 (elements v 12 8) _ (element_octets v 12 8 (search rules)) refl y.ensures) m.ensures
