-- `turn_data::indication` meets its contract: peer, data and header, one after the other; each finds room.
use Rattle.std.proofs.Common.{◌≡◌, ℕ, List, Ok, ◌+◌, ◌≤◌, ap, ◌∙◌, length, arith, refl}
use lib.ListN.{take, drop}
use mathlib.Core.List.{◌++◌}
use Rattle.stun_frame.specs.Source.{Written, room_after}
use Rattle.stun_address.specs.declared.Address.{Address}
use Rattle.stun_address.specs.Source.{encode_xor_addr}
use Rattle.stun_write.specs.Source.{attr_size, push_attr, fitted_attr}
use Rattle.turn_packet.specs.Source.{address_size}
use Rattle.turn_packet.proofs.Bounds.{address_short}
use Rattle.turn_packet.proofs.Laws.{encoded_value, encoded_fits, length_address, address_bound}
use Rattle.turn_packet.proofs.Places.{fits, put_as, length-after, same_place, never}
use Rattle.turn_data.specs.Data.{indication_size}
use Rattle.turn_data.proofs.Laws.{length-peer}
use Rattle.turn_data.proofs.Seals.{indication_put}
use Rattle.turn_data.proofs.indication.Goals as goal

-- the peer finds room, and the data behind it
peer_put : (out after v : List ℕ) (r : Written) (peer : Address) (id : List ℕ) (n : ℕ) → length id ≡ 12 → v ≡ encode_xor_addr peer id → indication_size peer n ≤ length out
    → (r ≡ fitted_attr v (20 + attr_size (length v)) (length out)) × (after ≡ room_after r (take 20 out ++ push_attr 0x0012 v) out)
    → (r ≡ Ok (20 + address_size peer.ip)) × (after ≡ take 20 out ++ push_attr 0x0012 (encode_xor_addr peer id) ++ drop (20 + address_size peer.ip) out)
peer_put out after v r peer id n i e w p =
    let l : attr_size (length v) ≡ address_size peer.ip = ap (λ (x : List ℕ). attr_size (length x)) e ∙ length_address peer id i in
    let f = fits out after v 20 0x0012 r (omega (arith, ap length e, address_short peer id)) (omega (arith, l, address_bound peer.ip)) (omega (arith, l)) p.0 p.1 in
    let q = put_as out after 20 (20 + attr_size (length v)) 0x0012 e (length_address peer id i) (refl, f.1) in
    (f.0 ∙ ap (λ (k : ℕ). Ok (20 + k)) l, q.1)

data_put : (out o after body : List ℕ) (r : Written) (peer : Address) (id : List ℕ) (a : ℕ) → length id ≡ 12 → length body ≤ 2048 → indication_size peer (length body) ≤ length out
    → a ≡ 20 + address_size peer.ip → o ≡ take 20 out ++ push_attr 0x0012 (encode_xor_addr peer id) ++ drop (20 + address_size peer.ip) out
    → (r ≡ fitted_attr body (a + attr_size (length body)) (length o)) × (after ≡ room_after r (take a o ++ push_attr 0x0013 body) o)
    → (r ≡ Ok (a + attr_size (length body))) × (after ≡ take a o ++ push_attr 0x0013 body ++ drop (a + attr_size (length body)) o)
data_put out o after body r peer id a i h w e is p =
    let l : length o ≡ length out = length-after out (push_attr 0x0012 (encode_xor_addr peer id)) 20 (address_size peer.ip) (length-peer peer id i) (omega arith) o (omega arith) is in
    fits o after body a 0x0013 r (omega arith) (omega (arith, address_bound peer.ip)) (omega arith) p.0 p.1

pub slice_bounds-value-end : goal.slice_bounds-value-end
slice_bounds-value-end c = encoded_fits c.encode_xor_addr-e.result c.args.peer c.args.id c.encode_xor_addr-e.ensures

pub returns-in_err-a : goal.returns-in_err-a
returns-in_err-a c =
    let a = c.args in
    let v = encoded_value c.encode_xor_addr-e.result a.peer a.id c.encode_xor_addr-e.ensures in
    let p = peer_put a.out.now c.push_attr.new.out _ c.push_attr.result a.peer a.id (length a.«data».now) (omega (arith, c.well_formed)) v c.requires.1 c.push_attr.ensures in
    absurd (never p.0 c.in_err-a.was)

pub returns-in_err-b : goal.returns-in_err-b
returns-in_err-b c =
    let a = c.args in
    let v = encoded_value c.encode_xor_addr-e.result a.peer a.id c.encode_xor_addr-e.ensures in
    let i : length a.id ≡ 12 = omega (arith, c.well_formed) in
    let p = peer_put a.out.now c.push_attr.new.out _ c.push_attr.result a.peer a.id (length a.«data».now) i v c.requires.1 c.push_attr.ensures in
    let q = data_put a.out.now c.push_attr.new.out c.push_attr-2.new.out a.«data».now c.push_attr-2.result a.peer a.id c.in_ok-a.a i c.requires.0 c.requires.1 (same_place c.in_ok-a.was p.0) p.1 c.push_attr-2.ensures in
    absurd (never q.0 c.in_err-b.was)

pub returns : goal.returns
returns c =
    let a = c.args in
    let v = encoded_value c.encode_xor_addr-e.result a.peer a.id c.encode_xor_addr-e.ensures in
    let i : length a.id ≡ 12 = omega (arith, c.well_formed) in
    let p = peer_put a.out.now c.push_attr.new.out _ c.push_attr.result a.peer a.id (length a.«data».now) i v c.requires.1 c.push_attr.ensures in
    let e = same_place c.in_ok-a.was p.0 in
    let q = data_put a.out.now c.push_attr.new.out c.push_attr-2.new.out a.«data».now c.push_attr-2.result a.peer a.id c.in_ok-a.a i c.requires.0 c.requires.1 e p.1 c.push_attr-2.ensures in
    indication_put a.peer a.id a.«data».now a.out.now c.push_attr.new.out c.push_attr-2.new.out c.seal.new.out c.in_ok-a.a c.in_ok-b.b c.seal.result i c.requires.0 c.requires.1
    (e, p.1) (same_place c.in_ok-b.was q.0, q.1) c.seal.ensures
