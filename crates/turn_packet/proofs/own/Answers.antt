-- `turn_packet::own` meets its contract, kind by kind: one attribute, or two one behind the other.
use mathlib.Core.Path.{refl, sym, ap, ◌∙◌}
use Rattle.stun_address.proofs.Network.{library_bytes}
use mathlib.Core.List.{[], ◌∷◌}
use Prim.Native.Nat.{◌/◌, ◌%◌}
use native.Mathlib.Omega.{arith}
use Rattle.stun_write.proofs.Lengths.{length-push_attr}
use Rattle.stun_write.specs.Source.{push_attr, attributes}
use Rattle.turn_state.specs.declared.Kind.{Kind}
use Rattle.turn_state.specs.Source.{SOFTWARE}
use Rattle.stun_address.specs.Source.{to_be, encode_xor_addr}
use Rattle.turn_state.specs.View.{attrs_of}
use Rattle.turn_packet.specs.Source.{own_size, address_size}
use Rattle.turn_packet.proofs.Places.{put_as, put_eq, one, two}
use Rattle.turn_packet.proofs.own.Goals as goal

pub attr-b-requires : goal.attr-b-requires
attr-b-requires c =
    (omega arith, omega arith, omega (arith, ap own_size c.in-Allocate.is))

pub attr-requires : goal.attr-requires
attr-requires c =
    (omega arith, omega arith, omega (arith, ap own_size c.in-Allocate.is))

pub attr-requires-in-Refresh : goal.attr-requires-in-Refresh
attr-requires-in-Refresh c =
    (omega arith, omega arith, omega (arith, ap own_size c.in-Refresh.is))

pub peer-requires : goal.peer-requires
peer-requires c =
    (omega arith, omega (arith, ap own_size c.in-Permission.is))

pub attr-b-requires-in-ChannelBind : goal.attr-b-requires-in-ChannelBind
attr-b-requires-in-ChannelBind c =
    (omega arith, omega arith, omega (arith, ap own_size c.in-ChannelBind.is))

pub peer-requires-in-ChannelBind : goal.peer-requires-in-ChannelBind
peer-requires-in-ChannelBind c =
    (omega arith, omega (arith, ap own_size c.in-ChannelBind.is))

pub returns-in-Allocate : goal.returns-in-Allocate
returns-in-Allocate c =
    let e = sym c.in-Allocate.is in
    put_eq c.args.out.now c.attr.new.out 20 c.attr.result (ap (λ (x : Kind). attributes (attrs_of x c.args.under)) e) (ap own_size e)
    (two c.args.out.now c.attr-b.new.out c.attr.new.out (push_attr 0x0019 (17 ∷ 0 ∷ 0 ∷ 0 ∷ [])) (push_attr 0x8022 SOFTWARE) 20 8 24 c.attr-b.result c.attr.result
    (length-push_attr 0x0019 (17 ∷ 0 ∷ 0 ∷ 0 ∷ [])) (omega arith) c.attr-b.ensures c.attr.ensures)

pub returns-in-Refresh : goal.returns-in-Refresh
returns-in-Refresh c =
    let e = sym c.in-Refresh.is in
    let lifetime = c.in-Refresh.lifetime in
    put_eq c.args.out.now c.attr-in-Refresh.new.out 20 c.attr-in-Refresh.result (ap (λ (x : Kind). attributes (attrs_of x c.args.under)) e) (ap own_size e)
    (one c.args.out.now c.attr-in-Refresh.new.out (push_attr 0x000D (to_be 4 lifetime)) 20 8 c.attr-in-Refresh.result
    (put_as c.args.out.now c.attr-in-Refresh.new.out 20 c.attr-in-Refresh.result 0x000D (c.to_be_bytes.ensures ∙ library_bytes 4 lifetime) refl c.attr-in-Refresh.ensures))

pub returns-in-Permission : goal.returns-in-Permission
returns-in-Permission c =
    let e = sym c.in-Permission.is in
    let ip = c.in-Permission.ip in
    put_eq c.args.out.now c.peer.new.out 20 c.peer.result (ap (λ (x : Kind). attributes (attrs_of x c.args.under)) e) (ap own_size e)
    (one c.args.out.now c.peer.new.out (push_attr 0x0012 (encode_xor_addr (record { ip = ip; port = 0 }) c.args.under)) 20 (address_size ip) c.peer.result c.peer.ensures)

pub returns-in-ChannelBind : goal.returns-in-ChannelBind
returns-in-ChannelBind c =
    let e = sym c.in-ChannelBind.is in
    let to = c.in-ChannelBind.to in
    let number = c.in-ChannelBind.number in
    let value = number / 256 ∷ number % 256 ∷ 0 ∷ 0 ∷ [] in
    put_eq c.args.out.now c.peer-in-ChannelBind.new.out 20 c.peer-in-ChannelBind.result (ap (λ (x : Kind). attributes (attrs_of x c.args.under)) e) (ap own_size e)
    (two c.args.out.now c.attr-b-in-ChannelBind.new.out c.peer-in-ChannelBind.new.out (push_attr 0x000C value) (push_attr 0x0012 (encode_xor_addr to c.args.under)) 20 8 (address_size to.ip)
    c.attr-b-in-ChannelBind.result c.peer-in-ChannelBind.result (length-push_attr 0x000C value) (omega arith) c.attr-b-in-ChannelBind.ensures c.peer-in-ChannelBind.ensures)
