-- The numbers of an address or a kind mean that address or kind again, for what rows hold. For values of the types the conversions
-- (`From` in src) say it themselves.
use mathlib.Core.Path.{◌≡◌, refl, ap, sym, ◌∙◌}
use mathlib.Core.Bool.{Bool, true, false}
use Prim.Native.Nat.{ℕ, ◌^◌}
use native.Mathlib.Nat.{mod-mod}
use lib.Dec.{eqb}
use Rattle.stun_address.specs.declared.Ip.TheVariants.{V4}
use Rattle.stun_address.specs.declared.Address.{Address}
use Rattle.turn_state.specs.declared.Kind.{Kind}
use Rattle.turn_state.specs.declared.Kind.TheVariants.{Permission, ChannelBind}
use Rattle.turn_state.specs.declared.Asked.{Asked}
use Rattle.turn_state.specs.declared.Host.{Host}
use Rattle.turn_state.specs.declared.Place.{Place}
use Rattle.turn_state.specs.View.{host_of, ip_in, place_of, address_in, asked_of, kind_in}

-- what an address becomes as numbers means that address
back_step : (b : Bool) (h : Host) → eqb h.family 2 ≡ b → ip_in (host_of (ip_in h)) ≡ ip_in h
back_step true h e = rw e
back_step false h e = rw e (ap V4 (mod-mod h.low (2 ^ 32)))

pub ip_back : (h : Host) → ip_in (host_of (ip_in h)) ≡ ip_in h
ip_back h = back_step (eqb h.family 2) h refl

pub address_back : (p : Place) → address_in (place_of (address_in p)) ≡ address_in p
address_back p = rw (ip_back p.host)

-- what a kind becomes as numbers means that kind
back_of : (a : Asked) (x y z : Bool) → eqb a.tag 0 ≡ x → eqb a.tag 1 ≡ y → eqb a.tag 2 ≡ z → kind_in (asked_of (kind_in a)) ≡ kind_in a
back_of a true y z ex ey ez = rw ex
back_of a false true z ex ey ez = rw (ex, ey)
back_of a false false true ex ey ez = rw (ex, ey, ez) (ap Permission (ip_back a.peer.host))
back_of a false false false ex ey ez = rw (ex, ey, ez) (ap (λ (p : Address). ChannelBind p a.number) (address_back a.peer))

pub kind_back : (a : Asked) → kind_in (asked_of (kind_in a)) ≡ kind_in a
kind_back a = back_of a (eqb a.tag 0) (eqb a.tag 1) (eqb a.tag 2) refl refl refl

-- a bind's numbers are its own, whose meaning is that bind
pub own_bind : (k : Kind) (peer : Address) (number : ℕ) (p : Place) → k ≡ ChannelBind peer number → p ≡ place_of peer → address_in p ≡ peer
    → (◌≡◌ {A = Asked} (record { tag = 3; number = number; lifetime = 0; peer = p }) (asked_of k)) × (kind_in (record { tag = 3; number = number; lifetime = 0; peer = p }) ≡ k)
own_bind k peer number p ek e f = (rw (ek, e), ap (λ (x : Address). ChannelBind x number) f ∙ sym ek)
