-- An address that a function is given has numbers of its types: as numbers of a row it means itself again.
use mathlib.Core.Path.{◌≡◌, refl, ap}
use mathlib.Core.List.{List}
use native.Mathlib.Nat.{mod-eq_of_lt}
use mir.Val.{Val}
use denote.Laws.{Is}
use denote.Struct.Declared.{row}
use denote.Enum.Declared.{row as Enum_Row}
use Rattle.stun_address.specs.declared.Ip.{Ip}
use Rattle.stun_address.specs.declared.Ip.TheVariants.{V4, V6}
use Rattle.stun_address.specs.declared.Address.{Address}
use Rattle.stun_address.specs.contracts.Ip.{the_type as the_ip}
use Rattle.stun_address.specs.contracts.Address.{the_type as the_address}
use Rattle.turn_state.specs.View.{host_of, ip_in}

abbrev pub Kept : Ip → Type 0
Kept ip = ip_in (host_of ip) ≡ ip

ip_kept : (ip : Ip) (vs : List Val) → Is (Enum_Row the_ip) ip vs → Kept ip
ip_kept (V4 x) vs g = ap V4 (mod-eq_of_lt g.1.1.1.1.0.1)
ip_kept (V6 h l) vs g = refl

pub address_kept : (a : Address) (vs : List Val) → Is (row the_address) a vs → Kept a.ip
address_kept a vs g = ip_kept a.ip _ g.1.1.0
