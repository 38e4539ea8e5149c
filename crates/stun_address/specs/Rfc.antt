-- The value of XOR-MAPPED-ADDRESS and its kin: RFC 8489 section 14.2, with the families of section 14.1. An IPv6 address is the
-- number of 128 bits that its two halves make.
use Rattle.std.specs.Prelude.{List, [], ◌∷◌, ◌++◌, ℕ, zero, suc, ◌+◌, ◌*◌, ◌/◌, ◌%◌, ◌^◌, ◌<◌, length}
use Rattle.std.specs.Int.Bits.{bit_xor}
use Rattle.stun_address.specs.declared.Ip.{Ip}
use Rattle.stun_address.specs.declared.Ip.TheVariants.{V4, V6}
use Rattle.stun_address.specs.declared.Address.{Address}

-- the n bytes of a number, in network byte order
abbrev pub network : ℕ → ℕ → List ℕ
network zero x = []
network (suc n) x = x / 256 ^ n % 256 ∷ network n x

-- the number that bytes in network byte order are
abbrev pub number : List ℕ → ℕ
number [] = 0
number (b ∷ bs) = b * 256 ^ length bs + number bs

abbrev pub cookie : ℕ
cookie = 0x2112A442

-- the port XOR the 16 high bits of the magic cookie
abbrev pub x_port : ℕ → ℕ
x_port port = bit_xor port (cookie / 2 ^ 16)

abbrev pub family : Ip → ℕ
family (V4 x) = 0x01
family (V6 high low) = 0x02

-- an IPv4 address XOR the magic cookie; an IPv6 address XOR the concatenation of the magic cookie and the 96 bits of the
-- transaction id
abbrev pub x_address : Ip → List ℕ → List ℕ
x_address (V4 x) id = network 4 (bit_xor x cookie)
x_address (V6 high low) id = network 16 (bit_xor (high * 2 ^ 64 + low) (cookie * 2 ^ 96 + number id))

-- the first byte is sent as 0, and ignored by whoever reads it
abbrev pub value : ℕ → Address → List ℕ → List ℕ
value first addr id = (first ∷ family addr.ip ∷ []) ++ network 2 (x_port addr.port) ++ x_address addr.ip id

-- how many bytes the value has
abbrev pub size : Ip → ℕ
size (V4 x) = 8
size (V6 high low) = 20

-- an address of 32 or 128 bits, and a port of 16
abbrev pub HeldIp : Ip → Type 0
HeldIp (V4 x) = x < 2 ^ 32
HeldIp (V6 high low) = (high < 2 ^ 64) × (low < 2 ^ 64)

pub record Held (addr : Address) : Type 0 where
  pub ip_fits : HeldIp addr.ip
  pub port_fits : addr.port < 2 ^ 16
