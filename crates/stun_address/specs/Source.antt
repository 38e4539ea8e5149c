-- What stun.rs does in `encode_xor_addr` and `decode_xor_addr`, line by line, under its names.
use Rattle.std.specs.Prelude.{cond, ◌&&◌, List, [], ◌∷◌, ◌++◌, ℕ, zero, suc, ◌+◌, ◌-◌, ◌*◌, ◌/◌, ◌%◌, ◌^◌, length, get_or, take, drop, replicate, ltb, leb, eqb, Option, Some, None}
use Rattle.std.specs.Int.Bits.{bit_xor}
use Rattle.stun_address.specs.declared.Ip.{Ip}
use Rattle.stun_address.specs.declared.Ip.TheVariants.{V4, V6}
use Rattle.stun_address.specs.declared.Address.{Address}
use Rattle.stun_address.specs.declared.Encoded.{Encoded}

-- x.to_be_bytes(), of a number of n bytes
abbrev pub to_be : ℕ → ℕ → List ℕ
to_be zero x = []
to_be (suc n) x = to_be n (x / 256) ++ (x % 256 ∷ [])

-- the number that the bytes write after those of x
abbrev pub from_be_after : ℕ → List ℕ → ℕ
from_be_after x [] = x
from_be_after x (b ∷ bs) = from_be_after (x * 256 + b) bs

-- from_be_bytes(bs)
abbrev pub from_be : List ℕ → ℕ
from_be bs = from_be_after 0 bs

abbrev pub MAGIC : ℕ
MAGIC = 0x2112A442

-- port ^ (MAGIC >> 16) as u16
abbrev pub xor_port : ℕ → ℕ
xor_port port = bit_xor port (MAGIC / 2 ^ 16)

-- key[..4] is MAGIC.to_be_bytes(), key[4..] is tid
abbrev pub key : List ℕ → List ℕ
key tid = to_be 4 MAGIC ++ tid

-- a ^ k for each (a, k) of the two zipped
abbrev pub xored : List ℕ → List ℕ → List ℕ
xored [] ks = []
xored (a ∷ r) [] = []
xored (a ∷ r) (k ∷ ks) = bit_xor a k ∷ xored r ks

-- ip.octets(), and the address that 16 octets are
abbrev pub octets : ℕ → ℕ → List ℕ
octets high low = to_be 8 high ++ to_be 8 low

abbrev pub of_octets : List ℕ → Ip
of_octets o = V6 (from_be (take 8 o)) (from_be (drop 8 o))

-- what follows the port
abbrev pub encode_ip : Ip → List ℕ → List ℕ
encode_ip (V4 x) tid = to_be 4 (bit_xor x MAGIC)
encode_ip (V6 high low) tid = xored (octets high low) (key tid)

abbrev pub family : Ip → ℕ
family (V4 x) = 0x01
family (V6 high low) = 0x02

unfoldable pub encode_xor_addr : Address → List ℕ → List ℕ
encode_xor_addr addr tid = (0 ∷ family addr.ip ∷ []) ++ to_be 2 (xor_port addr.port) ++ encode_ip addr.ip tid

-- the same as a struct of the port: the bytes with zeros up to 20, and how many they are
unfoldable pub encoded : Address → List ℕ → Encoded
encoded addr tid =
    record {
      bytes = encode_xor_addr addr tid ++ replicate (20 - length (encode_xor_addr addr tid)) 0;
      len = length (encode_xor_addr addr tid);
    }

-- an address at the port of bytes 2 and 3
abbrev pub at_port : List ℕ → Ip → Option Address
at_port v ip = Some (record { ip = ip; port = xor_port (from_be (get_or v 2 0 ∷ get_or v 3 0 ∷ [])) })

unfoldable pub decode_xor_addr : List ℕ → List ℕ → Option Address
decode_xor_addr v tid =
    cond (ltb (length v) 8) None
    (cond (eqb (get_or v 1 0) 0x01) (at_port v (V4 (bit_xor (from_be (take 4 (drop 4 v))) MAGIC)))
    (cond (eqb (get_or v 1 0) 0x02 && leb 20 (length v)) (at_port v (of_octets (xored (take 16 (drop 4 v)) (key tid)))) None))
