-- Addresses, texts, codes and lifetimes of a message that is read as RFC 8489 has it (`Reads`): the first attribute of the type that
-- is asked for, by its meaning (`address_reads`, `text_reads`, `error_reads`, `seconds_read`).
use mathlib.Core.Path.{◌≡◌, refl, sym, ap, ap₂, ◌∙◌}
use Prim.Native.Nat.{ℕ, ◌+◌, ◌*◌, ◌/◌, ◌%◌, ◌^◌, ◌<◌}
use native.Mathlib.Omega.{arith}
use mathlib.Core.List.{List, [], ◌++◌}
use lib.ListN.{length, take, drop}
use Rattle.stun_address.specs.declared.Address.{Address}
use Rattle.std.specs.Prelude.{Option, Some, None, Result, Ok, unwrap_or}
use Rattle.std.specs.Option.{option_transpose}
use Rattle.stun_address.specs.Rfc.{value, Held}
use Rattle.stun_address.specs.Source.{decode_xor_addr}
use Rattle.stun_address.proofs.Network.{Bytes}
use Rattle.stun_address.proofs.Values.{value_read}
use Rattle.stun_frame.specs.Source.{field_at}
use Rattle.stun_text.specs.Lossy.{lossy_of}
use Rattle.stun_text.specs.declared.Text.{Text}
use Rattle.stun_text.specs.declared.TooLong.{TooLong}
use Rattle.stun_walk.specs.declared.Value.{Value}
use Rattle.stun_walk.specs.declared.Header.{Header}
use Rattle.stun_walk.specs.Rfc.{Part, value_of}
use Rattle.stun_walk.specs.Source.{get_of, address_in, xor_addr_of, text_in, get_str_of, decoded, error_code_of, lifetime_of}
use Rattle.stun_walk.proofs.Message.{Reads, looked, code_reads, lifetime_reads}
use Rattle.stun.specs.Rfc.{error_value, ErrorCode, lifetime_value}

-- what is said of a value that may not be there
abbrev pub meant_address : List ℕ → Option (List ℕ) → Option Address
meant_address id None = None
meant_address id (Some v) = decode_xor_addr v id

abbrev pub meant_text : Option (List ℕ) → Result (Option Text) TooLong
meant_text None = Ok None
meant_text (Some v) = option_transpose (Some (lossy_of v))

pub address_by : (b : List ℕ) (f : Option Value) → address_in b f ≡ meant_address (take 12 (drop 8 b)) (looked b f)
address_by b None = refl
address_by b (Some v) = refl

pub text_by : (b : List ℕ) (f : Option Value) → text_in b f ≡ meant_text (looked b f)
text_by b None = refl
text_by b (Some v) = refl

module _ (b : List ℕ) (typ : ℕ) (id : List ℕ) (parts : List Part) (r : Reads b typ id parts) where
  id_is : take 12 (drop 8 b) ≡ id
  unfolding decoded
  id_is =
      let h : decoded b ≡ Some (record { typ = typ; id = id }) = r.head in
      let d : decoded b ≡ Some (record { typ = field_at b 0; id = take 12 (drop 8 b) }) = rw r.read in
      ap (λ (x : Option Header). (unwrap_or x (record { typ = 0; id = [] })).id) (sym d ∙ h)

  -- section 14.2, and RFC 8656 section 18: an address of either family, whatever its first byte and whatever follows
  pub address_reads : (t first : ℕ) (addr : Address) (rest : List ℕ) → value_of t parts ≡ Some (value first addr id ++ rest) → length id ≡ 12 → Bytes id
      → Held addr → xor_addr_of b t ≡ Some addr
  unfolding xor_addr_of
  address_reads t first addr rest e n bytes held =
      address_by b (get_of b t) ∙ ap₂ meant_address id_is (r.lookup t ∙ e) ∙ value_read first addr id rest n bytes held

  pub text_reads : (t : ℕ) (v : List ℕ) → value_of t parts ≡ Some v → get_str_of b t ≡ option_transpose (Some (lossy_of v))
  unfolding get_str_of
  text_reads t v e = text_by b (get_of b t) ∙ ap meant_text (r.lookup t ∙ e)

  -- section 14.8: class and number are the code, whatever the reserved bits and the reason
  pub error_reads : (first second five code : ℕ) (reason : List ℕ) → ErrorCode code → value_of 0x0009 parts ≡ Some (error_value first second five code reason)
      → error_code_of b ≡ Some code
  error_reads first second five code reason h e =
      let v : List ℕ = error_value first second five code reason in
      let n : (five * 8 + code / 100) % 8 * 100 + code % 100 ≡ code = omega (arith, h) in
      code_reads b v (r.lookup 0x0009 ∙ e) (omega arith) ∙ ap Some n

  -- RFC 8656 section 18.2
  pub seconds_read : (seconds : ℕ) → seconds < 2 ^ 32 → value_of 0x000D parts ≡ Some (lifetime_value seconds) → lifetime_of b ≡ Some seconds
  seconds_read seconds h e =
      let n : field_at (lifetime_value seconds) 0 * 65536 + field_at (lifetime_value seconds) 2 ≡ seconds = omega arith in
      lifetime_reads b (lifetime_value seconds) (r.lookup 0x000D ∙ e) (omega arith) ∙ ap Some n
