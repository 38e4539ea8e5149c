-- `stun_address::encode_xor_addr` meets its contract, family by family.
use mathlib.Core.Path.{◌∙◌}
use Rattle.stun_address.proofs.Reading.{encoded_v4, encoded_v6}
use Rattle.stun_address.proofs.encode_xor_addr.Goals as goal

pub returns-in-V4 : goal.returns-in-V4
returns-in-V4 c =
    encoded_v4 c.args.addr c.args.id.now _ (c.copy_from_slice.ensures.after ∙ c.to_be_bytes.ensures) _ _ c.in-V4.is
    (c.copy_from_slice-in-V4.ensures.after ∙ c.to_be_bytes-in-V4.ensures)

pub returns-in-V6 : goal.returns-in-V6
returns-in-V6 c =
    encoded_v6 c.args.addr c.args.id.now _ (c.copy_from_slice.ensures.after ∙ c.to_be_bytes.ensures) _ _ _ _ _ _ c.in-V6.is
    (c.copy_from_slice-in-V6.ensures.after ∙ c.to_be_bytes-in-V6.ensures) (c.copy_from_slice-in-V6-2.ensures.after ∙ c.to_be_bytes-in-V6-2.ensures) c.masks-m.ensures
