-- `stun_address::masks` meets its contract: the key's 16 bytes, eight by eight.
use borrow.Author.Rules.{rules}
use Rattle.stun_address.proofs.Elements.{key_read}
use Rattle.stun_address.proofs.masks.Goals as goal

pub returns : goal.returns
returns c = key_read c.args.id _ _ (search rules) (search rules) c.from_be_bytes.ensures c.from_be_bytes-2.ensures
