-- `HmacSha1::new` meets its contract: each digest has taken its masked key.
use mathlib.Core.Path.{ap, ap₂, ◌∙◌}
use mathlib.Core.List.{map}
use lib.Bits.{bit_xor}
use Rattle.digest.specs.Running.{fed}
use Rattle.digest.specs.Hmac.{keyed}
use Rattle.sha1_digest.specs.Rfc3174.{sha1}
use Rattle.hmac.proofs.HmacSha1.new.Goals as goal

pub returns : goal.returns
unfolding keyed
returns c =
    let key = c.key_block-block.ensures in
    let inner = c.update.ensures ∙ ap₂ (fed sha1) c.new.ensures (c.masked-ipad.ensures ∙ ap (map (λ x. bit_xor x 0x36)) key) in
    let outer = c.update-2.ensures ∙ ap₂ (fed sha1) c.new-2.ensures (c.masked-opad.ensures ∙ ap (map (λ x. bit_xor x 0x5c)) key) in
    λ i. record { inner = inner i; outer = outer i }
