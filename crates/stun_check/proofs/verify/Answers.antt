-- `stun_check::verify` meets its contract: the header and the rest are the two parts of what the definition covers.
use mathlib.Core.Path.{◌≡◌, refl, ap, ◌∙◌}
use Prim.Native.Nat.{ℕ, ◌+◌, ◌-◌, ◌%◌, ◌≤◌}
use native.Mathlib.Omega.{arith}
use lib.ListN.{length, take, drop}
use Rattle.digest.specs.Hmac.{hmac}
use Rattle.sha1_digest.specs.Rfc3174.{sha1}
use Rattle.stun_check.specs.Source.{same, covered}
use Rattle.stun_check.proofs.Parts.{covered_is, signed, too_short, verified_is}
use Rattle.stun_check.proofs.verify.Goals as goal

pub returns-in-None : goal.returns-in-None
returns-in-None c = too_short c.args.buf.now c.args.key.now (omega (arith, c.in-None.ensures))

pub returns-then-buf-p-lt24 : goal.returns-then-buf-p-lt24
returns-then-buf-p-lt24 c = too_short c.args.buf.now c.args.key.now (omega (arith, c.in-Some.ensures))

pub returns-else-buf-p-lt24 : goal.returns-else-buf-p-lt24
returns-else-buf-p-lt24 c =
    let b = c.args.buf.now in
    let key = c.args.key.now in
    let p = c.in-Some.p in
    let place = c.in-Some.ensures in
    let in-range : p + 24 ≤ length b = omega (arith, place) in
    let n : p + 24 - (p + 4) ≡ 20 = omega arith in
    let mac : c.finish-mac.result ≡ hmac sha1 key (covered b p) =
    signed key _ _ _ _ _ _ c.new.ensures c.update.ensures c.update-in-Some.ensures c.finish-mac.ensures
    ∙ ap (hmac sha1 key) (covered_is b p ((p + 4) % 65536) c.to_be_bytes.result place.1 (omega (arith, place)) refl c.to_be_bytes.ensures) in
    c.same.ensures
    ∙ ap (λ (k : ℕ). same c.finish-mac.result (take k (drop (p + 4) b))) n
    ∙ verified_is b key c.finish-mac.result p place.0 in-range mac
