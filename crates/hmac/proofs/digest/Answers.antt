-- `hmac::digest` meets its contract: a text in one part, by the law of parts.
use mathlib.Core.Path.{ap, ◌∙◌}
use native.Mathlib.Omega.{arith}
use Rattle.digest.specs.Hmac.{Keyed, keyed_fed, keyed_finished}
use Rattle.digest.proofs.Hmac.{keyed_parts}
use Rattle.sha1_digest.specs.Rfc3174.{sha1}
use Rattle.hmac.proofs.digest.Goals as goal

pub returns : goal.returns
returns c =
    let k = c.args.key.now in
    let m = c.args.text.now in
    c.finish.ensures
    ∙ ap (keyed_finished sha1) (c.update.ensures ∙ ap (λ (h : Keyed). keyed_fed sha1 h m) c.new.ensures)
    ∙ keyed_parts sha1 (omega arith) (λ n. omega arith) k m
