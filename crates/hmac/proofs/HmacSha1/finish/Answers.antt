-- `HmacSha1::finish` meets its contract: the outer digest over the inner one.
use mathlib.Core.Path.{ap, ◌∙◌}
use Rattle.digest.specs.Running.{fed, finished}
use Rattle.digest.specs.Hmac.{keyed_finished}
use Rattle.sha1_digest.specs.Rfc3174.{sha1}
use Rattle.sha1_digest.specs.View.{view}
use Rattle.hmac.proofs.HmacSha1.finish.Goals as goal

pub returns : goal.returns
unfolding keyed_finished
returns c =
    let outer = c.args.self.outer in
    c.finish.ensures ∙ ap (finished sha1) (c.update.ensures ∙ ap (fed sha1 (view outer)) c.finish-text.ensures)
