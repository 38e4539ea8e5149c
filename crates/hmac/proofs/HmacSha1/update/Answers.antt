-- `HmacSha1::update` meets its contract: the part goes to the inner digest.
use mathlib.Core.Path.{ap}
use Rattle.digest.specs.Hmac.{keyed_fed}
use Rattle.digest.specs.Running.{Running}
use Rattle.sha1_digest.specs.View.{view}
use Rattle.hmac.proofs.HmacSha1.update.Goals as goal

pub returns : goal.returns
unfolding keyed_fed
returns c =
    ap (λ (r : Running). record { inner = r; outer = view c.args.self.outer }) c.update.ensures
