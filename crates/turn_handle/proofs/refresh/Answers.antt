-- `turn_handle::refresh` meets its contract: of no seconds, and of some.
use mathlib.Core.Path.{ap, ◌∙◌}
use native.Mathlib.Omega.{arith}
use Rattle.turn_state.specs.Source.{granted_or, refresh_time}
use Rattle.turn_handle.proofs.Outcomes.{granted_is, given_back, refreshes}
use Rattle.turn_handle.proofs.refresh.Goals as goal

pub returns-then-seconds-eq0 : goal.returns-then-seconds-eq0
returns-then-seconds-eq0 c =
    rw c.quiet.ensures (given_back c.args.client c.args.now c.args.datagram.now c.args.seconds c.if-seconds-eq0.true)

pub returns : goal.returns
returns c =
    let a = c.args in
    rw c.quiet-2.ensures
    (refreshes a.client a.now a.datagram.now a.seconds c.refresh_at.result (omega arith)
    (c.refresh_at.ensures ∙ ap (refresh_time a.now) (c.unwrap_or-granted.ensures ∙ granted_is a.seconds c.lifetime.result ∙ ap (granted_or a.seconds) c.lifetime.ensures)))
