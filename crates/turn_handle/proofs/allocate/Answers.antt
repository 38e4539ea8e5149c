-- `turn_handle::allocate` meets its contract: with a relay, and without one.
use mathlib.Core.Path.{ap, sym, ◌∙◌}
use Rattle.turn_state.specs.Source.{granted_or, refresh_time}
use Rattle.turn_handle.proofs.Outcomes.{granted_is, allocates, no_relay}
use Rattle.turn_handle.proofs.allocate.Goals as goal

pub returns-in_default : goal.returns-in_default
returns-in_default c =
    rw c.telling.ensures (no_relay c.args.client c.args.now c.args.datagram.now (sym c.xor_addr.ensures ∙ c.in_default.is))

pub returns : goal.returns
returns c =
    let a = c.args in
    rw c.telling-2.ensures
    (allocates a.client a.now a.datagram.now c.in-Some.relay c.xor_addr-mapped.result c.from.result c.refresh_at.result (sym c.xor_addr.ensures ∙ c.in-Some.is) c.xor_addr-mapped.ensures c.from.ensures.0 c.from.ensures.1
    (c.refresh_at.ensures ∙ ap (refresh_time a.now) (c.unwrap_or-seconds.ensures ∙ granted_is 600 c.lifetime.result ∙ ap (granted_or 600) c.lifetime.ensures)))
