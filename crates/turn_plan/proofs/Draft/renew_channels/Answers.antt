-- `turn_plan::Draft::renew_channels` meets its contract. Invariant: the first of them are bound again.
use native.Mathlib.Omega.{arith}
use Rattle.turn_plan.specs.Plan.{plan_chan}
use Rattle.turn_state.specs.View.{address_in}
use Rattle.turn_plan.proofs.Drafting.{went_next}
use Rattle.turn_plan.proofs.Draft.renew_channels.Goals as goal

pub loop-place-preserved : goal.loop-place-preserved
loop-place-preserved c =
    went_next address_in (plan_chan c.args.now) c.args.places.now _ c.args.self _ _ c.loop-place.place-index 0 c.loop-place.place-index 0 1 (omega arith) c.loop-place.invariant c.renew_channel-draft.ensures
