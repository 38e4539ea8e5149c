-- `turn_plan::Draft::bind_all` meets its contract. Invariant: the first of them are to be bound.
use native.Mathlib.Omega.{arith}
use Rattle.turn_plan.specs.Plan.{plan_bind}
use Rattle.turn_state.specs.View.{address_in}
use Rattle.turn_plan.proofs.Drafting.{went_next}
use Rattle.turn_plan.proofs.Draft.bind_all.Goals as goal

pub loop-place-preserved : goal.loop-place-preserved
loop-place-preserved c =
    went_next address_in plan_bind c.args.places.now _ c.args.self _ _ c.loop-place.place-index 0 c.loop-place.place-index 0 1 (omega arith) c.loop-place.invariant c.bind-draft.ensures
