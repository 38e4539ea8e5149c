-- `turn_plan::Draft::due_all` meets its contract. Invariant: the first of the due requests are settled.
use native.Mathlib.Omega.{arith}
use Rattle.turn_plan.specs.Plan.{plan_due}
use Rattle.turn_plan.specs.Draft.{id_bytes}
use Rattle.turn_plan.proofs.Drafting.{went_next}
use Rattle.turn_plan.proofs.Draft.due_all.Goals as goal

pub loop-id-preserved : goal.loop-id-preserved
loop-id-preserved c =
    went_next id_bytes (plan_due c.args.now c.args.reliable) c.args.ids.now _ c.args.self _ _ c.loop-id.id-index c.loop-id.id-index 0 1 0 (omega arith) c.loop-id.invariant c.due_one-draft.ensures
