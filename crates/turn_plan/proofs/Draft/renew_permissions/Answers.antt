-- `turn_plan::Draft::renew_permissions` meets its contract. Invariant: the first of them are asked for again.
use native.Mathlib.Omega.{arith}
use Rattle.turn_plan.specs.Plan.{plan_perm}
use Rattle.turn_state.specs.View.{ip_in}
use Rattle.turn_plan.proofs.Drafting.{went_next}
use Rattle.turn_plan.proofs.Draft.renew_permissions.Goals as goal

pub loop-host-preserved : goal.loop-host-preserved
loop-host-preserved c =
    went_next ip_in plan_perm c.args.hosts.now _ c.args.self _ _ c.loop-host.host-index 0 c.loop-host.host-index 0 1 (omega arith) c.loop-host.invariant c.renew_permission-draft.ensures
