use mathlib.Core.List.{map}
use lib.ListN.{take}
use Rattle.turn_state.specs.Maps.{each}
use Rattle.turn_plan.specs.Plan.{plan_perm}
use Rattle.turn_plan.specs.Draft.{plan_in, Drafts}
use Rattle.turn_state.specs.View.{ip_in}
use Rattle.turn_plan.proofs.Draft.renew_permissions.Given as goal

abbrev pub invariant-loop-host : goal.invariant-loop-host
invariant-loop-host l = Drafts (Unit {0}) (0) (l.host-index) l.fn.self (each plan_perm (map ip_in (take l.host-index l.hosts)) (plan_in l.fn.self)) l.draft
