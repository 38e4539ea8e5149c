use mathlib.Core.List.{map}
use lib.ListN.{take}
use Rattle.turn_state.specs.Maps.{each}
use Rattle.turn_plan.specs.Plan.{plan_due}
use Rattle.turn_plan.specs.Draft.{plan_in, Drafts, id_bytes}
use Rattle.turn_plan.proofs.Draft.due_all.Given as goal

abbrev pub invariant-loop-id : goal.invariant-loop-id
invariant-loop-id l = Drafts (Unit {0}) (l.id-index) (0) l.fn.self (each (plan_due l.now l.reliable) (map id_bytes (take l.id-index l.ids)) (plan_in l.fn.self)) l.draft
