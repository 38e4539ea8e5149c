use mathlib.Core.List.{map}
use lib.ListN.{take}
use Rattle.turn_state.specs.Maps.{each}
use Rattle.turn_plan.specs.Plan.{plan_bind}
use Rattle.turn_plan.specs.Draft.{plan_in, Drafts}
use Rattle.turn_state.specs.View.{address_in}
use Rattle.turn_plan.proofs.Draft.bind_all.Given as goal

abbrev pub invariant-loop-place : goal.invariant-loop-place
invariant-loop-place l = Drafts (Unit {0}) (0) (l.place-index) l.fn.self (each plan_bind (map address_in (take l.place-index l.places)) (plan_in l.fn.self)) l.draft
