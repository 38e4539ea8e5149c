-- `turn_plan::Draft::renew_refresh` meets its contract: not held, not due, or asked for.
use Rattle.turn_plan.proofs.Drafting.{refresh_due}
use Rattle.turn_plan.proofs.Draft.renew_refresh.Goals as goal

pub returns : goal.returns
returns c = refresh_due c.args.self _ c.args.now _ c.in-Some.is c.if-now-at.false c.ask.ensures
