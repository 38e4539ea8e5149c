-- `turn_plan::Draft::run` meets its contract: the loops one after the other.
use Rattle.turn_plan.proofs.Drafting.{draft_due, draft_closing, draft_renewals}
use Rattle.turn_plan.proofs.Draft.run.Goals as goal

pub returns-then-closing : goal.returns-then-closing
returns-then-closing c =
    let a = c.args in
    draft_closing a.self _ a.now a.reliable a.closing c.if-closing.true
    (draft_due a.self _ c.due_requests-ids.result a.now a.reliable c.due_requests-ids.ensures c.due_all-settled.ensures)

pub returns : goal.returns
returns c =
    let a = c.args in
    draft_renewals a.self _ _ _ _ c.due_permissions-hosts.result c.due_channels-places.result a.now a.reliable a.closing c.if-closing.false
    (draft_due a.self _ c.due_requests-ids.result a.now a.reliable c.due_requests-ids.ensures c.due_all-settled.ensures)
    c.renew_refresh-refreshed.ensures c.due_permissions-hosts.ensures c.renew_permissions-permitted.ensures c.due_channels-places.ensures c.renew_channels.ensures
