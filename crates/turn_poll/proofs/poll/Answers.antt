-- `turn_poll::poll` meets its contract: refused for its time, nothing before the deadline, or what its plan comes to.
use mathlib.Core.Path.{◌≡◌, sym, ◌∙◌}
use Rattle.std.proofs.Common.{rules}
use lib.ListN.{length}
use Rattle.turn_state.specs.Number.{given_of}
use Rattle.turn_state.specs.State.{begin}
use Rattle.turn_state.specs.Source
use Rattle.turn_state.specs.View.{view}
use Rattle.turn_state.proofs.Answering.{late_meets}
use borrow.Author.Tests.{not-true}
use Rattle.turn_poll.proofs.Idle.{idle_meets}
use Rattle.turn_poll.proofs.Deciding.{poll_plan}
use Rattle.turn_poll.proofs.poll.Goals as goal

pub returns-then-now-gt-LATEST : goal.returns-then-now-gt-LATEST
returns-then-now-gt-LATEST c =
    let a = c.args in
    late_meets a.client (given_of a.now a.ids.now (length a.out.now)) (Source.poll a.now (begin (view a.client) a.ids.now)) a.out.now c.if-now-gt-LATEST.true

pub returns-then-is_early : goal.returns-then-is_early
returns-then-is_early c =
    let a = c.args in
    rw c.quiet.ensures (idle_meets a.client a.now a.ids.now a.out.now c.if-now-gt-LATEST.false (not-true _ (sym c.is_early.ensures ∙ c.if-is_early.true)))

pub returns : goal.returns
returns c =
    let a = c.args in
    let p = c.plan-draft.ensures in
    let rows : length a.client.requests.rows ≡ 64 = search rules in
    c.conclude.ensures (Source.poll a.now (begin (view a.client) a.ids.now)) (λ n. p.tidy n.requests n.permissions n.channels)
    (poll_plan a.client c.plan-draft.result a.now a.ids.now rows c.if-now-gt-LATEST.false p.means)
