-- `turn_poll::start` meets its contract: refused for its time, or what asking for an allocation comes to.
use mathlib.Core.Path.{◌≡◌}
use Rattle.std.proofs.Common.{rules}
use lib.ListN.{length}
use Rattle.turn_state.specs.Number.{given_of}
use Rattle.turn_state.specs.State.{begin}
use Rattle.turn_state.specs.View.{view}
use Rattle.turn_state.proofs.Answering.{late_meets}
use Rattle.turn_state.specs.Source
use Rattle.turn_poll.proofs.Deciding.{start_plan}
use Rattle.turn_poll.proofs.start.Goals as goal

pub returns-then-now-gt-LATEST : goal.returns-then-now-gt-LATEST
returns-then-now-gt-LATEST c =
    let a = c.args in
    late_meets a.client (given_of a.now a.ids.now (length a.out.now)) (Source.start a.now (begin (view a.client) a.ids.now)) a.out.now c.if-now-gt-LATEST.true

pub returns : goal.returns
returns c =
    let a = c.args in
    let d = c.asking-draft.ensures in
    let rows : length a.client.requests.rows ≡ 64 = search rules in
    c.conclude.ensures (Source.start a.now (begin (view a.client) a.ids.now)) (λ n. d.tidy n.requests n.permissions n.channels)
    (start_plan a.client c.asking-draft.result a.now a.ids.now rows d.means)
