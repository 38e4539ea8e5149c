-- `turn_open::lost` meets its contract: told of, or quiet.
use Rattle.turn_open.proofs.Lose.{lost_quiet, lost_told}
use Rattle.turn_open.proofs.lost.Goals.{else-client-via-then-client+else-client-2, else-client-via-else-client}
use Rattle.turn_open.proofs.lost.Goals as goal

pub returns-then-client-2 : goal.returns-then-client-2
returns-then-client-2 c = lost_quiet c.args.client _ _ c.no_requests-blank.ensures (rw (c.if-client.true, c.if-client-2.true)) c.quiet.ensures

pub returns : goal.returns
returns c =
    elim c.else-client.branch [
      | else-client-via-then-client+else-client-2 w ↦ lost_told c.args.client _ _ c.no_requests-blank.ensures (rw (w.if-client.true, w.if-client-2.false)) c.telling.ensures
      | else-client-via-else-client w ↦ lost_told c.args.client _ _ c.no_requests-blank.ensures (rw w.if-client.false) c.telling.ensures
    ]
