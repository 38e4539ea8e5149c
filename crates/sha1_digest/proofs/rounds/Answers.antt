-- `sha1_digest::rounds` meets its contract: four times twenty.
use Rattle.sha1_digest.specs.Rfc3174.{state}
use Rattle.sha1_digest.proofs.Turn.{no_round}
use Rattle.sha1_digest.proofs.rounds.Goals as goal

pub returns : goal.returns
returns c =
    let h = state c.args.s in
    c.twenty.ensures h (c.twenty-s-3.ensures h (c.twenty-s-2.ensures h (c.twenty-s.ensures h (no_round c.args.w.now h))))
