-- `md5_digest::rounds` meets its contract: four times sixteen operations.
use Rattle.md5_digest.specs.Rfc1321.{state}
use Rattle.md5_digest.proofs.Turns.{no_turn}
use Rattle.md5_digest.proofs.rounds.Goals as goal

pub returns : goal.returns
returns c =
    let h = state c.args.h in
    c.round.ensures h (c.round-s-3.ensures h (c.round-s-2.ensures h (c.round-s.ensures h (no_turn c.args.x.now h))))
