-- `md5_digest::turn` meets its contract.
use Rattle.std.proofs.Common.{mod-eq_of_lt}
use Rattle.md5_digest.specs.Rfc1321.{operation, turn, T}
use Rattle.md5_digest.proofs.turn.Goals as goal

pub returns : goal.returns
unfolding operation turn T
returns c = rw c.requires.0 (cc (mod-eq_of_lt c.shift.ensures.1, c.mix.ensures, c.place.ensures.0, c.shift.ensures.0))
