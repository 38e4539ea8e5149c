-- `crc32::digest` meets its contract: the register by bits gives the number of the long division.
-- Assumes nothing.
use Rattle.crc32.proofs.Join.{join}
use Rattle.crc32.proofs.digest.Goals as goal

pub returns : goal.returns
returns c = cc (join c.args.m.now)
