-- `Hasher::digest` meets its contract: a message in one part.
use Rattle.digest.proofs.Parts.{one_part}
use Rattle.digest.proofs.hasher.Hasher.digest.Goals as goal

pub returns : goal.returns
returns g c =
    one_part g.C.Compression.parameters c.args.m.now g.met.C.Compression.blocks_of_64 c.new.ensures c.update.ensures c.finish.ensures
