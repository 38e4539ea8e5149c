-- `Hasher::new` meets its contract.
use Rattle.std.proofs.Common.{refl}
use Rattle.digest.proofs.Update.{fresh_is}
use Rattle.digest.proofs.hasher.Hasher.new.Goals as goal

pub returns : goal.returns
returns g c = fresh_is g.C.Compression.parameters g.met.C.Compression.blocks_of_64 c.start.ensures refl
