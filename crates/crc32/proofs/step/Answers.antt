-- `crc32::step` meets its contract: the table has its rule, by one computed test.
use Rattle.std.proofs.Common.{rules}
use Rattle.crc32.specs.Register.{withBit, with_bits}
use Rattle.crc32.specs.Table.{entry}
use Rattle.crc32.proofs.Table.{stepped}
use Rattle.crc32.proofs.step.Goals as goal

pub returns : goal.returns
unfolding entry withBit with_bits
returns c = search (rules, stepped)
