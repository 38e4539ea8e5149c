-- `Hasher::finish` meets its contract: the one or two blocks that are left are those of the definition's padding.
use Rattle.std.proofs.Common.{◌∙◌, rules}
use Rattle.digest.specs.View.{view}
use Rattle.digest.proofs.Ending.{finished_short, finished_long}
use Rattle.digest.proofs.hasher.Hasher.finish.Goals as goal

pub returns-then-fits : goal.returns-then-fits
returns-then-fits g c =
    c.result.ensures
    ∙ finished_short g.C.Compression.parameters g.met.C.Compression.blocks_of_64 (view g.C.Compression.words c.args.self) (search rules)
    c.is_big.ensures (search rules) c.laid-marked.ensures c.last_block-last.ensures c.step.ensures

pub returns : goal.returns
returns g c =
    c.result-2.ensures
    ∙ finished_long g.C.Compression.parameters g.met.C.Compression.blocks_of_64 (view g.C.Compression.words c.args.self) (search rules)
    c.is_big-2.ensures (search rules) c.laid-marked.ensures c.step-words.ensures c.last_block-last-2.ensures c.step-2.ensures
