-- `Hasher::update` meets its contract.
use Rattle.std.proofs.Common.{refl, sym, ◌∙◌, arith, rules}
use Rattle.digest.specs.View.{view}
use Rattle.digest.proofs.Parts.{same_running}
use Rattle.digest.proofs.Update.{next_chunk, fed_short, fed_chunks}
use Rattle.digest.proofs.hasher.Hasher.update.Goals as goal

pub returns-then-part-room : goal.returns-then-part-room
returns-then-part-room g c =
    same_running refl refl c.laid-tail.ensures
    ∙ sym (fed_short g.C.Compression.parameters g.met.C.Compression.blocks_of_64 (view g.C.Compression.words c.args.self) (search rules) c.args.part.now c.if-part-room.true)

pub loop-block-preserved : goal.loop-block-preserved
loop-block-preserved g c =
    next_chunk g.C.Compression.parameters g.met.C.Compression.blocks_of_64 _ _ _ _ c.loop-block.block-index _ _ _
    (search rules) c.as_chunks.ensures.front (omega arith) c.loop-block.invariant c.step-next.ensures

pub returns : goal.returns
returns g c =
    fed_chunks g.C.Compression.parameters g.met.C.Compression.blocks_of_64 (view g.C.Compression.words c.args.self) (search rules) c.args.part.now
    c.loop-block.block-index {m = c.split_at.result.1.now} c.if-part-room.false (search rules) (search rules) c.step-words.ensures (omega arith) c.loop-block.invariant
    c.as_chunks.ensures.back refl c.laid-tail-2.ensures
