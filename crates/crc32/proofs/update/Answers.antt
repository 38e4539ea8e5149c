-- `crc32::update` meets its contract: four bytes before the rest, and then what is left.
use Rattle.std.proofs.Common.{◌≡◌, ℕ, ◌*◌, ◌/◌, length, drop, ap, ◌∙◌, arith}
use Rattle.crc32.specs.Register.{fed}
use Rattle.crc32.proofs.Fed.{fed_four}
use Rattle.crc32.proofs.update.Goals as goal

pub loop-four-preserved : goal.loop-four-preserved
loop-four-preserved c =
    let l = c.loop-four in
    fed_four c.args.part.now _ _ l.c _ l.four-index c.as_chunks.ensures.front (omega arith) c.run-c.ensures ∙ l.invariant

pub returns : goal.returns
returns c =
    let l = c.loop-four in
    let end : length c.args.part.now / 4 ≡ l.four-index = omega arith in
    c.run.ensures
    ∙ ap (fed l.c) (c.as_chunks.ensures.back ∙ ap (λ (i : ℕ). drop (i * 4) c.args.part.now) end)
    ∙ l.invariant
