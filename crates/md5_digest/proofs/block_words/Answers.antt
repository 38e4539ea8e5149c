-- `md5_digest::block_words` meets its contract. Invariant: the first i words, with zeros after them (`onto`).
use Rattle.std.proofs.Common.{ℕ, List, [], set, sym, ◌∙◌, ap₂, arith}
use Rattle.digest.proofs.Fill.{onto_next}
use Rattle.md5_digest.specs.Rfc1321.{words}
use Rattle.md5_digest.proofs.Words.{words_at}
use Rattle.md5_digest.proofs.block_words.Goals as goal

pub loop-i-preserved : goal.loop-i-preserved
loop-i-preserved c =
    let m = c.args.m.now in
    let i = c.loop-i.i in
    ap₂ (λ (l : List ℕ) (v : ℕ). set l i v) c.loop-i.invariant (c.word.ensures ∙ sym (words_at 16 m i (omega arith)))
    ∙ onto_next 16 [] (words 16 m) i i (omega arith) (omega arith) (omega arith)
