-- `md5_digest::step` meets its contract.
use Rattle.std.proofs.Common.{ℕ, List, ap, ◌∙◌}
use Rattle.md5_digest.specs.Rfc1321.{state, turns, sums, step}
use Rattle.md5_digest.proofs.step.Goals as goal

pub returns : goal.returns
unfolding step
returns c =
    let h = state c.args.h in
    ap (sums h) (c.rounds-s.ensures ∙ ap (λ (x : List ℕ). turns x 64 h) c.block_words-x.ensures)
