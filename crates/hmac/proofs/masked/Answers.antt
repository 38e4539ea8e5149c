-- `hmac::masked` meets its contract: one more byte is masked.
use Rattle.std.proofs.Common.{bit_xor, rules}
use Rattle.std.proofs.lemmas.List.Edits.{map_over_more}
use Rattle.hmac.proofs.masked.Goals as goal

pub loop-x-preserved : goal.loop-x-preserved
loop-x-preserved c = search (rules, map_over_more (λ x. bit_xor x c.args.b))
