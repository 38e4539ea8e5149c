-- The result meets its law: the words fill it, so nothing is left out and no zero is behind them.
use Rattle.std.proofs.Common.{◌∙◌, arith}
use Rattle.digest.specs.Bytes.{big}
use Rattle.digest.specs.Digest.{result}
use Rattle.digest.proofs.Output.{whole}
use Rattle.sha1_digest.proofs.Rfc3174CompressionArrayU325.result.Goals as goal

pub returns : goal.returns
unfolding result
returns c = c.spelled.ensures ∙ whole big c.args.h 20 (omega arith)
