-- The result meets its law: the words fill it, so nothing is left out and no zero is behind them.
use Rattle.std.proofs.Common.{◌∙◌, arith}
use Rattle.digest.specs.Bytes.{little}
use Rattle.digest.specs.Digest.{result}
use Rattle.digest.proofs.Output.{whole}
use Rattle.md5_digest.proofs.Rfc1321CompressionArrayU324.result.Goals as goal

pub returns : goal.returns
unfolding result
returns c = c.spelled.ensures ∙ whole little c.args.h 16 (omega arith)
