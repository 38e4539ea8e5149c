-- `stun_walk::decode` meets its contract: what the pass refuses is not readable.
use mathlib.Core.Path.{sym, ◌∙◌}
use Rattle.stun_walk.proofs.First.{scanned_none}
use Rattle.stun_walk.proofs.Values.{decoded_none}
use Rattle.stun_walk.proofs.decode.Goals as goal

pub returns-in_err-scan : goal.returns-in_err-scan
returns-in_err-scan c = c.from_residual.ensures ∙ decoded_none c.args.buf.now (scanned_none c.args.buf.now 0 (sym c.scan.ensures ∙ c.in_err-scan.was)).0
