-- A call's line: the library's digits are the definition's, and so is the line, regrouped.
use Rattle.std.proofs.Common.{append_assoc, arith}
use Rattle.std.proofs.Output.{has_written_of_eq}
use Rattle.listing.proofs.Numbers.{decimal_is}
use Rattle.listing.proofs.LineDisplay.fmt.Goals as goal

pub returns-in-Called-clause-writes : goal.returns-in-Called-clause-writes
returns-in-Called-clause-writes g c = λ plain ok.
    let l = c.in-Called in
    has_written_of_eq _ _ _ _ _
    (rw (l.is, decimal_is l.number (omega arith), decimal_is l.refusal (omega arith), decimal_is l.events (omega arith), decimal_is l.packets (omega arith), decimal_is l.bytes (omega arith)) (simp append_assoc))
    (c.write-in-Called.ensures.writes plain ok)
