-- What is left of the number, and what stands already from `from` on, make its text (`Left`); what is left grows less.
use Rattle.listing.proofs.Numbers.{Left}
use Rattle.listing.proofs.held.decimal.Given as goal

abbrev pub invariant-loop-rest : goal.invariant-loop-rest
invariant-loop-rest l = Left l.n l.after l.rest l.from l.bytes

abbrev pub decreases-loop-rest : goal.decreases-loop-rest
decreases-loop-rest l = l.rest
