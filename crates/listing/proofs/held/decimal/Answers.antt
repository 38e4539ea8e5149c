-- `listing::held::decimal` meets its contract. Invariant: what is left of the number and the bytes from `from` on make the whole text (`Left`).
use native.Mathlib.Omega.{arith}
use Rattle.listing.proofs.Numbers.{left_all, left_next, left_none}
use Rattle.listing.proofs.held.decimal.Goals as goal

pub loop-rest-init : goal.loop-rest-init
loop-rest-init c = left_all _ _ (omega arith)

pub loop-rest-preserved : goal.loop-rest-preserved
loop-rest-preserved c = left_next c.loop-rest.invariant (omega arith) c.digit.result (omega arith)

pub returns : goal.returns
returns c = left_none c.loop-rest.invariant (omega arith) c.digit-2.result (omega arith)
