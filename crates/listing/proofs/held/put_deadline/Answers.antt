-- `listing::held::put_deadline` meets its contract: the digits of the time, or a dash.
use native.Mathlib.Omega.{arith}
use Rattle.std.specs.Prelude.{Some, None}
use Rattle.listing.proofs.Texts.{adds_due}
use Rattle.listing.proofs.held.put_deadline.Goals as goal

pub returns-in-Some : goal.returns-in-Some
returns-in-Some c = (adds_due _ (Some _) c.in-Some.is c.put_number.ensures.0, omega arith)

pub returns-in-None : goal.returns-in-None
returns-in-None c = (adds_due _ None c.in-None.is c.put.ensures, omega arith)
