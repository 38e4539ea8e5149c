-- `listing::held::put_name` meets its contract: each arm adds its own name.
use mathlib.Core.List.{[], ◌∷◌}
use native.Mathlib.Omega.{arith}
use Rattle.listing.specs.declared.Call.TheVariants.{Start, Data, Send, Poll, Lost, Close}
use Rattle.listing.specs.Held.{Adds}
use Rattle.listing.proofs.Texts.{adds_name}
use Rattle.listing.proofs.held.put_name.Goals as goal

pub returns-in-Start : goal.returns-in-Start
returns-in-Start c = adds_name _ Start c.in-Start.is c.put.ensures (omega arith)

pub returns-in-Data : goal.returns-in-Data
returns-in-Data c = adds_name _ Data c.in-Data.is c.put-in-Data.ensures (omega arith)

pub returns-in-Send : goal.returns-in-Send
returns-in-Send c = adds_name _ Send c.in-Send.is c.put-in-Send.ensures (omega arith)

pub returns-in-Poll : goal.returns-in-Poll
returns-in-Poll c = adds_name _ Poll c.in-Poll.is c.put-in-Poll.ensures (omega arith)

pub returns-in-Lost : goal.returns-in-Lost
returns-in-Lost c =
    let put : Adds (108 ∷ 111 ∷ 115 ∷ 116 ∷ 32 ∷ []) c.args.line c.put-in-Lost.result = c.put-in-Lost.ensures in
    adds_name _ Lost c.in-Lost.is put (omega arith)

pub returns-in-Close : goal.returns-in-Close
returns-in-Close c = adds_name _ Close c.in-Close.is c.put-in-Close.ensures (omega arith)
