-- `listing::held::put_number` meets its contract: what is lent of the digits is all of them, and the byte after them.
use Rattle.listing.proofs.Texts.{adds_number}
use Rattle.listing.proofs.held.put_number.Goals as goal

pub returns : goal.returns
returns c =
    let d = c.decimal-digits in
    adds_number _ _ d.result d.ensures (rw d.ensures.room at c.put.ensures)
