-- `listing::held::put` meets its contract: the part is laid right after the text.
use mathlib.Core.Path.{refl}
use native.Mathlib.Omega.{arith}
use Rattle.std.proofs.lemmas.Slice.{put_mid-paste}
use lib.ListN.{length}
use Rattle.listing.proofs.Texts.{pasted}
use Rattle.listing.proofs.held.put.Goals as goal

pub returns : goal.returns
returns c =
    let a = c.args in
    pasted a.line a.part.now _ (put_mid-paste a.line.len _ a.line.bytes c.copy_from_slice.new.self a.part.now (length a.part.now) c.copy_from_slice.ensures.after (omega arith) refl) (omega arith)
