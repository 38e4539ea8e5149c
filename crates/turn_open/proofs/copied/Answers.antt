-- `turn_open::copied` meets its contract: the text, and the zeros that were there.
use Rattle.std.proofs.Common.{ℕ, List, length, ap}
use Rattle.stun_text.specs.declared.Text.{Text}
use Rattle.turn_open.proofs.Zeros.{laid}
use Rattle.turn_open.proofs.copied.Goals as goal

pub returns : goal.returns
returns c =
    let s = c.args.s.now in
    rw c.copy_from_slice.ensures.after (ap {B = Text} (λ (b : List ℕ). record { bytes = b; len = length s }) (laid 763 s c.requires))
