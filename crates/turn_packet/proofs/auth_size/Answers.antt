-- `turn_packet::auth_size` meets its contract: with both a realm and a nonce three texts, otherwise nothing.
use mathlib.Core.Path.{sym, ◌∙◌}
use native.Mathlib.Omega.{arith}
use Rattle.turn_packet.proofs.Laws.{both, sums}
use Rattle.turn_packet.proofs.auth_size.Goals as goal

pub returns-then-c-2 : goal.returns-then-c-2
returns-then-c-2 c =
    let e = sums c.text_size.ensures.0 c.text_size-then-c-2.ensures.0 c.text_size-then-c-2-2.ensures.0 ∙ sym (both _ c.if-c.true c.if-c-2.true) in
    (e, omega (arith, c.text_size.ensures.1, c.text_size-then-c-2.ensures.1, c.text_size-then-c-2-2.ensures.1))
