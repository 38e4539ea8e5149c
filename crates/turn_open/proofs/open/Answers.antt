-- `turn_open::open` meets its contract: refused, or the client asked for.
use Rattle.std.proofs.Common.{rules, ap₂, ◌∙◌}
use Rattle.stun_text.specs.declared.Text.{Text}
use Rattle.turn_open.specs.Fresh.{fresh_client}
use Rattle.turn_open.proofs.Blank.{refused, accepted}
use Rattle.turn_open.proofs.open.Goals as goal

pub returns-in_err-admitted : goal.returns-in_err-admitted
returns-in_err-admitted c =
    let a = c.args in
    refused a.username.now a.password.now a.reliable c.from_residual.result c.in_err-admitted.field-0.0 (search rules) c.in_err-admitted.ensures

pub returns : goal.returns
returns c =
    let a = c.args in
    accepted a.username.now a.password.now a.reliable c.fresh.result c.in_ok-admitted.ensures
    (c.fresh.ensures ∙ ap₂ (λ (x y : Text). fresh_client x y a.reliable) c.copied.ensures c.copied-2.ensures)
