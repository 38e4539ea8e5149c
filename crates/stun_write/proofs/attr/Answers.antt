-- `stun_write::attr` meets its contract: head, value and zeros, one after the other.
use mathlib.Core.Path.{◌∙◌}
use native.Mathlib.Omega.{arith}
use borrow.Author.Rules.{rules}
use Rattle.stun_write.proofs.Places.{attr_put}
use Rattle.stun_write.proofs.attr.Goals as goal

pub returns : goal.returns
returns c =
    attr_put c.args.typ c.args.value.now c.args.out.now c.copy_from_slice.new.self c.copy_from_slice-2.new.self c.copy_from_slice-3.new.self c.fill.new.self c.args.at _ _ _ _ _
    (search rules) c.requires.0 (omega (arith, c.requires.1)) (c.copy_from_slice.ensures.after ∙ c.to_be_bytes.ensures) (c.copy_from_slice-2.ensures.after ∙ c.to_be_bytes-2.ensures)
    c.copy_from_slice-3.ensures.after (c.fill.ensures.after (λ y e. e)) (omega arith) (omega arith) (omega arith) (omega arith) (search rules)
