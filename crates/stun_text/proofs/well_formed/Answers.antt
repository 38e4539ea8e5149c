-- `stun_text::well_formed` meets its contract. Invariant: the text is well-formed as what is left of it at i is.
use mathlib.Core.Path.{refl, sym, ◌∙◌}
use native.Mathlib.Omega.{arith}
use Rattle.stun_text.proofs.Cut.{sequence_bounds, sequence_passed, subpart_ill, well_formed_end}
use Rattle.stun_text.proofs.well_formed.Goals as goal

pub loop-i-init : goal.loop-i-init
loop-i-init c = (omega arith, refl)

pub overflow_add-i : goal.overflow_add-i
overflow_add-i c = omega (arith, sequence_bounds c.args.s.now c.loop-i.i c.in-Ok.n (omega arith) (sym c.in-Ok.is ∙ c.part_at.ensures))

pub loop-i-preserved : goal.loop-i-preserved
loop-i-preserved c = (
  (sequence_bounds c.args.s.now c.loop-i.i c.in-Ok.n (omega arith) (sym c.in-Ok.is ∙ c.part_at.ensures)).1,
  c.loop-i.invariant.1 ∙ sequence_passed c.args.s.now c.loop-i.i c.in-Ok.n (omega arith) (sym c.in-Ok.is ∙ c.part_at.ensures),
)

pub returns-in-Err : goal.returns-in-Err
returns-in-Err c = sym (c.loop-i.invariant.1 ∙ subpart_ill c.args.s.now c.loop-i.i c.in-Err.field-0 (omega arith) (sym c.in-Err.is ∙ c.part_at.ensures))

pub returns : goal.returns
returns c = sym (c.loop-i.invariant.1 ∙ well_formed_end c.args.s.now c.loop-i.i c.loop-i-test.false)
