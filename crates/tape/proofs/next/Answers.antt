-- `tape::next`: a piece takes no more than the body.
use Rattle.std.proofs.Common.{length-take-le, sym, arith}
use Rattle.tape.proofs.Sizes.{meant_fits}
use Rattle.tape.proofs.next.Goals as goal

pub overflow_add-result-in-Some-whole : goal.overflow_add-result-in-Some-whole
overflow_add-result-in-Some-whole c =
    let m = c.in-Some-whole in
    omega (arith, meant_fits c.args.stage _ _ m.field-0 (sym m.ensures), length-take-le c.from-size.result c.in-Some.rest.now (omega arith))

pub overflow_sub-result : goal.overflow_sub-result
overflow_sub-result c =
    let m = c.in-Some-whole in
    omega (arith, meant_fits c.args.stage _ _ m.field-0 (sym m.ensures), length-take-le c.from-size.result c.in-Some.rest.now (omega arith))
