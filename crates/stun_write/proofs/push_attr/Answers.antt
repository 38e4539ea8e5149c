-- `stun_write::push_attr` meets its contract, answer by answer.
use native.Mathlib.Omega.{arith}
use Rattle.stun_write.proofs.Answers.{value_too_long, attr_too_long, attr_no_room, attr_written, equations}
use Rattle.stun_write.proofs.push_attr.Goals as goal

pub returns-then-n-gt65535 : goal.returns-then-n-gt65535
returns-then-n-gt65535 c =
    let s = c in equations (value_too_long s.args.out.now s.args.at s.args.typ s.args.value.now (omega arith))

pub returns-then-at-gt65555 : goal.returns-then-at-gt65555
returns-then-at-gt65555 c =
    let s = c in equations (attr_too_long s.args.out.now s.args.at s.args.typ s.args.value.now (omega arith) (omega arith))

pub returns-then-at-size-gt65555 : goal.returns-then-at-size-gt65555
returns-then-at-size-gt65555 c =
    let s = c in equations (attr_too_long s.args.out.now s.args.at s.args.typ s.args.value.now (omega arith) (omega arith))

pub returns-then-out-at : goal.returns-then-out-at
returns-then-out-at c =
    let s = c in equations (attr_no_room s.args.out.now s.args.at s.args.typ s.args.value.now (omega arith) (omega arith) (omega arith))

pub returns : goal.returns
returns c =
    equations (attr_written c.args.out.now c.args.at c.args.typ c.args.value.now c.attr.new.out (omega (arith, c)) (omega (arith, c)) (omega (arith, c)) c.attr.ensures)
