-- `md5_digest::mix` meets its contract: F is a choice by x, and G one by z (`choose_is`).
use Rattle.std.proofs.Common.{◌≡◌, ◌∙◌, ap₂, arith}
use lib.Bits.{bit_or, and_comm}
use Rattle.digest.specs.Word.{complement}
use Rattle.digest.proofs.Bits.{choose_is}
use Rattle.md5_digest.proofs.mix.Goals as goal

pub returns-then-n-eq0 : goal.returns-then-n-eq0
returns-then-n-eq0 c =
    rw c.if-n-eq0.true (choose_is 32 c.args.x c.args.y c.args.z c.ranges.x.fits c.ranges.y.fits c.ranges.z.fits)

pub returns-then-n-eq1 : goal.returns-then-n-eq1
returns-then-n-eq1 c =
    let x = c.args.x in
    let y = c.args.y in
    let z = c.args.z in
    rw c.if-n-eq1.true
    (choose_is 32 z x y c.ranges.z.fits c.ranges.x.fits c.ranges.y.fits ∙ ap₂ bit_or (and_comm z x) (and_comm (complement z) y))

pub returns-then-n-eq2 : goal.returns-then-n-eq2
returns-then-n-eq2 c = rw c.if-n-eq2.true

pub returns : goal.returns
returns c = let e : c.args.n ≡ 3 = omega arith in rw e
