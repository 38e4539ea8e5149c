-- `sha1_digest::f` meets its contract: choose and majority with one operation less.
use Rattle.std.proofs.Common.{le-ltb, lt-ltb}
use Rattle.digest.proofs.Bits.{choose_is, majority_is}
use Rattle.sha1_digest.specs.Rfc3174.{f}
use Rattle.sha1_digest.proofs.f.Goals as goal

pub returns-then-t-lt20 : goal.returns-then-t-lt20
unfolding f
returns-then-t-lt20 c =
    rw (lt-ltb _ _ c.if-t-lt20.true) (choose_is 32 c.args.b c.args.c c.args.d c.ranges.b.fits c.ranges.c.fits c.ranges.d.fits)

pub returns-then-t-lt60 : goal.returns-then-t-lt60
unfolding f
returns-then-t-lt60 c =
    rw (le-ltb _ _ c.if-t-lt20.false, le-ltb _ _ c.if-t-lt40.false, lt-ltb _ _ c.if-t-lt60.true)
    (majority_is 32 c.args.b c.args.c c.args.d c.ranges.b.fits c.ranges.c.fits c.ranges.d.fits)
