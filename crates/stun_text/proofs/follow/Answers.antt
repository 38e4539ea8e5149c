-- `stun_text::follow` meets its contract. Invariant: the first k ranges agree, so that all agree in k bytes and in as many as the
-- ranges that are left agree in with the text after those.
use Prim.Native.Nat.{◌-◌}
use native.Mathlib.Omega.{arith}
use lib.ListN.{drop}
use Rattle.stun_text.specs.Following.{following}
use Rattle.stun_text.proofs.Ranges.{stops, ends, past, below, above, inside, starts, none_left}
use Rattle.stun_text.proofs.follow.Goals.{then-rest-k-2-via-then-rest-k-2, then-rest-k-2-via-else-rest-k-2+then-high-rest}
use Rattle.stun_text.proofs.follow.Goals as goal

pub loop-k-init : goal.loop-k-init
loop-k-init c = (omega arith, omega arith, starts c.args.row.0 c.args.row.1 c.args.row.2 c.args.rest.now)

pub returns-then-rest-k : goal.returns-then-rest-k
returns-then-rest-k c =
    let l = c.loop-k in
    let more = c.args.row.0 in
    stops _ l.k _ more l.invariant.2 (past (following (more - l.k) l.low l.high) c.args.rest.now l.k (omega arith)) (omega arith)

pub returns-then-rest-k-2 : goal.returns-then-rest-k-2
returns-then-rest-k-2 c =
    let l = c.loop-k in
    let s = c.args.rest.now in
    let more = c.args.row.0 in
    elim c.then-rest-k-2.branch [
      | then-rest-k-2-via-then-rest-k-2 w ↦ stops _ l.k _ more l.invariant.2 (below (more - l.k) l.low l.high s l.k (omega arith) w.if-rest-k-2.true) (omega arith)
      | then-rest-k-2-via-else-rest-k-2+then-high-rest w ↦ stops _ l.k _ more l.invariant.2 (above (more - l.k) l.low l.high s l.k (omega arith) w.if-high-rest.true) (omega arith)
    ]

pub loop-k-preserved : goal.loop-k-preserved
loop-k-preserved c =
    let l = c.loop-k in
    (omega arith, omega arith, inside _ c.args.row.0 l.k l.low l.high c.args.rest.now l.invariant.2 (omega arith) (omega arith) c.if-rest-k-2.false c.if-high-rest.false)

pub returns : goal.returns
returns c =
    let l = c.loop-k in
    let more = c.args.row.0 in
    ends _ l.k _ more l.invariant.2 (none_left (more - l.k) l.low l.high (drop l.k c.args.rest.now) (omega arith)) (omega arith)
