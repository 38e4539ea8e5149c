-- `sha1_digest::schedule` meets its contract. Invariant: the first t words of the array are the definition's.
use Rattle.std.proofs.Common.{◌≡◌, ◌-◌, sym, ap, ◌∙◌, arith, rules, take_all}
use Rattle.sha1_digest.specs.Rfc3174.{more, schedule}
use Rattle.sha1_digest.proofs.Words.{first_next, more_next}
use Rattle.sha1_digest.proofs.schedule.Goals as goal

pub loop-t-preserved : goal.loop-t-preserved
loop-t-preserved c =
    let s = c.loop-t in
    (search rules, first_next c.args.m.now s.w s.t c.word.result (omega arith) s.invariant.1 c.word.ensures)

pub loop-t-2-init : goal.loop-t-2-init
loop-t-2-init c =
    let s = c.loop-t in
    let e : s.t ≡ 16 = omega arith in
    (s.invariant.0, rw e at s.invariant.1)

pub loop-t-2-preserved : goal.loop-t-2-preserved
loop-t-2-preserved c =
    let s = c.loop-t-2 in
    (search rules, more_next c.args.m.now s.w s.t c.rotate_left.result (omega arith) (omega arith) s.invariant.1 c.rotate_left.ensures)

pub returns : goal.returns
unfolding schedule
returns c =
    let s = c.loop-t-2 in
    let n : s.t - 16 ≡ 64 = omega arith in
    sym (take_all s.t s.w (omega arith)) ∙ s.invariant.1 ∙ ap (more c.args.m.now) n
