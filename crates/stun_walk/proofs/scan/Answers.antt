-- `stun_walk::scan` meets its contract. Invariant: from p on, with what was hit so far, the definition finds what it finds from
-- the start (`Left`).
use mathlib.Core.Path.{sym, ◌∙◌}
use native.Mathlib.Omega.{arith}
use Rattle.stun_walk.proofs.Walk.{left_none, left_next, scanned_at}
use Rattle.stun_walk.proofs.scan.Goals as goal

pub loop-p-preserved : goal.loop-p-preserved
loop-p-preserved c =
    let l = c.loop-p in (
      omega arith,
      omega arith,
      left_next c.args.buf.now c.args.t l.p l.hit l.invariant.2 (omega arith) (omega arith) _ c.from-len.result _ c.keep-hit.result c.from_be_bytes-typ.ensures
          (c.from-len.ensures ∙ c.from_be_bytes-in-loop-p.ensures) (omega arith) c.keep-hit.ensures (omega arith),
    )

pub returns : goal.returns
returns c =
    let l = c.loop-p in
    let buf = c.args.buf.now in
    let d = left_none buf c.args.t l.p l.hit l.invariant.2 (omega arith) in
    scanned_at buf c.args.t l.hit (sym c.is_stun.ensures ∙ c.if-not-is_stun.false) (omega arith) d.0 d.1
