-- `stun_check::integrity` meets its contract. Invariant: from p on the definition finds what it finds from 20 (`Left`).
use mathlib.Core.Path.{sym, ◌∙◌}
use native.Mathlib.Omega.{arith}
use Rattle.stun_check.proofs.Walk.{left_start, left_none, left_found, left_next}
use Rattle.stun_check.proofs.integrity.Goals as goal

pub returns-then-buf-lt24 : goal.returns-then-buf-lt24
returns-then-buf-lt24 c = let b = c.args.buf.now in sym (left_none b 20 (left_start b) (omega arith))

pub loop-p-init : goal.loop-p-init
loop-p-init c = (omega arith, omega arith, left_start c.args.buf.now)

pub returns-then-from_be_bytes-eq-MESSAGE_INTEGRITY : goal.returns-then-from_be_bytes-eq-MESSAGE_INTEGRITY
returns-then-from_be_bytes-eq-MESSAGE_INTEGRITY c =
    let l = c.loop-p in
    let b = c.args.buf.now in
    (left_found b l.p l.invariant.2 (omega arith) (sym c.from_be_bytes-in-loop-p.ensures ∙ c.if-from_be_bytes-eq-MESSAGE_INTEGRITY.true), omega arith, omega arith)

pub loop-p-preserved : goal.loop-p-preserved
loop-p-preserved c =
    let l = c.loop-p in
    let b = c.args.buf.now in (
      omega arith,
      omega arith,
      left_next b l.p l.invariant.2 (omega arith) (λ e. c.if-from_be_bytes-eq-MESSAGE_INTEGRITY.false (c.from_be_bytes-in-loop-p.ensures ∙ e)) c.from-len.result _
          (c.from-len.ensures ∙ c.from_be_bytes-in-loop-p-2.ensures) (omega arith),
    )

pub returns : goal.returns
returns c = let l = c.loop-p in sym (left_none c.args.buf.now l.p l.invariant.2 (omega arith))
