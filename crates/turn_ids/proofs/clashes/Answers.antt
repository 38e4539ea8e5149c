-- `turn_ids::clashes` meets its contract.
use mathlib.Core.Path.{sym, ◌∙◌}
use native.Mathlib.Omega.{arith}
use Rattle.turn_ids.proofs.Clashing.{clash_pending, clash_later, clash_rest}
use Rattle.turn_ids.proofs.clashes.Invariants.{tids}
use Rattle.turn_ids.proofs.clashes.Goals.{then-is_pending-via-then-is_pending, then-is_pending-via-else-is_pending+then-among}
use Rattle.turn_ids.proofs.clashes.Goals as goal

pub returns-then-is_pending : goal.returns-then-is_pending
returns-then-is_pending c =
    let l = c.loop-k in
    let a = c.args in
    elim c.then-is_pending.branch [
      | then-is_pending-via-then-is_pending w ↦ sym (clash_pending a.ids.now l.k _ (omega arith) l.invariant.0 _ c.id_of-id.ensures (tids a.t) (sym c.is_pending.ensures ∙ w.if-is_pending.true)) ∙ l.invariant.1
      | then-is_pending-via-else-is_pending+then-among w ↦ sym (clash_later a.ids.now l.k _ (omega arith) l.invariant.0 _ c.id_of-id.ensures (tids a.t) (sym c.is_pending.ensures ∙ w.if-is_pending.false) (sym w.among.ensures ∙ w.if-among.true)) ∙ l.invariant.1
    ]

pub loop-k-preserved : goal.loop-k-preserved
loop-k-preserved c =
    let l = c.loop-k in
    let a = c.args in
    (l.invariant.0, sym (clash_rest a.ids.now l.k _ (omega arith) l.invariant.0 _ c.id_of-id.ensures (tids a.t) (sym c.is_pending.ensures ∙ c.if-is_pending.false) (sym c.among.ensures ∙ c.if-among.false)) ∙ l.invariant.1)
