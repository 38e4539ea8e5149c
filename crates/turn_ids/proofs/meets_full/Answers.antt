-- `turn_ids::meets_full` meets its contract: there is room, no id is lent, or the id is pending or not.
use mathlib.Core.Path.{◌≡◌}
use native.Mathlib.Omega.{arith}
use lib.ListN.{length}
use Rattle.turn_ids.proofs.Verdicts.{full_missing, full_unless}
use Rattle.turn_ids.proofs.meets_full.Goals as goal

pub returns-then-id_count-k : goal.returns-then-id_count-k
returns-then-id_count-k c =
    let s = c in let a = s.args in
    let rows : length a.t.rows ≡ 64 = s.well_formed.0.1.1.0.1.0.1 in
    full_missing a.t rows a.ids.now a.k (omega arith) (omega (arith, c.id_count.ensures))

pub returns : goal.returns
returns c =
    let s = c in let a = s.args in
    let rows : length a.t.rows ≡ 64 = s.well_formed.0.1.1.0.1.0.1 in
    full_unless a.t rows a.ids.now a.k c.is_pending.result c.id_of.result (omega arith) (omega (arith, c.id_count.ensures)) c.id_of.ensures c.is_pending.ensures
