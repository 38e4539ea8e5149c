-- `turn_ids::verdict` meets its contract, number by number.
use native.Mathlib.Omega.{arith}
use Rattle.turn_ids.proofs.Verdicts.{five, six, seven, eight, zero}
use Rattle.turn_ids.proofs.verdict.Goals as goal

pub returns-then-full : goal.returns-then-full
returns-then-full c = let s = c in let a = s.args in five a.full _ a.ids.now a.used a.size a.room c.if-full.true

pub returns-then-id_count-used : goal.returns-then-id_count-used
returns-then-id_count-used c = let s = c in let a = s.args in six a.full _ a.ids.now a.used a.size a.room c.if-full.false (omega (arith, c.id_count.ensures, c.if-id_count-used.true))

pub returns-then-clashes : goal.returns-then-clashes
returns-then-clashes c =
    let s = c in let a = s.args in
    seven a.full _ a.ids.now a.used a.size a.room c.clashes.result c.if-full.false (omega (arith, c.id_count.ensures, c.if-id_count-used.false)) c.clashes.ensures c.if-clashes.true

pub returns-then-room-size : goal.returns-then-room-size
returns-then-room-size c =
    let s = c in let a = s.args in
    eight a.full _ a.ids.now a.used a.size a.room c.clashes.result c.if-full.false (omega (arith, c.id_count.ensures, c.if-id_count-used.false)) c.clashes.ensures c.if-clashes.false (omega (arith, c.if-room-size.true))

pub returns : goal.returns
returns c =
    let s = c in let a = s.args in
    zero a.full _ a.ids.now a.used a.size a.room c.clashes.result c.if-full.false (omega (arith, c.id_count.ensures, c.if-id_count-used.false)) c.clashes.ensures c.if-clashes.false (omega (arith, c.if-room-size.false))
