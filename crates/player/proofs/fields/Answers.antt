-- A field lies in the bytes in hand.
use Rattle.std.proofs.Common.{refl, rules}
use Rattle.player.proofs.Place.{in_hand}
use Rattle.player.proofs.fields.Goals as goal
use Rattle.player.proofs.fields.Goals.{in-Field+in_ok-play-in-Field, in-More}

pub slice_bounds-play-count : goal.slice_bounds-play-count
slice_bounds-play-count g c =
    let l = c.loop-turn in
    search (rules, in_hand c.in-Some.stage l.window l.from l.to l.ended l.invariant.0 l.invariant.1 c.in-Field.ensures refl)

pub slice_bounds-play-start : goal.slice_bounds-play-start
slice_bounds-play-start g c =
    let l = c.loop-turn in
    search (rules, in_hand c.in-Some.stage l.window l.from l.to l.ended l.invariant.0 l.invariant.1 c.in-Field.ensures refl)

pub slice_bounds-play-end : goal.slice_bounds-play-end
slice_bounds-play-end g c =
    let l = c.loop-turn in
    search (rules, in_hand c.in-Some.stage l.window l.from l.to l.ended l.invariant.0 l.invariant.1 c.in-Field.ensures refl)

pub overflow_add-from : goal.overflow_add-from
overflow_add-from g c =
    let l = c.loop-turn in
    search (rules, in_hand c.in-Some.stage l.window l.from l.to l.ended l.invariant.0 l.invariant.1 c.in-Field.ensures refl)

pub loop-turn-preserved : goal.loop-turn-preserved
loop-turn-preserved g c =
    let l = c.loop-turn in
    elim c.match-next.branch [
      | in-Field+in_ok-play-in-Field w ↦ search (rules, in_hand c.in-Some.stage l.window l.from l.to l.ended l.invariant.0 l.invariant.1 w.in-Field.ensures refl)
      | in-More w ↦ search rules
    ]
