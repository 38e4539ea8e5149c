-- `turn_tables::due_requests` meets its contract. Invariant: what the first i rows give is listed.
use mathlib.Core.Path.{◌≡◌, refl, ap, ap₂, ◌∙◌}
use mathlib.Core.List.{List}
use Prim.Native.Nat.{ℕ}
use native.Mathlib.Omega.{arith}
use lib.ListN.{length}
use Rattle.turn_tables.specs.declared.Id.{Id}
use Rattle.turn_tables.specs.declared.Ids.{Ids}
use Rattle.turn_state.specs.View.{no_id}
use Rattle.turn_tables.specs.Lists.{id_of, due_request}
use Rattle.turn_tables.specs.Rows.{filled}
use Rattle.turn_tables.proofs.Listing.{listed_start, listed_fits, listed_more, listed_end}
use Rattle.turn_tables.proofs.due_requests.Goals as goal

abbrev made : List Id → ℕ → Ids
made rows len = record { rows = rows; len = len }

pub loop-i-init : goal.loop-i-init
loop-i-init c = listed_start (due_request c.args.now) (λ r. id_of r.id) 64 (id_of no_id) c.args.t.rows

pub note-requires : goal.note-requires
note-requires c =
    let l = c.loop-i in
    let full : length c.args.t.rows ≡ 64 = c.well_formed.0.1.1.0.1.0.1 in
    listed_fits (due_request c.args.now) (λ r. id_of r.id) 64 (id_of no_id) c.args.t.rows l.i l.list.rows l.list.len l.invariant (omega arith) (omega arith)

pub loop-i-preserved : goal.loop-i-preserved
loop-i-preserved c =
    let l = c.loop-i in
    let a = c.args in
    let full : length a.t.rows ≡ 64 = c.well_formed.0.1.1.0.1.0.1 in
    rw (c.note.ensures.kept, c.note.ensures.count) (listed_more (due_request a.now) (λ r. id_of r.id) 64 (id_of no_id) a.t.rows l.i l.list.rows l.list.len l.invariant _ _ _ (omega arith) (omega arith) refl refl)

pub returns : goal.returns
returns c =
    let l = c.loop-i in
    let a = c.args in
    let w = l.invariant in
    let full : length a.t.rows ≡ 64 = c.well_formed.0.1.1.0.1.0.1 in
    let e = listed_end (due_request a.now) (λ r. id_of r.id) 64 (id_of no_id) a.t.rows a.t.len l.i full (omega arith) (omega arith) in
    ap₂ made (w.rows_are ∙ ap (filled 64 (id_of no_id)) e) (w.len_is ∙ ap length e)
