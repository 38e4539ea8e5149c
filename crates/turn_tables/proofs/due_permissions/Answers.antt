-- `turn_tables::due_permissions` meets its contract. Invariant: what the first i rows give is listed.
use mathlib.Core.Path.{◌≡◌, refl, ap, ap₂, ◌∙◌}
use mathlib.Core.List.{List}
use Prim.Native.Nat.{ℕ}
use native.Mathlib.Omega.{arith}
use lib.ListN.{length}
use Rattle.turn_state.specs.declared.Host.{Host}
use Rattle.turn_tables.specs.declared.Hosts.{Hosts}
use Rattle.turn_state.specs.View.{nowhere}
use Rattle.turn_tables.specs.Lists.{due_permission}
use Rattle.turn_tables.specs.Rows.{filled}
use Rattle.turn_tables.proofs.Listing.{listed_start, listed_fits, listed_more, listed_end}
use Rattle.turn_tables.proofs.due_permissions.Goals as goal

abbrev made : List Host → ℕ → Hosts
made rows len = record { rows = rows; len = len }

pub loop-i-init : goal.loop-i-init
loop-i-init c = rw c.no_permission.ensures (listed_start (due_permission c.args.now) (λ r. r.host) 32 (nowhere.host) c.args.t.rows)

pub note-requires : goal.note-requires
note-requires c =
    let l = c.loop-i in
    let full : length c.args.t.rows ≡ 32 = c.well_formed.0.1.1.0.1.0.1 in
    listed_fits (due_permission c.args.now) (λ r. r.host) 32 (nowhere.host) c.args.t.rows l.i l.list.rows l.list.len l.invariant (omega arith) (omega arith)

pub loop-i-preserved : goal.loop-i-preserved
loop-i-preserved c =
    let l = c.loop-i in
    let a = c.args in
    let full : length a.t.rows ≡ 32 = c.well_formed.0.1.1.0.1.0.1 in
    rw (c.note.ensures.kept, c.note.ensures.count) (listed_more (due_permission a.now) (λ r. r.host) 32 (nowhere.host) a.t.rows l.i l.list.rows l.list.len l.invariant _ _ _ (omega arith) (omega arith) c.is_due-due.ensures refl)

pub returns : goal.returns
returns c =
    let l = c.loop-i in
    let a = c.args in
    let w = l.invariant in
    let full : length a.t.rows ≡ 32 = c.well_formed.0.1.1.0.1.0.1 in
    let e = listed_end (due_permission a.now) (λ r. r.host) 32 (nowhere.host) a.t.rows a.t.len l.i full (omega arith) (omega arith) in
    ap₂ made (w.rows_are ∙ ap (filled 32 (nowhere.host)) e) (w.len_is ∙ ap length e)
