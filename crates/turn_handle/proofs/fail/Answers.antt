-- `turn_handle::fail` meets its contract: tried once more, or given up.
use mathlib.Core.Path.{◌≡◌, ap, sym, ◌∙◌}
use native.Mathlib.Omega.{arith}
use lib.ListN.{length}
use Rattle.turn_state.specs.Source.{code_or_0}
use Rattle.turn_tables.proofs.Laws.{found_txn}
use Rattle.turn_handle.proofs.Arms.{code_is, retries, gives_up}
use Rattle.turn_handle.proofs.fail.Goals as goal

pub offset_bounds-before-i : goal.offset_bounds-before-i
offset_bounds-before-i c =
    let a = c.args in
    let full : length a.before.requests.rows ≡ 64 = c.well_formed.0.1.1.1.1.0.1.1.0.1.0.1 in
    omega (arith, found_txn a.before.requests full _ _ c.requires.1)

pub bounds-before-i : goal.bounds-before-i
bounds-before-i c =
    let a = c.args in
    let full : length a.before.requests.rows ≡ 64 = c.well_formed.0.1.1.1.1.0.1.1.0.1.0.1 in
    omega (arith, found_txn a.before.requests full _ _ c.requires.1)

pub returns-then-is_retried : goal.returns-then-is_retried
returns-then-is_retried c =
    let a = c.args in
    let full : length a.before.requests.rows ≡ 64 = c.well_formed.0.1.1.1.1.0.1.1.0.1.0.1 in
    let code = c.unwrap_or-code.ensures ∙ code_is c.error_code.result ∙ ap code_or_0 c.error_code.ensures in
    retries a.before a.id a.i _ full c.requires.1 a.now a.datagram.now a.ids.now a.out.now c.unwrap_or-code.result _ _ code (sym c.is_retried.ensures ∙ c.if-is_retried.true) c.retry.ensures

pub returns : goal.returns
returns c =
    let a = c.args in
    let full : length a.before.requests.rows ≡ 64 = c.well_formed.0.1.1.1.1.0.1.1.0.1.0.1 in
    let code = c.unwrap_or-code.ensures ∙ code_is c.error_code.result ∙ ap code_or_0 c.error_code.ensures in
    gives_up a.before a.id a.i _ full c.requires.1 a.now a.datagram.now a.ids.now a.out.now c.unwrap_or-code.result c.give_up.result c.without.result code (sym c.is_retried.ensures ∙ c.if-is_retried.false) c.requires.0 c.without.ensures c.give_up.ensures
