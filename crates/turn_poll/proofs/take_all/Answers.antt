-- `turn_poll::take_all` meets its contract. Invariant: the first k of them have come in.
use Rattle.std.specs.Prelude.{Err}
use mathlib.Core.Path.{◌≡◌}
use Rattle.std.proofs.Common.{rules}
use native.Mathlib.Omega.{arith}
use lib.ListN.{length}
use Rattle.turn_poll.proofs.Coming.{begins, begins_tidy, meets, took_all}
use Rattle.turn_poll.proofs.take_all.Goals as goal

pub loop-k-init : goal.loop-k-init
loop-k-init c =
    let rows : length c.args.table.rows ≡ 64 = search rules in
    let t = c.args.table in
    (begins t _ c.min.ensures c.args.ids.now c.args.next rows, begins_tidy t _ c.min.ensures, omega (arith, c.min.ensures), omega arith)

pub returns-in_err-taken : goal.returns-in_err-taken
returns-in_err-taken c =
    let l = c.loop-k in
    let met = c.in_err-taken.ensures in
    let e : c.from_residual.result ≡ Err c.in_err-taken.field-0.0 = search rules in
    rw e (record { five = met.five; met = meets c.args.asks.now _ c.args.ids.now l.k c.args.next _ l.taken _ (omega arith) l.invariant.0 met })

pub returns : goal.returns
returns c =
    let l = c.loop-k in
    took_all c.args.table c.args.asks.now c.args.ids.now l.k c.args.next l.taken c.loop-k-test.false l.invariant.0 l.invariant.1
