-- `turn_handle::answer` meets its contract: taken, or not.
use mathlib.Core.Path.{◌≡◌, sym, ◌∙◌}
use lib.ListN.{length}
use Rattle.turn_handle.proofs.Datagrams.{headed}
use Rattle.turn_handle.proofs.Arms.{no_answer, takes, drops, unasked}
use Rattle.turn_handle.proofs.answer.Goals as goal

pub returns-in-None : goal.returns-in-None
returns-in-None c =
    let a = c.args in
    let head = headed a.datagram.now a.header c.requires.1 in
    rw c.quiet.ensures (unasked a.before a.now a.datagram.now a.ids.now a.out.now a.header head (sym c.find_request.ensures ∙ c.in-None.is) c.requires.0)

pub returns-then-not-is_taken : goal.returns-then-not-is_taken
returns-then-not-is_taken c =
    let a = c.args in
    let full : length a.before.requests.rows ≡ 64 = c.well_formed.0.1.1.1.1.0.1.1.0.1.0.1 in
    let head = headed a.datagram.now a.header c.requires.1 in
    let found = sym c.find_request.ensures ∙ c.in-Some.is in
    rw c.quiet-then-not-is_taken.ensures (drops a.before a.now a.datagram.now a.ids.now a.out.now a.header head c.in-Some.i full found c.class-class.result (sym c.class-class.ensures) (sym c.is_taken.ensures ∙ c.if-not-is_taken.true) c.requires.0)

pub returns-in-Success : goal.returns-in-Success
returns-in-Success c =
    let a = c.args in
    let full : length a.before.requests.rows ≡ 64 = c.well_formed.0.1.1.1.1.0.1.1.0.1.0.1 in
    let head = headed a.datagram.now a.header c.requires.1 in
    let found = sym c.find_request.ensures ∙ c.in-Some.is in
    let taken = sym c.is_taken.ensures ∙ c.if-not-is_taken.false in
    takes a.before a.now a.datagram.now a.ids.now a.out.now a.header head c.in-Some.i full found c.class-class.result (sym c.class-class.ensures) _ _ taken (rw c.in-Success.is c.succeed.ensures)

pub returns-in-Error : goal.returns-in-Error
returns-in-Error c =
    let a = c.args in
    let full : length a.before.requests.rows ≡ 64 = c.well_formed.0.1.1.1.1.0.1.1.0.1.0.1 in
    let head = headed a.datagram.now a.header c.requires.1 in
    let found = sym c.find_request.ensures ∙ c.in-Some.is in
    let taken = sym c.is_taken.ensures ∙ c.if-not-is_taken.false in
    takes a.before a.now a.datagram.now a.ids.now a.out.now a.header head c.in-Some.i full found c.class-class.result (sym c.class-class.ensures) _ _ taken (rw c.in-Error.is c.fail.ensures)

pub returns-in-Request : goal.returns-in-Request
returns-in-Request c =
    let a = c.args in
    let full : length a.before.requests.rows ≡ 64 = c.well_formed.0.1.1.1.1.0.1.1.0.1.0.1 in
    let head = headed a.datagram.now a.header c.requires.1 in
    let found = sym c.find_request.ensures ∙ c.in-Some.is in
    rw c.quiet-in-Request.ensures (drops a.before a.now a.datagram.now a.ids.now a.out.now a.header head c.in-Some.i full found c.class-class.result (sym c.class-class.ensures) (no_answer c.class-class.result _ c.in-Request.is) c.requires.0)
