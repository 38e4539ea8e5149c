-- `turn_plan::Draft::due_one` meets its contract: found, it is taken out and fails or is sent again.
use mathlib.Core.Bool.{Bool, true, false, ◌||◌}
use mathlib.Core.Logic.{◌⊎◌, inl, inr}
use Prim.Native.Nat.{ℕ, ◌≤◌}
use lib.Dec.{leb}
use borrow.Author.Tests.{le-leb, lt-leb}
use mathlib.Core.Path.{◌≡◌, sym, ◌∙◌}
use Rattle.std.proofs.Common.{rules}
use lib.ListN.{length}
use native.Mathlib.Omega.{arith}
use Rattle.turn_state.specs.Source.{under_id}
use Rattle.turn_plan.proofs.Drafting.{due_fails, due_again, one_shorter}
use Rattle.turn_plan.proofs.Draft.due_one.Goals as goal

pub again-requires : goal.again-requires
again-requires c =
    let full : length c.args.self.requests.rows ≡ 64 = search rules in
    let found = sym c.find_request.ensures ∙ c.in-Some.is in
    (one_shorter c.args.self.requests _ full (under_id c.args.id) _ found c.remove_request.ensures, c.requires.0, omega arith, c.requires.2)

-- spent: over a reliable transport, or sent six times
spent : (reliable : Bool) (tries : ℕ) → (reliable ≡ true) ⊎ ((reliable ≡ false) × (6 ≤ tries)) → (reliable || leb 6 tries) ≡ true
spent reliable tries (inl e) = rw e
spent reliable tries (inr e) = rw (e.0, le-leb 6 tries e.1)

pub returns-then-row-ge6 : goal.returns-then-row-ge6
returns-then-row-ge6 c =
    let full : length c.args.self.requests.rows ≡ 64 = search rules in
    due_fails c.args.self c.args.id c.args.now c.args.reliable _ _ _ full (sym c.find_request.ensures ∙ c.in-Some.is) c.remove_request.ensures _
    (spent _ _ c.if-row-ge6.either) (rw (← c.from.ensures) c.fail.ensures)

pub returns-else-row-ge6 : goal.returns-else-row-ge6
returns-else-row-ge6 c =
    let full : length c.args.self.requests.rows ≡ 64 = search rules in
    due_again c.args.self c.args.id c.args.now c.args.reliable _ _ _ full (sym c.find_request.ensures ∙ c.in-Some.is) c.remove_request.ensures _
    (rw (c.if-row-ge6.false.0, lt-leb 6 _ c.if-row-ge6.false.1)) c.again.ensures
