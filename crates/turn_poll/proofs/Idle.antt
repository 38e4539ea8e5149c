-- A poll before the deadline does nothing: where the least of the times is not due, none of them is.
use Rattle.std.specs.Prelude.{Option, None, Some}
use mathlib.Core.Path.{◌≡◌, refl, ap}
use mathlib.Core.Bool.{Bool, true, false, cond, ◌&&◌}
use mathlib.Core.List.{List, [], ◌∷◌, map}
use Prim.Native.Nat.{ℕ, ◌≤◌, ◌<◌, min}
use native.Mathlib.Omega.{arith}
use lib.ListN.{length}
use lib.Dec.{leb}
use borrow.Author.Tests.{leb-false, lt-leb}
use Rattle.turn_state.specs.declared.Client.{Client}
use Rattle.turn_state.specs.Maps.{filter}
use Rattle.turn_state.specs.State.{Turn, Run, begin}
use Rattle.turn_state.specs.Source.{poll, poll_refresh, poll_perms, poll_chans, due_of, is_due, consider, least, next_deadline}
use Rattle.turn_state.specs.Number.{given_of, number, settled}
use Rattle.turn_state.specs.View.{view, quiet, done, Meets}
use Rattle.turn_state.proofs.Answering.{accepted_meets}
use Rattle.turn_open.proofs.Lose.{nothing_used}

module _ (now : ℕ) where
  -- of two times the earlier is not due: neither is
  both_later : (x d : Option ℕ) → is_due now (consider x d) ≡ false → (is_due now x ≡ false) × (is_due now d ≡ false)
  both_later None d h = (refl, h)
  both_later (Some x) None h = (h, refl)
  both_later (Some x) (Some d) h =
      let k : now < min d x = leb-false (min d x) now h in (lt-leb x now (omega arith), lt-leb d now (omega arith))

  -- none of a table's records is due
  none_due : {R : Type 0} (test : R → Bool) (time : R → Option ℕ) → ((r : R) → is_due now (time r) ≡ false → test r ≡ false) → (l : List R) → is_due now (least (map time l)) ≡ false
      → filter test l ≡ []
  none_due test time agrees [] h = refl
  none_due test time agrees (r ∷ l) h =
      let parts = both_later (time r) (least (map time l)) h in
      let rest = none_due test time agrees l parts.1 in
      rw (agrees r parts.0, rest)

  bound_due : (b : Bool) (at : ℕ) → is_due now (cond b (Some at) None) ≡ false → (b && leb at now) ≡ false
  bound_due true at h = h
  bound_due false at h = refl

  module _ (c : Turn) (lent : List ℕ) where
    no_requests : is_due now (least (map (λ t. Some t.next) c.txns)) ≡ false → due_of now c ≡ []
    no_requests h = ap (map (λ t. t.msg.tid)) (none_due (λ t. leb t.next now) (λ t. Some t.next) (λ t k. k) c.txns h)

    by_closing : (b : Bool) → c.closing ≡ b → is_due now (next_deadline c) ≡ false → poll now (begin c lent) ≡ begin c lent
    unfolding poll poll_refresh poll_perms poll_chans
    by_closing true e h =
        let d : is_due now (least (map (λ t. Some t.next) c.txns)) ≡ false = rw e at h in
        rw (no_requests d, e)
    by_closing false e h =
        let all = rw e at h in
        let chans = both_later (least (map (λ x. cond x.bound (Some x.refresh_at) None) c.chans)) (consider (least (map (λ p. p.refresh) c.perms)) (consider c.refresh_at (least (map (λ t. Some t.next) c.txns)))) all in
        let perms = both_later (least (map (λ p. p.refresh) c.perms)) (consider c.refresh_at (least (map (λ t. Some t.next) c.txns))) chans.1 in
        let refresh = both_later c.refresh_at (least (map (λ t. Some t.next) c.txns)) perms.1 in
        rw (
          no_requests refresh.1,
          e,
          refresh.0,
          none_due (λ p. is_due now p.refresh) (λ p. p.refresh) (λ p k. k) c.perms perms.0,
          none_due (λ x. x.bound && leb x.refresh_at now) (λ x. cond x.bound (Some x.refresh_at) None) (λ x k. bound_due x.bound x.refresh_at k) c.chans chans.0,
        )

    pub idle_run : is_due now (next_deadline c) ≡ false → poll now (begin c lent) ≡ begin c lent
    idle_run h = by_closing c.closing refl h

-- the answer then
pub idle_meets : (client : Client) (now : ℕ) (lent out : List ℕ) → now ≤ 9007199254740991 → is_due now (next_deadline (view client)) ≡ false
    → Meets client (settled (number (given_of now lent (length out)) (view client) (poll now (begin (view client) lent))) (view client) (poll now (begin (view client) lent))) out (done (quiet client)) out
idle_meets client now lent out h e =
    let s = poll now (begin (view client) lent) in
    let g = given_of now lent (length out) in
    let still = idle_run now (view client) lent e in
    accepted_meets client g s out (done (quiet client)) out
    (nothing_used g (view client) s h (omega arith) (ap (λ (r : Run). r.report) still) (ap (λ (r : Run). r.out) still)) refl (rw still) (λ t. t) (rw still) (rw still) (rw still) (rw still) (rw still)
