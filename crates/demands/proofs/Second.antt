-- Demand 2: a step that is not refused comes to what the Rust's method comes to, and a refused one leaves the client.
use mathlib.Core.Path.{◌≡◌, refl, ap, sym, subst, ◌∙◌}
use mathlib.Core.Bool.{Bool, true, false, cond}
use mathlib.Core.List.{List, [], ◌∷◌, ◌++◌, map}
use Prim.Native.Nat.{ℕ, ◌≤◌}
use native.Mathlib.Omega.{arith}
use lib.ListN.{length, drop}
use lib.Dec.{eqb}
use borrow.Author.Tests.{eqb-true, ltb-false}
use Rattle.turn_state.specs.declared.Client.{Client}
use Rattle.turn_state.specs.State.{Turn, Run, begin, ids_in}
use Rattle.turn_state.specs.Source.{peer_of, new, next_deadline}
use Rattle.turn_state.specs.Number.{Outcome, number, framed, open_number, opened}
use Rattle.turn_state.specs.Sequence.{Call, Start, Handle, Send, Poll, TransportFailed, Close, outcome}
use Rattle.turn_state.specs.View.{view, told}
use Rattle.turn.proofs.Keys.{none_yet}
use Rattle.turn.proofs.Numbers.{Numbered, call_kept, opened_numbered}
use Rattle.turn.proofs.Refused.{given_of, run_of, refusal, done, no_condition, here, there, opening_done}
use Rattle.demands.specs.History.{Step, Allowed, Along, end, next, Pairs, none, pair}
use Rattle.demands.specs.Rust.{named, Rust, rust_method, ids_of, rust_call, rust_new, rust}
use Rattle.demands.specs.Demand2.{times, Shows, accepted, Demand2}
use Rattle.demands.proofs.First.{step_numbered}
use Rattle.demands.proofs.Names.{UniqueNames, Tied, with_names, method_tied}
use Rattle.demands.proofs.Events.{OneEvent, one_event}

same_ids : (call : Call) → ids_of call ≡ (given_of call).ids
same_ids (Start now ids room) = refl
same_ids (Handle now buf ids room) = refl
same_ids (Send now peer body ids room) = refl
same_ids (Poll now ids room) = refl
same_ids TransportFailed = refl
same_ids (Close ids room) = refl

pub never : {A : Type 0} → ◌≡◌ {A = ℕ} 0 1 → A
never e = let f : ⊥ = omega arith in absurd f

-- the Rust's client and the code's mean the same, and `by_num` names the peers of its channels
pub record Follows (c : Client) (r : Rust) : Type 0 where
  pub turn : view c ≡ r.turn
  pub names : (num : ℕ) → named num r.by_num ≡ peer_of num r.turn.chans
  pub unique : UniqueNames r.by_num
  pub numbered : Numbered 0x4000 r.turn

module _ (c : Client) (s : Step) (r : Rust) (f : Follows c r) (a : Allowed c s) (z : s.answer.refusal ≡ 0) where
  run : Run
  run = run_of r.turn s.call

  tied : Tied (rust_method s.call (with_names (begin r.turn (ids_of s.call)) r.by_num)) (run_of r.turn s.call)
  tied =
      rw (same_ids s.call)
      (method_tied s.call (begin r.turn (given_of s.call).ids) r.by_num f.numbered.2 (f.names, f.unique))

  due : outcome (view c) s.call ≡ record { refusal = 0; client = (run_of r.turn s.call).self; events = (run_of r.turn s.call).ev; packets = (run_of r.turn s.call).out }
  due =
      let e : outcome (view c) s.call ≡ outcome r.turn s.call = ap (λ (t : Turn). outcome t s.call) f.turn in
      let zero : (outcome r.turn s.call).refusal ≡ 0 = sym (ap (λ (o : Outcome). o.refusal) e) ∙ sym a.contract.refusal ∙ z in
      e ∙ done r.turn s.call (sym (refusal r.turn s.call) ∙ zero)

  same_run : (rust_method s.call (with_names (begin r.turn (ids_of s.call)) r.by_num)).run ≡ run_of r.turn s.call
  same_run = tied.0

  -- the number is 0, so that the ids lent were enough
  enough : length (run_of r.turn s.call).report.used ≤ ids_in (given_of s.call).ids
  enough =
      let none-holds : number (given_of s.call) r.turn (run_of r.turn s.call) ≡ 0 =
      sym (refusal r.turn s.call) ∙ sym (ap (λ (t : Turn). (outcome t s.call).refusal) f.turn) ∙ sym a.contract.refusal ∙ z in
      ltb-false (ids_in (given_of s.call).ids) (length (run_of r.turn s.call).report.used)
      (no_condition (given_of s.call) r.turn (run_of r.turn s.call) none-holds 6 _ (there (there (there (there here)))))

  pub followed : Follows s.answer.client (rust_call r s.call).client
  followed =
      record {
        turn = a.contract.client ∙ ap (λ (o : Outcome). o.client) due ∙ sym (ap (λ (x : Run). x.self) same_run);
        names = λ num. tied.1.0 num ∙ sym (ap (λ (x : Run). peer_of num x.self.chans) same_run);
        unique = tied.1.1;
        numbered =
            subst (Numbered 0x4000) (ap (λ (t : Turn). (outcome t s.call).client) (sym f.turn) ∙ ap (λ (o : Outcome). o.client) due ∙ sym (ap (λ (x : Run). x.self) same_run))
            (call_kept 0x4000 r.turn s.call f.numbered);
      }

  pub shown : Shows s (rust_call r s.call)
  shown =
      let packets : (outcome (view c) s.call).packets ≡ (rust_call r s.call).packets = ap (λ (o : Outcome). o.packets) due ∙ sym (ap (λ (x : Run). x.out) same_run) in
      let events : (outcome (view c) s.call).events ≡ (rust_call r s.call).events = ap (λ (o : Outcome). o.events) due ∙ sym (ap (λ (x : Run). x.ev) same_run) in
      let whole : OneEvent (rust_call r s.call).events = subst OneEvent (sym (ap (λ (x : Run). x.ev) same_run)) (one_event r.turn s.call) in
      let m = a.contract in
      let event : s.answer.event ≡ told (rust_call r s.call).events = m.event ∙ ap told events in
      let count : s.answer.events ≡ length (rust_call r s.call).events = m.events ∙ ap length events in
      record {
        output =
            m.output ∙ ap (λ (n : ℕ). framed (outcome (view c) s.call).packets ++ drop n s.lent) (sym m.len)
            ∙ ap (λ (p : List (List ℕ)). framed p ++ drop s.answer.len s.lent) packets;
        len = m.len ∙ ap (λ (p : List (List ℕ)). length (framed p)) packets;
        packets = m.packets ∙ ap length packets;
        event = event;
        events = whole ∙ ap (λ (n : ℕ). times n (told (rust_call r s.call).events)) (sym count) ∙ ap (times s.answer.events) (sym event);
        count = count;
        deadline = a.deadline ∙ ap (λ (t : Turn). next_deadline t) followed.turn;
        client = followed.turn;
        by_num = λ num. followed.names num ∙ ap (λ (t : Turn). peer_of num t.chans) (sym followed.turn);
        drawn = rw (ap (λ (x : Run). length x.report.used) same_run, same_ids s.call) enough;
      }

-- a refused step leaves the client
unmoved : (c : Client) (s : Step) (r : Rust) → Follows c r → Allowed c s → ¬ (s.answer.refusal ≡ 0) → Follows s.answer.client r
unmoved c s r f a z =
    let same : s.answer.client ≡ c = ((step_numbered c s a).refused z).client in
    record { turn = ap view same ∙ f.turn; names = f.names; unique = f.unique; numbered = f.numbered }

pub follow : (c : Client) (steps : List Step) (r : Rust) → Follows c r → Along Allowed c steps → Pairs Shows (accepted steps) (rust r (map (λ s. s.call) (accepted steps)))
follow c [] r f end = none
follow c (s ∷ more) r f (next a rest) = by (eqb s.answer.refusal 0) refl (λ q g. follow s.answer.client more q g rest)
  where
    by : (b : Bool) → eqb s.answer.refusal 0 ≡ b → ((q : Rust) → Follows s.answer.client q → Pairs Shows (accepted more) (rust q (map (λ s. s.call) (accepted more))))
        → Pairs Shows (cond b (s ∷ accepted more) (accepted more)) (rust r (map (λ s. s.call) (cond b (s ∷ accepted more) (accepted more))))
    by true e later =
        let z : s.answer.refusal ≡ 0 = eqb-true s.answer.refusal 0 e in
        pair (shown c s r f a z) (later (rust_call r s.call).client (followed c s r f a z))
    by false e later = later r (unmoved c s r f a (λ z. let y : true ≡ false = sym (ap (λ (n : ℕ). eqb n 0) z) ∙ e in let w : ◌≡◌ {A = ℕ} 0 1 = cc in never w))

pub demand2 : Demand2
demand2 username password reliable o steps h z =
    let zero : open_number username password ≡ 0 = sym h.opening.refusal ∙ z in
    let fresh : opened username password reliable ≡ new username password reliable = opening_done username password reliable zero in
    follow o.client steps (rust_new username password reliable)
    (record {
      turn = h.opening.client ∙ fresh;
      names = λ num. refl;
      unique = none_yet;
      numbered = subst (Numbered 0x4000) fresh (opened_numbered username password reliable);
    })
    h.made
