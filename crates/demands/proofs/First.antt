-- Demand 1: what each contract says, along a history.
use mathlib.Core.Path.{◌≡◌, ap, subst, ◌∙◌}
use mathlib.Core.Bool.{Bool, true, false, cond, ◌||◌, not}
use mathlib.Core.List.{List, [], ◌++◌}
use Prim.Native.Nat.{ℕ, ◌≤◌}
use native.Mathlib.Omega.{arith}
use lib.ListN.{length, drop}
use lib.Dec.{ltb, eqb}
use borrow.Author.Tests.{ne_eqb}
use Rattle.stun_text.specs.Utf8.{well_formed}
use Rattle.turn_state.specs.declared.Client.{Client}
use Rattle.turn_state.specs.Source.{next_deadline}
use Rattle.turn_state.specs.State.{Turn, Run, ids_in}
use Rattle.turn_state.specs.Number.{Given, above, full, clash, pending, number, framed, open_number}
use Rattle.turn_state.specs.Sequence.{outcome}
use Rattle.turn_state.specs.View.{view, either, told}
use Rattle.turn.proofs.Refused.{Unmoved, refused, refusal, given_of, run_of, opening_refused}
use Rattle.demands.specs.History.{Step, Allowed, Along, end, next}
use Rattle.demands.specs.Demand1.{Unchanged, Numbered, Demand1}

-- the first of a list of conditions is one of their numbers
chosen : (b : Bool) (n m : ℕ) → n ≤ 8 → m ≤ 8 → cond b n m ≤ 8
chosen true n m p q = p
chosen false n m p q = q

pub number_small : (g : Given) (before : Turn) (s : Run) → number g before s ≤ 8
unfolding number
number_small g before s =
    by (ltb 9007199254740991 g.time) (above 763 s.report.texts) (ltb 2048 g.data_len || above 65535 s.report.bodies) (full s.report.added)
    (ltb (ids_in g.ids) (length s.report.used)) (clash (pending before) s.report.used) (ltb g.room (length (framed s.out)))
  where
    by : (a b c d e f h : Bool) → cond a 1 (cond b 2 (cond c 4 (cond d 5 (cond e 6 (cond f 7 (cond h 8 0)))))) ≤ 8
    by a b c d e f h =
        chosen a 1 _ (omega arith) (chosen b 2 _ (omega arith) (chosen c 4 _ (omega arith) (chosen d 5 _ (omega arith) (chosen e 6 _ (omega arith)
        (chosen f 7 _ (omega arith) (chosen h 8 0 (omega arith) (omega arith)))))))

opening_small : (username password : List ℕ) → open_number username password ≤ 3
opening_small username password = by (ltb 508 (length username) || ltb 256 (length password)) (not (well_formed username) || not (well_formed password))
  where
    by : (a b : Bool) → cond a 2 (cond b 3 0) ≤ 3
    by true b = omega arith
    by false true = omega arith
    by false false = omega arith

-- where a refusal is not 0, the answer's client is the one before
handed_back : (n : ℕ) (a b : Client) → ¬ (n ≡ 0) → either (eqb n 0) (Unit {0}) (a ≡ b) → a ≡ b
handed_back n a b r h = subst (λ (z : Bool). either z (Unit {0}) (a ≡ b)) (ne_eqb n 0 r) h

pub step_numbered : (c : Client) (s : Step) → Allowed c s → Numbered c s
step_numbered c s a =
    record {
      number = a.contract.refusal;
      small = small;
      refused = nothing;
    }
  where
    small : s.answer.refusal ≤ 8
    small =
        let e : s.answer.refusal ≡ number (given_of s.call) (view c) (run_of (view c) s.call) = a.contract.refusal ∙ refusal (view c) s.call in
        rw e (number_small (given_of s.call) (view c) (run_of (view c) s.call))

    nothing : ¬ (s.answer.refusal ≡ 0) → Unchanged c s
    nothing r =
        let m = a.contract in
        let z : ¬ ((outcome (view c) s.call).refusal ≡ 0) = λ e. r (m.refusal ∙ e) in
        let u : Unmoved (view c) (outcome (view c) s.call) = refused (view c) s.call z in
        let same : s.answer.client ≡ c = handed_back (outcome (view c) s.call).refusal s.answer.client c z m.kept in
        let ps : framed (outcome (view c) s.call).packets ≡ [] = ap framed u.packets in
        record {
          client = same;
          output = m.output ∙ ap (λ (f : List ℕ). f ++ drop (length f) s.lent) ps;
          events = m.events ∙ ap length u.events;
          event = m.event ∙ ap told u.events;
          packets = m.packets ∙ ap length u.packets;
          len = m.len ∙ ap length ps;
          deadline = a.deadline ∙ ap (λ (x : Client). next_deadline (view x)) same;
        }

pub along : {P Q : Client → Step → Type 0} → ((c : Client) (s : Step) → P c s → Q c s) → {c : Client} {steps : List Step} → Along P c steps → Along Q c steps
along f end = end
along f (next {c = c} {s = s} h more) = next (f c s h) (along f more)

pub demand1 : Demand1
demand1 username password reliable o steps h =
    record {
      number = h.opening.refusal;
      small = rw h.opening.refusal (opening_small username password);
      refused = λ z. h.opening.client ∙ opening_refused username password reliable (λ e. z (h.opening.refusal ∙ e));
      each = along step_numbered h.made;
    }
