-- What was given fixes a history, and every client in it is tidy. Of two equal replies the code's results are equal.
use mathlib.Core.Path.{◌≡◌, refl, ap, sym, subst, ◌∙◌}
use mathlib.Core.Bool.{Bool}
use mathlib.Core.List.{List, [], ◌∷◌}
use Prim.Native.Nat.{ℕ}
use Rattle.std.specs.Prelude.{cond, length, eqb, Option, None, Some, Result, Ok, Err, unwrap_or}
use Rattle.std.specs.Option.{option_to_list}
use Rattle.turn_state.specs.declared.Answer.{Answer}
use Rattle.turn_state.specs.declared.Client.{Client}
use Rattle.turn_state.specs.declared.Refusal.{Refusal}
use Rattle.turn_state.specs.declared.Refusal.TheVariants.{Late, LongText, IllFormed, LongBody, Full, FewIds, TakenId, SmallOutput}
use Rattle.turn_state.specs.Source.{next_deadline}
use Rattle.turn_state.specs.Sequence.{Call, outcome}
use Rattle.turn_state.specs.Number.{number_of}
use Rattle.turn_state.specs.View.{view, Tidy, Reply, Allows, reply_of}
use Rattle.turn_state.proofs.Same.{same_client, same_answer}
use Rattle.turn_open.specs.Opening.{Opened, opened_of}
use Rattle.demands.proofs.Second.{never}
use Rattle.demands.specs.History.{Step, Allowed, Along, end, next, History, Pairs, none, pair, SameGiven, OneHistory, AllTidy}

tidy_along : {c : Client} {steps : List Step} → Tidy c → Along Allowed c steps → Along (λ b s. Tidy s.answer.client) c steps
tidy_along t end = end
tidy_along t (next a more) = let u = a.contract.tidy t in next u (tidy_along u more)

pub all_tidy : AllTidy
all_tidy username password reliable o steps h = (h.opening.tidy, tidy_along h.opening.tidy h.made)

one_opened : (username password : List ℕ) (reliable : Bool) (o p : Opened) (steps others : List Step)
    → History username password reliable o steps → History username password reliable p others → o ≡ p
one_opened username password reliable o p steps others h k =
    let client : o.client ≡ p.client =
    same_client o.client p.client h.sized k.sized h.opening.tidy k.opening.tidy (h.opening.client ∙ sym k.opening.client) in
    let refusal : o.refusal ≡ p.refusal = h.opening.refusal ∙ sym k.opening.refusal in
    λ i. record { client = client i; refusal = refusal i }

one_step : (c : Client) (s t : Step) → Tidy c → Allowed c s → Allowed c t → SameGiven s t → s ≡ t
one_step c s t tidy a b e =
    let given : Allows c s.call s.lent t.answer t.left =
    subst (λ (call : Call). Allows c call s.lent t.answer t.left) (sym e.0)
    (subst (λ (out : List ℕ). Allows c t.call out t.answer t.left) (sym e.1) b.contract) in
    let same : (s.answer ≡ t.answer) × (s.left ≡ t.left) =
    same_answer c (outcome (view c) s.call) s.lent s.answer t.answer s.left t.left a.contract given tidy a.sized b.sized in
    let deadline : s.deadline ≡ t.deadline =
    a.deadline ∙ ap (λ (r : Reply). next_deadline (view r.client)) same.0 ∙ sym b.deadline in
    λ i. record { call = e.0 i; lent = e.1 i; answer = same.0 i; left = same.1 i; deadline = deadline i }

one_steps : (c : Client) (steps others : List Step) → Tidy c → Along Allowed c steps → Along Allowed c others → Pairs SameGiven steps others → steps ≡ others
one_steps c [] [] tidy a b none = refl
one_steps c [] (t ∷ rest) tidy a b e = elim e [ ]
one_steps c (s ∷ more) [] tidy a b e = elim e [ ]
one_steps c (s ∷ more) (t ∷ rest) tidy (next a m) (next b n) (pair e es) =
    let same : s ≡ t = one_step c s t tidy a b e in
    let moved : Along Allowed s.answer.client rest = subst (λ (u : Step). Along Allowed u.answer.client rest) (sym same) n in
    let tail : more ≡ rest = one_steps s.answer.client more rest (a.contract.tidy tidy) m moved es in
    λ i. same i ∷ tail i

pub one_history : OneHistory
one_history username password reliable o p steps others h k e =
    let same : o ≡ p = one_opened username password reliable o p steps others h k in
    let moved : Along Allowed o.client others = subst (λ (q : Opened). Along Allowed q.client others) (sym same) k.made in
    (same, one_steps o.client steps others h.opening.tidy h.made moved e)

-- the refusal of a number; there is none of 0
named : ℕ → Option Refusal
named n =
    cond (eqb n 1) (Some Late)
    (cond (eqb n 2) (Some LongText)
    (cond (eqb n 3) (Some IllFormed)
    (cond (eqb n 4) (Some LongBody)
    (cond (eqb n 5) (Some Full)
    (cond (eqb n 6) (Some FewIds)
    (cond (eqb n 7) (Some TakenId)
    (cond (eqb n 8) (Some SmallOutput)
    None)))))))

named_number : (r : Refusal) → named (number_of r) ≡ Some r
unfolding named
named_number Late = refl
named_number LongText = refl
named_number IllFormed = refl
named_number LongBody = refl
named_number Full = refl
named_number FewIds = refl
named_number TakenId = refl
named_number SmallOutput = refl

same_number : (r s : Refusal) → number_of r ≡ number_of s → r ≡ s
same_number r s e =
    let somes : Some r ≡ Some s = sym (named_number r) ∙ ap named e ∙ named_number s in
    λ i. unwrap_or (somes i) r

-- no refusal has the number of a done call
none_of_0 : {A : Type 0} (r : Refusal) → 0 ≡ number_of r → A
unfolding named
none_of_0 r e =
    let none : None ≡ Some r = ap named e ∙ named_number r in
    never (λ i. length (option_to_list (none i)))

-- a call's reply is that of one result alone
pub same_result : (before : Client) (r s : Result Answer Refusal) → reply_of before r ≡ reply_of before s → r ≡ s
same_result before (Ok a) (Ok b) e =
    λ i. Ok (record { client = (e i).client; event = (e i).event; events = (e i).events; packets = (e i).packets; len = (e i).len })
same_result before (Ok a) (Err s) e = none_of_0 s (λ i. (e i).refusal)
same_result before (Err r) (Ok b) e = none_of_0 r (λ i. (sym e i).refusal)
same_result before (Err r) (Err s) e = λ i. Err (same_number r s (λ j. (e j).refusal) i)

-- and so is an opening's
pub same_opening : (r s : Result Client Refusal) → opened_of r ≡ opened_of s → r ≡ s
same_opening (Ok a) (Ok b) e = λ i. Ok (e i).client
same_opening (Ok a) (Err s) e = none_of_0 s (λ i. (e i).refusal)
same_opening (Err r) (Ok b) e = none_of_0 r (λ i. (sym e i).refusal)
same_opening (Err r) (Err s) e = λ i. Err (same_number r s (λ j. (e j).refusal) i)
