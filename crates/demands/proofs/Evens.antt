-- Two clients of the definition that differ in password and key alone answer calls that are alike with the same number and events, and with
-- packets that are alike, and differ in no more afterwards.
use Rattle.std.specs.Prelude.{Option}
use mathlib.Core.Path.{◌≡◌, refl, ap, sym, ◌∙◌}
use mathlib.Core.Bool.{Bool, true, false}
use mathlib.Core.List.{List, [], ◌∷◌}
use Prim.Native.Nat.{ℕ, ◌+◌, ◌≤◌, ◌<◌}
use native.Mathlib.Omega.{arith}
use lib.ListN.{length, length-append}
use lib.Dec.{leb, eqb}
use borrow.Author.Tests.{leb-false, eqb-true, eqb-false, ltb-false}
use Rattle.turn_state.specs.State.{Turn, Run, begin, ids_in}
use Rattle.turn_state.specs.Source.{handle}
use Rattle.turn_state.specs.Number.{Given, Outcome, number, framed}
use Rattle.turn_state.specs.Sequence.{Call, Start, Handle, Send, Poll, TransportFailed, Close, outcome}
use Rattle.turn_state.specs.View.{Each}
use Rattle.turn.proofs.Kept.{lent_kept}
use Rattle.turn.proofs.Refused.{Unmoved, refused, refusal, done, given_of, run_of, no_condition, late, here, there}
use Rattle.demands.specs.History.{Pairs, none as no_pairs, pair}
use Rattle.demands.specs.Alike.{Alike, AlikeCalls, same as same_call, alike, checked}
use Rattle.demands.proofs.Reading.{ReadAlike, read_alike}
use Rattle.demands.proofs.Writing.{keys_alike}
use Rattle.demands.proofs.Levels.{twin, Held, Enough, Sealed, same, keyed, Fit, Level, level, fit_weaken, size_of, start_level, send_level, poll_level, lost_level, close_level}
use Rattle.demands.proofs.Handling.{checks, handled_level}

abbrev pub with_secrets : Turn → List ℕ → Option (List ℕ) → Turn
with_secrets c pw k = (twin (begin c []) pw k []).self

pub data Even (c : Turn) : Turn → Type 0 where
  even : (pw : List ℕ) (k : Option (List ℕ)) → Held c.key k → Each (Fit (Unit {0})) c.txns → Even c (with_secrets c pw k)

begin_level : {c d : Turn} → Even c d → (ids : List ℕ) → Level (begin c ids) (begin d ids)
begin_level (even pw k h g) ids = level pw k [] h no_pairs (fit_weaken (λ e. tt) g)

handle_run : (now : ℕ) (a b ids : List ℕ) {c d : Turn} → Even c d → ReadAlike a b → checks c a ≡ checks d b → Level (handle now a (begin c ids)) (handle now b (begin d ids))
handle_run now a b ids {c = c} (even pw k h g) r p = handled_level now a b r (begin c ids) pw k [] h no_pairs (fit_weaken (λ e. tt) g) p

in_time : (c : Turn) (now : ℕ) (buf ids : List ℕ) (room : ℕ) → leb now 9007199254740991 ≡ true → checked c (Handle now buf ids room) ≡ checks c buf
in_time c now buf ids room e = rw e

method_level : {x y : Call} → AlikeCalls x y → {c d : Turn} → Even c d → checked c x ≡ checked d y → leb (given_of x).time 9007199254740991 ≡ true → Level (run_of c x) (run_of d y)
method_level (same_call {call = Start now ids room}) e p t = start_level now (begin_level e ids)
method_level (same_call {call = Handle now buf ids room}) {c = c} {d = d} e p t =
    handle_run now buf buf ids e (read_alike buf buf refl) (sym (in_time c now buf ids room t) ∙ p ∙ in_time d now buf ids room t)
method_level (same_call {call = Send now peer body ids room}) e p t = send_level now peer body (begin_level e ids)
method_level (same_call {call = Poll now ids room}) e p t = poll_level now (begin_level e ids)
method_level (same_call {call = TransportFailed}) e p t = lost_level (begin_level e [])
method_level (same_call {call = Close ids room}) e p t = close_level (begin_level e ids)
method_level (alike {now = now} {buf = a} {dat = b} {ids = ids} {room = room} h) {c = c} {d = d} e p t =
    handle_run now a b ids e (read_alike a b h) (sym (in_time c now a ids room t) ∙ p ∙ in_time d now b ids room t)

same_given : {x y : Call} → AlikeCalls x y → given_of x ≡ given_of y
same_given same_call = refl
same_given (alike h) = refl

-- packets: lengths for every run, and likeness where the ids were enough
sealed_size : {E : Type 0} {p q : List ℕ} → Sealed E p q → length p ≡ length q
sealed_size same = refl
sealed_size (keyed typ id l k m t f) = size_of typ id _ k ∙ sym (size_of typ id _ m)

framed_size : {E : Type 0} {p q : List (List ℕ)} → Pairs (Sealed E) p q → length (framed p) ≡ length (framed q)
framed_size no_pairs = refl
framed_size (pair {a = a} {b = b} {l = l} {m = m} x more) =
    let e : length a ≡ length b = sealed_size x in
    let r : length (framed l) ≡ length (framed m) = framed_size more in
    let u : length (framed (a ∷ l)) ≡ 3 + length a + length (framed l) = simp length-append (omega arith) in
    let v : length (framed (b ∷ m)) ≡ 3 + length b + length (framed m) = simp length-append (omega arith) in
    omega arith

sealed_alike : {E : Type 0} → E → {p q : List ℕ} → Sealed E p q → Alike p q
sealed_alike e same = refl
sealed_alike e (keyed typ id l k m t f) = keys_alike typ id l t (f e) k m

all_alike : {E : Type 0} → E → {p q : List (List ℕ)} → Pairs (Sealed E) p q → Pairs Alike p q
all_alike e no_pairs = no_pairs
all_alike e (pair x more) = pair (sealed_alike e x) (all_alike e more)

number_level : (g : Given) {c d : Turn} → Even c d → {s t : Run} → Level s t → number g c s ≡ number g d t
unfolding number
number_level g (even pw k h f) (level pw' k' o h' ps f') = rw (framed_size ps)

-- what two answers share
pub record Both (o p : Outcome) : Type 0 where
  pub refusal : o.refusal ≡ p.refusal
  pub events : o.events ≡ p.events
  pub packets : Pairs Alike o.packets p.packets
  pub len : length (framed o.packets) ≡ length (framed p.packets)
  pub client : Even o.client p.client

both_refused : {c d : Turn} → Even c d → (x y : Call) → ¬ ((outcome c x).refusal ≡ 0) → (outcome c x).refusal ≡ (outcome d y).refusal → Both (outcome c x) (outcome d y)
both_refused {c = c} {d = d} e x y z n =
    let u : Unmoved c (outcome c x) = refused c x z in
    let v : Unmoved d (outcome d y) = refused d y (λ w. z (n ∙ w)) in
    let ps : (outcome c x).packets ≡ (outcome d y).packets = u.packets ∙ sym v.packets in
    record {
      refusal = n;
      events = u.events ∙ sym v.events;
      packets = rw (u.packets, v.packets) no_pairs;
      len = ap (λ (p : List (List ℕ)). length (framed p)) ps;
      client = rw (u.client, v.client) e;
    }

run_both : {s t : Run} → Level s t → Enough s → Both (record { refusal = 0; client = s.self; events = s.ev; packets = s.out }) (record { refusal = 0; client = t.self; events = t.ev; packets = t.out })
run_both (level pw k o h ps g) e =
    record { refusal = refl; events = refl; packets = all_alike e ps; len = framed_size ps; client = even pw k h (fit_weaken (λ u. e) g) }

pub both : {c d : Turn} → Even c d → {x y : Call} → AlikeCalls x y → checked c x ≡ checked d y → Both (outcome c x) (outcome d y)
both {c = c} {d = d} e {x = x} {y = y} a p = by (leb (given_of x).time 9007199254740991) refl
  where
    by : (b : Bool) → leb (given_of x).time 9007199254740991 ≡ b → Both (outcome c x) (outcome d y)
    by false t =
        let l : 9007199254740991 < (given_of x).time = leb-false (given_of x).time 9007199254740991 t in
        let m : 9007199254740991 < (given_of y).time = rw (← (same_given a)) l in
        let n : (outcome c x).refusal ≡ 1 = refusal c x ∙ late (given_of x) c (run_of c x) l in
        let k : (outcome d y).refusal ≡ 1 = refusal d y ∙ late (given_of y) d (run_of d y) m in
        both_refused e x y (λ z. omega arith) (n ∙ sym k)
    by true t = zero (eqb (number (given_of x) c (run_of c x)) 0) refl
      where
        v : Level (run_of c x) (run_of d y)
        v = method_level a e p t

        n : number (given_of x) c (run_of c x) ≡ number (given_of y) d (run_of d y)
        n = number_level (given_of x) e (method_level a e p t) ∙ ap (λ (g : Given). number g d (run_of d y)) (same_given a)

        zero : (q : Bool) → eqb (number (given_of x) c (run_of c x)) 0 ≡ q → Both (outcome c x) (outcome d y)
        zero true q =
            let z : number (given_of x) c (run_of c x) ≡ 0 = eqb-true (number (given_of x) c (run_of c x)) 0 q in
            let enough : length (run_of c x).report.used ≤ ids_in (given_of x).ids =
            ltb-false (ids_in (given_of x).ids) (length (run_of c x).report.used) (no_condition (given_of x) c (run_of c x) z 6 _ (there (there (there (there here))))) in
            rw (done c x z, done d y (sym n ∙ z)) (run_both v (rw (lent_kept x (begin c (given_of x).ids)) enough))
        zero false q = both_refused e x y (λ w. eqb-false (number (given_of x) c (run_of c x)) 0 q (sym (refusal c x) ∙ w)) (refusal c x ∙ n ∙ sym (refusal d y))
