-- A run that used nothing has the number 0. What the lost transport answers: nothing where an allocation was told of, else its failure.
use mathlib.Core.Path.{◌≡◌, refl, ap, ◌∙◌}
use mathlib.Core.Bool.{Bool, true, false, cond, ◌&&◌}
use mathlib.Core.List.{List, []}
use Prim.Native.Nat.{ℕ, ◌≤◌}
use native.Mathlib.Omega.{arith}
use borrow.Author.Tests.{le-ltb}
use Rattle.turn_state.specs.declared.Requests.{Requests}
use Rattle.turn_state.specs.declared.Client.{Client}
use Rattle.turn_state.specs.declared.Answer.{Answer}
use Rattle.turn_state.specs.declared.Event.TheVariants.{Failed}
use Rattle.turn_state.specs.declared.Reason.TheVariants.{Lost}
use Rattle.turn_state.specs.Maps.{is_some}
use Rattle.turn_state.specs.State.{Turn, Report, Run, begin, on_self, tell, set_txns, set_closing, set_done, ids_in}
use Rattle.turn_state.specs.Source.{transport_failed}
use Rattle.turn_state.specs.Number.{Given, given_of, Outcome, number, settled}
use Rattle.turn_state.specs.Sequence.{outcome, TransportFailed}
use Rattle.turn_state.specs.View.{view, held, address_in, Tidy, Meets, done, quiet, telling}
use Rattle.turn_open.specs.Fresh.{blank_requests}
use Rattle.turn_open.proofs.Blank.{blank_tidy}

abbrev pub none_used : Report
none_used = record { used = []; added = []; texts = []; bodies = [] }

-- a run that used nothing and sends nothing
pub nothing_used : (g : Given) (before : Turn) (s : Run) → g.time ≤ 9007199254740991 → g.data_len ≤ 2048 → s.report ≡ none_used → s.out ≡ []
    → number g before s ≡ 0
unfolding number
nothing_used g before s t d r o =
    rw (r, o, le-ltb 9007199254740991 g.time t, le-ltb 2048 g.data_len d, le-ltb (ids_in g.ids) 0 (omega arith), le-ltb g.room 0 (omega arith))

-- what is held by a flag is there by that flag
pub some_held : {A : Type 0} (b : Bool) (a : A) → is_some (held b a) ≡ b
some_held true a = refl
some_held false a = refl

lost_given : Given
lost_given = given_of 0 [] 0

-- the answer by the run that the failure makes
settles : (before : Turn) (s : Run) → transport_failed (begin before []) ≡ s → s.report ≡ none_used → s.out ≡ []
    → outcome before TransportFailed ≡ record { refusal = 0; client = s.self; events = s.ev; packets = [] }
unfolding lost_given
settles before s e r o =
    ap (λ (x : Run). settled (number lost_given before x) before x) e
    ∙ ap (λ (n : ℕ). settled n before s) (nothing_used lost_given before s (omega arith) (omega arith) r o)
    ∙ ap {B = Outcome} (λ (p : List (List ℕ)). record { refusal = 0; client = s.self; events = s.ev; packets = p }) o

-- the client that has nothing pending and is closing
abbrev pub closed : Client → Requests → Bool → Client
closed c q is-done =
    record {
      password = c.password;
      credentials = c.credentials;
      requests = q;
      permissions = c.permissions;
      channels = c.channels;
      relay = c.relay;
      refresh_at = c.refresh_at;
      next_num = c.next_num;
      has_relay = c.has_relay;
      has_refresh = c.has_refresh;
      done = is-done;
      closing = true;
      reliable = c.reliable;
    }

module _ (c : Client) where
  closed_tidy : (is-done : Bool) → Tidy c → Tidy (closed c blank_requests is-done)
  closed_tidy is-done t =
      record {
        password = t.password;
        credentials = t.credentials;
        requests = blank_tidy _ _ 64;
        permissions = t.permissions;
        channels = t.channels;
        relay = t.relay;
        no_refresh = t.no_refresh;
      }

  after : Run
  after = on_self (λ x. set_closing true (set_txns [] x)) (begin (view c) [])

  branch : Bool → Run
  branch b = cond b after (tell (Failed Lost) (on_self (set_done true) after))

  fails : (b : Bool) → (c.done && c.has_relay) ≡ b → transport_failed (begin (view c) []) ≡ branch b
  unfolding transport_failed branch after
  fails b h = ap branch (ap (λ (r : Bool). c.done && r) (some_held c.has_relay (address_in c.relay)) ∙ h)

  pub lost_quiet : (q : Requests) (r : Answer) → q ≡ blank_requests → (c.done && c.has_relay) ≡ true → r ≡ quiet (closed c q c.done)
      → Meets c (outcome (view c) TransportFailed) [] (done r) []
  unfolding branch after
  lost_quiet q r e h a =
      rw (a, e, settles (view c) (branch true) (fails true h) refl refl)
      (record {
        refusal = refl;
        client = refl;
        kept = tt;
        tidy = closed_tidy c.done;
        events = refl;
        event = refl;
        packets = refl;
        len = refl;
        output = refl;
      })

  pub lost_told : (q : Requests) (r : Answer) → q ≡ blank_requests → (c.done && c.has_relay) ≡ false → r ≡ telling (closed c q true) (Failed Lost)
      → Meets c (outcome (view c) TransportFailed) [] (done r) []
  unfolding branch after
  lost_told q r e h a =
      rw (a, e, settles (view c) (branch false) (fails false h) refl refl)
      (record {
        refusal = refl;
        client = refl;
        kept = tt;
        tidy = closed_tidy true;
        events = refl;
        event = refl;
        packets = refl;
        len = refl;
        output = refl;
      })
