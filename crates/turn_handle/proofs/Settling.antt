-- A run that used nothing and sends nothing is answered by what it came to: one law for every such answer. Then the client without one
-- of its requests.
use Rattle.std.specs.Prelude.{Option, None, Some}
use Rattle.std.specs.Option.{option_to_list}
use mathlib.Core.Path.{◌≡◌, refl, ap, sym, subst, ◌∙◌}
use mathlib.Core.List.{List, []}
use Prim.Native.Nat.{ℕ, ◌≤◌}
use native.Mathlib.Omega.{arith}
use lib.ListN.{length}
use Rattle.turn_state.specs.declared.Client.{Client}
use Rattle.turn_state.specs.declared.Answer.{Answer}
use Rattle.turn_state.specs.declared.Event.{Event}
use Rattle.turn_state.specs.Maps.{remove}
use Rattle.turn_state.specs.State.{Txn, Turn, Run, begin, set_txns}
use Rattle.turn_state.specs.Source.{under_id}
use Rattle.turn_state.specs.Number.{given_of, number, settled}
use Rattle.turn_state.specs.View.{view, told, txns_in, Reply, done, quiet, Tidy, Meets}
use Rattle.turn_state.proofs.Answering.{accepted_meets}
use Rattle.turn_tables.specs.Rows.{position}
use Rattle.turn_tables.proofs.Laws.{remove_txn, tidy_removed_request}
use Rattle.turn_open.proofs.Lose.{none_used, nothing_used}
use Rattle.turn_retry.specs.Retry.{without}
use Rattle.turn_handle.specs.Handling.{saying, Settles, Quiet, lacking}

module _ (client : Client) (now : ℕ) (lent out : List ℕ) where
  -- what the call answers by a run
  abbrev pub MeetsRun : Run → Reply → List ℕ → Type 0
  MeetsRun s r after = Meets client (settled (number (given_of now lent (length out)) (view client) s) (view client) s) out r after

  pub settles_meets : (s : Run) (r : Answer) → now ≤ 9007199254740991 → Settles client s r → MeetsRun s (done r) out
  settles_meets s r h q =
      let g = given_of now lent (length out) in
      accepted_meets client g s out (done r) out (nothing_used g (view client) s h (omega arith) q.used q.silent) refl q.client q.tidy q.events q.event
      (rw q.silent q.packets) (rw q.silent q.len) (rw q.silent)

  pub meets_as : (s t : Run) (r : Reply) (after : List ℕ) → t ≡ s → MeetsRun s r after → MeetsRun t r after
  meets_as s t r after e m = subst (λ (x : Run). MeetsRun x r after) (sym e) m

-- by the client and the event that such a run comes to
pub settles_by : (client after : Client) (lent : List ℕ) (s : Run) (c : Turn) (event : Option Event) → s ≡ record { self = c; out = []; ev = option_to_list event; lent = lent; report = none_used }
    → view after ≡ c → (Tidy client → Tidy after) → Settles client s (saying after event)
settles_by client after lent s c None e ec tidy =
    record {
      used = ap (λ (x : Run). x.report) e;
      silent = ap (λ (x : Run). x.out) e;
      client = ec ∙ sym (ap (λ (x : Run). x.self) e);
      tidy = tidy;
      events = sym (ap (λ (x : Run). length x.ev) e);
      event = sym (ap (λ (x : Run). told x.ev) e);
      packets = refl;
      len = refl;
    }
settles_by client after lent s c (Some event) e ec tidy =
    record {
      used = ap (λ (x : Run). x.report) e;
      silent = ap (λ (x : Run). x.out) e;
      client = ec ∙ sym (ap (λ (x : Run). x.self) e);
      tidy = tidy;
      events = sym (ap (λ (x : Run). length x.ev) e);
      event = sym (ap (λ (x : Run). told x.ev) e);
      packets = refl;
      len = refl;
    }

-- nothing happens
pub still : (client : Client) (lent : List ℕ) (s : Run) → s ≡ begin (view client) lent → Settles client s (quiet client)
still client lent s e = settles_by client client lent s (view client) None e refl (λ t. t)

-- the request at i has left its table
module _ (client : Client) (id : List ℕ) (i : ℕ) (full : length client.requests.rows ≡ 64) (found : position (under_id id) (txns_in client.requests) ≡ Some i) where
  lacking_view : view (lacking client i) ≡ set_txns (remove (under_id id) (txns_in client.requests)) (view client)
  lacking_view = ap (λ (l : List Txn). set_txns l (view client)) (remove_txn client.requests full (under_id id) i found)

  lacking_tidy : Tidy client → Tidy (lacking client i)
  lacking_tidy t =
      record {
        password = t.password;
        credentials = t.credentials;
        requests = tidy_removed_request client.requests t.requests i full;
        permissions = t.permissions;
        channels = t.channels;
        relay = t.relay;
        no_refresh = t.no_refresh;
      }

  pub settles_lacking : (step : Run → Run) (r : Answer) (lent : List ℕ) → Quiet (lacking client i) step r → Settles client (step (without id (begin (view client) lent))) r
  settles_lacking step r lent q =
      let p = q lent in
      let m : Settles client (step (begin (view (lacking client i)) lent)) r =
      record {
        used = p.used;
        silent = p.silent;
        client = p.client;
        tidy = λ t. p.tidy (lacking_tidy t);
        events = p.events;
        event = p.event;
        packets = p.packets;
        len = p.len;
      } in
      subst (λ (x : Run). Settles client (step x) r) (ap (λ (t : Turn). begin t lent) lacking_view) m
