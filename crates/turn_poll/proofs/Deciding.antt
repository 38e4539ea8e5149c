-- The number of a run that a draft stands for, condition by condition, and the answer where none holds.
use mathlib.Core.Path.{◌≡◌, refl, ap, sym, subst, ◌∙◌}
use mathlib.Core.Bool.{Bool, true, false, cond}
use mathlib.Core.List.{List, [], ◌∷◌, ◌++◌}
use Prim.Native.Nat.{ℕ, suc, ◌+◌, ◌≤◌}
use native.Mathlib.Omega.{arith}
use lib.ListN.{length, take, drop, replicate, length-take, length-drop, length-append, length-replicate, length-map}
use lib.Seq.{take_at, drop-append-add, drop-drop}
use lib.Dec.{eqb, leb}
use borrow.Author.Tests.{le-leb}
use Rattle.std.specs.Prelude.{Option, None, Some, Result, Ok, Err, unwrap_or, is_some, is_err}
use Rattle.stun_frame.specs.declared.Unwritten.TheVariants.{NoRoom}
use Rattle.stun_frame.specs.Source.{room_after, Written}
use Rattle.turn_state.specs.declared.Client.{Client}
use Rattle.turn_state.specs.declared.Requests.{Requests}
use Rattle.turn_state.specs.declared.Refusal.{Refusal}
use Rattle.turn_state.specs.declared.Refusal.TheVariants.{Late, LongText, IllFormed, LongBody, Full, FewIds, TakenId, SmallOutput}
use Rattle.turn_state.specs.declared.Event.{Event}
use Rattle.turn_state.specs.declared.Event.TheVariants.{Failed}
use Rattle.turn_state.specs.declared.Reason.TheVariants.{Timeout}
use Rattle.turn_state.specs.State.{Turn, Run, ids_in, begin}
use Rattle.turn_state.specs.Number.{given_of, Given, number, number_of, settled, above, full, framed, pending}
use Rattle.turn_state.specs.View.{view, told, held, absent, done, txns_in, Each, Tidy, TidyRequests, Meets}
use Rattle.turn_state.proofs.Answering.{accepted_meets}
use Rattle.turn_packet.proofs.Rooms.{Rooms}
use Rattle.turn_packet.proofs.Frames.{framed_append}
use Rattle.turn_ids.proofs.Verdicts.{number_is}
use Rattle.turn_ids.specs.Ids.{ids_from, verdict_of}
use Rattle.turn_frames.specs.Frames.{numbered, sends_in, asks_in, sends_size, asks_size}
use Rattle.turn_frames.proofs.Laws.{Ided, each_take, sends_length, asks_length}
use Rattle.turn_plan.specs.declared.Draft.{Draft}
use Rattle.turn_state.specs.declared.Kind.TheVariants.{Allocate}
use Rattle.turn_state.specs.Source.{start, poll}
use Rattle.turn_tables.proofs.Laws.{txns_length}
use Rattle.turn_plan.specs.Plan.{Plan, entry, asking, planned}
use Rattle.turn_plan.specs.Draft.{plan_in, kinds_in, TidyDraft}
use Rattle.turn_plan.specs.Follows.{Follows, drawn, met_full, requested, planned_packets, planned_client, first_next}
use Rattle.turn_plan.proofs.Steps.{length-drawn, poll_follows, start_follows}
use Rattle.turn_poll.specs.Taking.{TookTable, TookAll}
use Rattle.turn_poll.proofs.Coming.{length_kinds}
use Rattle.turn_poll.proofs.Packets.{again_packets, ask_packets, never_long, drawn_ids}

-- two parts written one after the other
both_written : (front back out o₁ o₂ : List ℕ) (n m : ℕ) (w₁ w₂ : Written) → length front ≡ n → length back ≡ m → n + m ≤ length out
    → w₁ ≡ cond (leb (0 + n) (length out)) (Ok (0 + n)) (Err NoRoom) → o₁ ≡ room_after w₁ (take 0 out ++ front) out
    → w₂ ≡ cond (leb (n + m) (length o₁)) (Ok (n + m)) (Err NoRoom) → o₂ ≡ room_after w₂ (take n o₁ ++ back) o₁ → o₂ ≡ (front ++ back) ++ drop (n + m) out
both_written front back out o₁ o₂ n m w₁ w₂ ln lm room e₁ f₁ e₂ f₂ =
    let z : 0 + n ≡ n = omega arith in
    let first-end : w₁ ≡ Ok n = e₁ ∙ rw (le-leb (0 + n) (length out) (omega arith), z) in
    let one : o₁ ≡ front ++ drop n out = f₁ ∙ rw first-end in
    let same_length : length o₁ ≡ length out = rw (one, length-append, length-drop) (omega arith) in
    let second-end : w₂ ≡ Ok (n + m) = e₂ ∙ rw (le-leb (n + m) (length o₁) (omega arith)) in
    let start : take n o₁ ≡ front = rw one (take_at front (drop n out) n ln) in
    let end : drop (n + m) o₁ ≡ drop (n + m) out = rw (one, ← ln) (drop-append-add front (drop (length front) out) m ∙ drop-drop m (length front) out) in
    f₂ ∙ rw (second-end, start, end)

length-numbered : {R : Type 0} (f : ℕ → R → List ℕ) (k : ℕ) (l : List R) → length (numbered f k l) ≡ length l
length-numbered f k [] = refl
length-numbered f k (r ∷ l) = ap suc (length-numbered f (suc k) l)

-- what is held by a flag, as an option
refresh_is : (o : Option ℕ) → held (is_some o) (unwrap_or o 0) ≡ o
refresh_is None = refl
refresh_is (Some at) = refl

none_left : (o : Option ℕ) → absent (is_some o) 0 (unwrap_or o 0)
none_left None = refl
none_left (Some at) = tt

-- a refusal's number is not 0
pub refuses : (refusal : Refusal) → eqb (number_of refusal) 0 ≡ false
refuses Late = refl
refuses LongText = refl
refuses IllFormed = refl
refuses LongBody = refl
refuses Full = refl
refuses FewIds = refl
refuses TakenId = refl
refuses SmallOutput = refl

module _ (client : Client) (d : Draft) (now : ℕ) (lent out : List ℕ) (s : Run) (f : Follows (view client) now lent (plan_in d) s) (in_time : now ≤ 9007199254740991)
    (rooms : Rooms client.credentials) (ided : Each Ided d.sends.rows) (rows : length d.asks.rows ≡ 65) (few : d.asks.len ≤ 65) where
  abbrev c : Turn
  c = view client

  abbrev g : Given
  g = given_of now lent (length out)

  abbrev met : Bool
  met = met_full (first_next c now) lent (kinds_in d.asks) (txns_in d.requests)

  used_is : length (drawn lent (kinds_in d.asks)) ≡ d.asks.len
  used_is = length-drawn lent (kinds_in d.asks) ∙ length_kinds d.asks.rows d.asks.len (omega arith)

  ids_are : drawn lent (kinds_in d.asks) ≡ ids_from lent 0 d.asks.len
  ids_are =
      let e : length (take d.asks.len d.asks.rows) ≡ d.asks.len = rw length-take (omega arith) in
      drawn_ids lent (take d.asks.len d.asks.rows) ∙ ap (ids_from lent 0) e

  pub packets_are : d.asks.len ≤ ids_in lent → planned_packets c lent (plan_in d) ≡ sends_in client.credentials d.sends ++ asks_in client.credentials lent d.asks
  packets_are h =
      rw (again_packets client (take d.sends.len d.sends.rows), ask_packets client lent (take d.asks.len d.asks.rows) (rw length-take (omega arith)))

  pub size_is : d.asks.len ≤ ids_in lent → length (framed (planned_packets c lent (plan_in d)))
      ≡ sends_size client.credentials (take d.sends.len d.sends.rows) + asks_size client.credentials (take d.asks.len d.asks.rows)
  size_is h =
      rw (packets_are h, framed_append, length-append, sends_length client.credentials rooms d.sends ided, asks_length client.credentials rooms lent d.asks)

  -- the number, by what the code has found out
  pub decided : (n : ℕ) → n ≡ sends_size client.credentials (take d.sends.len d.sends.rows) + asks_size client.credentials (take d.asks.len d.asks.rows)
      → number g c s ≡ verdict_of met (pending c) lent d.asks.len n (length out)
  decided n size =
      number_is g c s met d.asks.len n in_time (ap (λ (r : Run). above 763 r.report.texts) f.run)
      (ap (λ (r : Run). above 65535 r.report.bodies) f.run ∙ never_long client rooms (take d.sends.len d.sends.rows) lent (kinds_in d.asks) (each_take d.sends.len ided))
      (ap (λ (r : Run). full r.report.added) f.run ∙ f.met) (ap (λ (r : Run). r.report.used) f.run ∙ ids_are)
      (λ h. ap (λ (r : Run). length (framed r.out)) f.run ∙ size_is h ∙ sym size)

  -- does the draft meet a full table? As the code has found
  pub meets : (r : Result Requests Refusal) → TookAll d.requests (take d.asks.len d.asks.rows) lent (first_next c now) r → met ≡ is_err r
  meets (Ok t) took = took.free
  meets (Err refusal) took = took.met

  -- and the number by that
  pub decided_by : (flag : Bool) → met ≡ flag → (n v : ℕ) → n ≡ sends_size client.credentials (take d.sends.len d.sends.rows) + asks_size client.credentials (take d.asks.len d.asks.rows)
      → v ≡ verdict_of flag (pending c) lent d.asks.len n (length out) → number g c s ≡ v
  decided_by flag is n v size e = decided n size ∙ rw is (sym e)

  -- the client after it
  abbrev after : Requests → ℕ → Bool → Client
  after t at held =
      record {
        password = client.password;
        credentials = client.credentials;
        requests = t;
        permissions = d.permissions;
        channels = d.channels;
        relay = client.relay;
        refresh_at = at;
        next_num = client.next_num;
        has_relay = client.has_relay;
        has_refresh = held;
        done = d.done;
        closing = client.closing;
        reliable = client.reliable;
      }

  after_view : (t : Requests) (at : ℕ) (flag : Bool) → at ≡ unwrap_or d.refresh 0 → flag ≡ is_some d.refresh → txns_in t ≡ requested (first_next c now) lent (kinds_in d.asks) (txns_in d.requests)
      → view (after t at flag) ≡ planned_client c now lent (plan_in d)
  after_view t at flag ea ef exact = rw (ea, ef, exact, refresh_is d.refresh)

  after_tidy : (t : Requests) (at : ℕ) (flag : Bool) → at ≡ unwrap_or d.refresh 0 → flag ≡ is_some d.refresh → (Tidy client → TidyDraft d) → (TidyRequests d.requests → TidyRequests t)
      → Tidy client → Tidy (after t at flag)
  after_tidy t at flag ea ef td tt₁ n =
      let m = td n in
      record {
        password = n.password;
        credentials = n.credentials;
        requests = tt₁ m.requests;
        permissions = m.permissions;
        channels = m.channels;
        relay = n.relay;
        no_refresh = rw (ea, ef) (none_left d.refresh);
      }

  pub accepted : (t : Requests) (at : ℕ) (flag : Bool) (n m : ℕ) (w₁ w₂ : Written) (o₁ o₂ : List ℕ) (event : Option Event) → at ≡ unwrap_or d.refresh 0 → flag ≡ is_some d.refresh
      → TookTable d.requests (kinds_in d.asks) lent (first_next c now) t
      → d.asks.len ≤ ids_in lent → number g c s ≡ 0 → length d.sends.rows ≡ 64 → d.sends.len ≤ 64 → (Tidy client → TidyDraft d)
      → n ≡ sends_size client.credentials (take d.sends.len d.sends.rows) → m ≡ asks_size client.credentials (take d.asks.len d.asks.rows) → n + m ≤ length out
      → w₁ ≡ cond (leb (0 + n) (length out)) (Ok (0 + n)) (Err NoRoom) → o₁ ≡ room_after w₁ (take 0 out ++ framed (sends_in client.credentials d.sends)) out
      → w₂ ≡ cond (leb (n + m) (length o₁)) (Ok (n + m)) (Err NoRoom) → o₂ ≡ room_after w₂ (take n o₁ ++ framed (asks_in client.credentials lent d.asks)) o₁
      → event ≡ told (replicate d.timeouts (Failed Timeout))
      → Meets client (settled (number g c s) c s) out
      (done (record { client = after t at flag; event = event; events = d.timeouts; packets = d.sends.len + d.asks.len; len = n + m })) o₂
  accepted t at flag n m w₁ w₂ o₁ o₂ event ea ef took h k sends-rows few_sends td en em room e₁ f₁ e₂ f₂ ev =
      let out_is : s.out ≡ sends_in client.credentials d.sends ++ asks_in client.credentials lent d.asks = ap (λ (r : Run). r.out) f.run ∙ packets_are h in
      let ln : length (framed (sends_in client.credentials d.sends)) ≡ n = sends_length client.credentials rooms d.sends ided ∙ sym en in
      let lm : length (framed (asks_in client.credentials lent d.asks)) ≡ m = asks_length client.credentials rooms lent d.asks ∙ sym em in
      let size : length (framed s.out) ≡ n + m = rw (out_is, framed_append, length-append, ln, lm) in
      let exact : txns_in t ≡ requested (first_next c now) lent (kinds_in d.asks) (txns_in d.requests) =
      took.exact (rw (length_kinds d.asks.rows d.asks.len (omega arith)) h) in
      accepted_meets client g s out
      (done (record { client = after t at flag; event = event; events = d.timeouts; packets = d.sends.len + d.asks.len; len = n + m })) o₂
      k refl
      (after_view t at flag ea ef exact ∙ sym (ap (λ (r : Run). r.self) f.run))
      (after_tidy t at flag ea ef td took.tidy)
      (sym (ap (λ (r : Run). length r.ev) f.run ∙ length-replicate d.timeouts (Failed Timeout)))
      (ev ∙ sym (ap (λ (r : Run). told r.ev) f.run))
      (sym (rw (out_is, length-append, length-map, length-numbered, length-take, length-take) (omega arith)))
      (sym size)
      (both_written (framed (sends_in client.credentials d.sends)) (framed (asks_in client.credentials lent d.asks)) out o₁ o₂ n m w₁ w₂ ln lm room e₁ f₁ e₂ f₂
      ∙ rw (size, out_is, framed_append))

-- the plan of a poll
pub poll_plan : (client : Client) (d : Draft) (now : ℕ) (lent : List ℕ) → length client.requests.rows ≡ 64 → now ≤ 9007199254740991
    → plan_in d ≡ cond (leb now 9007199254740991) (planned now (view client)) (entry (view client)) → Follows (view client) now lent (plan_in d) (poll now (begin (view client) lent))
poll_plan client d now lent rows h e =
    let means : plan_in d ≡ planned now (view client) = e ∙ rw (le-leb now 9007199254740991 h) in
    subst (λ (p : Plan). Follows (view client) now lent p (poll now (begin (view client) lent))) (sym means) (poll_follows (view client) now lent (omega (arith, txns_length client.requests rows)))

pub start_plan : (client : Client) (d : Draft) (now : ℕ) (lent : List ℕ) → length client.requests.rows ≡ 64 → plan_in d ≡ asking Allocate (entry (view client))
    → Follows (view client) now lent (plan_in d) (start now (begin (view client) lent))
start_plan client d now lent rows e =
    subst (λ (p : Plan). Follows (view client) now lent p (start now (begin (view client) lent))) (sym e) (start_follows (view client) now lent (omega (arith, txns_length client.requests rows)))
