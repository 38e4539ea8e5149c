-- The answers of a close: nothing without a relay or once closing; else a number, or the Refresh of 0 and a client without requests.
use mathlib.Core.Path.{◌≡◌, refl, ap, sym, ◌∙◌}
use mathlib.Core.Bool.{true, false, cond}
use mathlib.Core.List.{List, [], ◌∷◌, ◌++◌}
use Prim.Native.Nat.{ℕ, ◌+◌, ◌-◌, ◌≤◌}
use native.Mathlib.Omega.{arith}
use lib.ListN.{length, take, drop}
use lib.Dec.{eqb, leb}
use borrow.Author.Tests.{le-ltb, le-leb}
use Rattle.std.specs.Prelude.{Ok, Err}
use Rattle.stun_frame.specs.declared.Unwritten.TheVariants.{NoRoom}
use Rattle.stun_frame.specs.Source.{room_after, Written}
use Rattle.turn_state.specs.declared.Asked.{Asked}
use Rattle.turn_state.specs.declared.Client.{Client}
use Rattle.turn_state.specs.declared.Refusal.{Refusal}
use Rattle.turn_state.specs.declared.Refusal.TheVariants.{Late, LongText, IllFormed, LongBody, Full, FewIds, TakenId, SmallOutput}
use Rattle.turn_state.specs.declared.Requests.{Requests}
use Rattle.turn_state.specs.declared.Kind.TheVariants.{Refresh}
use Rattle.turn_state.specs.State.{Turn, Run, begin, ids_in, id_at, set_txns, set_closing}
use Rattle.turn_state.specs.Source.{close, encode, refresh_message}
use Rattle.turn_state.specs.Number.{Given, given_of, number, number_of, settled, above, full, framed, pending}
use Rattle.turn_state.specs.View.{view, asked_of, quiet, sending, done, Meets, no_request, TidyRequest}
use Rattle.turn_state.proofs.Answering.{accepted_meets}
use Rattle.turn_open.specs.Fresh.{blank_requests}
use Rattle.turn_open.proofs.Blank.{blank_tidy}
use Rattle.turn_open.proofs.Lose.{nothing_used}
use Rattle.turn_packet.specs.Source.{packet_of, packet_size}
use Rattle.turn_packet.proofs.Laws.{packet_encode}
use Rattle.turn_packet.proofs.Bounds.{packet_short}
use Rattle.turn_packet.proofs.Rooms.{Rooms}
use Rattle.turn_packet.proofs.Frames.{framed_packet_length}
use Rattle.turn_ids.specs.Ids.{lent_id, verdict_of}
use Rattle.turn_ids.proofs.Lent.{lent_is, id_twelve, id_short}
use Rattle.turn_ids.proofs.Verdicts.{number_is}

abbrev pub run_of : Client → List ℕ → Run
run_of client lent = close (begin (view client) lent)

-- what it does where it does nothing
module _ (client : Client) (lent out : List ℕ) (none_left : run_of client lent ≡ begin (view client) lent) where
  quiet_number : number (given_of 0 lent (length out)) (view client) (run_of client lent) ≡ 0
  quiet_number =
      nothing_used (given_of 0 lent (length out)) (view client) (run_of client lent) (omega arith) (omega arith) (ap (λ (r : Run). r.report) none_left) (ap (λ (r : Run). r.out) none_left)

  pub idle : Meets client (settled (number (given_of 0 lent (length out)) (view client) (run_of client lent)) (view client) (run_of client lent)) out (done (quiet client)) out
  idle =
      accepted_meets client (given_of 0 lent (length out)) (run_of client lent) out (done (quiet client)) out quiet_number refl (rw none_left) (λ t. t) (rw none_left) (rw none_left) (rw none_left) (rw none_left)
      (rw none_left)

pub no_relay : (client : Client) (lent : List ℕ) → client.has_relay ≡ false → run_of client lent ≡ begin (view client) lent
unfolding close
no_relay client lent e = rw e

pub closing_yet : (client : Client) (lent : List ℕ) → client.has_relay ≡ true → client.closing ≡ true → run_of client lent ≡ begin (view client) lent
unfolding close
closing_yet client lent e f = rw (e, f)

-- a refusal's number is not 0
pub refuses : (refusal : Refusal) → eqb (number_of refusal) 0 ≡ false
refuses Late = refl
refuses LongText = refl
refuses IllFormed = refl
refuses LongBody = refl
refuses Full = refl
refuses FewIds = refl
refuses TakenId = refl
refuses SmallOutput = refl

-- what it does otherwise
module _ (client : Client) (lent out : List ℕ) (relayed : client.has_relay ≡ true) (open_yet : client.closing ≡ false) (rooms : Rooms client.credentials) (a : Asked) (ea : a ≡ asked_of (Refresh 0)) where
  abbrev c : Turn
  c = view client

  abbrev g : Given
  g = given_of 0 lent (length out)

  abbrev packet : List ℕ
  packet = packet_of client.credentials a (id_at lent 0) (id_at lent 0)

  abbrev sent : Run
  sent =
      record {
        self = set_txns [] (set_closing true c);
        out = packet ∷ [];
        ev = [];
        lent = lent;
        report = record { used = id_at lent 0 ∷ []; added = []; texts = []; bodies = (length packet - 20) ∷ [] };
      }

  packet_is : encode c (refresh_message 0 (id_at lent 0)) ≡ packet
  packet_is = rw ea (sym (packet_encode client (asked_of (Refresh 0)) (id_at lent 0) (id_at lent 0)))

  run_is : run_of client lent ≡ sent
  unfolding close
  run_is = rw (relayed, open_yet, sym packet_is)

  short : length packet ≤ 3100
  short = packet_short client.credentials rooms.username rooms.realm rooms.nonce a (id_at lent 0) (id_at lent 0) (id_short lent 0)

  size_is : 1 ≤ ids_in lent → length (framed (packet ∷ [])) ≡ 3 + packet_size client.credentials a
  size_is h =
      let twelve : length (id_at lent 0) ≡ 12 = id_twelve lent 0 (omega arith) in
      framed_packet_length client.credentials a (id_at lent 0) (id_at lent 0) rooms twelve twelve

  pub decided : (n v : ℕ) → n ≡ packet_size client.credentials a → v ≡ verdict_of false (pending c) lent 1 (3 + n) (length out) → number g c (run_of client lent) ≡ v
  decided n v e h =
      number_is g c (run_of client lent) false 1 (3 + n) (omega arith) (ap (λ (r : Run). above 763 r.report.texts) run_is)
      (ap (λ (r : Run). above 65535 r.report.bodies) run_is ∙ rw (le-ltb 65535 (length packet - 20) (omega (arith, short)))) (ap (λ (r : Run). full r.report.added) run_is)
      (ap (λ (r : Run). r.report.used) run_is) (λ k. ap (λ (r : Run). length (framed r.out)) run_is ∙ size_is k ∙ rw e) ∙ sym h

  abbrev after : Requests → Client
  after t =
      record {
        password = client.password;
        credentials = client.credentials;
        requests = t;
        permissions = client.permissions;
        channels = client.channels;
        relay = client.relay;
        refresh_at = client.refresh_at;
        next_num = client.next_num;
        has_relay = client.has_relay;
        has_refresh = client.has_refresh;
        done = client.done;
        closing = true;
        reliable = client.reliable;
      }

  pub closed : (n : ℕ) (id : List ℕ) (w : Written) (o : List ℕ) (t : Requests) → 1 ≤ ids_in lent → number g c (run_of client lent) ≡ 0 → n ≡ packet_size client.credentials a
      → 3 + n ≤ length out → id ≡ lent_id lent 0 → w ≡ cond (leb (0 + 3 + packet_size client.credentials a) (length out)) (Ok (0 + 3 + packet_size client.credentials a)) (Err NoRoom)
      → o ≡ room_after w (take 0 out ++ framed (packet_of client.credentials a id id ∷ [])) out → t ≡ blank_requests
      → Meets client (settled (number g c (run_of client lent)) c (run_of client lent)) out
      (done (sending (after t) 1 (3 + n))) o
  closed n id w o t h k e room eid ew eo et =
      let same_id : id ≡ id_at lent 0 = eid ∙ lent_is lent 0 (omega arith) in
      let size : length (framed (packet ∷ [])) ≡ 3 + n = size_is h ∙ rw e in
      let w-is : w ≡ Ok (3 + n) = ew ∙ rw (← e, le-leb (0 + 3 + n) (length out) (omega arith)) in
      accepted_meets client g (run_of client lent) out
      (done (sending (after t) 1 (3 + n))) o k refl
      (rw (run_is, et))
      (λ n₁. record { password = n₁.password; credentials = n₁.credentials; requests = rw et (blank_tidy TidyRequest no_request 64); permissions = n₁.permissions; channels = n₁.channels; relay = n₁.relay; no_refresh = n₁.no_refresh })
      (rw run_is) (rw run_is) (rw run_is) (rw run_is (sym size))
      (rw run_is (eo ∙ rw (w-is, same_id) (ap (λ (k : ℕ). framed (packet ∷ []) ++ drop k out) (sym size))))
