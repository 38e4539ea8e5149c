-- "What the client does", what is easily missed there: repeats and their waits, the retry, what `close` and a lost transport leave, what
-- a closing client still does, and what `poll` tells.
use Rattle.std.specs.Prelude.{None, Some}
use mathlib.Core.Path.{◌≡◌, refl, ap, sym, subst, ◌∙◌}
use mathlib.Core.Bool.{Bool, true, false, cond, ◌&&◌, ◌||◌, not, and-false, or-true}
use mathlib.Core.List.{List, [], ◌∷◌, ◌++◌, map}
use Prim.Native.Nat.{ℕ, ◌+◌, ◌≤◌, ◌<◌}
use lib.ListN.{length}
use lib.Dec.{leb}
use borrow.Author.Tests.{lt-ltb, le-leb, lt-leb}
use Rattle.stun_address.specs.declared.Address.{Address}
use Rattle.stun_address.specs.declared.Ip.{Ip}
use Rattle.stun_walk.specs.Source.{lifetime_of, xor_addr_of}
use Rattle.stun_check.specs.Source.{long_term}
use Rattle.turn_state.proofs.Times.{afresh}
use Rattle.turn_state.specs.declared.Kind.{Kind}
use Rattle.turn_state.specs.declared.Kind.TheVariants.{Allocate, Refresh, Permission, ChannelBind}
use Rattle.turn_state.specs.declared.Reason.{Reason}
use Rattle.turn_state.specs.declared.Reason.TheVariants.{Timeout, Lost}
use Rattle.turn_state.specs.declared.Event.{Event}
use Rattle.turn_state.specs.declared.Event.TheVariants.{Failed}
use Rattle.turn_state.specs.Maps.{get, contains, insert, remove, filter, each, is_some}
use Rattle.turn_state.specs.State.{Message, Txn, Turn, Run, begin, set_txns, set_realm, set_nonce, set_key, set_done, set_closing, on_self, tell, on_report, report_text, new_tid, drew}
use Rattle.turn_state.specs.Source.{under_id, under_drawn, for_ip, for_peer, insert_txn, insert_perm, auth, encode, encode_message, signing, push_message, first_wait, request, bind_channel, create_permission, refresh_message, on_failure, refresh_time, on_success, get_str, take_realm, take_nonce, retry, repeated, poll_due, is_due, poll_refresh, poll_perms, renewed_at, update_chan, renew_channel, poll_chans, due_of, poll, least, next_deadline, transport_failed, close}
use Rattle.turn_state.specs.Number.{Outcome, number}
use Rattle.turn_state.specs.View.{Each, no_rows, row}
use Rattle.turn_state.specs.Sequence.{TransportFailed, outcome, answers}
use Rattle.turn.proofs.Steps.{either_way, if_there, add_ev, inserted, inserted_out, inserted_ev, inserted_used, each_keeps, due_keeps}
use Rattle.turn.proofs.Refused.{given_of, run_of, done}

-- waits after sending, UDP: 0.5, 1, 2, 4, 4, 4 s; reliable: 39.5 s
pub wait_udp : (c : Turn) → c.reliable ≡ false → first_wait c ≡ 500
wait_udp c e = rw e

pub wait_reliable : (c : Turn) → c.reliable ≡ true → first_wait c ≡ 39500
wait_reliable c e = rw e

module _ (now : ℕ) (t : Txn) where
  pub wait_2 : t.tries ≡ 1 → (repeated now t).next ≡ now + 1000
  wait_2 e = rw e

  pub wait_3 : t.tries ≡ 2 → (repeated now t).next ≡ now + 2000
  wait_3 e = rw e

  pub wait_4 : t.tries ≡ 3 → (repeated now t).next ≡ now + 4000
  wait_4 e = rw e

  pub wait_5 : t.tries ≡ 4 → (repeated now t).next ≡ now + 4000
  wait_5 e = rw e

  pub wait_6 : t.tries ≡ 5 → (repeated now t).next ≡ now + 4000
  wait_6 e = rw e

-- a pending request whose time has come
module _ (now : ℕ) (tid : List ℕ) (s : Run) (t : Txn) (pending : get (under_id tid) s.self.txns ≡ Some t) where
  abbrev without : Run
  without = on_self (set_txns (remove (under_id tid) s.self.txns)) s

  -- then failure: after six sendings, or one over a reliable transport
  pub ended : 6 ≤ t.tries → poll_due now tid s ≡ on_failure t.kind Timeout without
  unfolding poll_due
  ended h = rw (pending, le-leb 6 t.tries h, or-true s.self.reliable)

  pub ended_reliable : s.self.reliable ≡ true → poll_due now tid s ≡ on_failure t.kind Timeout without
  unfolding poll_due
  ended_reliable e = rw (pending, e)

  -- a repeat is encoded afresh, by the client as it is then; it is taken out and put back under its id
  module _ (udp : s.self.reliable ≡ false) (left : t.tries < 6) where
    sent_again : poll_due now tid s ≡ insert_txn (repeated now t) (push_message (encode s.self t.msg) without)
    unfolding poll_due
    sent_again = let stays : (s.self.reliable || leb 6 t.tries) ≡ false = rw (udp, lt-leb 6 t.tries left) in rw (pending, stays)

    pub put_back : (poll_due now tid s).self ≡ set_txns (insert (under_drawn t.msg.tid) (repeated now t) (remove (under_id tid) s.self.txns)) s.self
    put_back = ap (λ (r : Run). r.self) sent_again ∙ inserted (repeated now t) (push_message (encode s.self t.msg) without)

    -- with a realm and a nonce, these are the ones held then
    pub credentials : (realm nonce : List ℕ) → s.self.realm ≡ Some realm → s.self.nonce ≡ Some nonce
        → (poll_due now tid s).out
        ≡ s.out
        ++ (encode_message (record { typ = t.msg.typ; tid = t.msg.tid; attrs = t.msg.attrs ++ auth s.self.username (Some realm) (Some nonce) })
        (signing s.self.key) true ∷ [])
    credentials realm nonce er en = afresh now tid s t pending udp left ∙ rw (er, en)

-- what a given realm and a given nonce do
abbrev with_realm : List ℕ → Run → Run
with_realm realm s =
    on_report (report_text (length realm))
    (on_self (λ c. set_realm (Some realm) (set_key (Some (long_term c.username realm c.password)) c)) s)

abbrev with_nonce : List ℕ → Run → Run
with_nonce nonce s = on_report (report_text (length nonce)) (on_self (set_nonce (Some nonce)) s)

-- the retry of a 401 or 438: the same attributes under a new id, tries 1
abbrev again : ℕ → List ℕ → Txn → Turn → Txn
again now id t c =
    record {
      kind = t.kind;
      msg = record { typ = t.msg.typ; tid = id; attrs = t.msg.attrs };
      tries = 1;
      next = now + first_wait c;
      auth_retried = true;
    }

module _ (buf : List ℕ) (s : Run) where
  abbrev taken : Run
  taken = take_nonce buf (take_realm buf s)

  -- what a realm and a nonce do not touch
  untaken : {A : Type 0} (p : Run → A) → ((r : Run) (realm : List ℕ) → p (with_realm realm r) ≡ p r) → ((r : Run) (nonce : List ℕ) → p (with_nonce nonce r) ≡ p r) → p taken ≡ p s
  untaken p hr hn =
      let one : p (take_realm buf s) ≡ p s = if_there p (get_str buf 0x0014) (λ r. with_realm r s) s (p s) (hr s) refl in
      if_there p (get_str buf 0x0015) (λ n. with_nonce n (take_realm buf s)) (take_realm buf s) (p s) (λ n. hn (take_realm buf s) n ∙ one) one

  taken_id : new_tid taken ≡ new_tid s
  taken_id = untaken new_tid (λ r x. refl) (λ r x. refl)

  taken_txns : taken.self.txns ≡ s.self.txns
  taken_txns = untaken (λ r. r.self.txns) (λ r x. refl) (λ r x. refl)

  taken_reliable : taken.self.reliable ≡ s.self.reliable
  taken_reliable = untaken (λ r. r.self.reliable) (λ r x. refl) (λ r x. refl)

  taken_out : taken.out ≡ s.out
  taken_out = untaken (λ r. r.out) (λ r x. refl) (λ r x. refl)

  taken_used : taken.report.used ≡ s.report.used
  taken_used = untaken (λ r. r.report.used) (λ r x. refl) (λ r x. refl)

  taken_realm : taken.self.realm ≡ (take_realm buf s).self.realm
  taken_realm = if_there (λ r. r.self.realm) (get_str buf 0x0015) (λ n. with_nonce n (take_realm buf s)) (take_realm buf s) (take_realm buf s).self.realm (λ n. refl) refl

  taken_key : taken.self.key ≡ (take_realm buf s).self.key
  taken_key = if_there (λ r. r.self.key) (get_str buf 0x0015) (λ n. with_nonce n (take_realm buf s)) (take_realm buf s) (take_realm buf s).self.key (λ n. refl) refl

  before_nonce : (take_realm buf s).self.nonce ≡ s.self.nonce
  before_nonce = if_there (λ r. r.self.nonce) (get_str buf 0x0014) (λ n. with_realm n s) s s.self.nonce (λ n. refl) refl

  module _ (now : ℕ) (t : Txn) where
    abbrev new : Txn
    new = again now (new_tid s) t s.self

    retried : retry now buf t s ≡ insert_txn new (push_message (encode taken.self new.msg) (drew taken))
    unfolding retry
    retried = rw (taken_id, taken_reliable)

    retried_self : (retry now buf t s).self ≡ set_txns (insert (under_drawn (new_tid s)) new taken.self.txns) taken.self
    retried_self = ap (λ (r : Run). r.self) retried ∙ inserted new (push_message (encode taken.self new.msg) (drew taken))

    pub retried_txns : (retry now buf t s).self.txns ≡ insert (under_drawn (new_tid s)) new s.self.txns
    retried_txns = ap (λ (c : Turn). c.txns) retried_self ∙ ap (insert (under_drawn (new_tid s)) new) taken_txns

    pub retried_id : (retry now buf t s).report.used ≡ s.report.used ++ (new_tid s ∷ [])
    retried_id =
        ap (λ (r : Run). r.report.used) retried ∙ inserted_used new (push_message (encode taken.self new.msg) (drew taken)) ∙ cc (taken_used, taken_id)

    -- its packet is encoded by the client that the retry leaves
    pub retried_packet : (retry now buf t s).out ≡ s.out ++ (encode (retry now buf t s).self new.msg ∷ [])
    retried_packet =
        ap (λ (r : Run). r.out) retried ∙ inserted_out new (push_message (encode taken.self new.msg) (drew taken)) ∙ rw (taken_out, retried_self)

    -- a given realm replaces realm and key, a given nonce the nonce
    pub new_realm : (realm : List ℕ) → get_str buf 0x0014 ≡ Some realm → (retry now buf t s).self.realm ≡ Some realm
    new_realm realm e = ap (λ (c : Turn). c.realm) retried_self ∙ taken_realm ∙ rw e

    pub new_key : (realm : List ℕ) → get_str buf 0x0014 ≡ Some realm
        → (retry now buf t s).self.key ≡ Some (long_term s.self.username realm s.self.password)
    new_key realm e = ap (λ (c : Turn). c.key) retried_self ∙ taken_key ∙ rw e

    pub new_nonce : (nonce : List ℕ) → get_str buf 0x0015 ≡ Some nonce → (retry now buf t s).self.nonce ≡ Some nonce
    new_nonce nonce e = ap (λ (c : Turn). c.nonce) retried_self ∙ rw e

    -- what is not given stays
    pub kept_realm : get_str buf 0x0014 ≡ None → (retry now buf t s).self.realm ≡ s.self.realm
    kept_realm e = ap (λ (c : Turn). c.realm) retried_self ∙ taken_realm ∙ rw e

    pub kept_key : get_str buf 0x0014 ≡ None → (retry now buf t s).self.key ≡ s.self.key
    kept_key e = ap (λ (c : Turn). c.key) retried_self ∙ taken_key ∙ rw e

    pub kept_nonce : get_str buf 0x0015 ≡ None → (retry now buf t s).self.nonce ≡ s.self.nonce
    kept_nonce e = ap (λ (c : Turn). c.nonce) retried_self ∙ rw e before_nonce

-- a missing lifetime means 600 for Allocate, the asked one for Refresh; a failed Refresh changes nothing more
pub allocate_600 : (now : ℕ) (buf : List ℕ) (s : Run) (relay : Address) → xor_addr_of buf 0x0016 ≡ Some relay → lifetime_of buf ≡ None
    → (on_success now Allocate buf s).self.refresh_at ≡ Some (now + 540000)
unfolding on_success
allocate_600 now buf s relay er el = rw (er, el)

pub refresh_asked : (now lifetime : ℕ) (buf : List ℕ) (s : Run) → 0 < lifetime → lifetime_of buf ≡ None
    → (on_success now (Refresh lifetime) buf s).self.refresh_at ≡ Some (refresh_time now lifetime)
unfolding on_success
refresh_asked now lifetime buf s h el = rw (lt-ltb 0 lifetime h, el)

pub refresh_failed : (lifetime : ℕ) (why : Reason) (s : Run) → on_failure (Refresh lifetime) why s ≡ s
unfolding on_failure
refresh_failed lifetime why s = refl

-- `close` clears requests and sends one Refresh of 0, which is kept nowhere; the client is closing and waits for nothing
module _ (s : Run) (relay : Address) (relayed : s.self.relay ≡ Some relay) (serving : s.self.closing ≡ false) where
  closes : close s ≡ push_message (encode s.self (refresh_message 0 (new_tid s))) (drew (on_self (λ c. set_txns [] (set_closing true c)) s))
  unfolding close
  closes = let goes : (not (is_some s.self.relay) || s.self.closing) ≡ false = rw (relayed, serving) in rw goes

  pub closed : (close s).self ≡ set_txns [] (set_closing true s.self)
  closed = ap (λ (r : Run). r.self) closes

  pub close_packet : (close s).out ≡ s.out ++ (encode s.self (refresh_message 0 (new_tid s)) ∷ [])
  close_packet = ap (λ (r : Run). r.out) closes

  pub close_unrecorded : (close s).report.added ≡ s.report.added
  close_unrecorded = ap (λ (r : Run). r.report.added) closes

  pub close_deadline : next_deadline (close s).self ≡ None
  close_deadline = rw closed

-- without a relay, and when closing already, it does nothing
pub close_unrelayed : (s : Run) → s.self.relay ≡ None → close s ≡ s
unfolding close
close_unrelayed s e = let stays : (not (is_some s.self.relay) || s.self.closing) ≡ true = rw e in rw stays

pub close_closing : (s : Run) → s.self.closing ≡ true → close s ≡ s
unfolding close
close_closing s e = let stays : (not (is_some s.self.relay) || s.self.closing) ≡ true = rw e (or-true (not (is_some s.self.relay))) in rw stays

-- lost transport clears requests; it gives a failure event unless done and relayed
module _ (s : Run) where
  abbrev quiet : Bool
  quiet = s.self.done && is_some s.self.relay

  abbrev cleared : Run
  cleared = on_self (λ c. set_closing true (set_txns [] c)) s

  lost_way : {A : Type 0} (p : Run → A) (v : A) → p cleared ≡ v → p (tell (Failed Lost) (on_self (set_done true) cleared)) ≡ v → p (transport_failed s) ≡ v
  unfolding transport_failed
  lost_way p v l r = either_way p quiet cleared (tell (Failed Lost) (on_self (set_done true) cleared)) v l r

  pub lost_txns : (transport_failed s).self.txns ≡ []
  lost_txns = lost_way (λ r. r.self.txns) [] refl refl

  pub lost_closing : (transport_failed s).self.closing ≡ true
  lost_closing = lost_way (λ r. r.self.closing) true refl refl

  pub lost_relay : (transport_failed s).self.relay ≡ s.self.relay
  lost_relay = lost_way (λ r. r.self.relay) s.self.relay refl refl

  lost_report : (transport_failed s).report ≡ s.report
  lost_report = lost_way (λ r. r.report) s.report refl refl

  lost_out : (transport_failed s).out ≡ s.out
  lost_out = lost_way (λ r. r.out) s.out refl refl

  pub lost_deadline : next_deadline (transport_failed s).self ≡ None
  lost_deadline = lost_way (λ r. next_deadline r.self) None refl refl

  pub lost_quiet : (relay : Address) → s.self.done ≡ true → s.self.relay ≡ Some relay → (transport_failed s).ev ≡ s.ev
  unfolding transport_failed
  lost_quiet relay ed er = let q : quiet ≡ true = rw (ed, er) in rw q

  pub lost_undone : s.self.done ≡ false → (transport_failed s).ev ≡ s.ev ++ (Failed Lost ∷ [])
  unfolding transport_failed
  lost_undone e = let q : quiet ≡ false = rw e in rw q

  pub lost_unrelayed : s.self.relay ≡ None → (transport_failed s).ev ≡ s.ev ++ (Failed Lost ∷ [])
  unfolding transport_failed
  lost_unrelayed e = let q : quiet ≡ false = rw e (and-false s.self.done) in rw q

-- it is never refused, so a second loss without a relay gives a second event
pub lost_taken : (c : Turn) → number (given_of TransportFailed) c (run_of c TransportFailed) ≡ 0
unfolding number
lost_taken c = rw (lost_report (begin c []), lost_out (begin c []))

pub lost_answer : (c : Turn) → c.relay ≡ None → (outcome c TransportFailed).events ≡ Failed Lost ∷ []
lost_answer c e = ap (λ (o : Outcome). o.events) (done c TransportFailed (lost_taken c)) ∙ lost_unrelayed (begin c []) e

still_none : (c : Turn) → c.relay ≡ None → (outcome c TransportFailed).client.relay ≡ None
still_none c e = ap (λ (o : Outcome). o.client.relay) (done c TransportFailed (lost_taken c)) ∙ lost_relay (begin c []) ∙ e

pub lost_twice : (c : Turn) → c.relay ≡ None → map (λ t. t.outcome.events) (answers c (TransportFailed ∷ TransportFailed ∷ [])) ≡ (Failed Lost ∷ []) ∷ (Failed Lost ∷ []) ∷ []
lost_twice c e = rw (lost_answer c e, lost_answer (outcome c TransportFailed).client (still_none c e))

-- a failure neither draws an id nor ends a closing
failure_used : (kind : Kind) (why : Reason) (s : Run) → (on_failure kind why s).report.used ≡ s.report.used
unfolding on_failure
failure_used Allocate why s = refl
failure_used (Refresh lifetime) why s = refl
failure_used (Permission ip) why s = refl
failure_used (ChannelBind peer num) why s = refl

failure_closing : (kind : Kind) (why : Reason) (s : Run) → (on_failure kind why s).self.closing ≡ s.self.closing
unfolding on_failure
failure_closing Allocate why s = refl
failure_closing (Refresh lifetime) why s = refl
failure_closing (Permission ip) why s = refl
failure_closing (ChannelBind peer num) why s = refl

-- a closing client's `poll` goes over what is due, and asks for nothing new; its deadline is that of its requests
module _ (now : ℕ) where
  due_closing : (tids : List (List ℕ)) (s : Run) → s.self.closing ≡ true → (each (poll_due now) tids s).self.closing ≡ true
  due_closing =
      each_keeps (λ s. s.self.closing ≡ true) (poll_due now)
      (due_keeps (λ s. s.self.closing ≡ true) now (λ s l h. h) (λ kind s h. failure_closing kind Timeout s ∙ h)
      (λ t bytes s h. ap (λ (c : Turn). c.closing) (inserted t (push_message bytes s)) ∙ h))

  due_used : (tids : List (List ℕ)) (s : Run) → (each (poll_due now) tids s).report.used ≡ s.report.used
  due_used tids s =
      each_keeps (λ r. r.report.used ≡ s.report.used) (poll_due now)
      (due_keeps (λ r. r.report.used ≡ s.report.used) now (λ r l h. h) (λ kind r h. failure_used kind Timeout r ∙ h)
      (λ t bytes r h. inserted_used t (push_message bytes r) ∙ h)) tids s refl

  module _ (s : Run) (closing : s.self.closing ≡ true) where
    pub closing_poll : poll now s ≡ each (poll_due now) (due_of now s.self) s
    unfolding poll
    closing_poll = rw (due_closing (due_of now s.self) s closing)

    pub closing_used : (poll now s).report.used ≡ s.report.used
    closing_used = ap (λ (r : Run). r.report.used) closing_poll ∙ due_used (due_of now s.self) s

pub closing_deadline : (c : Turn) → c.closing ≡ true → next_deadline c ≡ least (map (λ t. Some t.next) c.txns)
closing_deadline c e = rw e

-- an event that `poll` may give
abbrev pub TimedOut : Event → Type 0
TimedOut e = e ≡ Failed Timeout

each_snoc : (l : List Event) → Each TimedOut l → Each TimedOut (l ++ (Failed Timeout ∷ []))
each_snoc [] no_rows = row refl no_rows
each_snoc (e ∷ l) (row h r) = row h (each_snoc l r)

abbrev Told : Run → Type 0
Told s = Each TimedOut s.ev

failure_told : (kind : Kind) (s : Run) → Told s → Told (on_failure kind Timeout s)
unfolding on_failure
failure_told Allocate s h = each_snoc s.ev h
failure_told (Refresh lifetime) s h = h
failure_told (Permission ip) s h = h
failure_told (ChannelBind peer num) s h = h

-- nothing else in it tells anything
pub request_ev : (now : ℕ) (kind : Kind) (msg : Message) (s : Run) → (request now kind msg s).ev ≡ s.ev
unfolding request
request_ev now kind msg s = inserted_ev _ s

pub bind_ev : (now : ℕ) (peer : Address) (s : Run) → (bind_channel now peer s).ev ≡ s.ev
unfolding bind_channel
bind_ev now peer s = if_there (λ r. r.ev) (get (for_peer peer) s.self.chans) _ s s.ev (λ c. request_ev now (ChannelBind peer c.num) _ (drew s)) refl

pub permission_ev : (now : ℕ) (ip : Ip) (s : Run) → (create_permission now ip s).ev ≡ s.ev
unfolding create_permission insert_perm
permission_ev now ip s = request_ev now (Permission ip) _ _ ∙ add_ev 32 (length s.self.perms) s (contains (for_ip ip) s.self.perms)

renew_ev : (now : ℕ) (peer : Address) (s : Run) → (renew_channel now peer s).ev ≡ s.ev
renew_ev now peer s =
    bind_ev now peer (update_chan peer (renewed_at now) s)
    ∙ if_there (λ r. r.ev) (get (for_peer peer) s.self.chans) _ s s.ev (λ c. refl) refl

refresh_ev : (now : ℕ) (s : Run) → (poll_refresh now s).ev ≡ s.ev
unfolding poll_refresh
refresh_ev now s = either_way (λ r. r.ev) (is_due now s.self.refresh_at) _ s s.ev (request_ev now (Refresh 600) _ _) refl

-- `poll` gives no other event than the timeout of an allocation
module _ (now : ℕ) where
  due_told : (tids : List (List ℕ)) (s : Run) → Told s → Told (each (poll_due now) tids s)
  due_told =
      each_keeps Told (poll_due now)
      (due_keeps Told now (λ s l h. h) failure_told (λ t bytes s h. subst (Each TimedOut) (sym (inserted_ev t (push_message bytes s))) h))

  perms_told : (s : Run) → Told s → Told (poll_perms now s)
  unfolding poll_perms
  perms_told s h = each_keeps Told (create_permission now) (λ ip r k. subst (Each TimedOut) (sym (permission_ev now ip r)) k)
      (map (λ p. p.ip) (filter (λ p. is_due now p.refresh) s.self.perms)) s h

  chans_told : (s : Run) → Told s → Told (poll_chans now s)
  unfolding poll_chans
  chans_told s h = each_keeps Told (renew_channel now) (λ peer r k. subst (Each TimedOut) (sym (renew_ev now peer r)) k)
      (map (λ c. c.peer) (filter (λ c. c.bound && leb c.refresh_at now) s.self.chans)) s h

  renewed_told : (b : Bool) (s : Run) → Told s → Told (cond b s (poll_chans now (poll_perms now (poll_refresh now s))))
  renewed_told true s h = h
  renewed_told false s h = chans_told (poll_perms now (poll_refresh now s)) (perms_told (poll_refresh now s) (subst (Each TimedOut) (sym (refresh_ev now s)) h))

  pub only_timeouts : (c : Turn) (ids : List ℕ) → Each TimedOut (poll now (begin c ids)).ev
  unfolding poll
  only_timeouts c ids =
      let s : Run = each (poll_due now) (due_of now c) (begin c ids) in
      renewed_told s.self.closing s (due_told (due_of now c) (begin c ids) no_rows)
