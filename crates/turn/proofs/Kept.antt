-- What the steps of a call keep, every call keeps: a fact of the client, of the ids used and of the ids lent, that holds before a method
-- runs and is kept by each assignment that a method can make, holds after it.
use Rattle.std.specs.Prelude.{Option, None, Some}
use mathlib.Core.Path.{◌≡◌, refl}
use mathlib.Core.Bool.{Bool, true, false, cond, ◌&&◌, ◌||◌, not}
use mathlib.Core.List.{List, [], ◌∷◌, map, ◌++◌}
use mathlib.Core.Logic.{◌⊎◌, inl, inr}
use Prim.Native.Nat.{ℕ, ◌+◌, ◌≤◌}
use lib.ListN.{length}
use lib.Dec.{leb, ltb, eqb}
use borrow.Author.Tests.{leb-true, not-true}
use Rattle.stun_frame.specs.declared.classes.Class.{Class}
use Rattle.stun_frame.specs.declared.classes.Class.TheVariants.{Request, Indication, Success, Error}
use Rattle.stun_frame.specs.Source.{class, field_at, decode_channel_data}
use Rattle.stun_address.specs.declared.Ip.{Ip}
use Rattle.stun_address.specs.declared.Address.{Address}
use Rattle.stun_walk.specs.Source.{readable, get_of, error_code_of, lifetime_of, xor_addr_of}
use Rattle.turn_state.specs.declared.Kind.{Kind}
use Rattle.turn_state.specs.declared.Kind.TheVariants.{Allocate, Refresh, Permission, ChannelBind}
use Rattle.turn_state.specs.declared.Reason.{Reason}
use Rattle.turn_state.specs.declared.Reason.TheVariants.{Code as ErrorCode, Timeout, NoRelayedAddress}
use Rattle.turn_state.specs.Maps.{get, contains, insert, remove, filter, each, if_let, is_some}
use Rattle.turn_state.specs.State.{Message, Txn, Perm, Chan, Turn, Run, set_txns, set_perms, set_chans, set_realm, set_nonce, set_key, set_relay, set_done, set_refresh_at, set_next_num, set_closing, on_self, drew, id_at, new_tid}
use Rattle.turn_state.specs.Source.{under_id, for_ip, for_peer, of_number, insert_txn, insert_perm, insert_chan, push_message, request, start, bind_channel, create_permission, on_failure, update_chan, bound_at, renewed_at, waiting, allocated, on_success, code_or_0, get_str, take_realm, take_nonce, retry, answered, is_answer, passed, tid_of, answer, indicated, handle_message, handle_channel, handle, new_channel, send_indication, send_data, send, is_due, poll_due, poll_refresh, poll_perms, renew_channel, poll_chans, due_of, poll, transport_failed, close, under_drawn, repeated, MAX_TRIES, encode, add, first_wait, granted_or, refresh_time, PERMISSION_REFRESH, CHANNEL_REFRESH}
use Rattle.turn_state.specs.Sequence.{Call, Start, Handle, Send, Poll, TransportFailed, Close}
use Rattle.turn.proofs.Steps.{never, both, each_keeps}
use Rattle.turn.proofs.Refused.{method_of}
use Rattle.stun_frame.specs.declared.ChannelData.{ChannelData}
use Rattle.stun_walk.specs.declared.Value.{Value}

abbrev pub Fact : Type 1
Fact = Turn → List (List ℕ) → List ℕ → Type 0

-- nothing that has to be known of the requests' kinds
abbrev pub Anything : Kind → Type 0
Anything kind = Unit {0}

-- when a permission is to be renewed that a call at `now` asks for, or is granted
pub data Renewal (now : ℕ) : Option ℕ → Type 0 where
  not_yet : Renewal now None
  later : Renewal now (Some (now + PERMISSION_REFRESH))

-- a fact Q that the steps of a call keep, which is made at `now` and has the datagram `buf`, and what is known of the kinds of requests (K)
pub record Keeps (now : ℕ) (buf : List ℕ) (K : Kind → Type 0) (Q : Fact) : Type 0 where
  -- what is asked for: anew, for a channel of the table, or again
  pub allocate : K Allocate
  pub refresh : K (Refresh 600)
  pub permission : (ip : Ip) → K (Permission ip)
  pub bind : (peer : Address) (x : Chan) (c : Turn) (us : List (List ℕ)) (l : List ℕ) → get (for_peer peer) c.chans ≡ Some x → Q c us l → K (ChannelBind peer x.num)
  pub known : (tid : List ℕ) (t : Txn) (c : Turn) (us : List (List ℕ)) (l : List ℕ) → get (under_id tid) c.txns ≡ Some t → Q c us l → K t.kind
  -- an id is drawn; a request is asked for under it
  pub drawn : (c : Turn) (us : List (List ℕ)) (l : List ℕ) → Q c us l → Q c (us ++ (id_at l (length us) ∷ [])) l
  pub asked : (t : Txn) (c : Turn) (us : List (List ℕ)) (l : List ℕ) → K t.kind → t.msg.tid ≡ id_at l (length us) → t.tries ≡ 1 → t.next ≡ now + first_wait c → Q c us l
      → Q (set_txns (insert (under_drawn t.msg.tid) t c.txns) c) (us ++ (id_at l (length us) ∷ [])) l
  -- one is repeated, removed, all are cleared
  pub again : (tid : List ℕ) (t : Txn) (c : Turn) (us : List (List ℕ)) (l : List ℕ) → get (under_id tid) c.txns ≡ Some t → leb MAX_TRIES t.tries ≡ false → Q c us l
      → Q (set_txns (insert (under_drawn t.msg.tid) (repeated now t) (remove (under_id tid) c.txns)) c) us l
  pub dropped : (tid : List ℕ) (c : Turn) (us : List (List ℕ)) (l : List ℕ) → Q c us l → Q (set_txns (remove (under_id tid) c.txns) c) us l
  pub cleared : (c : Turn) (us : List (List ℕ)) (l : List ℕ) → Q c us l → Q (set_txns [] c) us l
  -- a permission is asked for or granted; removed
  pub permitted : (p : Perm) (c : Turn) (us : List (List ℕ)) (l : List ℕ) → Renewal now p.refresh → Q c us l → Q (set_perms (insert (for_ip p.ip) p c.perms) c) us l
  pub forbidden : (ip : Ip) (c : Turn) (us : List (List ℕ)) (l : List ℕ) → Q c us l → Q (set_perms (remove (for_ip ip) c.perms) c) us l
  -- a peer gets the next number; its channel is written, and perhaps renewed; removed
  pub numbered : (x : Chan) (c : Turn) (us : List (List ℕ)) (l : List ℕ) → contains (for_peer x.peer) c.chans ≡ false → x.num ≡ c.next_num → x.num ≤ 0x7FFF → x.refresh_at ≡ now
      → Q c us l → Q (set_chans (insert (for_peer x.peer) x c.chans) (set_next_num (c.next_num + 1) c)) us l
  pub written : (peer : Address) (x y : Chan) (c : Turn) (us : List (List ℕ)) (l : List ℕ) → get (for_peer peer) c.chans ≡ Some x → y.num ≡ x.num → y.peer ≡ x.peer
      → (y.refresh_at ≡ x.refresh_at) ⊎ (y.refresh_at ≡ now + CHANNEL_REFRESH) → Q c us l → Q (set_chans (insert (for_peer peer) y c.chans) c) us l
  pub unbound : (peer : Address) (c : Turn) (us : List (List ℕ)) (l : List ℕ) → Q c us l → Q (set_chans (remove (for_peer peer) c.chans) c) us l
  -- what the relay gives: realm with a key, nonce, the allocation, its renewal, which is then asked for
  pub keyed : (realm key : List ℕ) (c : Turn) (us : List (List ℕ)) (l : List ℕ) → Q c us l → Q (set_realm (Some realm) (set_key (Some key) c)) us l
  pub nonced : (nonce : List ℕ) (c : Turn) (us : List (List ℕ)) (l : List ℕ) → Q c us l → Q (set_nonce (Some nonce) c) us l
  pub relayed : (relay : Address) (c : Turn) (us : List (List ℕ)) (l : List ℕ) → Q c us l
      → Q (set_done true (set_relay (Some relay) (set_refresh_at (Some (refresh_time now (granted_or 600 (lifetime_of buf)))) c))) us l
  pub renewed : (lifetime : ℕ) (c : Turn) (us : List (List ℕ)) (l : List ℕ) → K (Refresh lifetime) → Q c us l → Q (set_refresh_at (Some (refresh_time now (granted_or lifetime (lifetime_of buf)))) c) us l
  pub renewing : (c : Turn) (us : List (List ℕ)) (l : List ℕ) → Q c us l → Q (set_refresh_at None c) us l
  -- what the driver does: it closes, or has lost its transport; and an allocation that failed
  pub closed : (c : Turn) (us : List (List ℕ)) (l : List ℕ) → Q c us l → Q (set_closing true c) us l
  pub over : (c : Turn) (us : List (List ℕ)) (l : List ℕ) → Q c us l → Q (set_done true c) us l

-- what both ways keep, and what is kept where something is found
choose : (P : Run → Type 0) (b : Bool) (x y : Run) → (b ≡ true → P x) → (b ≡ false → P y) → P (cond b x y)
choose P true x y l r = l refl
choose P false x y l r = r refl

found : {X : Type 0} (P : Run → Type 0) (o : Option X) (f : X → Run) (s : Run) → ((x : X) → o ≡ Some x → P (f x)) → P s → P (if_let o f s)
found P None f s l r = r
found P (Some x) f s l r = l x refl

-- a channel that a bind's success writes keeps its number and its peer, and its time or gets a new one
module _ (now num : ℕ) (c : Chan) where
  pub bound_num : (bound_at now num c).num ≡ c.num
  bound_num = by (eqb c.num num)
    where
      by : (b : Bool) → ◌≡◌ {A = ℕ} (cond {A = Chan} b (record { peer = c.peer; num = c.num; bound = true; refresh_at = now + CHANNEL_REFRESH }) c).num c.num
      by true = refl
      by false = refl

  pub bound_peer : (bound_at now num c).peer ≡ c.peer
  bound_peer = by (eqb c.num num)
    where
      by : (b : Bool) → ◌≡◌ {A = Address} (cond {A = Chan} b (record { peer = c.peer; num = c.num; bound = true; refresh_at = now + CHANNEL_REFRESH }) c).peer c.peer
      by true = refl
      by false = refl

  bound_time : ((bound_at now num c).refresh_at ≡ c.refresh_at) ⊎ ((bound_at now num c).refresh_at ≡ now + CHANNEL_REFRESH)
  bound_time = by (eqb c.num num)
    where
      by : (b : Bool) → ((cond {A = Chan} b (record { peer = c.peer; num = c.num; bound = true; refresh_at = now + CHANNEL_REFRESH }) c).refresh_at ≡ c.refresh_at)
          ⊎ ((cond {A = Chan} b (record { peer = c.peer; num = c.num; bound = true; refresh_at = now + CHANNEL_REFRESH }) c).refresh_at ≡ now + CHANNEL_REFRESH)
      by true = inr refl
      by false = inl refl

module _ (now : ℕ) (buf : List ℕ) (K : Kind → Type 0) (Q : Fact) (k : Keeps now buf K Q) where
  abbrev Kept : Run → Type 0
  Kept s = Q s.self s.report.used s.lent

  put_kept : (t : Txn) (s : Run) → Kept (on_self (set_txns (insert (under_drawn t.msg.tid) t s.self.txns)) s) → Kept (insert_txn t s)
  unfolding insert_txn
  put_kept t s h = by (contains (under_drawn t.msg.tid) s.self.txns)
    where
      by : (b : Bool) → Kept (on_self (set_txns (insert (under_drawn t.msg.tid) t s.self.txns)) (add b 64 (length s.self.txns) s))
      by true = h
      by false = h

  perm_kept : (p : Perm) (s : Run) → Renewal now p.refresh → Kept s → Kept (insert_perm p s)
  unfolding insert_perm
  perm_kept p s at h = by (contains (for_ip p.ip) s.self.perms)
    where
      now_in : Kept (on_self (set_perms (insert (for_ip p.ip) p s.self.perms)) s)
      now_in = k.permitted p s.self s.report.used s.lent at h

      by : (b : Bool) → Kept (on_self (set_perms (insert (for_ip p.ip) p s.self.perms)) (add b 32 (length s.self.perms) s))
      by true = now_in
      by false = now_in

  chan_kept : (c : Chan) (s : Run) → Kept (on_self (set_chans (insert (for_peer c.peer) c s.self.chans)) s) → Kept (insert_chan c s)
  unfolding insert_chan
  chan_kept c s h = by (contains (for_peer c.peer) s.self.chans)
    where
      by : (b : Bool) → Kept (on_self (set_chans (insert (for_peer c.peer) c s.self.chans)) (add b 32 (length s.self.chans) s))
      by true = h
      by false = h

  draw_kept : (s : Run) → Kept s → Kept (drew s)
  draw_kept s h = k.drawn s.self s.report.used s.lent h

  request_kept : (kind : Kind) (msg : Message) (s : Run) → K kind → msg.tid ≡ new_tid s → Kept s → Kept (request now kind msg (drew s))
  unfolding request
  request_kept kind msg s q e h =
      let t : Txn = record { kind = kind; msg = msg; tries = 1; next = now + first_wait s.self; auth_retried = false } in
      put_kept t (drew s) (k.asked t s.self s.report.used s.lent q e refl refl h)

  bind_kept : (peer : Address) (s : Run) → Kept s → Kept (bind_channel now peer s)
  unfolding bind_channel
  bind_kept peer s h =
      found Kept (get (for_peer peer) s.self.chans) _ s
      (λ c e. request_kept (ChannelBind peer c.num) _ s (k.bind peer c s.self s.report.used s.lent e h) refl h) h

  permission_kept : (ip : Ip) (s : Run) → Kept s → Kept (create_permission now ip s)
  unfolding create_permission
  permission_kept ip s h =
      request_kept (Permission ip) _ (insert_perm (record { ip = ip; refresh = None }) s) (k.permission ip) refl (perm_kept (record { ip = ip; refresh = None }) s not_yet h)

  failure_kept : (kind : Kind) (why : Reason) (s : Run) → Kept s → Kept (on_failure kind why s)
  unfolding on_failure
  failure_kept Allocate why s h = k.over s.self s.report.used s.lent h
  failure_kept (Refresh lifetime) why s h = h
  failure_kept (Permission ip) why s h = k.forbidden ip s.self s.report.used s.lent h
  failure_kept (ChannelBind peer num) why s h = k.unbound peer s.self s.report.used s.lent h

  update_kept : (peer : Address) (f : Chan → Chan) (s : Run) → ((c : Chan) → (f c).num ≡ c.num) → ((c : Chan) → (f c).peer ≡ c.peer)
      → ((c : Chan) → ((f c).refresh_at ≡ c.refresh_at) ⊎ ((f c).refresh_at ≡ now + CHANNEL_REFRESH)) → Kept s → Kept (update_chan peer f s)
  update_kept peer f s n p at h =
      found Kept (get (for_peer peer) s.self.chans) _ s (λ c e. k.written peer c (f c) s.self s.report.used s.lent e (n c) (p c) (at c) h) h

  success_kept : (kind : Kind) (s : Run) → K kind → Kept s → Kept (on_success now kind buf s)
  unfolding on_success
  success_kept Allocate s q h = by (xor_addr_of buf 0x0016)
    where
      by : (p : Option Address) → Kept (allocated now buf p s)
      by None = failure_kept Allocate NoRelayedAddress s h
      by (Some relay) = k.relayed relay s.self s.report.used s.lent h
  success_kept (Refresh lifetime) s q h = choose Kept (ltb 0 lifetime) _ s (λ e. k.renewed lifetime s.self s.report.used s.lent q h) (λ e. h)
  success_kept (Permission ip) s q h =
      let p : Perm = record { ip = ip; refresh = Some (now + PERMISSION_REFRESH) } in
      each_keeps Kept (bind_channel now) bind_kept (map (λ c. c.peer) (filter (waiting ip) (insert_perm p s).self.chans)) (insert_perm p s) (perm_kept p s later h)
  success_kept (ChannelBind peer num) s q h = update_kept peer (bound_at now num) s (bound_num now num) (bound_peer now num) (bound_time now num) h

  retry_kept : (t : Txn) (s : Run) → K t.kind → Kept s → Kept (retry now buf t s)
  unfolding retry
  retry_kept t s q h =
      let one : Kept (take_realm buf s) = found Kept (get_str buf 0x0014) _ s (λ x e. k.keyed x _ s.self s.report.used s.lent h) h in
      let r : Run = take_realm buf s in
      let s₁ : Run = take_nonce buf r in
      let two : Kept s₁ = found Kept (get_str buf 0x0015) _ r (λ x e. k.nonced x r.self r.report.used r.lent one) one in
      let fresh : Message = record { typ = t.msg.typ; tid = new_tid s₁; attrs = t.msg.attrs } in
      let u : Txn = record { kind = t.kind; msg = fresh; tries = 1; next = now + first_wait s₁.self; auth_retried = true } in
      put_kept u (push_message (encode (drew s₁).self fresh) (drew s₁)) (k.asked u s₁.self s₁.report.used s₁.lent q refl refl refl two)

  answered_kept : (cls : Class) (t : Txn) (s : Run) → K t.kind → Kept s → Kept (answered now buf cls t s)
  answered_kept Success t s q h = success_kept t.kind s q h
  answered_kept Error t s q h =
      let code : ℕ = code_or_0 (error_code_of buf) in
      choose Kept ((eqb code 401 || eqb code 438) && not t.auth_retried) (retry now buf t s) (on_failure t.kind (ErrorCode code) s) (λ e. retry_kept t s q h)
      (λ e. failure_kept t.kind (ErrorCode code) s h)
  answered_kept Request t s q h = h
  answered_kept Indication t s q h = h

  answer_kept : (t : Txn) (s : Run) → K t.kind → Kept s → Kept (answer now buf t s)
  answer_kept t s q h =
      let cls : Class = class (field_at buf 0) in
      let without : Run = on_self (set_txns (remove (under_id (tid_of buf)) s.self.txns)) s in
      choose Kept (is_answer cls && passed s.self.key buf cls) (answered now buf cls t without) s
      (λ e. answered_kept cls t without q (k.dropped (tid_of buf) s.self s.report.used s.lent h)) (λ e. h)

  indicated_kept : (p : Option Address) (f : Option Value) (s : Run) → Kept s → Kept (indicated p f s)
  indicated_kept (Some peer) (Some v) s h = h
  indicated_kept (Some peer) None s h = h
  indicated_kept None f s h = h

  message_kept : (s : Run) → Kept s → Kept (handle_message now buf s)
  message_kept s h =
      choose Kept (eqb (field_at buf 0) 0x0017) _ _ (λ e. indicated_kept (xor_addr_of buf 0x0012) (get_of buf 0x0013) s h)
      (λ e. found Kept (get (under_id (tid_of buf)) s.self.txns) (λ t. answer now buf t s) s
      (λ t q. answer_kept t s (k.known (tid_of buf) t s.self s.report.used s.lent q h) h) h)

  handle_kept : (s : Run) → Kept s → Kept (handle now buf s)
  unfolding handle
  handle_kept s h = by (decode_channel_data buf)
    where
      by : (c : Option ChannelData) → Kept (handle_channel now buf c s)
      by (Some d) = found Kept (get (of_number d.number) s.self.chans) _ s (λ c e. h) h
      by None = choose Kept (readable buf) (handle_message now buf s) s (λ e. message_kept s h) (λ e. h)

  -- the one place where a number is given
  new_kept : (peer : Address) (s : Run) → contains (for_peer peer) s.self.chans ≡ false → s.self.next_num ≤ 0x7FFF → Kept s → Kept (new_channel now peer s)
  new_kept peer s e m h =
      let c : Chan = record { peer = peer; num = s.self.next_num; bound = false; refresh_at = now } in
      let s₁ : Run = insert_chan c (on_self (set_next_num (s.self.next_num + 1)) s) in
      let one : Kept s₁ =
      chan_kept c (on_self (set_next_num (s.self.next_num + 1)) s) (k.numbered c s.self s.report.used s.lent e refl m refl h) in
      found Kept (get (for_ip peer.ip) s₁.self.perms) _ s₁ (λ p q. found Kept p.refresh _ s₁ (λ at r. bind_kept peer s₁ one) one) one

  data_kept : (peer : Address) (body : List ℕ) (s : Run) → Kept s → Kept (send_data peer body s)
  data_kept peer body s h =
      found Kept (get (for_peer peer) s.self.chans) _ (send_indication peer body s)
      (λ c e. choose Kept c.bound _ (send_indication peer body s) (λ q. h) (λ q. draw_kept s h)) (draw_kept s h)

  send_kept : (peer : Address) (body : List ℕ) (s : Run) → Kept s → Kept (send now peer body s)
  unfolding send
  send_kept peer body s h =
      let s₁ : Run = cond (contains (for_ip peer.ip) s.self.perms) s (create_permission now peer.ip s) in
      let one : Kept s₁ =
      choose Kept (contains (for_ip peer.ip) s.self.perms) s (create_permission now peer.ip s) (λ e. h) (λ e. permission_kept peer.ip s h) in
      let isnew : Bool = not (contains (for_peer peer) s₁.self.chans) && leb s₁.self.next_num 0x7FFF in
      let two : Kept (cond isnew (new_channel now peer s₁) s₁) =
      choose Kept isnew (new_channel now peer s₁) s₁
      (λ e. let b = both (not (contains (for_peer peer) s₁.self.chans)) (leb s₁.self.next_num 0x7FFF) e in
      new_kept peer s₁ (not-true (contains (for_peer peer) s₁.self.chans) b.0) (leb-true s₁.self.next_num 0x7FFF b.1) one)
      (λ e. one) in
      choose Kept (not (is_some s.self.relay) || s.self.closing) s (send_data peer body (cond isnew (new_channel now peer s₁) s₁)) (λ e. h)
      (λ e. data_kept peer body (cond isnew (new_channel now peer s₁) s₁) two)

  refresh_kept : (s : Run) → Kept s → Kept (poll_refresh now s)
  unfolding poll_refresh
  refresh_kept s h =
      choose Kept (is_due now s.self.refresh_at) _ s
      (λ e. request_kept (Refresh 600) _ (on_self (set_refresh_at None) s) k.refresh refl (k.renewing s.self s.report.used s.lent h)) (λ e. h)

  perms_kept : (s : Run) → Kept s → Kept (poll_perms now s)
  unfolding poll_perms
  perms_kept s h = each_keeps Kept (create_permission now) permission_kept (map (λ p. p.ip) (filter (λ p. is_due now p.refresh) s.self.perms)) s h

  chans_kept : (s : Run) → Kept s → Kept (poll_chans now s)
  unfolding poll_chans
  chans_kept s h =
      each_keeps Kept (renew_channel now)
      (λ peer r q. bind_kept peer (update_chan peer (renewed_at now) r) (update_kept peer (renewed_at now) r (λ c. refl) (λ c. refl) (λ c. inr refl) q))
      (map (λ c. c.peer) (filter (λ c. c.bound && leb c.refresh_at now) s.self.chans)) s h

  due_kept : (tid : List ℕ) (s : Run) → Kept s → Kept (poll_due now tid s)
  unfolding poll_due
  due_kept tid s h =
      let without : Run = on_self (set_txns (remove (under_id tid) s.self.txns)) s in
      found Kept (get (under_id tid) s.self.txns) _ s
      (λ t e. choose Kept (s.self.reliable || leb MAX_TRIES t.tries) (on_failure t.kind Timeout without)
      (insert_txn (repeated now t) (push_message (encode without.self t.msg) without))
      (λ q. failure_kept t.kind Timeout without (k.dropped tid s.self s.report.used s.lent h))
      (λ q. put_kept (repeated now t) (push_message (encode without.self t.msg) without)
      (k.again tid t s.self s.report.used s.lent e (neither s.self.reliable (leb MAX_TRIES t.tries) q) h))) h
    where
      neither : (a b : Bool) → (a || b) ≡ false → b ≡ false
      neither true b e = never e
      neither false b e = e

  poll_kept : (s : Run) → Kept s → Kept (poll now s)
  unfolding poll
  poll_kept s h =
      let s₁ : Run = each (poll_due now) (due_of now s.self) s in
      let one : Kept s₁ = each_keeps Kept (poll_due now) due_kept (due_of now s.self) s h in
      choose Kept s₁.self.closing s₁ (poll_chans now (poll_perms now (poll_refresh now s₁))) (λ e. one)
      (λ e. chans_kept (poll_perms now (poll_refresh now s₁)) (perms_kept (poll_refresh now s₁) (refresh_kept s₁ one)))

  lost_kept : (s : Run) → Kept s → Kept (transport_failed s)
  unfolding transport_failed
  lost_kept s h =
      let us : List (List ℕ) = s.report.used in
      let z = k.closed (set_txns [] s.self) us s.lent (k.cleared s.self us s.lent h) in
      choose Kept (s.self.done && is_some s.self.relay) _ _ (λ e. z) (λ e. k.over (set_closing true (set_txns [] s.self)) us s.lent z)

  close_kept : (s : Run) → Kept s → Kept (close s)
  unfolding close
  close_kept s h =
      let us : List (List ℕ) = s.report.used in
      let s₁ : Run = on_self (λ c. set_txns [] (set_closing true c)) s in
      choose Kept (not (is_some s.self.relay) || s.self.closing) s _ (λ e. h)
      (λ e. draw_kept s₁ (k.cleared (set_closing true s.self) us s.lent (k.closed s.self us s.lent h)))

-- a call's time and datagram
abbrev pub time_of : Call → ℕ
time_of (Start now ids room) = now
time_of (Handle now buf ids room) = now
time_of (Send now peer body ids room) = now
time_of (Poll now ids room) = now
time_of TransportFailed = 0
time_of (Close ids room) = 0

abbrev pub datagram_of : Call → List ℕ
datagram_of (Start now ids room) = []
datagram_of (Handle now buf ids room) = buf
datagram_of (Send now peer body ids room) = []
datagram_of (Poll now ids room) = []
datagram_of TransportFailed = []
datagram_of (Close ids room) = []

module _ (K : Kind → Type 0) (Q : Fact) where
  pub method_kept : (call : Call) (s : Run) → Keeps (time_of call) (datagram_of call) K Q → Q s.self s.report.used s.lent
      → Q (method_of call s).self (method_of call s).report.used (method_of call s).lent
  unfolding start
  method_kept (Start now ids room) s k h = request_kept now [] K Q k Allocate _ s k.allocate refl h
  method_kept (Handle now buf ids room) s k h = handle_kept now buf K Q k s h
  method_kept (Send now peer body ids room) s k h = send_kept now [] K Q k peer body s h
  method_kept (Poll now ids room) s k h = poll_kept now [] K Q k s h
  method_kept TransportFailed s k h = lost_kept 0 [] K Q k s h
  method_kept (Close ids room) s k h = close_kept 0 [] K Q k s h

-- so the ids lent stay what they were
pub lent_kept : (call : Call) (s : Run) → (method_of call s).lent ≡ s.lent
lent_kept call s = method_kept Anything Same call s stays refl
  where
    Same : Fact
    Same c us l = l ≡ s.lent

    stays : Keeps (time_of call) (datagram_of call) Anything Same
    stays =
        record {
          allocate = tt;
          refresh = tt;
          permission = λ ip. tt;
          bind = λ peer x c us l e h. tt;
          known = λ tid t c us l e h. tt;
          drawn = λ c us l h. h;
          asked = λ t c us l q e n w h. h;
          again = λ tid t c us l e n h. h;
          dropped = λ tid c us l h. h;
          cleared = λ c us l h. h;
          permitted = λ p c us l at h. h;
          forbidden = λ ip c us l h. h;
          numbered = λ x c us l e n m at h. h;
          written = λ peer x y c us l e yn yp at h. h;
          unbound = λ peer c us l h. h;
          keyed = λ realm key c us l h. h;
          nonced = λ nonce c us l h. h;
          relayed = λ relay c us l h. h;
          renewed = λ lifetime c us l q h. h;
          renewing = λ c us l h. h;
          closed = λ c us l h. h;
          over = λ c us l h. h;
        }
