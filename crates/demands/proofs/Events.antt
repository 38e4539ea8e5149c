-- A call's events are one event, so many times: at most one, but for `poll`, which tells only of timeouts.
use Rattle.std.specs.Prelude.{Option, None, Some}
use mathlib.Core.Path.{◌≡◌, refl, ap, sym, subst, ◌∙◌}
use mathlib.Core.Bool.{Bool, true, false, cond, ◌&&◌, ◌||◌, not}
use mathlib.Core.List.{List, [], ◌∷◌, map, ◌++◌}
use Prim.Native.Nat.{ℕ, ◌+◌}
use lib.ListN.{length, replicate}
use lib.Dec.{leb, ltb, eqb}
use Rattle.stun_frame.specs.declared.classes.Class.{Class}
use Rattle.stun_frame.specs.declared.classes.Class.TheVariants.{Request, Indication, Success, Error}
use Rattle.stun_frame.specs.Source.{class, field_at, decode_channel_data}
use Rattle.stun_address.specs.declared.Address.{Address}
use Rattle.stun_walk.specs.Source.{readable, get_of, error_code_of, xor_addr_of}
use Rattle.turn_state.specs.declared.Kind.{Kind}
use Rattle.turn_state.specs.declared.Kind.TheVariants.{Allocate, Refresh, Permission, ChannelBind}
use Rattle.turn_state.specs.declared.Reason.{Reason}
use Rattle.turn_state.specs.declared.Reason.TheVariants.{Code as ErrorCode, Timeout, NoRelayedAddress, Lost}
use Rattle.turn_state.specs.declared.Event.{Event}
use Rattle.turn_state.specs.declared.Event.TheVariants.{Failed, Data}
use Rattle.turn_state.specs.Maps.{get, contains, remove, filter, if_let, is_some}
use Rattle.turn_state.specs.State.{Txn, Perm, Chan, Turn, Run, begin, set_txns, set_next_num, on_self}
use Rattle.turn_state.specs.Source.{under_id, for_ip, for_peer, of_number, insert_perm, insert_chan, start, bind_channel, create_permission, on_failure, waiting, allocated, on_success, code_or_0, get_str, take_realm, retry, answered, is_answer, passed, tid_of, answer, indicated, handle_message, handle_channel, handle, new_channel, send_indication, send_data, send, transport_failed, close}
use Rattle.turn_state.specs.Sequence.{Call, Start, Handle, Send, Poll, TransportFailed, Close}
use Rattle.turn_state.specs.View.{Each, no_rows, row, told}
use Rattle.turn.proofs.Steps.{each_keeps, if_there, either_way, add_ev, inserted_ev}
use Rattle.turn.proofs.Missed.{TimedOut, only_timeouts, request_ev, bind_ev, permission_ev}
use Rattle.turn.proofs.Refused.{run_of}
use Rattle.stun_frame.specs.declared.ChannelData.{ChannelData}
use Rattle.stun_walk.specs.declared.Value.{Value}
use Rattle.demands.specs.Demand2.{times}

abbrev pub OneEvent : List Event → Type 0
OneEvent l = l ≡ times (length l) (told l)

all_timeouts : {l : List Event} → Each TimedOut l → l ≡ replicate (length l) (Failed Timeout)
all_timeouts no_rows = refl
all_timeouts (row {r = e} {rest = l} h more) = let t = all_timeouts more in λ i. h i ∷ t i

timeouts_one : {l : List Event} → Each TimedOut l → OneEvent l
timeouts_one no_rows = refl
timeouts_one (row {r = e} {rest = l} h more) = let t = all_timeouts more in let b : replicate (length l) (Failed Timeout) ≡ replicate (length l) e = ap (replicate (length l)) (sym h) in ap (λ (x : List Event). e ∷ x) (t ∙ b)

-- at most one
pub data AtMostOne : List Event → Type 0 where
  nothing : AtMostOne []
  one : {e : Event} → AtMostOne (e ∷ [])

at_most_one : {l : List Event} → AtMostOne l → OneEvent l
at_most_one nothing = refl
at_most_one one = refl

abbrev Quiet : Run → Type 0
Quiet s = s.ev ≡ []

abbrev Few : Run → Type 0
Few s = AtMostOne s.ev

few : {l : List Event} → l ≡ [] → AtMostOne l
few q = subst AtMostOne (sym q) nothing

tell_few : (e : Event) {l : List Event} → l ≡ [] → AtMostOne (l ++ (e ∷ []))
tell_few e q = subst (λ (l : List Event). AtMostOne (l ++ (e ∷ []))) (sym q) one

-- steps that tell nothing
perm_ev : (p : Perm) (s : Run) → (insert_perm p s).ev ≡ s.ev
unfolding insert_perm
perm_ev p s = add_ev 32 (length s.self.perms) s (contains (for_ip p.ip) s.self.perms)

chan_ev : (c : Chan) (s : Run) → (insert_chan c s).ev ≡ s.ev
unfolding insert_chan
chan_ev c s = add_ev 32 (length s.self.chans) s (contains (for_peer c.peer) s.self.chans)

retry_ev : (now : ℕ) (buf : List ℕ) (t : Txn) (s : Run) → (retry now buf t s).ev ≡ s.ev
unfolding retry
retry_ev now buf t s =
    inserted_ev _ _
    ∙ if_there (λ r. r.ev) (get_str buf 0x0015) _ (take_realm buf s) s.ev
    (λ x. if_there (λ r. r.ev) (get_str buf 0x0014) _ s s.ev (λ y. refl) refl)
    (if_there (λ r. r.ev) (get_str buf 0x0014) _ s s.ev (λ y. refl) refl)

new_ev : (now : ℕ) (peer : Address) (s : Run) → (new_channel now peer s).ev ≡ s.ev
new_ev now peer s =
    let c : Chan = record { peer = peer; num = s.self.next_num; bound = false; refresh_at = now } in
    let s₀ : Run = on_self (set_next_num (s.self.next_num + 1)) s in
    let s₁ : Run = insert_chan c s₀ in
    if_there (λ r. r.ev) (get (for_ip peer.ip) s₁.self.perms) _ s₁ s.ev
    (λ p. if_there (λ r. r.ev) p.refresh _ s₁ s.ev (λ at. bind_ev now peer s₁ ∙ chan_ev c s₀) (chan_ev c s₀)) (chan_ev c s₀)

data_ev : (peer : Address) (body : List ℕ) (s : Run) → (send_data peer body s).ev ≡ s.ev
data_ev peer body s =
    if_there (λ r. r.ev) (get (for_peer peer) s.self.chans) _ (send_indication peer body s) s.ev
    (λ c. either_way (λ (r : Run). r.ev) c.bound _ (send_indication peer body s) s.ev refl refl) refl

send_ev : (now : ℕ) (peer : Address) (body : List ℕ) (s : Run) → (send now peer body s).ev ≡ s.ev
unfolding send
send_ev now peer body s =
    let s₁ : Run = cond (contains (for_ip peer.ip) s.self.perms) s (create_permission now peer.ip s) in
    let e₁ : s₁.ev ≡ s.ev =
    either_way (λ (r : Run). r.ev) (contains (for_ip peer.ip) s.self.perms) s (create_permission now peer.ip s) s.ev refl (permission_ev now peer.ip s) in
    let isnew : Bool = not (contains (for_peer peer) s₁.self.chans) && leb s₁.self.next_num 0x7FFF in
    let s₂ : Run = cond isnew (new_channel now peer s₁) s₁ in
    let e₂ : s₂.ev ≡ s.ev = either_way (λ (r : Run). r.ev) isnew (new_channel now peer s₁) s₁ s.ev (new_ev now peer s₁ ∙ e₁) e₁ in
    either_way (λ (r : Run). r.ev) (not (is_some s.self.relay) || s.self.closing) s (send_data peer body s₂) s.ev refl (data_ev peer body s₂ ∙ e₂)

-- steps that tell of one event
either_few : (b : Bool) (x y : Run) → Few x → Few y → Few (cond b x y)
either_few true x y h k = h
either_few false x y h k = k

there_few : {X : Type 0} (o : Option X) (f : X → Run) (s : Run) → ((x : X) → Few (f x)) → Few s → Few (if_let o f s)
there_few None f s h k = k
there_few (Some x) f s h k = h x

failure_few : (kind : Kind) (why : Reason) (s : Run) → Quiet s → Few (on_failure kind why s)
unfolding on_failure
failure_few Allocate why s q = tell_few (Failed why) q
failure_few (Permission ip) why s q = few q
failure_few (Refresh lifetime) why s q = few q
failure_few (ChannelBind peer num) why s q = few q

success_few : (now : ℕ) (kind : Kind) (buf : List ℕ) (s : Run) → Quiet s → Few (on_success now kind buf s)
unfolding on_success
success_few now Allocate buf s q = by (xor_addr_of buf 0x0016)
  where
    by : (p : Option Address) → Few (allocated now buf p s)
    by None = failure_few Allocate NoRelayedAddress s q
    by (Some relay) = tell_few _ q
success_few now (Refresh lifetime) buf s q = either_few (ltb 0 lifetime) _ s (few q) (few q)
success_few now (Permission ip) buf s q =
    let p : Perm = record { ip = ip; refresh = Some (now + 240000) } in
    few (each_keeps Quiet (bind_channel now) (λ peer r h. bind_ev now peer r ∙ h) (map (λ c. c.peer) (filter (waiting ip) (insert_perm p s).self.chans)) (insert_perm p s) (perm_ev p s ∙ q))
success_few now (ChannelBind peer num) buf s q = there_few (get (for_peer peer) s.self.chans) _ s (λ c. few q) (few q)

answered_few : (now : ℕ) (buf : List ℕ) (cls : Class) (t : Txn) (s : Run) → Quiet s → Few (answered now buf cls t s)
answered_few now buf Success t s q = success_few now t.kind buf s q
answered_few now buf Error t s q =
    let code : ℕ = code_or_0 (error_code_of buf) in
    either_few ((eqb code 401 || eqb code 438) && not t.auth_retried) (retry now buf t s) (on_failure t.kind (ErrorCode code) s) (few (retry_ev now buf t s ∙ q))
    (failure_few t.kind (ErrorCode code) s q)
answered_few now buf Request t s q = few q
answered_few now buf Indication t s q = few q

answer_few : (now : ℕ) (buf : List ℕ) (t : Txn) (s : Run) → Quiet s → Few (answer now buf t s)
answer_few now buf t s q =
    let cls : Class = class (field_at buf 0) in
    let without : Run = on_self (set_txns (remove (under_id (tid_of buf)) s.self.txns)) s in
    either_few (is_answer cls && passed s.self.key buf cls) (answered now buf cls t without) s (answered_few now buf cls t without q) (few q)

indicated_few : (p : Option Address) (f : Option Value) (s : Run) → Quiet s → Few (indicated p f s)
indicated_few (Some peer) (Some v) s q = tell_few (Data peer v.start v.len) q
indicated_few (Some peer) None s q = few q
indicated_few None f s q = few q

handle_few : (now : ℕ) (buf : List ℕ) (s : Run) → Quiet s → Few (handle now buf s)
unfolding handle
handle_few now buf s q = by (decode_channel_data buf)
  where
    by : (c : Option ChannelData) → Few (handle_channel now buf c s)
    by (Some d) = there_few (get (of_number d.number) s.self.chans) _ s (λ c. tell_few (Data c.peer d.start d.len) q) (few q)
    by None =
        either_few (readable buf) (handle_message now buf s) s
        (either_few (eqb (field_at buf 0) 0x0017) (indicated (xor_addr_of buf 0x0012) (get_of buf 0x0013) s) _ (indicated_few (xor_addr_of buf 0x0012) (get_of buf 0x0013) s q)
        (there_few (get (under_id (tid_of buf)) s.self.txns) (λ t. answer now buf t s) s (λ t. answer_few now buf t s q) (few q)))
        (few q)

start_ev : (now : ℕ) (s : Run) → (start now s).ev ≡ s.ev
unfolding start
start_ev now s = request_ev now Allocate _ _

close_ev : (s : Run) → (close s).ev ≡ s.ev
unfolding close
close_ev s = either_way (λ (r : Run). r.ev) (not (is_some s.self.relay) || s.self.closing) s _ s.ev refl refl

lost_few : (s : Run) → Quiet s → Few (transport_failed s)
unfolding transport_failed
lost_few s q = either_few (s.self.done && is_some s.self.relay) _ _ (few q) (tell_few (Failed Lost) q)

pub one_event : (c : Turn) (call : Call) → OneEvent (run_of c call).ev
one_event c (Start now ids room) = at_most_one (few (start_ev now (begin c ids)))
one_event c (Handle now buf ids room) = at_most_one (handle_few now buf (begin c ids) refl)
one_event c (Send now peer body ids room) = at_most_one (few (send_ev now peer body (begin c ids)))
one_event c (Poll now ids room) = timeouts_one (only_timeouts now c ids)
one_event c TransportFailed = at_most_one (lost_few (begin c []) refl)
one_event c (Close ids room) = at_most_one (few (close_ev (begin c ids)))
