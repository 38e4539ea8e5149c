-- turn.rs with its second map, `by_num`, from a channel's number to its peer. Source has every method; here stand again, under the same
-- names, those that put into it, take out of it or look into it, and those that call them. No number, room or limit is read.
use Rattle.std.specs.Prelude.{Bool, false, cond, ◌&&◌, ◌||◌, not, List, [], ◌∷◌, ℕ, ◌+◌, length, leb, eqb, Option, None, Some}
use Rattle.stun_frame.specs.declared.classes.Class.{Class}
use Rattle.stun_frame.specs.declared.classes.Class.TheVariants.{Request, Indication, Success, Error}
use Rattle.stun_frame.specs.Source.{class, field_at, decode_channel_data}
use Rattle.stun_address.specs.declared.Address.{Address}
use Rattle.stun_walk.specs.Source.{readable, get_of, error_code_of, xor_addr_of}
use Rattle.turn_state.specs.declared.Kind.{Kind}
use Rattle.turn_state.specs.declared.Kind.TheVariants.{Allocate, Refresh, Permission, ChannelBind}
use Rattle.turn_state.specs.declared.Reason.{Reason}
use Rattle.turn_state.specs.declared.Reason.TheVariants.{Code as ErrorCode, Timeout}
use Rattle.turn_state.specs.declared.Event.{Event}
use Rattle.turn_state.specs.declared.Event.TheVariants.{Data}
use Rattle.turn_state.specs.Maps.{get, contains, insert, remove, each, if_let, is_some}
use Rattle.turn_state.specs.State.{Txn, Chan, Turn, Run, begin, set_txns, set_chans, set_next_num, on_self, tell}
use Rattle.turn_state.specs.Source.{under_id, for_ip, for_peer, insert_txn, insert_chan, new, encode, push_message, start, bind_channel, create_permission, on_failure, on_success, retry, code_or_0, is_answer, passed, tid_of, indicated, send_data, repeated, MAX_TRIES, poll_refresh, poll_perms, poll_chans, due_of, next_deadline, transport_failed, close}
use Rattle.turn_state.specs.Sequence.{Call, Start, Handle, Send, Poll, TransportFailed, Close}
use Rattle.stun_frame.specs.declared.ChannelData.{ChannelData}

-- by_num: HashMap<u16, SocketAddr>
pub record Named : Type 0 where
  pub num : ℕ
  pub peer : Address

abbrev pub under_num : ℕ → Named → Bool
under_num num x = eqb x.num num

-- by_num.get(&num)
abbrev pub named : ℕ → List Named → Option Address
named num m = if_let (get (under_num num) m) (λ x. Some x.peer) None

-- struct TurnClient, whole; and a method's run over it
pub record Rust : Type 0 where
  pub turn : Turn
  pub by_num : List Named

pub record Whole : Type 0 where
  pub run : Run
  pub by_num : List Named

-- what does not touch by_num
abbrev pub on_run : (Run → Run) → Whole → Whole
on_run f w = record { run = f w.run; by_num = w.by_num }

-- self.by_num = ..
abbrev pub on_by_num : (List Named → List Named) → Whole → Whole
on_by_num f w = record { run = w.run; by_num = f w.by_num }

-- new
abbrev pub rust_new : List ℕ → List ℕ → Bool → Rust
rust_new username password reliable = record { turn = new username password reliable; by_num = [] }

-- on_failure: if let Some(c) = self.chans.remove(&peer) { self.by_num.remove(&c.num); }
abbrev pub rust_on_failure : Kind → Reason → Whole → Whole
rust_on_failure Allocate why w = on_run (on_failure Allocate why) w
rust_on_failure (Permission ip) why w = on_run (on_failure (Permission ip) why) w
rust_on_failure (Refresh lifetime) why w = on_run (on_failure (Refresh lifetime) why) w
rust_on_failure (ChannelBind peer num) why w =
    if_let (get (for_peer peer) w.run.self.chans)
    (λ c. on_by_num (remove (under_num c.num)) (on_run (on_self (set_chans (remove (for_peer peer) w.run.self.chans))) w))
    w

-- match cls
abbrev pub rust_answered : ℕ → List ℕ → Class → Txn → Whole → Whole
rust_answered now buf Success txn w = on_run (on_success now txn.kind buf) w
rust_answered now buf Error txn w =
    let code = code_or_0 (error_code_of buf) in
    cond ((eqb code 401 || eqb code 438) && not txn.auth_retried) (on_run (retry now buf txn) w) (rust_on_failure txn.kind (ErrorCode code) w)
rust_answered now buf Request txn w = w
rust_answered now buf Indication txn w = w

abbrev pub rust_answer : ℕ → List ℕ → Txn → Whole → Whole
rust_answer now buf txn w =
    let cls = class (field_at buf 0) in
    cond (is_answer cls && passed w.run.self.key buf cls)
    (rust_answered now buf cls txn (on_run (on_self (set_txns (remove (under_id (tid_of buf)) w.run.self.txns))) w))
    w

abbrev pub rust_handle_message : ℕ → List ℕ → Whole → Whole
rust_handle_message now buf w =
    cond (eqb (field_at buf 0) 0x0017) (on_run (indicated (xor_addr_of buf 0x0012) (get_of buf 0x0013)) w)
    (if_let (get (under_id (tid_of buf)) w.run.self.txns) (λ txn. rust_answer now buf txn w) w)

-- handle: if let Some(peer) = self.by_num.get(&num)
abbrev pub rust_handle_channel : ℕ → List ℕ → Option ChannelData → Whole → Whole
rust_handle_channel now buf (Some d) w = if_let (named d.number w.by_num) (λ peer. on_run (tell (Data peer d.start d.len)) w) w
rust_handle_channel now buf None w = cond (readable buf) (rust_handle_message now buf w) w

abbrev pub rust_handle : ℕ → List ℕ → Whole → Whole
rust_handle now buf w = rust_handle_channel now buf (decode_channel_data buf) w

-- send: self.by_num.insert(num, peer)
abbrev pub rust_new_channel : ℕ → Address → Whole → Whole
rust_new_channel now peer w =
    let num = w.run.self.next_num in
    let c : Chan = record { peer = peer; num = num; bound = false; refresh_at = now } in
    let w₁ = on_run (λ s. insert_chan c (on_self (set_next_num (num + 1)) s)) w in
    let w₂ = on_by_num (insert (under_num num) (record { num = num; peer = peer })) w₁ in
    if_let (get (for_ip peer.ip) w₂.run.self.perms) (λ p. if_let p.refresh (λ at. on_run (bind_channel now peer) w₂) w₂) w₂

abbrev pub rust_send : ℕ → Address → List ℕ → Whole → Whole
rust_send now peer body w =
    cond (not (is_some w.run.self.relay) || w.run.self.closing) w
    (let w₁ = cond (contains (for_ip peer.ip) w.run.self.perms) w (on_run (create_permission now peer.ip) w) in
    let w₂ = cond (not (contains (for_peer peer) w₁.run.self.chans) && leb w₁.run.self.next_num 0x7FFF) (rust_new_channel now peer w₁) w₁ in
    on_run (send_data peer body) w₂)

-- poll: for tid in due
abbrev pub rust_poll_due : ℕ → List ℕ → Whole → Whole
rust_poll_due now tid w =
    if_let (get (under_id tid) w.run.self.txns)
    (λ t. let w₁ = on_run (on_self (set_txns (remove (under_id tid) w.run.self.txns))) w in
    cond (w₁.run.self.reliable || leb MAX_TRIES t.tries) (rust_on_failure t.kind Timeout w₁)
    (on_run (λ s. insert_txn (repeated now t) (push_message (encode s.self t.msg) s)) w₁))
    w

abbrev pub rust_poll : ℕ → Whole → Whole
rust_poll now w =
    let w₁ = each (rust_poll_due now) (due_of now w.run.self) w in
    cond w₁.run.self.closing w₁ (on_run (λ s. poll_chans now (poll_perms now (poll_refresh now s))) w₁)

-- a call's method, and the ids that it may draw: the k-th that it draws is the k-th of them
abbrev pub rust_method : Call → Whole → Whole
rust_method (Start now ids room) = on_run (start now)
rust_method (Handle now buf ids room) = rust_handle now buf
rust_method (Send now peer body ids room) = rust_send now peer body
rust_method (Poll now ids room) = rust_poll now
rust_method TransportFailed = on_run transport_failed
rust_method (Close ids room) = on_run close

abbrev pub ids_of : Call → List ℕ
ids_of (Start now ids room) = ids
ids_of (Handle now buf ids room) = ids
ids_of (Send now peer body ids room) = ids
ids_of (Poll now ids room) = ids
ids_of TransportFailed = []
ids_of (Close ids room) = ids

-- what a call gives: packets, events, the deadline after it and the client; and how many ids it has drawn
pub record Gives : Type 0 where
  pub packets : List (List ℕ)
  pub events : List Event
  pub deadline : Option ℕ
  pub client : Rust
  pub drawn : ℕ

abbrev pub gives : Whole → Gives
gives w =
    record {
      packets = w.run.out;
      events = w.run.ev;
      deadline = next_deadline w.run.self;
      client = record { turn = w.run.self; by_num = w.by_num };
      drawn = length w.run.report.used;
    }

abbrev pub rust_call : Rust → Call → Gives
rust_call c call = gives (rust_method call (record { run = begin c.turn (ids_of call); by_num = c.by_num }))

-- the Rust's own sequence
abbrev pub rust : Rust → List Call → List Gives
rust c [] = []
rust c (call ∷ more) = rust_call c call ∷ rust (rust_call c call).client more
