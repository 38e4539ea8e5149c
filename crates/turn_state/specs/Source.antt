-- turn.rs, method by method, under its names, in its order of steps. Times are whole milliseconds. A method that takes `&mut self`
-- is a function from run to run: it has `self`, and its packets and events go to the run's `out` and `ev`.
use Rattle.std.specs.Prelude.{Bool, true, false, cond, ◌&&◌, ◌||◌, not, List, [], ◌∷◌, ◌++◌, map, ℕ, ◌+◌, ◌-◌, ◌*◌, ◌/◌, ◌%◌, ◌^◌, min, max, length, take, drop, replicate, ltb, leb, eqb, Option, None, Some}
use Rattle.stun_frame.specs.declared.classes.Class.{Class}
use Rattle.stun_frame.specs.declared.classes.Class.TheVariants.{Request, Indication, Success, Error}
use Rattle.stun_frame.specs.declared.ChannelData.{ChannelData}
use Rattle.stun_frame.specs.Source.{class, field_at, padding, encode_channel_data, decode_channel_data}
use Rattle.stun_address.specs.declared.Ip.{Ip}
use Rattle.stun_address.specs.declared.Ip.TheVariants.{V4, V6}
use Rattle.stun_address.specs.declared.Address.{Address}
use Rattle.stun_address.specs.Source.{to_be, encode_xor_addr}
use Rattle.stun_text.specs.Utf8.{replaced}
use Rattle.stun_walk.specs.declared.Value.{Value}
use Rattle.stun_walk.specs.Source.{value_in, readable, get_of, error_code_of, lifetime_of, xor_addr_of}
use Rattle.stun_check.specs.Source.{same, verified, long_term}
use Rattle.stun_write.specs.Source.{Attribute, attributes, Key, unsigned, signed, encoded}
use Rattle.turn_state.specs.declared.Kind.{Kind}
use Rattle.turn_state.specs.declared.Kind.TheVariants.{Allocate, Refresh, Permission, ChannelBind}
use Rattle.turn_state.specs.declared.Reason.{Reason}
use Rattle.turn_state.specs.declared.Reason.TheVariants.{Code as ErrorCode, Timeout, NoRelayedAddress, Lost}
use Rattle.turn_state.specs.declared.Event.TheVariants.{Allocated, Failed, Data}
use Rattle.turn_state.specs.Maps.{get, contains, insert, remove, filter, each, if_let, is_some}
use Rattle.turn_state.specs.State.{Message, Txn, Perm, Chan, Turn, Run, set_txns, set_perms, set_chans, set_realm, set_nonce, set_key, set_relay, set_done, set_refresh_at, set_next_num, set_closing, on_self, tell, push_frame, on_report, report_added, report_text, report_body, new_tid, drew}

-- RTO, MAX_TRIES, PERMISSION_REFRESH, CHANNEL_REFRESH, RELIABLE_TIMEOUT
abbrev pub RTO : ℕ
RTO = 500

abbrev pub MAX_TRIES : ℕ
MAX_TRIES = 6

abbrev pub PERMISSION_REFRESH : ℕ
PERMISSION_REFRESH = 240000

abbrev pub CHANNEL_REFRESH : ℕ
CHANNEL_REFRESH = 540000

abbrev pub RELIABLE_TIMEOUT : ℕ
RELIABLE_TIMEOUT = 39500

-- SOFTWARE: "tauri-plugin-webrtc"
abbrev pub SOFTWARE : List ℕ
SOFTWARE = 0x74 ∷ 0x61 ∷ 0x75 ∷ 0x72 ∷ 0x69 ∷ 0x2D ∷ 0x70 ∷ 0x6C ∷ 0x75 ∷ 0x67 ∷ 0x69 ∷ 0x6E ∷ 0x2D ∷ 0x77 ∷ 0x65 ∷ 0x62 ∷ 0x72 ∷ 0x74 ∷ 0x63 ∷ []

-- == on IpAddr and on SocketAddr: the two families have no address in common
abbrev pub same_ip : Ip → Ip → Bool
same_ip (V4 x) (V4 y) = eqb x y
same_ip (V4 x) (V6 h l) = false
same_ip (V6 h l) (V4 y) = false
same_ip (V6 h l) (V6 k m) = eqb h k && eqb l m

abbrev pub same_address : Address → Address → Bool
same_address a b = same_ip a.ip b.ip && eqb a.port b.port

-- the keys of the maps: txns by id, perms by IP, chans by peer, by_num by number
abbrev pub under_id : List ℕ → Txn → Bool
under_id tid t = same t.msg.tid tid

-- the id of a new request: one that was not lent stands for an id that equals no other
abbrev pub under_drawn : List ℕ → Txn → Bool
under_drawn [] t = false
under_drawn (b ∷ bs) t = under_id (b ∷ bs) t

abbrev pub for_ip : Ip → Perm → Bool
for_ip ip p = same_ip p.ip ip

abbrev pub for_peer : Address → Chan → Bool
for_peer peer c = same_address c.peer peer

abbrev pub of_number : ℕ → Chan → Bool
of_number num c = eqb c.num num

-- by_num.get(&num), as the channels tell it: the peer of the channel that has the number
abbrev pub peer_of : ℕ → List Chan → Option Address
peer_of num l = if_let (get (of_number num) l) (λ c. Some c.peer) None

-- the maps' insert, where a record that is added is reported with what its table holds at that moment
abbrev pub add : Bool → ℕ → ℕ → Run → Run
add true room held s = s
add false room held s = on_report (report_added (record { room = room; held = held })) s

unfoldable pub insert_txn : Txn → Run → Run
insert_txn t s =
    let is = under_drawn t.msg.tid in
    let m = s.self.txns in on_self (set_txns (insert is t m)) (add (contains is m) 64 (length m) s)

unfoldable pub insert_perm : Perm → Run → Run
insert_perm p s =
    let is = for_ip p.ip in
    let m = s.self.perms in on_self (set_perms (insert is p m)) (add (contains is m) 32 (length m) s)

unfoldable pub insert_chan : Chan → Run → Run
insert_chan c s =
    let is = for_peer c.peer in
    let m = s.self.chans in on_self (set_chans (insert is c m)) (add (contains is m) 32 (length m) s)

-- new
abbrev pub new : List ℕ → List ℕ → Bool → Turn
new username password reliable =
    record {
      username = username;
      password = password;
      realm = None;
      nonce = None;
      key = None;
      relay = None;
      done = false;
      refresh_at = None;
      txns = [];
      perms = [];
      chans = [];
      next_num = 0x4000;
      closing = false;
      reliable = reliable;
    }

-- .attr(t, v)
abbrev pub attr : ℕ → List ℕ → Attribute
attr t v = record { typ = t; value = v }

-- with_auth: ATTR_USERNAME, ATTR_REALM, ATTR_NONCE, if realm and nonce are held
abbrev pub auth : List ℕ → Option (List ℕ) → Option (List ℕ) → List Attribute
auth username (Some realm) (Some nonce) = attr 0x0006 username ∷ attr 0x0014 realm ∷ attr 0x0015 nonce ∷ []
auth username (Some realm) None = []
auth username None _ = []

abbrev pub with_auth : Turn → Message → Message
with_auth c m = record { typ = m.typ; tid = m.tid; attrs = m.attrs ++ auth c.username c.realm c.nonce }

-- Message::encode(key, fingerprint) of stun.rs
abbrev pub encode_message : Message → Key → Bool → List ℕ
encode_message m key fingerprint = encoded m.typ m.tid (attributes m.attrs) key fingerprint

-- self.key.as_ref()
abbrev pub signing : Option (List ℕ) → Key
signing None = unsigned
signing (Some key) = signed key

-- encode
abbrev pub encode : Turn → Message → List ℕ
encode c m = encode_message (with_auth c m) (signing c.key) true

-- out.push(bytes), of a message: its body is what follows the 20 bytes of its header
abbrev pub push_message : List ℕ → Run → Run
push_message bytes s = on_report (report_body (length bytes - 20)) (push_frame bytes s)

-- if self.reliable { RELIABLE_TIMEOUT } else { RTO }
abbrev pub first_wait : Turn → ℕ
first_wait c = cond c.reliable RELIABLE_TIMEOUT RTO

-- request: the message is encoded before the request stands in the map
unfoldable pub request : ℕ → Kind → Message → Run → Run
request now kind msg s =
    let bytes = encode s.self msg in
    let t : Txn = record { kind = kind; msg = msg; tries = 1; next = now + first_wait s.self; auth_retried = false } in
    push_message bytes (insert_txn t s)

-- start: ALLOCATE_REQUEST with ATTR_REQUESTED_TRANSPORT and ATTR_SOFTWARE
unfoldable pub start : ℕ → Run → Run
start now s =
    let attrs = attr 0x0019 (17 ∷ 0 ∷ 0 ∷ 0 ∷ []) ∷ attr 0x8022 SOFTWARE ∷ [] in
    request now Allocate (record { typ = 0x0003; tid = new_tid s; attrs = attrs }) (drew s)

-- bind_channel: CHANNEL_BIND_REQUEST with ATTR_CHANNEL_NUMBER and ATTR_XOR_PEER_ADDRESS
unfoldable pub bind_channel : ℕ → Address → Run → Run
bind_channel now peer s =
    if_let (get (for_peer peer) s.self.chans)
    (λ c. let tid = new_tid s in
    let attrs = attr 0x000C (c.num / 256 ∷ c.num % 256 ∷ 0 ∷ 0 ∷ []) ∷ attr 0x0012 (encode_xor_addr peer tid) ∷ [] in
    request now (ChannelBind peer c.num) (record { typ = 0x0009; tid = tid; attrs = attrs }) (drew s))
    s

-- create_permission: CREATE_PERMISSION_REQUEST with ATTR_XOR_PEER_ADDRESS, at port 0
unfoldable pub create_permission : ℕ → Ip → Run → Run
create_permission now ip s =
    let asked = insert_perm (record { ip = ip; refresh = None }) s in
    let tid = new_tid asked in
    let attrs = attr 0x0012 (encode_xor_addr (record { ip = ip; port = 0 }) tid) ∷ [] in
    request now (Permission ip) (record { typ = 0x0008; tid = tid; attrs = attrs }) (drew asked)

-- REFRESH_REQUEST with ATTR_LIFETIME
abbrev pub refresh_message : ℕ → List ℕ → Message
refresh_message lifetime tid = record { typ = 0x0004; tid = tid; attrs = attr 0x000D (to_be 4 lifetime) ∷ [] }

-- on_failure
unfoldable pub on_failure : Kind → Reason → Run → Run
on_failure Allocate why s = tell (Failed why) (on_self (set_done true) s)
on_failure (Permission ip) why s = on_self (set_perms (remove (for_ip ip) s.self.perms)) s
on_failure (ChannelBind peer num) why s = on_self (set_chans (remove (for_peer peer) s.self.chans)) s
on_failure (Refresh lifetime) why s = s

-- now + Duration::from_secs(lifetime.max(120) as u64 - 60)
abbrev pub refresh_time : ℕ → ℕ → ℕ
refresh_time now lifetime = now + (max lifetime 120 - 60) * 1000

-- msg.lifetime().unwrap_or(otherwise)
abbrev pub granted_or : ℕ → Option ℕ → ℕ
granted_or otherwise (Some n) = n
granted_or otherwise None = otherwise

-- self.chans.get_mut(peer): the channel is written where it stands
abbrev pub update_chan : Address → (Chan → Chan) → Run → Run
update_chan peer f s =
    if_let (get (for_peer peer) s.self.chans) (λ c. on_self (set_chans (insert (for_peer peer) (f c) s.self.chans)) s) s

-- c.bound = true; c.refresh_at = now + CHANNEL_REFRESH, if c.num == num
abbrev pub bound_at : ℕ → ℕ → Chan → Chan
bound_at now num c = cond (eqb c.num num) (record { peer = c.peer; num = c.num; bound = true; refresh_at = now + CHANNEL_REFRESH }) c

-- c.refresh_at = now + CHANNEL_REFRESH
abbrev pub renewed_at : ℕ → Chan → Chan
renewed_at now c = record { peer = c.peer; num = c.num; bound = c.bound; refresh_at = now + CHANNEL_REFRESH }

-- p.ip() == ip && !c.bound
abbrev pub waiting : Ip → Chan → Bool
waiting ip c = same_ip c.peer.ip ip && not c.bound

-- on_success, Kind::Allocate with ATTR_XOR_RELAYED_ADDRESS and ATTR_XOR_MAPPED_ADDRESS
abbrev pub allocated : ℕ → List ℕ → Option Address → Run → Run
allocated now buf None s = on_failure Allocate NoRelayedAddress s
allocated now buf (Some relay) s =
    tell (Allocated relay (xor_addr_of buf 0x0020))
    (on_self (λ c. set_done true (set_relay (Some relay) (set_refresh_at (Some (refresh_time now (granted_or 600 (lifetime_of buf)))) c))) s)

unfoldable pub on_success : ℕ → Kind → List ℕ → Run → Run
on_success now Allocate buf s = allocated now buf (xor_addr_of buf 0x0016) s
on_success now (Refresh lifetime) buf s =
    cond (ltb 0 lifetime) (on_self (set_refresh_at (Some (refresh_time now (granted_or lifetime (lifetime_of buf))))) s) s
on_success now (Permission ip) buf s =
    let permitted = insert_perm (record { ip = ip; refresh = Some (now + PERMISSION_REFRESH) }) s in
    each (bind_channel now) (map (λ c. c.peer) (filter (waiting ip) permitted.self.chans)) permitted
on_success now (ChannelBind peer num) buf s = update_chan peer (bound_at now num) s

-- msg.error_code().unwrap_or(0)
abbrev pub code_or_0 : Option ℕ → ℕ
code_or_0 (Some n) = n
code_or_0 None = 0

-- matches!(msg.error_code(), Some(400 | 401 | 438))
abbrev pub exempt : Option ℕ → Bool
exempt (Some n) = eqb n 400 || eqb n 401 || eqb n 438
exempt None = false

-- msg.get_str(t): the value with each maximal ill-formed subpart replaced
abbrev pub text_found : List ℕ → Option Value → Option (List ℕ)
text_found buf (Some v) = Some (replaced (value_in buf v))
text_found buf None = None

abbrev pub get_str : List ℕ → ℕ → Option (List ℕ)
get_str buf t = text_found buf (get_of buf t)

-- if let Some(realm) = msg.get_str(ATTR_REALM) { key, then realm }
abbrev pub take_realm : List ℕ → Run → Run
take_realm buf s =
    if_let (get_str buf 0x0014)
    (λ realm. on_report (report_text (length realm))
    (on_self (λ c. set_realm (Some realm) (set_key (Some (long_term c.username realm c.password)) c)) s))
    s

-- if let Some(nonce) = msg.get_str(ATTR_NONCE)
abbrev pub take_nonce : List ℕ → Run → Run
take_nonce buf s =
    if_let (get_str buf 0x0015) (λ nonce. on_report (report_text (length nonce)) (on_self (set_nonce (Some nonce)) s)) s

-- the retry of a 401 or 438: a new id over the same attributes, tries 1
unfoldable pub retry : ℕ → List ℕ → Txn → Run → Run
retry now buf txn s =
    let s₁ = take_nonce buf (take_realm buf s) in
    let fresh : Message = record { typ = txn.msg.typ; tid = new_tid s₁; attrs = txn.msg.attrs } in
    let t : Txn = record { kind = txn.kind; msg = fresh; tries = 1; next = now + first_wait s₁.self; auth_retried = true } in
    let s₂ = drew s₁ in insert_txn t (push_message (encode s₂.self fresh) s₂)

-- match cls, once the request is out of the map
abbrev pub answered : ℕ → List ℕ → Class → Txn → Run → Run
answered now buf Success txn s = on_success now txn.kind buf s
answered now buf Error txn s =
    let code = code_or_0 (error_code_of buf) in
    cond ((eqb code 401 || eqb code 438) && not txn.auth_retried) (retry now buf txn s) (on_failure txn.kind (ErrorCode code) s)
answered now buf Request txn s = s
answered now buf Indication txn s = s

-- matches!(cls, Class::Success | Class::Error)
abbrev pub is_answer : Class → Bool
is_answer Success = true
is_answer Error = true
is_answer Request = false
is_answer Indication = false

abbrev pub is_error : Class → Bool
is_error Error = true
is_error Success = false
is_error Request = false
is_error Indication = false

-- if let Some(key) = &self.key: what the check lets through
abbrev pub passed : Option (List ℕ) → List ℕ → Class → Bool
passed None buf cls = true
passed (Some key) buf cls = (is_error cls && exempt (error_code_of buf)) || verified buf key

-- msg.tid
abbrev pub tid_of : List ℕ → List ℕ
tid_of buf = take 12 (drop 8 buf)

-- an answer to a pending request
abbrev pub answer : ℕ → List ℕ → Txn → Run → Run
answer now buf txn s =
    let cls = class (field_at buf 0) in
    cond (is_answer cls && passed s.self.key buf cls)
    (answered now buf cls txn (on_self (set_txns (remove (under_id (tid_of buf)) s.self.txns)) s))
    s

-- DATA_INDICATION: ATTR_XOR_PEER_ADDRESS and ATTR_DATA
abbrev pub indicated : Option Address → Option Value → Run → Run
indicated (Some peer) (Some v) s = tell (Data peer v.start v.len) s
indicated (Some peer) None s = s
indicated None found s = s

-- handle, once it is not ChannelData
abbrev pub handle_message : ℕ → List ℕ → Run → Run
handle_message now buf s =
    cond (eqb (field_at buf 0) 0x0017) (indicated (xor_addr_of buf 0x0012) (get_of buf 0x0013) s)
    (if_let (get (under_id (tid_of buf)) s.self.txns) (λ txn. answer now buf txn s) s)

abbrev pub handle_channel : ℕ → List ℕ → Option ChannelData → Run → Run
handle_channel now buf (Some d) s = if_let (get (of_number d.number) s.self.chans) (λ c. tell (Data c.peer d.start d.len) s) s
handle_channel now buf None s = cond (readable buf) (handle_message now buf s) s

-- handle
unfoldable pub handle : ℕ → List ℕ → Run → Run
handle now buf s = handle_channel now buf (decode_channel_data buf) s

-- self.chans.insert(peer, Chan { num, bound: false, refresh_at: now }), self.next_num += 1, and the bind where the permission stands
abbrev pub new_channel : ℕ → Address → Run → Run
new_channel now peer s =
    let c : Chan = record { peer = peer; num = s.self.next_num; bound = false; refresh_at = now } in
    let s₁ = insert_chan c (on_self (set_next_num (s.self.next_num + 1)) s) in
    if_let (get (for_ip peer.ip) s₁.self.perms) (λ p. if_let p.refresh (λ at. bind_channel now peer s₁) s₁) s₁

-- frame.resize((frame.len() + 3) & !3, 0), if self.reliable
abbrev pub resized : Bool → List ℕ → List ℕ
resized reliable frame = cond reliable (frame ++ replicate (padding (length frame)) 0) frame

-- SEND_INDICATION with ATTR_XOR_PEER_ADDRESS and ATTR_DATA, encode(None, false)
abbrev pub send_indication : Address → List ℕ → Run → Run
send_indication peer body s =
    let tid = new_tid s in
    let m : Message = record { typ = 0x0016; tid = tid; attrs = attr 0x0012 (encode_xor_addr peer tid) ∷ attr 0x0013 body ∷ [] } in
    push_message (encode_message m unsigned false) (drew s)

-- the data itself: Some(c) if c.bound, or else
abbrev pub send_data : Address → List ℕ → Run → Run
send_data peer body s =
    if_let (get (for_peer peer) s.self.chans)
    (λ c. cond c.bound (push_frame (resized s.self.reliable (encode_channel_data c.num body)) s) (send_indication peer body s))
    (send_indication peer body s)

-- send
unfoldable pub send : ℕ → Address → List ℕ → Run → Run
send now peer body s =
    cond (not (is_some s.self.relay) || s.self.closing) s
    (let s₁ = cond (contains (for_ip peer.ip) s.self.perms) s (create_permission now peer.ip s) in
    let s₂ = cond (not (contains (for_peer peer) s₁.self.chans) && leb s₁.self.next_num 0x7FFF) (new_channel now peer s₁) s₁ in
    send_data peer body s₂)

-- t.tries += 1; t.next = now + RTO * (1 << (t.tries - 1)).min(8)
abbrev pub repeated : ℕ → Txn → Txn
repeated now t =
    record {
      kind = t.kind;
      msg = t.msg;
      tries = t.tries + 1;
      next = now + RTO * min (2 ^ (t.tries + 1 - 1)) 8;
      auth_retried = t.auth_retried;
    }

-- for tid in due
unfoldable pub poll_due : ℕ → List ℕ → Run → Run
poll_due now tid s =
    if_let (get (under_id tid) s.self.txns)
    (λ t. let s₁ = on_self (set_txns (remove (under_id tid) s.self.txns)) s in
    cond (s₁.self.reliable || leb MAX_TRIES t.tries) (on_failure t.kind Timeout s₁)
    (insert_txn (repeated now t) (push_message (encode s₁.self t.msg) s₁)))
    s

-- r.map(|r| r <= now).unwrap_or(false)
abbrev pub is_due : ℕ → Option ℕ → Bool
is_due now None = false
is_due now (Some at) = leb at now

-- the allocation's Refresh
unfoldable pub poll_refresh : ℕ → Run → Run
poll_refresh now s =
    cond (is_due now s.self.refresh_at)
    (request now (Refresh 600) (refresh_message 600 (new_tid s)) (drew (on_self (set_refresh_at None) s)))
    s

-- for ip in perms, and for peer in chans
unfoldable pub poll_perms : ℕ → Run → Run
poll_perms now s = each (create_permission now) (map (λ p. p.ip) (filter (λ p. is_due now p.refresh) s.self.perms)) s

abbrev pub renew_channel : ℕ → Address → Run → Run
renew_channel now peer s = bind_channel now peer (update_chan peer (renewed_at now) s)

unfoldable pub poll_chans : ℕ → Run → Run
poll_chans now s =
    each (renew_channel now) (map (λ c. c.peer) (filter (λ c. c.bound && leb c.refresh_at now) s.self.chans)) s

-- let due
abbrev pub due_of : ℕ → Turn → List (List ℕ)
due_of now c = map (λ t. t.msg.tid) (filter (λ t. leb t.next now) c.txns)

-- poll
unfoldable pub poll : ℕ → Run → Run
poll now s =
    let s₁ = each (poll_due now) (due_of now s.self) s in
    cond s₁.self.closing s₁ (poll_chans now (poll_perms now (poll_refresh now s₁)))

-- d.map_or(x, |d| d.min(x)), where there is an x
abbrev pub consider : Option ℕ → Option ℕ → Option ℕ
consider None d = d
consider (Some x) None = Some x
consider (Some x) (Some d) = Some (min d x)

-- the least of a list, as iter().min()
abbrev pub least : List (Option ℕ) → Option ℕ
least [] = None
least (x ∷ xs) = consider x (least xs)

-- next_deadline
abbrev pub next_deadline : Turn → Option ℕ
next_deadline c =
    let d = least (map (λ t. Some t.next) c.txns) in
    cond c.closing d
    (consider (least (map (λ c. cond c.bound (Some c.refresh_at) None) c.chans))
    (consider (least (map (λ p. p.refresh) c.perms)) (consider c.refresh_at d)))

-- transport_failed
unfoldable pub transport_failed : Run → Run
transport_failed s =
    let s₁ = on_self (λ c. set_closing true (set_txns [] c)) s in
    cond (s.self.done && is_some s.self.relay) s₁ (tell (Failed Lost) (on_self (set_done true) s₁))

-- close: a Refresh of 0 that is not kept
unfoldable pub close : Run → Run
close s =
    cond (not (is_some s.self.relay) || s.self.closing) s
    (let s₁ = on_self (λ c. set_txns [] (set_closing true c)) s in
    push_message (encode s₁.self (refresh_message 0 (new_tid s₁))) (drew s₁))
