-- The data of an event lies in the datagram that was handled, so that the part it names is as long as it says.
use Rattle.std.specs.Prelude.{Option, None, Some}
use mathlib.Core.Path.{◌≡◌, refl, subst}
use mathlib.Core.Bool.{Bool, true, false, cond, ◌&&◌, ◌||◌, not}
use mathlib.Core.List.{List, [], ◌∷◌, ◌++◌, map}
use Prim.Native.Nat.{ℕ, ◌+◌, ◌≤◌}
use native.Mathlib.Omega.{arith}
use borrow.Author.Tests.{leb-true}
use lib.Dec.{ltb, leb, eqb}
use lib.ListN.{length, length-take, length-drop}
use Rattle.stun_frame.specs.declared.classes.Class.{Class}
use Rattle.stun_frame.specs.declared.classes.Class.TheVariants.{Request, Indication, Success, Error}
use Rattle.stun_frame.specs.declared.ChannelData.{ChannelData}
use Rattle.stun_frame.specs.Source.{class, field_at, is_channel_data, decode_channel_data}
use Rattle.stun_address.specs.declared.Address.{Address}
use Rattle.stun_walk.specs.declared.Value.{Value}
use Rattle.stun_walk.specs.Source.{readable, get_of, error_code_of, xor_addr_of}
use Rattle.stun_walk.proofs.First.{get_inside}
use Rattle.turn_state.specs.declared.Kind.{Kind}
use Rattle.turn_state.specs.declared.Kind.TheVariants.{Allocate, Refresh, Permission, ChannelBind}
use Rattle.turn_state.specs.declared.Reason.{Reason}
use Rattle.turn_state.specs.declared.Reason.TheVariants.{Code as ErrorCode}
use Rattle.turn_state.specs.declared.Event.{Event}
use Rattle.turn_state.specs.declared.Event.TheVariants.{Allocated, Failed, Data}
use Rattle.turn_state.specs.Maps.{get, contains, filter, each, if_let}
use Rattle.turn_state.specs.State.{Message, Txn, Perm, Turn, Run, begin, drew}
use Rattle.turn_state.specs.Number.{Outcome, number, settled}
use Rattle.turn_state.specs.Sequence.{outcome, Handle}
use Rattle.turn_state.specs.Source
use Rattle.turn_state.specs.View.{told, Each, no_rows, row}
use Rattle.turn_handle.specs.Handling.{part_of}

-- what an event names lies in the bytes
abbrev pub Inside : List ℕ → Event → Type 0
Inside buf (Data peer start len) = start + len ≤ length buf
Inside buf (Allocated relay mapped) = Unit {0}
Inside buf (Failed why) = Unit {0}

-- what ChannelData's numbers name
by_length : (b fits : Bool) (buf : List ℕ) (d : ChannelData) (n m : ℕ) → leb (4 + m) (length buf) ≡ fits
    → cond b (cond fits (Some (record { number = n; start = 4; len = m })) None) None ≡ Some d → d.start + d.len ≤ length buf
by_length true true buf d n m h e =
    let is : record { number = n; start = 4; len = m } ≡ d = cc in
    let k = leb-true (4 + m) (length buf) h in
    rw (← is) k
by_length true false buf d n m h e = cc
by_length false fits buf d n m h e = cc

channel_inside : (buf : List ℕ) (d : ChannelData) → decode_channel_data buf ≡ Some d → d.start + d.len ≤ length buf
unfolding decode_channel_data
channel_inside buf d e = by_length (is_channel_data buf) (leb (4 + field_at buf 2) (length buf)) buf d (field_at buf 0) (field_at buf 2) refl e

module _ (buf : List ℕ) where
  -- every event so far
  abbrev Lying : Run → Type 0
  Lying s = Each (Inside buf) s.ev

  one_more : (l : List Event) (e : Event) → Each (Inside buf) l → Inside buf e → Each (Inside buf) (l ++ (e ∷ []))
  one_more [] e no_rows h = row h no_rows
  one_more (x ∷ l) e (row i more) h = row i (one_more l e more h)

  -- what tells of nothing
  added : (b : Bool) (room held : ℕ) (s : Run) → Lying s → Lying (Source.add b room held s)
  added true room held s h = h
  added false room held s h = h

  put_in : (t : Txn) (s : Run) → Lying s → Lying (Source.insert_txn t s)
  unfolding Source.insert_txn
  put_in t s h = added (contains (Source.under_drawn t.msg.tid) s.self.txns) 64 (length s.self.txns) s h

  permitted : (p : Perm) (s : Run) → Lying s → Lying (Source.insert_perm p s)
  unfolding Source.insert_perm
  permitted p s h = added (contains (Source.for_ip p.ip) s.self.perms) 32 (length s.self.perms) s h

  requested : (now : ℕ) (kind : Kind) (msg : Message) (s : Run) → Lying s → Lying (Source.request now kind msg s)
  unfolding Source.request
  requested now kind msg s h = put_in _ s h

  if_there : {X : Type 0} (o : Option X) (f : X → Run) (s : Run) → ((x : X) → Lying (f x)) → Lying s → Lying (if_let o f s)
  if_there None f s y n = n
  if_there (Some x) f s y n = y x

  either : (b : Bool) (s t : Run) → Lying s → Lying t → Lying (cond b s t)
  either true s t y n = y
  either false s t y n = n

  bound : (now : ℕ) (peer : Address) (s : Run) → Lying s → Lying (Source.bind_channel now peer s)
  unfolding Source.bind_channel
  bound now peer s h = if_there (get (Source.for_peer peer) s.self.chans) _ s (λ c. requested now _ _ (drew s) h) h

  bound_each : (now : ℕ) (peers : List Address) (s : Run) → Lying s → Lying (each (Source.bind_channel now) peers s)
  bound_each now [] s h = h
  bound_each now (p ∷ peers) s h = bound_each now peers (Source.bind_channel now p s) (bound now p s h)

  -- failure, success, retry
  failed : (kind : Kind) (why : Reason) (s : Run) → Lying s → Lying (Source.on_failure kind why s)
  unfolding Source.on_failure
  failed Allocate why s h = one_more s.ev (Failed why) h tt
  failed (Permission ip) why s h = h
  failed (ChannelBind peer num) why s h = h
  failed (Refresh lifetime) why s h = h

  allocated : (now : ℕ) (p : Option Address) (s : Run) → Lying s → Lying (Source.allocated now buf p s)
  allocated now None s h = failed Allocate _ s h
  allocated now (Some relay) s h = one_more s.ev (Allocated relay (xor_addr_of buf 0x0020)) h tt

  succeeded : (now : ℕ) (kind : Kind) (s : Run) → Lying s → Lying (Source.on_success now kind buf s)
  unfolding Source.on_success
  succeeded now Allocate s h = allocated now (xor_addr_of buf 0x0016) s h
  succeeded now (Refresh lifetime) s h = either (ltb 0 lifetime) _ s h h
  succeeded now (Permission ip) s h =
      let p : Perm = record { ip = ip; refresh = Some (now + 240000) } in
      let s₁ = Source.insert_perm p s in
      bound_each now (map (λ c. c.peer) (filter (Source.waiting ip) s₁.self.chans)) s₁ (permitted p s h)
  succeeded now (ChannelBind peer num) s h = if_there (get (Source.for_peer peer) s.self.chans) _ s (λ c. h) h

  retried : (now : ℕ) (t : Txn) (s : Run) → Lying s → Lying (Source.retry now buf t s)
  unfolding Source.retry
  retried now t s h =
      let realm : Lying (Source.take_realm buf s) = if_there (Source.get_str buf 0x0014) _ s (λ x. h) h in
      let s₁ = Source.take_realm buf s in
      let nonce : Lying (Source.take_nonce buf s₁) = if_there (Source.get_str buf 0x0015) _ s₁ (λ x. realm) realm in
      put_in _ _ nonce

  answered : (now : ℕ) (cls : Class) (t : Txn) (s : Run) → Lying s → Lying (Source.answered now buf cls t s)
  answered now Success t s h = succeeded now t.kind s h
  answered now Error t s h =
      let code = Source.code_or_0 (error_code_of buf) in
      either ((eqb code 401 || eqb code 438) && not t.auth_retried) (Source.retry now buf t s) (Source.on_failure t.kind (ErrorCode code) s) (retried now t s h)
      (failed t.kind (ErrorCode code) s h)
  answered now Request t s h = h
  answered now Indication t s h = h

  -- a message, and a datagram
  indicated : (p : Option Address) (f : Option Value) (s : Run) → get_of buf 0x0013 ≡ f → Lying s → Lying (Source.indicated p f s)
  indicated (Some peer) (Some v) s e h = one_more s.ev (Data peer v.start v.len) h (get_inside buf 0x0013 v e).1
  indicated (Some peer) None s e h = h
  indicated None f s e h = h

  message : (now : ℕ) (s : Run) → Lying s → Lying (Source.handle_message now buf s)
  message now s h =
      either (eqb (field_at buf 0) 0x0017) _ _ (indicated (xor_addr_of buf 0x0012) (get_of buf 0x0013) s refl h)
      (if_there (get (Source.under_id (Source.tid_of buf)) s.self.txns) _ s
      (λ t. either (Source.is_answer (class (field_at buf 0)) && Source.passed s.self.key buf (class (field_at buf 0))) _ s (answered now (class (field_at buf 0)) t _ h) h) h)

  channel : (now : ℕ) (c : Option ChannelData) (s : Run) → decode_channel_data buf ≡ c → Lying s → Lying (Source.handle_channel now buf c s)
  channel now (Some d) s e h = if_there (get (Source.of_number d.number) s.self.chans) _ s (λ c. one_more s.ev (Data c.peer d.start d.len) h (channel_inside buf d e)) h
  channel now None s e h = either (readable buf) (Source.handle_message now buf s) s (message now s h) h

  handled : (now : ℕ) (c : Turn) (lent : List ℕ) → Lying (Source.handle now buf (begin c lent))
  unfolding Source.handle
  handled now c lent = channel now (decode_channel_data buf) (begin c lent) refl no_rows

first_inside : (buf : List ℕ) (l : List Event) (e : Event) → Each (Inside buf) l → told l ≡ Some e → Inside buf e
first_inside buf [] e no_rows k = cc
first_inside buf (x ∷ l) e (row h more) k = let is : x ≡ e = cc in subst (Inside buf) is h

answer_events : (buf : List ℕ) (n : ℕ) (before : Turn) (s : Run) → Each (Inside buf) s.ev → Each (Inside buf) (settled n before s).events
answer_events buf n before s h = by (eqb n 0)
  where
    by : (b : Bool) → Each (Inside buf) (cond {A = Outcome} b (record { refusal = 0; client = s.self; events = s.ev; packets = s.out }) (record { refusal = n; client = before; events = []; packets = [] })).events
    by true = h
    by false = no_rows

-- the event that a caller is told of, and its part
module _ (c : Turn) (now : ℕ) (buf ids : List ℕ) (room : ℕ) (peer : Address) (start len : ℕ) (is : told (outcome c (Handle now buf ids room)).events ≡ Some (Data peer start len)) where
  pub data_inside : start + len ≤ length buf
  data_inside =
      let s = Source.handle now buf (begin c ids) in
      first_inside buf (outcome c (Handle now buf ids room)).events (Data peer start len)
      (answer_events buf (number (record { time = now; data_len = 0; ids = ids; room = room }) c s) c s (handled buf now c ids)) is

  pub part_length : length (part_of (Some (Data peer start len)) buf) ≡ len
  part_length = let h = data_inside in rw (length-take, length-drop) (omega arith)
