-- The number of a route's run, and the answer where it is 0.
use Rattle.std.specs.Prelude.{Option, None, Some, is_some, is_none, option_map}
use mathlib.Core.Path.{◌≡◌, refl, ap, ap₂, sym, ◌∙◌}
use mathlib.Core.Bool.{Bool, true, false, cond, ◌&&◌, ◌||◌, not}
use mathlib.Core.List.{List, [], ◌∷◌, ◌++◌}
use Prim.Native.Nat.{ℕ, ◌+◌, ◌-◌, ◌≤◌, ◌<◌}
use native.Mathlib.Omega.{arith}
use borrow.Author.Tests.{le-ltb, leb-false}
use lib.ListN.{length, take, drop, length-drop, length-append}
use lib.Seq.{take_at, drop-append-add, drop-drop}
use lib.Dec.{leb, eqb}
use mir.Val.{bool_byte}
use Rattle.stun_address.specs.declared.Ip.{Ip}
use Rattle.stun_address.specs.declared.Address.{Address}
use Rattle.turn_state.specs.declared.Asked.{Asked}
use Rattle.turn_state.specs.declared.Credentials.{Credentials}
use Rattle.turn_state.specs.declared.Client.{Client}
use Rattle.turn_state.specs.declared.Refusal.{Refusal}
use Rattle.turn_state.specs.declared.Refusal.TheVariants.{Late, LongText, IllFormed, LongBody, Full, FewIds, TakenId, SmallOutput}
use Rattle.turn_state.specs.declared.Request.{Request}
use Rattle.turn_state.specs.declared.Requests.{Requests}
use Rattle.turn_state.specs.declared.Permission.{Permission}
use Rattle.turn_state.specs.declared.Permissions.{Permissions}
use Rattle.turn_state.specs.declared.Channel.{Channel}
use Rattle.turn_state.specs.declared.Channels.{Channels}
use Rattle.turn_state.specs.Maps.{get, insert}
use Rattle.turn_state.specs.State.{Txn, Turn, Run, ids_in, id_at}
use Rattle.turn_state.specs.Source.{under_id, under_drawn, for_ip, for_peer}
use Rattle.turn_state.specs.Number.{number_of, Given, number, settled, above, full, framed, pending}
use Rattle.turn_state.specs.View.{view, told, done, sending, host_of, place_of, asked_of, kind_in, txn_in, txns_in, perms_in, chans_in, either, shows_under, TidyRequests, TidyPermissions, TidyChannels, Meets}
use Rattle.turn_state.proofs.Answering.{accepted_meets}
use Rattle.turn_tables.specs.Rows.{later, position}
use Rattle.turn_tables.specs.Tables.{pushed_permission, pushed_channel}
use Rattle.turn_tables.proofs.Keys.{nowhere_contains}
use Rattle.turn_tables.proofs.Laws.{txns_length, add_txn, replace_txn, add_perm, add_chan, tidy_pushed_permission, tidy_pushed_channel}
use Rattle.turn_packet.specs.Source.{packet_of}
use Rattle.turn_packet.proofs.Laws.{packet_encode}
use Rattle.turn_packet.proofs.Bounds.{packet_short}
use Rattle.turn_packet.proofs.Rooms.{Rooms}
use Rattle.turn_packet.proofs.Frames.{framed_append, framed_packet_length}
use Rattle.turn_data.specs.Data.{indication_of}
use Rattle.turn_data.proofs.Laws.{indication_short, framed_indication_length, framed_frame_length}
use Rattle.turn_ids.specs.Ids.{ids_from, lent_id, request_full, verdict_of}
use Rattle.turn_ids.proofs.Lent.{lent_is, lent_twelve, id_twelve, id_short}
use Rattle.turn_ids.proofs.Verdicts.{contains_drawn, number_is, Passed, passed}
use Rattle.turn_plan.specs.Draft.{insert_at, inserted}
use Rattle.turn_plan.specs.Follows.{txn_at, first_next}
use Rattle.turn_plan.proofs.Drafting.{insert_drawn, tidy_inserted}
use Rattle.turn_send.specs.declared.Route.{Route}
use Rattle.turn_send.proofs.Ranges.{Kept}
use Rattle.turn_send.specs.Sending.{ask_bytes, asked_out, data_bytes, data_of, one_if, uses, with_ask, requested, packets_of, bodies_of, data_bodies, routed, Sends, Goes, given_of}

-- a refusal has a number
pub nonzero : (r : Refusal) → eqb (number_of r) 0 ≡ false
nonzero Late = refl
nonzero LongText = refl
nonzero IllFormed = refl
nonzero LongBody = refl
nonzero Full = refl
nonzero FewIds = refl
nonzero TakenId = refl
nonzero SmallOutput = refl

-- the ids that are counted
one_of : (b : Bool) → bool_byte b ≡ one_if b
one_of true = refl
one_of false = refl

pub asks_one : (ask : Option Asked) (b : Bool) (n : ℕ) → b ≡ is_some ask → n ≡ bool_byte b → n ≡ one_if (is_some ask)
asks_one ask b n e en = en ∙ one_of b ∙ ap one_if e

pub tells_one : (line : Option ℕ) (b : Bool) (n : ℕ) → is_some line ≡ not b → n ≡ bool_byte b → n ≡ one_if (is_none line)
tells_one None true n e en = en
tells_one None false n e en = cc
tells_one (Some k) true n e en = cc
tells_one (Some k) false n e en = en

-- the ids that a route uses are lent
first_lent : {K : Type 0} (ask : Option K) (line : Option ℕ) (n : ℕ) → uses ask line ≤ n → is_some ask ≡ true → 0 < n
first_lent (Some a) (Some m) n h e = omega arith
first_lent (Some a) None n h e = omega arith
first_lent None line n h e = cc

other_lent : {K : Type 0} (ask : Option K) (line : Option ℕ) (n : ℕ) → uses ask line ≤ n → is_some line ≡ false → one_if (is_some ask) < n
other_lent (Some a) None n h e = omega arith
other_lent None None n h e = omega arith
other_lent ask (Some m) n h e = cc

-- the bytes of each part
data_length : (peer : Address) (body id : List ℕ) (line : Option ℕ) → (is_some line ≡ false → length id ≡ 12)
    → length (framed (data_of line peer id body ∷ [])) ≡ data_bytes line peer (length body)
data_length peer body id (Some n) h = framed_frame_length n body
data_length peer body id None h = framed_indication_length peer id body (h refl)

ask_length : (c : Credentials) (ask : Option Asked) (id : List ℕ) → Rooms c → (is_some ask ≡ true → length id ≡ 12)
    → length (framed (asked_out c ask id)) ≡ ask_bytes c ask
ask_length c (Some a) id rooms h = framed_packet_length c a id id rooms (h refl) (h refl)
ask_length c None id rooms h = refl

packets_are : (c : Credentials) (ask : Option Asked) (id d : List ℕ) → length (asked_out c ask id ++ (d ∷ [])) ≡ one_if (is_some ask) + 1
packets_are c (Some a) id d = refl
packets_are c None id d = refl

some_mapped : {A B : Type 0} (f : A → B) (o : Option A) → is_some (option_map f o) ≡ is_some o
some_mapped f None = refl
some_mapped f (Some a) = refl

-- two parts, one behind the other
joined_parts : (front back out o₁ o₂ : List ℕ) (n m : ℕ) → length front ≡ n → o₁ ≡ front ++ drop n out → o₂ ≡ (take n o₁ ++ back) ++ drop (n + m) o₁
    → o₂ ≡ (front ++ back) ++ drop (n + m) out
joined_parts front back out o₁ o₂ n m ln e₁ e₂ =
    let start : take n o₁ ≡ front = rw e₁ (take_at front (drop n out) n ln) in
    let end : drop (n + m) o₁ ≡ drop (n + m) out = rw (e₁, ← ln) (drop-append-add front (drop (length front) out) m ∙ drop-drop m (length front) out) in
    e₂ ∙ rw (start, end)

-- one of two tests holds of neither
pub neither_left : (a b : Bool) → (a || b) ≡ false → a ≡ false
neither_left true b e = e
neither_left false b e = refl

pub neither_right : (a b : Bool) → (a || b) ≡ false → b ≡ false
neither_right true b e = let z : ◌≡◌ {A = ℕ} 0 1 = cc in cc
neither_right false b e = e

-- the room keeps its length
pub room_kept : (c : Credentials) (ask : Option Asked) (id out o : List ℕ) → Rooms c → length id ≡ 12 → ask_bytes c ask ≤ length out
    → o ≡ framed (asked_out c ask id) ++ drop (ask_bytes c ask) out → length o ≡ length out
room_kept c ask id out o rooms twelve h e =
    ap length e
    ∙ rw (length-append (framed (asked_out c ask id)) (drop (ask_bytes c ask) out), ask_length c ask id rooms (λ _. twelve), length-drop (ask_bytes c ask) out)
    (omega arith)

-- packets under the same ids, as far as they show them
ask_same : (c : Credentials) (ask : Option Asked) (id own : List ℕ) → (is_some ask ≡ true → id ≡ own) → asked_out c ask id ≡ asked_out c ask own
ask_same c (Some a) id own h = ap (λ (x : List ℕ). packet_of c a x x ∷ []) (h refl)
ask_same c None id own h = refl

data_same : (peer : Address) (body id own : List ℕ) (line : Option ℕ) → (is_some line ≡ false → id ≡ own) → data_of line peer id body ≡ data_of line peer own body
data_same peer body id own (Some n) h = refl
data_same peer body id own None h = ap (λ (x : List ℕ). indication_of peer x body) (h refl)

-- a key under which nothing is found has no place
missing_step : {R : Type 0} (x : R) (b : Bool) (o : Option R) (p : Option ℕ) → (o ≡ None → p ≡ None) → cond b (Some x) o ≡ None → cond b (Some 0) (later p) ≡ None
missing_step x true o p rest e = cc
missing_step x false o p rest e = ap later (rest e)

missing : {R : Type 0} (is : R → Bool) (l : List R) → get is l ≡ None → position is l ≡ None
missing is [] e = refl
missing is (x ∷ l) e = missing_step x (is x) (get is l) (position is l) (missing is l) e

-- the request comes into its table as into the definition's
module _ (t : Requests) (rows : length t.rows ≡ 64) (lent : List ℕ) (row : Request) (twelve : length row.id ≡ 12) (is : row.id ≡ id_at lent 0)
    (free : request_full (txns_in t) lent 0 ≡ false) where
  room_left : position (under_id row.id) (txns_in t) ≡ None → t.len < 64
  unfolding request_full
  room_left nowhere =
      let absent = sym (contains_drawn row.id (txns_in t) twelve) ∙ nowhere_contains (under_id row.id) (txns_in t) nowhere in
      let few : leb 64 (length (txns_in t)) ≡ false = rw (← is, absent) at free in
      omega (arith, leb-false 64 (length (txns_in t)) few, txns_length t rows)

  inserted_by : (p : Option ℕ) → position (under_id row.id) (txns_in t) ≡ p → txns_in (insert_at p t row) ≡ insert (under_id row.id) (txn_in row) (txns_in t)
  inserted_by (Some i) e = replace_txn t rows (under_id row.id) i row e
  inserted_by None e = add_txn t rows (under_id row.id) row e (room_left e)

  requested_is : txns_in (inserted t row) ≡ insert (under_drawn (id_at lent 0)) (txn_in row) (txns_in t)
  unfolding inserted
  requested_is =
      inserted_by (position (under_id row.id) (txns_in t)) refl ∙ insert_drawn row.id (txn_in row) (txns_in t) twelve
      ∙ ap (λ (i : List ℕ). insert (under_drawn i) (txn_in row) (txns_in t)) is

abbrev row_of : List ℕ → Asked → ℕ → Request
row_of id asked next = record { id = id; under = id; asked = asked; tries = 1; next = next; retried = false }

txns_are : (t : Requests) (c : Turn) (now : ℕ) (lent id : List ℕ) (ask : Option Asked) (next : ℕ) → length t.rows ≡ 64 → length id ≡ 12 → (is_some ask ≡ true → id ≡ id_at lent 0)
    → (is_some ask && request_full (txns_in t) lent 0) ≡ false → txns_in t ≡ c.txns → next ≡ first_next c now
    → txns_in (with_ask t ask id next) ≡ requested c now lent (option_map kind_in ask)
txns_are t c now lent id None next rows twelve is free et en = et
txns_are t c now lent id (Some a) next rows twelve is free et en =
    requested_is t rows lent (row_of id a next) twelve (is refl) free
    ∙ ap (λ (i : List ℕ). insert (under_drawn (id_at lent 0)) (txn_in (row_of i a next)) (txns_in t)) (is refl)
    ∙ ap₂ (λ (n : ℕ) (l : List Txn). insert (under_drawn (id_at lent 0)) (txn_at n lent 0 (kind_in a)) l) en et

-- and the permission and the channel into theirs
abbrev new_permission : Ip → Permission
new_permission ip = record { host = host_of ip; granted = false; at = 0 }

perms_are : (t : Permissions) (ip : Ip) (permits : Bool) → length t.rows ≡ 32 → Kept ip → (permits ≡ true → get (for_ip ip) (perms_in t) ≡ None) → (permits && leb 32 t.len) ≡ false
    → perms_in (cond permits (pushed_permission t (new_permission ip)) t) ≡ cond permits (insert (for_ip ip) (record { ip = ip; refresh = None }) (perms_in t)) (perms_in t)
perms_are t ip false rows fit none_yet room = refl
perms_are t ip true rows fit none_yet room =
    add_perm t rows (for_ip ip) (new_permission ip) (missing (for_ip ip) (perms_in t) (none_yet refl)) (leb-false 32 t.len room)
    ∙ ap (λ (x : Ip). insert (for_ip ip) (record { ip = x; refresh = None }) (perms_in t)) fit

abbrev new_channel : Address → ℕ → ℕ → Channel
new_channel peer n now = record { peer = place_of peer; number = n; bound = false; at = now }

chans_are : (t : Channels) (peer : Address) (n now : ℕ) (opens : Bool) → length t.rows ≡ 32 → Kept peer.ip → (opens ≡ true → get (for_peer peer) (chans_in t) ≡ None)
    → (opens && leb 32 t.len) ≡ false
    → chans_in (cond opens (pushed_channel t (new_channel peer n now)) t)
    ≡ cond opens (insert (for_peer peer) (record { peer = peer; num = n; bound = false; refresh_at = now }) (chans_in t)) (chans_in t)
chans_are t peer n now false rows fit none_yet room = refl
chans_are t peer n now true rows fit none_yet room =
    add_chan t rows (for_peer peer) (new_channel peer n now) (missing (for_peer peer) (chans_in t) (none_yet refl)) (leb-false 32 t.len room)
    ∙ ap (λ (x : Ip). insert (for_peer peer) (record { peer = record { ip = x; port = peer.port }; num = n; bound = false; refresh_at = now }) (chans_in t)) fit

-- tables that were tidy are
always : {A : Type 0} (b : Bool) (x : A) → either b (Unit {0}) (x ≡ x)
always true x = tt
always false x = refl

some_is : {A : Type 0} (a b : A) → ◌≡◌ {A = Option A} (Some a) (Some b) → a ≡ b
some_is a b e = cc

tidy_requests : (t : Requests) (id : List ℕ) (ask : Option Asked) (next : ℕ) → option_map (λ a. asked_of (kind_in a)) ask ≡ ask → TidyRequests t → TidyRequests (with_ask t ask id next)
tidy_requests t id None next neat n = n
tidy_requests t id (Some a) next neat n = tidy_inserted t (row_of id a next) (some_is _ _ neat, always (shows_under (kind_in a)) id) n

tidy_permissions : (t : Permissions) (ip : Ip) (permits : Bool) → Kept ip → TidyPermissions t → TidyPermissions (cond permits (pushed_permission t (new_permission ip)) t)
tidy_permissions t ip false fit n = n
tidy_permissions t ip true fit n = tidy_pushed_permission t n (new_permission ip) (record { host = ap host_of fit; asked = refl })

tidy_channels : (t : Channels) (peer : Address) (k now : ℕ) (opens : Bool) → Kept peer.ip → TidyChannels t → TidyChannels (cond opens (pushed_channel t (new_channel peer k now)) t)
tidy_channels t peer k now false fit n = n
tidy_channels t peer k now true fit n =
    tidy_pushed_channel t n (new_channel peer k now) (ap (λ (x : Ip). place_of (record { ip = x; port = peer.port })) fit)

-- the number
module _ (client : Client) (r : Route) (now : ℕ) (peer : Address) (body lent out : List ℕ) (s : Run) (f : Sends (view client) now lent peer body r s)
    (in_time : now ≤ 9007199254740991) (short : length body ≤ 2048) (rooms : Rooms client.credentials) where
  abbrev c : Turn
  c = view client

  abbrev g : Given
  g = given_of now body lent (length out)

  abbrev own : ℕ
  own = one_if (is_some r.ask)

  abbrev other : List ℕ
  other = data_of r.line peer (id_at lent own) body

  abbrev met : Bool
  met = r.full || (is_some r.ask && request_full c.txns lent 0)

  abbrev size : ℕ
  size = ask_bytes client.credentials r.ask + data_bytes r.line peer (length body)

  abbrev front : List (List ℕ)
  front = asked_out client.credentials r.ask (id_at lent 0)

  packets_is : (ask : Option Asked) → packets_of c lent (option_map kind_in ask) ≡ asked_out client.credentials ask (id_at lent 0)
  packets_is None = refl
  packets_is (Some a) = ap (λ (p : List ℕ). p ∷ []) (sym (packet_encode client a (id_at lent 0) (id_at lent 0)))

  own_is : one_if (is_some (option_map kind_in r.ask)) ≡ own
  own_is = ap one_if (some_mapped kind_in r.ask)

  out_is : s.out ≡ front ++ (other ∷ [])
  out_is = ap (λ (x : Run). x.out) f.run ∙ ap₂ (λ (p : List (List ℕ)) (k : ℕ). p ++ (data_of r.line peer (id_at lent k) body ∷ [])) (packets_is r.ask) own_is

  used_is : s.report.used ≡ ids_from lent 0 (uses r.ask r.line)
  used_is = ap (λ (x : Run). x.report.used) f.run ∙ ap (λ (k : ℕ). ids_from lent 0 (k + one_if (is_none r.line))) own_is

  front_length : uses r.ask r.line ≤ ids_in lent → length (framed front) ≡ ask_bytes client.credentials r.ask
  front_length h = ask_length client.credentials r.ask (id_at lent 0) rooms (λ e. id_twelve lent 0 (first_lent r.ask r.line (ids_in lent) h e))

  back_length : uses r.ask r.line ≤ ids_in lent → length (framed (other ∷ [])) ≡ data_bytes r.line peer (length body)
  back_length h = data_length peer body (id_at lent own) r.line (λ e. id_twelve lent own (other_lent r.ask r.line (ids_in lent) h e))

  size_is : uses r.ask r.line ≤ ids_in lent → length (framed s.out) ≡ size
  size_is h =
      ap (λ (l : List (List ℕ)). length (framed l)) out_is
      ∙ rw (framed_append front (other ∷ []), length-append (framed front) (framed (other ∷ [])), front_length h, back_length h)

  shorts_of : (ask : Option Asked) (line : Option ℕ) (k : ℕ) → above 65535 (bodies_of (asked_out client.credentials ask (id_at lent 0)) ++ data_bodies line peer (id_at lent k) body) ≡ false
  shorts_of None None k = rw (le-ltb 65535 (length (indication_of peer (id_at lent k) body) - 20) (omega (arith, indication_short peer (id_at lent k) body (id_short lent k))))
  shorts_of None (Some n) k = refl
  shorts_of (Some a) None k =
      let p = packet_short client.credentials rooms.username rooms.realm rooms.nonce a (id_at lent 0) (id_at lent 0) (id_short lent 0) in
      rw (
        le-ltb 65535 (length (packet_of client.credentials a (id_at lent 0) (id_at lent 0)) - 20) (omega (arith, p)),
        le-ltb 65535 (length (indication_of peer (id_at lent k) body) - 20) (omega (arith, indication_short peer (id_at lent k) body (id_short lent k))),
      )
  shorts_of (Some a) (Some n) k =
      let p = packet_short client.credentials rooms.username rooms.realm rooms.nonce a (id_at lent 0) (id_at lent 0) (id_short lent 0) in
      rw (le-ltb 65535 (length (packet_of client.credentials a (id_at lent 0) (id_at lent 0)) - 20) (omega (arith, p)))

  shorts : above 65535 s.report.bodies ≡ false
  shorts =
      let k = one_if (is_some (option_map kind_in r.ask)) in
      ap (λ (x : Run). above 65535 x.report.bodies) f.run
      ∙ ap (λ (q : List (List ℕ)). above 65535 (bodies_of q ++ data_bodies r.line peer (id_at lent k) body)) (packets_is r.ask)
      ∙ shorts_of r.ask r.line k

  number_law : number g c s ≡ verdict_of met (pending c) lent (uses r.ask r.line) size (length out)
  number_law =
      number_is g c s met (uses r.ask r.line) size in_time (ap (λ (x : Run). above 763 x.report.texts) f.run)
      (rw (le-ltb 2048 (length body) short) shorts) (ap (λ (x : Run). full x.report.added) f.run ∙ f.met) used_is size_is

  -- by what the code reckons
  pub decided : (n used bytes : ℕ) (b : Bool) → n ≡ verdict_of b (pending c) lent used bytes (length out) → b ≡ met → used ≡ uses r.ask r.line → bytes ≡ size
      → number g c s ≡ n
  decided n used bytes b e eb eu es = number_law ∙ sym (e ∙ rw (eb, eu, es))

  -- the client after it
  abbrev after : Requests → Permissions → Channels → Client
  after t ps cs =
      record {
        password = client.password;
        credentials = client.credentials;
        requests = t;
        permissions = ps;
        channels = cs;
        relay = client.relay;
        refresh_at = client.refresh_at;
        next_num = r.next;
        has_relay = client.has_relay;
        has_refresh = client.has_refresh;
        done = client.done;
        closing = client.closing;
        reliable = client.reliable;
      }

  module _ (goes : Goes client peer r) (fit : Kept peer.ip) (rows : length client.requests.rows ≡ 64) (perm-rows : length client.permissions.rows ≡ 32)
      (chan-rows : length client.channels.rows ≡ 32) (zero_number : number g c s ≡ 0) where
    open_yet : Passed met (pending c) lent (uses r.ask r.line) size (length out)
    open_yet = passed met (pending c) lent (uses r.ask r.line) size (length out) (sym number_law ∙ zero_number)

    not_full : r.full ≡ false
    not_full = neither_left r.full (is_some r.ask && request_full c.txns lent 0) open_yet.free

    module _ (id oid : List ℕ) (eid : id ≡ lent_id lent 0) (eoid : oid ≡ lent_id lent own) where
      id_is : is_some r.ask ≡ true → id ≡ id_at lent 0
      id_is e = eid ∙ lent_is lent 0 (first_lent r.ask r.line (ids_in lent) open_yet.lent_enough e)

      oid_is : is_some r.line ≡ false → oid ≡ id_at lent own
      oid_is e = eoid ∙ lent_is lent own (other_lent r.ask r.line (ids_in lent) open_yet.lent_enough e)

      written : (o₁ o₂ : List ℕ) (first : ℕ) → first ≡ ask_bytes client.credentials r.ask
          → o₁ ≡ framed (asked_out client.credentials r.ask id) ++ drop (ask_bytes client.credentials r.ask) out
          → o₂ ≡ (take first o₁ ++ framed (data_of r.line peer oid body ∷ [])) ++ drop (first + data_bytes r.line peer (length body)) o₁
          → o₂ ≡ framed s.out ++ drop (length (framed s.out)) out
      written o₁ o₂ first ef e₁ e₂ =
          let fore : List ℕ = framed front in
          let back : List ℕ = framed (other ∷ []) in
          let one : o₁ ≡ fore ++ drop first out = e₁ ∙ rw (ask_same client.credentials r.ask id (id_at lent 0) id_is, ← ef) in
          let two : o₂ ≡ (take first o₁ ++ back) ++ drop (first + data_bytes r.line peer (length body)) o₁ =
          e₂ ∙ ap (λ (d : List ℕ). (take first o₁ ++ framed (d ∷ [])) ++ drop (first + data_bytes r.line peer (length body)) o₁) (data_same peer body oid (id_at lent own) r.line oid_is) in
          let whole : framed s.out ≡ fore ++ back = ap framed out_is ∙ framed_append front (other ∷ []) in
          let bytes : first + data_bytes r.line peer (length body) ≡ length (framed s.out) = ap (λ (k : ℕ). k + data_bytes r.line peer (length body)) ef ∙ sym (size_is open_yet.lent_enough) in
          joined_parts fore back out o₁ o₂ first (data_bytes r.line peer (length body)) (front_length open_yet.lent_enough ∙ sym ef) one two
          ∙ ap (λ (l : List ℕ). l ++ drop (first + data_bytes r.line peer (length body)) out) (sym whole)
          ∙ ap (λ (k : ℕ). framed s.out ++ drop k out) bytes

      pub accepted : (t : Requests) (ps : Permissions) (cs : Channels) (o₁ o₂ : List ℕ) (first bytes first_id next : ℕ)
          → first ≡ ask_bytes client.credentials r.ask → bytes ≡ size → first_id ≡ own → next ≡ first_next c now
          → o₁ ≡ framed (asked_out client.credentials r.ask id) ++ drop (ask_bytes client.credentials r.ask) out
          → o₂ ≡ (take first o₁ ++ framed (data_of r.line peer oid body ∷ [])) ++ drop (first + data_bytes r.line peer (length body)) o₁
          → t ≡ with_ask client.requests r.ask id next
          → ps ≡ cond r.permits (pushed_permission client.permissions (new_permission peer.ip)) client.permissions
          → cs ≡ cond r.opens (pushed_channel client.channels (new_channel peer client.next_num now)) client.channels
          → Meets client (settled (number g c s) c s) out (done (sending (after t ps cs) (first_id + 1) bytes)) o₂
      accepted t ps cs o₁ o₂ first bytes first_id next ef es ew en e₁ e₂ et ep ec =
          let room = goes.room not_full in
          let ask = option_map kind_in r.ask in
          let txns : txns_in t ≡ (routed c now lent peer r.permits r.opens ask).txns =
          ap txns_in et
          ∙ txns_are client.requests c now lent id r.ask next rows (ap length eid ∙ lent_twelve lent 0) id_is (neither_right r.full (is_some r.ask && request_full c.txns lent 0) open_yet.free) refl en in
          let perms : perms_in ps ≡ (routed c now lent peer r.permits r.opens ask).perms =
          ap perms_in ep ∙ perms_are client.permissions peer.ip r.permits perm-rows fit goes.missing room.0 in
          let chans : chans_in cs ≡ (routed c now lent peer r.permits r.opens ask).chans =
          ap chans_in ec ∙ chans_are client.channels peer client.next_num now r.opens chan-rows fit goes.no_channel room.1 in
          accepted_meets client g s out (done (sending (after t ps cs) (first_id + 1) bytes)) o₂ zero_number refl
          (rw (txns, perms, chans, goes.next) (sym (ap (λ (x : Run). x.self) f.run)))
          (λ n. record {
            password = n.password;
            credentials = n.credentials;
            requests = rw et (tidy_requests client.requests id r.ask next goes.neat n.requests);
            permissions = rw ep (tidy_permissions client.permissions peer.ip r.permits fit n.permissions);
            channels = rw ec (tidy_channels client.channels peer client.next_num now r.opens fit n.channels);
            relay = n.relay;
            no_refresh = n.no_refresh;
          })
          (sym (ap (λ (x : Run). length x.ev) f.run))
          (sym (ap (λ (x : Run). told x.ev) f.run))
          (ap (λ (k : ℕ). k + 1) ew ∙ sym (ap length out_is ∙ packets_are client.credentials r.ask (id_at lent 0) other))
          (es ∙ sym (size_is open_yet.lent_enough))
          (written o₁ o₂ first ef e₁ e₂)
