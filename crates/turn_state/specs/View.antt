-- What the code's structs mean in the definition, for every value of their types: a length above its room is read as the room, a
-- family other than 2 as IPv4, a tag above 3 as ChannelBind. `Tidy` is what an opening gives and every call keeps: zeros and blank rows
-- after a length, nothing in what is not held. Of two tidy clients that mean the same one each is the other.
use Rattle.std.specs.Prelude.{◌≡◌, Bool, true, false, cond, List, [], ◌∷◌, ◌++◌, map, ℕ, ◌-◌, ◌/◌, ◌%◌, ◌^◌, ◌≤◌, length, take, drop, replicate, eqb, Option, None, Some, Result, Ok, Err}
use Rattle.stun_address.specs.declared.Ip.{Ip}
use Rattle.stun_address.specs.declared.Ip.TheVariants.{V4, V6}
use Rattle.stun_address.specs.declared.Address.{Address}
use Rattle.stun_address.specs.Source.{to_be, encode_xor_addr}
use Rattle.stun_text.specs.declared.Text.{Text}
use Rattle.stun_write.specs.Source.{Attribute}
use Rattle.turn_state.specs.declared.Kind.{Kind}
use Rattle.turn_state.specs.declared.Kind.TheVariants.{Allocate, Refresh, Permission as Permit, ChannelBind}
use Rattle.turn_state.specs.declared.Event.{Event}
use Rattle.turn_state.specs.declared.Host.{Host}
use Rattle.turn_state.specs.declared.Place.{Place}
use Rattle.turn_state.specs.declared.Asked.{Asked}
use Rattle.turn_state.specs.declared.Request.{Request}
use Rattle.turn_state.specs.declared.Permission.{Permission}
use Rattle.turn_state.specs.declared.Channel.{Channel}
use Rattle.turn_state.specs.declared.Requests.{Requests}
use Rattle.turn_state.specs.declared.Permissions.{Permissions}
use Rattle.turn_state.specs.declared.Channels.{Channels}
use Rattle.turn_state.specs.declared.Credentials.{Credentials}
use Rattle.turn_state.specs.declared.Client.{Client}
use Rattle.turn_state.specs.declared.Answer.{Answer}
use Rattle.turn_state.specs.declared.Refusal.{Refusal}
use Rattle.turn_state.specs.State.{Message, Txn, Perm, Chan, Turn}
use Rattle.turn_state.specs.Source.{attr, SOFTWARE}
use Rattle.turn_state.specs.Number.{Outcome, framed, number_of}
use Rattle.turn_state.specs.Sequence.{Call, outcome}

-- addresses and kinds as numbers, and back
abbrev pub host_of : Ip → Host
host_of (V4 x) = record { family = 1; high = 0; low = x }
host_of (V6 h l) = record { family = 2; high = h; low = l }

abbrev pub ip_in : Host → Ip
ip_in h = cond (eqb h.family 2) (V6 h.high h.low) (V4 (h.low % 2 ^ 32))

abbrev pub place_of : Address → Place
place_of a = record { host = host_of a.ip; port = a.port }

abbrev pub address_in : Place → Address
address_in p = record { ip = ip_in p.host; port = p.port }

abbrev pub nowhere : Place
nowhere = record { host = record { family = 0; high = 0; low = 0 }; port = 0 }

abbrev pub asked_of : Kind → Asked
asked_of Allocate = record { tag = 0; number = 0; lifetime = 0; peer = nowhere }
asked_of (Refresh lifetime) = record { tag = 1; number = 0; lifetime = lifetime; peer = nowhere }
asked_of (Permit ip) = record { tag = 2; number = 0; lifetime = 0; peer = record { host = host_of ip; port = 0 } }
asked_of (ChannelBind peer number) = record { tag = 3; number = number; lifetime = 0; peer = place_of peer }

abbrev pub kind_in : Asked → Kind
kind_in a =
    cond (eqb a.tag 0) Allocate
    (cond (eqb a.tag 1) (Refresh a.lifetime)
    (cond (eqb a.tag 2) (Permit (ip_in a.peer.host)) (ChannelBind (address_in a.peer) a.number)))

-- a text's bytes
abbrev pub text_in : Text → List ℕ
text_in t = take t.len t.bytes

-- the message of a request of that kind, whose peer is encoded under the id `under`
abbrev pub type_of : Kind → ℕ
type_of Allocate = 0x0003
type_of (Refresh lifetime) = 0x0004
type_of (Permit ip) = 0x0008
type_of (ChannelBind peer number) = 0x0009

abbrev pub attrs_of : Kind → List ℕ → List Attribute
attrs_of Allocate under = attr 0x0019 (17 ∷ 0 ∷ 0 ∷ 0 ∷ []) ∷ attr 0x8022 SOFTWARE ∷ []
attrs_of (Refresh lifetime) under = attr 0x000D (to_be 4 lifetime) ∷ []
attrs_of (Permit ip) under = attr 0x0012 (encode_xor_addr (record { ip = ip; port = 0 }) under) ∷ []
attrs_of (ChannelBind peer number) under = attr 0x000C (number / 256 ∷ number % 256 ∷ 0 ∷ 0 ∷ []) ∷ attr 0x0012 (encode_xor_addr peer under) ∷ []

abbrev pub message_of : Kind → List ℕ → List ℕ → Message
message_of kind id under = record { typ = type_of kind; tid = id; attrs = attrs_of kind under }

-- rows
abbrev pub txn_in : Request → Txn
txn_in r =
    record {
      kind = kind_in r.asked;
      msg = message_of (kind_in r.asked) r.id r.under;
      tries = r.tries;
      next = r.next;
      auth_retried = r.retried;
    }

-- what is held by a flag
abbrev pub held : {A : Type 0} → Bool → A → Option A
held false a = None
held true a = Some a

abbrev pub perm_in : Permission → Perm
perm_in p = record { ip = ip_in p.host; refresh = held p.granted p.at }

abbrev pub chan_in : Channel → Chan
chan_in c = record { peer = address_in c.peer; num = c.number; bound = c.bound; refresh_at = c.at }

-- tables
abbrev pub txns_in : Requests → List Txn
txns_in t = map txn_in (take t.len t.rows)

abbrev pub perms_in : Permissions → List Perm
perms_in t = map perm_in (take t.len t.rows)

abbrev pub chans_in : Channels → List Chan
chans_in t = map chan_in (take t.len t.rows)

-- the client
abbrev pub view : Client → Turn
view c =
    record {
      username = text_in c.credentials.username;
      password = text_in c.password;
      realm = held c.credentials.has_realm (text_in c.credentials.realm);
      nonce = held c.credentials.has_nonce (text_in c.credentials.nonce);
      key = held c.credentials.has_key c.credentials.key;
      relay = held c.has_relay (address_in c.relay);
      done = c.done;
      refresh_at = held c.has_refresh c.refresh_at;
      txns = txns_in c.requests;
      perms = perms_in c.permissions;
      chans = chans_in c.channels;
      next_num = c.next_num;
      closing = c.closing;
      reliable = c.reliable;
    }

-- blank rows
abbrev pub no_id : List ℕ
no_id = replicate 12 0

abbrev pub no_request : Request
no_request = record { id = no_id; under = no_id; asked = asked_of Allocate; tries = 0; next = 0; retried = false }

abbrev pub no_permission : Permission
no_permission = record { host = nowhere.host; granted = false; at = 0 }

abbrev pub no_channel : Channel
no_channel = record { peer = nowhere; number = 0; bound = false; at = 0 }

-- one fact or the other, by a flag; what is not held is blank
abbrev pub either : Bool → Type 0 → Type 0 → Type 0
either true a b = a
either false a b = b

abbrev pub absent : {A : Type 0} → Bool → A → A → Type 0
absent flag blank a = either flag (Unit {0}) (a ≡ blank)

pub record TidyText (t : Text) : Type 0 where
  pub fits : t.len ≤ 763
  pub zeros : drop t.len t.bytes ≡ replicate (763 - t.len) 0

-- does a message of that kind show the id under which its peer is encoded?
abbrev pub is_v6 : Ip → Bool
is_v6 (V4 x) = false
is_v6 (V6 h l) = true

abbrev pub shows_under : Kind → Bool
shows_under Allocate = false
shows_under (Refresh lifetime) = false
shows_under (Permit ip) = is_v6 ip
shows_under (ChannelBind peer number) = is_v6 peer.ip

-- rows that are the numbers of their meaning
abbrev pub TidyRequest : Request → Type 0
TidyRequest r = (asked_of (kind_in r.asked) ≡ r.asked) × either (shows_under (kind_in r.asked)) (Unit {0}) (r.under ≡ r.id)

pub record TidyPermission (p : Permission) : Type 0 where
  pub host : host_of (ip_in p.host) ≡ p.host
  pub asked : absent p.granted 0 p.at

abbrev pub TidyChannel : Channel → Type 0
TidyChannel c = place_of (address_in c.peer) ≡ c.peer

-- each row of a list is tidy
pub data Each {R : Type 0} (tidy : R → Type 0) : List R → Type 0 where
  no_rows : Each tidy []
  row : {r : R} {rest : List R} → tidy r → Each tidy rest → Each tidy (r ∷ rest)

-- the first `len` rows are tidy, and the others blank
pub record TidyTable {R : Type 0} (tidy : R → Type 0) (blank : R) (room len : ℕ) (rows : List R) : Type 0 where
  pub fits : len ≤ room
  pub each : Each tidy (take len rows)
  pub blanks : drop len rows ≡ replicate (room - len) blank

abbrev pub TidyRequests : Requests → Type 0
TidyRequests t = TidyTable TidyRequest no_request 64 t.len t.rows

abbrev pub TidyPermissions : Permissions → Type 0
TidyPermissions t = TidyTable TidyPermission no_permission 32 t.len t.rows

abbrev pub TidyChannels : Channels → Type 0
TidyChannels t = TidyTable TidyChannel no_channel 32 t.len t.rows

abbrev pub no_text : Text
no_text = record { bytes = replicate 763 0; len = 0 }

pub record TidyCredentials (c : Credentials) : Type 0 where
  pub username : TidyText c.username
  pub realm : TidyText c.realm
  pub nonce : TidyText c.nonce
  pub no_realm : absent c.has_realm no_text c.realm
  pub no_nonce : absent c.has_nonce no_text c.nonce
  pub no_key : absent c.has_key (replicate 16 0) c.key

pub record Tidy (c : Client) : Type 0 where
  pub password : TidyText c.password
  pub credentials : TidyCredentials c.credentials
  pub requests : TidyRequests c.requests
  pub permissions : TidyPermissions c.permissions
  pub channels : TidyChannels c.channels
  pub relay : either c.has_relay (place_of (address_in c.relay) ≡ c.relay) (c.relay ≡ nowhere)
  pub no_refresh : absent c.has_refresh 0 c.refresh_at

-- the event that a caller is told of
abbrev pub told : List Event → Option Event
told [] = None
told (e ∷ more) = Some e

-- answers: nothing told and nothing written, one event, packets of so many bytes
abbrev pub quiet : Client → Answer
quiet c = record { client = c; event = None; events = 0; packets = 0; len = 0 }

abbrev pub telling : Client → Event → Answer
telling c e = record { client = c; event = Some e; events = 1; packets = 0; len = 0 }

abbrev pub sending : Client → ℕ → ℕ → Answer
sending c packets len = record { client = c; event = None; events = 0; packets = packets; len = len }

-- what a caller has after a call: the client, the number, 0 where the call was done, and what it was told and sent
pub record Reply : Type 0 where
  pub client : Client
  pub refusal : ℕ
  pub event : Option Event
  pub events : ℕ
  pub packets : ℕ
  pub len : ℕ

abbrev pub done : Answer → Reply
done a = record { client = a.client; refusal = 0; event = a.event; events = a.events; packets = a.packets; len = a.len }

-- refused: the client that the caller gave, nothing told, nothing written
abbrev pub refused : Client → ℕ → Reply
refused c n = record { client = c; refusal = n; event = None; events = 0; packets = 0; len = 0 }

-- after a call of `before`
abbrev pub reply_of : Client → Result Answer Refusal → Reply
reply_of before (Ok a) = done a
reply_of before (Err r) = refused before (number_of r)

-- a call of `before` answered as the definition does: `due` is what that gives, `out` the lent output, `after` what it holds then.
-- Refused, the client is the one that was given.
pub record Meets (before : Client) (due : Outcome) (out : List ℕ) (r : Reply) (after : List ℕ) : Type 0 where
  pub refusal : r.refusal ≡ due.refusal
  pub client : view r.client ≡ due.client
  pub kept : either (eqb due.refusal 0) (Unit {0}) (r.client ≡ before)
  pub tidy : Tidy before → Tidy r.client
  pub events : r.events ≡ length due.events
  pub event : r.event ≡ told due.events
  pub packets : r.packets ≡ length due.packets
  pub len : r.len ≡ length (framed due.packets)
  pub output : after ≡ framed due.packets ++ drop (length (framed due.packets)) out

-- what the contract of a call allows: `client` is called with the output `out`, `r` is what the caller has then, and `after` what `out`
-- holds. Each call ensures it under this name, of its result's `reply_of`, and so what is said of it (crates/demands) is said of the code.
abbrev pub Allows : Client → Call → List ℕ → Reply → List ℕ → Type 0
Allows client call out r after = Meets client (outcome (view client) call) out r after

-- the id under which a request's peer is encoded has 12 bytes
abbrev pub Twelve : Request → Type 0
Twelve r = length r.under ≡ 12

-- of the lengths that the types of a client's arrays give, those that are used: its texts' bytes, its tables' rows, and `under` in each
-- request's row
pub record Sized (c : Client) : Type 0 where
  pub username : length c.credentials.username.bytes ≡ 763
  pub realm : length c.credentials.realm.bytes ≡ 763
  pub nonce : length c.credentials.nonce.bytes ≡ 763
  pub password : length c.password.bytes ≡ 763
  pub requests : length c.requests.rows ≡ 64
  pub permissions : length c.permissions.rows ≡ 32
  pub channels : length c.channels.rows ≡ 32
  pub unders : Each Twelve c.requests.rows
