-- What a send comes to, from a peer's permission and channel alone: its route. And the run of the definition that a route stands for.
use Rattle.std.specs.Prelude.{◌≡◌, Bool, true, false, cond, ◌&&◌, ◌||◌, not, List, [], ◌∷◌, ◌++◌, map, ℕ, ◌+◌, ◌-◌, length, leb, Option, None, Some, is_none, is_some, option_map}
use Rattle.stun_frame.specs.Source.{encode_channel_data}
use Rattle.stun_address.specs.declared.Address.{Address}
use Rattle.turn_state.specs.declared.Kind.{Kind}
use Rattle.turn_state.specs.declared.Kind.TheVariants.{Permission, ChannelBind}
use Rattle.turn_state.specs.declared.Asked.{Asked}
use Rattle.turn_state.specs.declared.Credentials.{Credentials}
use Rattle.turn_state.specs.declared.Client.{Client}
use Rattle.turn_state.specs.declared.Requests.{Requests}
use Rattle.turn_state.specs.Maps.{get, insert}
use Rattle.turn_state.specs.State.{Perm, Chan, Txn, Turn, Added, Run, id_at}
use Rattle.turn_state.specs.Source.{for_ip, for_peer, under_drawn, encode}
use Rattle.turn_state.specs.Number.{Given, number, settled, full}
use Rattle.turn_state.specs.View.{asked_of, kind_in, view, Reply, Meets}
use Rattle.turn_packet.specs.Source.{packet_size, packet_of}
use Rattle.turn_data.specs.Data.{indication_of, indication_size, frame_size}
use Rattle.turn_ids.specs.Ids.{ids_from, request_full}
use Rattle.turn_plan.specs.Draft.{inserted}
use Rattle.turn_plan.specs.Follows.{message_at, txn_at, first_next}
use Rattle.turn_send.specs.declared.Route.{Route}

-- the number of a channel that is bound
abbrev pub line_of : Option Chan → Option ℕ
line_of None = None
line_of (Some c) = cond c.bound (Some c.num) None

-- a channel is made
abbrev pub makes : Option Chan → ℕ → Bool
makes q next_num = not (is_some q) && leb next_num 0x7FFF

-- the request that is made, where one is: for the permission that is made, or, where one stands and is granted, for the channel that is
abbrev pub ask_of : Option Perm → Bool → ℕ → Address → Option Kind
ask_of None opens next_num peer = Some (Permission peer.ip)
ask_of (Some p) opens next_num peer = cond (opens && is_some p.refresh) (Some (ChannelBind peer next_num)) None

-- a record meets a full table, where the tables hold `perms` and `chans` records
abbrev pub crowded : Option Perm → Bool → ℕ → ℕ → Bool
crowded None opens perms chans = leb 32 perms || (opens && leb 32 chans)
crowded (Some p) opens perms chans = opens && leb 32 chans

abbrev pub route_of : Option Perm → Option Chan → ℕ → ℕ → ℕ → Address → Route
route_of p q perms chans next_num peer =
    record {
      permits = not (is_some p);
      opens = makes q next_num;
      next = cond (makes q next_num) (next_num + 1) next_num;
      ask = option_map asked_of (ask_of p (makes q next_num) next_num peer);
      full = crowded p (makes q next_num) perms chans;
      line = line_of q;
    }

-- the request's packet, where one is made, and the data's; their bytes in the output, and the ids that they use
abbrev pub ask_bytes : Credentials → Option Asked → ℕ
ask_bytes c None = 0
ask_bytes c (Some a) = 3 + packet_size c a

abbrev pub asked_out : Credentials → Option Asked → List ℕ → List (List ℕ)
asked_out c None id = []
asked_out c (Some a) id = packet_of c a id id ∷ []

abbrev pub data_bytes : Option ℕ → Address → ℕ → ℕ
data_bytes None peer n = 3 + indication_size peer n
data_bytes (Some number) peer n = 3 + frame_size n

abbrev pub data_of : Option ℕ → Address → List ℕ → List ℕ → List ℕ
data_of None peer id body = indication_of peer id body
data_of (Some number) peer id body = encode_channel_data number body

abbrev pub one_if : Bool → ℕ
one_if b = cond b 1 0

abbrev pub uses : {K : Type 0} → Option K → Option ℕ → ℕ
uses ask line = one_if (is_some ask) + one_if (is_none line)

-- the code's table with the request
abbrev pub with_ask : Requests → Option Asked → List ℕ → ℕ → Requests
with_ask t None id next = t
with_ask t (Some a) id next = inserted t (record { id = id; under = id; asked = a; tries = 1; next = next; retried = false })

-- the request in its table, its packet, and the lengths of the bodies
abbrev pub requested : Turn → ℕ → List ℕ → Option Kind → List Txn
requested c now lent None = c.txns
requested c now lent (Some kind) = insert (under_drawn (id_at lent 0)) (txn_at (first_next c now) lent 0 kind) c.txns

abbrev pub packets_of : Turn → List ℕ → Option Kind → List (List ℕ)
packets_of c lent None = []
packets_of c lent (Some kind) = encode c (message_at lent 0 kind) ∷ []

abbrev pub bodies_of : List (List ℕ) → List ℕ
bodies_of packets = map (λ p. length p - 20) packets

abbrev pub data_bodies : Option ℕ → Address → List ℕ → List ℕ → List ℕ
data_bodies None peer id body = (length (indication_of peer id body) - 20) ∷ []
data_bodies (Some number) peer id body = []

-- the client after it
abbrev pub routed : Turn → ℕ → List ℕ → Address → Bool → Bool → Option Kind → Turn
routed c now lent peer permits opens ask =
    record {
      username = c.username;
      password = c.password;
      realm = c.realm;
      nonce = c.nonce;
      key = c.key;
      relay = c.relay;
      done = c.done;
      refresh_at = c.refresh_at;
      txns = requested c now lent ask;
      perms = cond permits (insert (for_ip peer.ip) (record { ip = peer.ip; refresh = None }) c.perms) c.perms;
      chans = cond opens (insert (for_peer peer) (record { peer = peer; num = c.next_num; bound = false; refresh_at = now }) c.chans) c.chans;
      next_num = cond opens (c.next_num + 1) c.next_num;
      closing = c.closing;
      reliable = c.reliable;
    }

-- the run before the data, and the whole
abbrev pub ask_run : Turn → ℕ → List ℕ → Address → Bool → Bool → Option Kind → List Added → Run
ask_run c now lent peer permits opens ask added =
    record {
      self = routed c now lent peer permits opens ask;
      out = packets_of c lent ask;
      ev = [];
      lent = lent;
      report = record { used = ids_from lent 0 (one_if (is_some ask)); added = added; texts = []; bodies = bodies_of (packets_of c lent ask) };
    }

abbrev pub sent_run : Turn → ℕ → List ℕ → Address → List ℕ → Bool → Bool → Option Kind → Option ℕ → List Added → Run
sent_run c now lent peer body permits opens ask line added =
    let id = id_at lent (one_if (is_some ask)) in
    record {
      self = routed c now lent peer permits opens ask;
      out = packets_of c lent ask ++ (data_of line peer id body ∷ []);
      ev = [];
      lent = lent;
      report = record { used = ids_from lent 0 (uses ask line); added = added; texts = []; bodies = bodies_of (packets_of c lent ask) ++ data_bodies line peer id body };
    }

-- `s` is the run of the route `r`
pub record Sends (c : Turn) (now : ℕ) (lent : List ℕ) (peer : Address) (body : List ℕ) (r : Route) (s : Run) : Type 0 where
  pub added : List Added
  pub run : s ≡ sent_run c now lent peer body r.permits r.opens (option_map kind_in r.ask) r.line added
  pub met : full added ≡ (r.full || (is_some r.ask && request_full c.txns lent 0))

-- the route goes by what the client holds
pub record Goes (client : Client) (peer : Address) (r : Route) : Type 0 where
  pub missing : r.permits ≡ true → get (for_ip peer.ip) (view client).perms ≡ None
  pub no_channel : r.opens ≡ true → get (for_peer peer) (view client).chans ≡ None
  pub next : r.next ≡ cond r.opens (client.next_num + 1) client.next_num
  pub room : r.full ≡ false → (r.permits && leb 32 client.permissions.len ≡ false) × (r.opens && leb 32 client.channels.len ≡ false)
  pub neat : option_map (λ a. asked_of (kind_in a)) r.ask ≡ r.ask

abbrev pub given_of : ℕ → List ℕ → List ℕ → ℕ → Given
given_of now body lent room = record { time = now; data_len = length body; ids = lent; room = room }

-- what a caller has after any run that the route stands for
abbrev pub Concludes : Client → Route → ℕ → Address → List ℕ → List ℕ → List ℕ → Reply → List ℕ → Type 0
Concludes client r now peer body lent out a after =
    (s : Run) → Goes client peer r → Sends (view client) now lent peer body r s
    → Meets client (settled (number (given_of now body lent (length out)) (view client) s) (view client) s) out a after
