-- What a datagram tells of, what an answer to a pending request does, and the answer of a step that sends nothing.
use Rattle.std.specs.Prelude.{◌≡◌, List, [], ℕ, length, take, drop, Option, None, Some, option_map}
use Rattle.stun_frame.specs.declared.classes.Class.{Class}
use Rattle.stun_frame.specs.declared.ChannelData.{ChannelData}
use Rattle.stun_address.specs.declared.Address.{Address}
use Rattle.stun_walk.specs.declared.Value.{Value}
use Rattle.stun_walk.specs.Source.{get_of, xor_addr_of}
use Rattle.turn_state.specs.declared.Channels.{Channels}
use Rattle.turn_state.specs.declared.Client.{Client}
use Rattle.turn_state.specs.declared.Answer.{Answer}
use Rattle.turn_state.specs.declared.Event.{Event}
use Rattle.turn_state.specs.declared.Event.TheVariants.{Allocated, Failed, Data}
use Rattle.turn_state.specs.Maps.{get, if_let}
use Rattle.turn_state.specs.State.{Run, begin}
use Rattle.turn_state.specs.Source.{under_id, of_number, tid_of, answer, answered}
use Rattle.turn_state.specs.View.{view, told, chans_in, quiet, telling, Tidy}
use Rattle.turn_tables.specs.Tables.{removed_request}
use Rattle.turn_retry.specs.Retry.{without}

-- the part of a datagram that an event names
abbrev pub part_of : Option Event → List ℕ → List ℕ
part_of (Some (Data peer start len)) buf = take len (drop start buf)
part_of (Some (Allocated relay mapped)) buf = []
part_of (Some (Failed why)) buf = []
part_of None buf = []

-- an answer that changes nothing, with an event or none
abbrev pub saying : Client → Option Event → Answer
saying c None = quiet c
saying c (Some e) = telling c e

-- the event of data on a channel's number, and of a Data indication
abbrev pub heard : Channels → ChannelData → Option Event
heard t d = option_map (λ c. Data c.peer d.start d.len) (get (of_number d.number) (chans_in t))

abbrev pub sent_data : Option Address → Option Value → Option Event
sent_data (Some peer) (Some v) = Some (Data peer v.start v.len)
sent_data (Some peer) None = None
sent_data None found = None

abbrev pub indication : List ℕ → Option Event
indication buf = sent_data (xor_addr_of buf 0x0012) (get_of buf 0x0013)

-- a message that is no Data indication
abbrev pub answered_by : ℕ → List ℕ → Run → Run
answered_by now buf s = if_let (get (under_id (tid_of buf)) s.self.txns) (λ t. answer now buf t s) s

-- an answer that is taken: the request leaves its table first
abbrev pub resolved : ℕ → List ℕ → List ℕ → Class → Run → Run
resolved now buf id cls s = if_let (get (under_id id) s.self.txns) (λ t. answered now buf cls t (without id s)) s

-- the client without the request at i
abbrev pub lacking : Client → ℕ → Client
lacking c i =
    record {
      password = c.password;
      credentials = c.credentials;
      requests = removed_request c.requests i;
      permissions = c.permissions;
      channels = c.channels;
      relay = c.relay;
      refresh_at = c.refresh_at;
      next_num = c.next_num;
      has_relay = c.has_relay;
      has_refresh = c.has_refresh;
      done = c.done;
      closing = c.closing;
      reliable = c.reliable;
    }

-- the answer of a run that used nothing and sends nothing
pub record Settles (before : Client) (s : Run) (r : Answer) : Type 0 where
  pub used : s.report ≡ record { used = []; added = []; texts = []; bodies = [] }
  pub silent : s.out ≡ []
  pub client : view r.client ≡ s.self
  pub tidy : Tidy before → Tidy r.client
  pub events : r.events ≡ length s.ev
  pub event : r.event ≡ told s.ev
  pub packets : r.packets ≡ 0
  pub len : r.len ≡ 0

-- of a step, whatever ids are lent
abbrev pub Quiet : Client → (Run → Run) → Answer → Type 0
Quiet before step r = (lent : List ℕ) → Settles before (step (begin (view before) lent)) r
