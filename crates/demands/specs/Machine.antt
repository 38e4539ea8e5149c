-- The naturals of the definition are the source's machine numbers: in every history what a client holds, and what is read of a datagram,
-- stays within the types of turn.rs and stun.rs (u16, u32, and an Instant as milliseconds in 64 bits). So no sum of the source leaves
-- its type in an accepted call: each is held in the client that the call hands back, or below what is.
use Rattle.std.specs.Prelude.{Bool, List, ℕ, ◌+◌, ◌-◌, ◌*◌, ◌^◌, ◌≤◌, ◌<◌, Option, None, Some}
use Rattle.stun_walk.specs.Source.{error_code_of, lifetime_of}
use Rattle.turn_state.specs.declared.Kind.{Kind}
use Rattle.turn_state.specs.declared.Kind.TheVariants.{Allocate, Refresh, Permission, ChannelBind}
use Rattle.turn_state.specs.State.{Txn, Chan, Turn}
use Rattle.turn_state.specs.Source.{RELIABLE_TIMEOUT, PERMISSION_REFRESH, CHANNEL_REFRESH, MAX_TRIES}
use Rattle.turn_state.specs.Sequence.{Call, Start, Handle, Send, Poll, TransportFailed, Close}
use Rattle.turn_state.specs.View.{view, Each}
use Rattle.turn_open.specs.Opening.{Opened}
use Rattle.demands.specs.History.{Step, Along, History}

-- the last time that a call may have: 2^53 - 1 milliseconds
abbrev pub LAST_TIME : ℕ
LAST_TIME = 9007199254740991

-- a time that a call set `wait` milliseconds ahead
abbrev pub Within : ℕ → ℕ → Type 0
Within wait at = at ≤ LAST_TIME + wait

abbrev pub WithinIf : ℕ → Option ℕ → Type 0
WithinIf wait None = Unit {0}
WithinIf wait (Some at) = Within wait at

-- what a request asks for: a Refresh 600 seconds (a u32), a bind a number (a u16)
abbrev pub KindFits : Kind → Type 0
KindFits Allocate = Unit {0}
KindFits (Refresh lifetime) = lifetime ≤ 600
KindFits (Permission ip) = Unit {0}
KindFits (ChannelBind peer num) = num ≤ 0x7FFF

-- tries: u32, and the shift by tries - 1 is by at most 5; next: Instant
pub record TxnFits (t : Txn) : Type 0 where
  pub kind : KindFits t.kind
  pub tries : t.tries ≤ MAX_TRIES
  pub next : Within RELIABLE_TIMEOUT t.next

-- num: u16; refresh_at: Instant
pub record ChanFits (c : Chan) : Type 0 where
  pub num : c.num ≤ 0x7FFF
  pub refresh_at : Within CHANNEL_REFRESH c.refresh_at

-- the longest time ahead: that of a lifetime of 2^32 - 1 seconds, less a minute
abbrev pub LONGEST : ℕ
LONGEST = (2 ^ 32 - 1 - 60) * 1000

-- next_num: u16
pub record Fits (c : Turn) : Type 0 where
  pub next_num : c.next_num ≤ 0x8000
  pub txns : Each TxnFits c.txns
  pub perms : Each (λ p. WithinIf PERMISSION_REFRESH p.refresh) c.perms
  pub chans : Each ChanFits c.chans
  pub refresh_at : WithinIf LONGEST c.refresh_at

-- error_code(): u16; lifetime(): u32
abbrev pub CodeFits : Option ℕ → Type 0
CodeFits (Some n) = n ≤ 955
CodeFits None = Unit {0}

abbrev pub LifetimeFits : Option ℕ → Type 0
LifetimeFits (Some n) = n < 2 ^ 32
LifetimeFits None = Unit {0}

abbrev pub ReadFits : Call → Type 0
ReadFits (Start now ids room) = Unit {0}
ReadFits (Handle now buf ids room) = CodeFits (error_code_of buf) × LifetimeFits (lifetime_of buf)
ReadFits (Send now peer body ids room) = Unit {0}
ReadFits (Poll now ids room) = Unit {0}
ReadFits TransportFailed = Unit {0}
ReadFits (Close ids room) = Unit {0}

-- every time of these is a u64
abbrev pub LongestFits : Type 0
LongestFits = LAST_TIME + LONGEST < 2 ^ 64

abbrev pub MachineNumbers : Type 0
MachineNumbers = (username password : List ℕ) (reliable : Bool) (o : Opened) (steps : List Step) → History username password reliable o steps
    → Fits (view o.client) × Along (λ c s. ReadFits s.call × Fits (view s.answer.client)) o.client steps
