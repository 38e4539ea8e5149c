-- A history: an opening, then calls, each made with the client that the caller had after the one before, and each answered as the
-- contract of that function allows. It speaks of the code's own values: its clients, its answers (`reply_of` of what a call returns: of a
-- refusal, its number and the client that was given) and the bytes that were lent to it.
use Rattle.std.specs.Prelude.{◌≡◌, Bool, List, [], ◌∷◌, ℕ, ◌<◌, ◌^◌, length, Option}
use Rattle.stun_address.specs.declared.Ip.{Ip}
use Rattle.stun_address.specs.declared.Ip.TheVariants.{V4, V6}
use Rattle.turn_state.specs.declared.Client.{Client}
use Rattle.turn_state.specs.Source.{next_deadline}
use Rattle.turn_state.specs.Sequence.{Call, Start, Handle, Send, Poll, TransportFailed, Close}
use Rattle.turn_state.specs.View.{view, Each, Tidy, Reply, Allows, Sized}
use Rattle.turn_open.specs.Opening.{Opened}
use Rattle.turn_open.specs.Opening.{Opening}

-- the length of the output that a call is lent; the loss of a transport is lent none
abbrev pub room_of : Call → ℕ
room_of (Start now ids room) = room
room_of (Handle now buf ids room) = room
room_of (Send now peer body ids room) = room
room_of (Poll now ids room) = room
room_of TransportFailed = 0
room_of (Close ids room) = room

-- the arguments are of their types: u8, u16, u64, and an IPv4 address a u32
abbrev pub Bytes : List ℕ → Type 0
Bytes = Each (λ b. b < 2 ^ 8)

abbrev pub IpTyped : Ip → Type 0
IpTyped (V4 x) = x < 2 ^ 32
IpTyped (V6 h l) = (h < 2 ^ 64) × (l < 2 ^ 64)

abbrev pub Typed : Call → Type 0
Typed (Start now ids room) = (now < 2 ^ 64) × Bytes ids × (room < 2 ^ 64)
Typed (Handle now buf ids room) = (now < 2 ^ 64) × Bytes buf × Bytes ids × (room < 2 ^ 64)
Typed (Send now peer body ids room) = (now < 2 ^ 64) × IpTyped peer.ip × (peer.port < 2 ^ 16) × Bytes body × Bytes ids × (room < 2 ^ 64)
Typed (Poll now ids room) = (now < 2 ^ 64) × Bytes ids × (room < 2 ^ 64)
Typed TransportFailed = Unit {0}
Typed (Close ids room) = Bytes ids × (room < 2 ^ 64)

-- a call with its answer: `lent` is the output before it and `left` after it, and `deadline` what `next_deadline` then answers
pub record Step : Type 0 where
  pub call : Call
  pub lent : List ℕ
  pub answer : Reply
  pub left : List ℕ
  pub deadline : Option ℕ

-- a step that the code can make with the client `before`
pub record Allowed (before : Client) (s : Step) : Type 0 where
  pub typed : Typed s.call
  pub bytes : Bytes s.lent
  pub room : length s.lent ≡ room_of s.call
  pub contract : Allows before s.call s.lent s.answer s.left
  pub sized : Sized s.answer.client
  pub deadline : s.deadline ≡ next_deadline (view s.answer.client)

-- of every step, with the client that it is made with
pub data Along (P : Client → Step → Type 0) : Client → List Step → Type 0 where
  end : {c : Client} → Along P c []
  next : {c : Client} {s : Step} {more : List Step} → P c s → Along P s.answer.client more → Along P c (s ∷ more)

-- an opening with its answer, and the steps after it
pub record History (username password : List ℕ) (reliable : Bool) (o : Opened) (steps : List Step) : Type 0 where
  pub name_typed : Bytes username
  pub word_typed : Bytes password
  pub opening : Opening username password reliable o
  pub sized : Sized o.client
  pub made : Along Allowed o.client steps

-- two lists of one length, pair by pair
pub data Pairs {A B : Type 0} (R : A → B → Type 0) : List A → List B → Type 0 where
  none : Pairs R [] []
  pair : {a : A} {b : B} {l : List A} {m : List B} → R a b → Pairs R l m → Pairs R (a ∷ l) (b ∷ m)

-- the same call, lent the same bytes
abbrev pub SameGiven : Step → Step → Type 0
SameGiven s t = (s.call ≡ t.call) × (s.lent ≡ t.lent)

-- "No room for a second reading": what was given fixes every answer, client and lent byte; and every client is tidy
abbrev pub OneHistory : Type 0
OneHistory = (username password : List ℕ) (reliable : Bool) (o p : Opened) (steps others : List Step)
    → History username password reliable o steps → History username password reliable p others → Pairs SameGiven steps others → (o ≡ p) × (steps ≡ others)

abbrev pub AllTidy : Type 0
AllTidy = (username password : List ℕ) (reliable : Bool) (o : Opened) (steps : List Step)
    → History username password reliable o steps → Tidy o.client × Along (λ c s. Tidy s.answer.client) o.client steps
