-- A sequence of calls from an opening on, with what each answers: refusal, events, packets, the client after it, and its deadline.
use Rattle.std.specs.Prelude.{Bool, List, [], ◌∷◌, ℕ, length, Option}
use Rattle.stun_address.specs.declared.Address.{Address}
use Rattle.turn_state.specs.State.{Turn}
use Rattle.turn_state.specs.Source.{start, handle, send, poll, transport_failed, close, next_deadline}
use Rattle.turn_state.specs.Number.{given_of, Outcome, called, opened}

-- times first, then what is the call's own, then the ids and the room that are lent
pub data Call : Type 0 where
  Start : ℕ → List ℕ → ℕ → Call
  Handle : ℕ → List ℕ → List ℕ → ℕ → Call
  Send : ℕ → Address → List ℕ → List ℕ → ℕ → Call
  Poll : ℕ → List ℕ → ℕ → Call
  TransportFailed : Call
  Close : List ℕ → ℕ → Call

abbrev pub outcome : Turn → Call → Outcome
outcome c (Start now ids room) = called (start now) (given_of now ids room) c
outcome c (Handle now buf ids room) = called (handle now buf) (given_of now ids room) c
outcome c (Send now peer body ids room) = called (send now peer body) (record { time = now; data_len = length body; ids = ids; room = room }) c
outcome c (Poll now ids room) = called (poll now) (given_of now ids room) c
outcome c TransportFailed = called transport_failed (given_of 0 [] 0) c
outcome c (Close ids room) = called close (given_of 0 ids room) c

-- an answer with the deadline of the client after it
pub record Told : Type 0 where
  pub outcome : Outcome
  pub deadline : Option ℕ

abbrev pub told : Outcome → Told
told o = record { outcome = o; deadline = next_deadline o.client }

abbrev pub answers : Turn → List Call → List Told
answers c [] = []
answers c (call ∷ more) = told (outcome c call) ∷ answers (outcome c call).client more

-- the client after a sequence
abbrev pub after : Turn → List Call → Turn
after c [] = c
after c (call ∷ more) = after (outcome c call).client more

-- from an opening on
abbrev pub session : List ℕ → List ℕ → Bool → List Call → List Told
session username password reliable calls = answers (opened username password reliable) calls
