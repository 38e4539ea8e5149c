-- "Every call ends, for all bytes, times and lent room, with an answer or one numbered refusal. A refused call changes neither the client
-- nor any lent byte."
--
-- That a call ends, whatever it is given, is no statement here: the prover admits no function that may not return, and none of these has a
-- `requires`. Of what is lent only the output can be written: ids and datagram are shared references.
use Rattle.std.specs.Prelude.{◌≡◌, Bool, false, List, [], ℕ, ◌≤◌, None}
use Rattle.turn_state.specs.declared.Client.{Client}
use Rattle.turn_state.specs.Source.{new, next_deadline}
use Rattle.turn_state.specs.Number.{open_number}
use Rattle.turn_state.specs.Sequence.{outcome}
use Rattle.turn_state.specs.View.{view}
use Rattle.turn_open.specs.Opening.{Opened}
use Rattle.demands.specs.History.{Step, Along, History}

-- nothing is changed, told or sent
pub record Unchanged (before : Client) (s : Step) : Type 0 where
  pub client : s.answer.client ≡ before
  pub output : s.left ≡ s.lent
  pub events : s.answer.events ≡ 0
  pub event : s.answer.event ≡ None
  pub packets : s.answer.packets ≡ 0
  pub len : s.answer.len ≡ 0
  pub deadline : s.deadline ≡ next_deadline (view before)

-- one number, the one that the scope's table has for the call, from 0 to 8; refused, nothing is changed
pub record Numbered (before : Client) (s : Step) : Type 0 where
  pub number : s.answer.refusal ≡ (outcome (view before) s.call).refusal
  pub small : s.answer.refusal ≤ 8
  pub refused : ¬ (s.answer.refusal ≡ 0) → Unchanged before s

-- an opening is answered or refused likewise; refused, it hands back the client of empty username and password over UDP
pub record Answered (username password : List ℕ) (o : Opened) (steps : List Step) : Type 0 where
  pub number : o.refusal ≡ open_number username password
  pub small : o.refusal ≤ 3
  pub refused : ¬ (o.refusal ≡ 0) → view o.client ≡ new [] [] false
  pub each : Along Numbered o.client steps

abbrev pub Demand1 : Type 0
Demand1 = (username password : List ℕ) (reliable : Bool) (o : Opened) (steps : List Step) → History username password reliable o steps → Answered username password o steps
