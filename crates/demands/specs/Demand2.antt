-- "With refused calls left out, every sequence gives the Rust's packets, events, deadlines and client state."
use Rattle.std.specs.Prelude.{◌≡◌, Bool, List, ◌++◌, map, ℕ, ◌≤◌, length, drop, replicate, eqb, Option, Some, None, []}
use Rattle.turn_state.specs.Maps.{filter}
use Rattle.turn_state.specs.State.{ids_in}
use Rattle.turn_state.specs.Source.{peer_of}
use Rattle.turn_state.specs.Number.{framed}
use Rattle.turn_state.specs.View.{view, told}
use Rattle.turn_open.specs.Opening.{Opened}
use Rattle.demands.specs.History.{Step, Pairs, History}
use Rattle.demands.specs.Rust.{Gives, named, ids_of, rust_new, rust}
use Rattle.turn_state.specs.declared.Event.{Event}

-- one event, so many times
abbrev pub times : ℕ → Option Event → List Event
times n None = []
times n (Some e) = replicate n e

-- a step of the code gives what the Rust gives: its packets lie framed in front of the lent output, and the bytes behind them are as
-- they were; its events are one event, so many times; by_num names the peers of the client's channels; and every id that the Rust drew
-- was lent
pub record Shows (s : Step) (g : Gives) : Type 0 where
  pub output : s.left ≡ framed g.packets ++ drop s.answer.len s.lent
  pub len : s.answer.len ≡ length (framed g.packets)
  pub packets : s.answer.packets ≡ length g.packets
  pub event : s.answer.event ≡ told g.events
  pub events : g.events ≡ times s.answer.events s.answer.event
  pub count : s.answer.events ≡ length g.events
  pub deadline : s.deadline ≡ g.deadline
  pub client : view s.answer.client ≡ g.client.turn
  pub by_num : (num : ℕ) → named num g.client.by_num ≡ peer_of num (view s.answer.client).chans
  pub drawn : g.drawn ≤ ids_in (ids_of s.call)

-- the steps that were not refused
abbrev pub accepted : List Step → List Step
accepted = filter (λ s. eqb s.answer.refusal 0)

abbrev pub Demand2 : Type 0
Demand2 = (username password : List ℕ) (reliable : Bool) (o : Opened) (steps : List Step) → History username password reliable o steps → o.refusal ≡ 0
    → Pairs Shows (accepted steps) (rust (rust_new username password reliable) (map (λ s. s.call) (accepted steps)))
