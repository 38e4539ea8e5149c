-- What a caller has after `open`: the number, and the client that the definition opens, tidy.
use Rattle.std.specs.Prelude.{◌≡◌, Bool, List, ℕ, Result, Ok, Err}
use Rattle.turn_state.specs.declared.Client.{Client}
use Rattle.turn_state.specs.declared.Refusal.{Refusal}
use Rattle.turn_state.specs.Number.{number_of, open_number, opened}
use Rattle.turn_state.specs.View.{view, Tidy}
use Rattle.turn_open.specs.Fresh.{unopened_client}

-- the client that a caller goes on with, and the number: 0 where the opening was done
pub record Opened : Type 0 where
  pub client : Client
  pub refusal : ℕ

-- of what `open` answers; after a refusal, with the client that `unopened` gives
abbrev pub opened_of : Result Client Refusal → Opened
opened_of (Ok client) = record { client = client; refusal = 0 }
opened_of (Err r) = record { client = unopened_client; refusal = number_of r }

pub record Opening (username password : List ℕ) (reliable : Bool) (r : Opened) : Type 0 where
  pub refusal : r.refusal ≡ open_number username password
  pub client : view r.client ≡ opened username password reliable
  pub tidy : Tidy r.client
