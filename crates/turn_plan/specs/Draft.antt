-- What the code's draft means as a plan, and when it is tidy.
use Rattle.std.specs.Prelude.{◌≡◌, cond, List, map, reverse, ℕ, ◌+◌, ◌≤◌, take, leb, Option, Some, None}
use Rattle.stun_address.specs.declared.Ip.{Ip}
use Rattle.turn_state.specs.declared.Client.{Client}
use Rattle.turn_state.specs.declared.Kind.{Kind}
use Rattle.turn_state.specs.declared.Request.{Request}
use Rattle.turn_state.specs.declared.Requests.{Requests}
use Rattle.turn_state.specs.declared.Permissions.{Permissions}
use Rattle.turn_state.specs.declared.Channels.{Channels}
use Rattle.turn_state.specs.State.{Message}
use Rattle.turn_state.specs.Source.{under_id}
use Rattle.turn_state.specs.View.{kind_in, txn_in, txns_in, perms_in, chans_in, view, TidyRequests, TidyPermissions, TidyChannels}
use Rattle.turn_tables.specs.declared.Id.{Id}
use Rattle.turn_tables.specs.Rows.{position}
use Rattle.turn_tables.specs.Tables.{pushed_request, put_request}
use Rattle.turn_state.specs.declared.Asks.{Asks}
use Rattle.turn_plan.specs.declared.Draft.{Draft}
use Rattle.turn_plan.specs.Plan.{Plan, entry, planned, plan_binds}

-- a request over the one at its place, or last
abbrev pub insert_at : Option ℕ → Requests → Request → Requests
insert_at (Some i) t row = put_request t i row
insert_at None t row = pushed_request t row

unfoldable pub inserted : Requests → Request → Requests
inserted t row = insert_at (position (under_id row.id) (txns_in t)) t row

-- the requests that are sent again, as messages
abbrev pub messages_in : Requests → List Message
messages_in t = map (λ r. (txn_in r).msg) (take t.len t.rows)

-- what is to be asked for, the last one first
abbrev pub kinds_in : Asks → List Kind
kinds_in a = reverse (map kind_in (take a.len a.rows))

abbrev pub plan_in : Draft → Plan
plan_in d =
    record {
      txns = txns_in d.requests;
      perms = perms_in d.permissions;
      chans = chans_in d.channels;
      done = d.done;
      refresh_at = d.refresh;
      sends = messages_in d.sends;
      kinds = kinds_in d.asks;
      timeouts = d.timeouts;
    }

-- the bytes of an id
abbrev pub id_bytes : Id → List ℕ
id_bytes i = i.bytes

-- assignments to the draft's fields
abbrev pub set_requests : Requests → Draft → Draft
set_requests x d = record { requests = x; permissions = d.permissions; channels = d.channels; sends = d.sends; asks = d.asks; timeouts = d.timeouts; refresh = d.refresh; done = d.done }

abbrev pub set_permissions : Permissions → Draft → Draft
set_permissions x d = record { requests = d.requests; permissions = x; channels = d.channels; sends = d.sends; asks = d.asks; timeouts = d.timeouts; refresh = d.refresh; done = d.done }

abbrev pub set_channels : Channels → Draft → Draft
set_channels x d = record { requests = d.requests; permissions = d.permissions; channels = x; sends = d.sends; asks = d.asks; timeouts = d.timeouts; refresh = d.refresh; done = d.done }

abbrev pub set_sends : Requests → Draft → Draft
set_sends x d = record { requests = d.requests; permissions = d.permissions; channels = d.channels; sends = x; asks = d.asks; timeouts = d.timeouts; refresh = d.refresh; done = d.done }

pub record TidyDraft (d : Draft) : Type 0 where
  pub requests : TidyRequests d.requests
  pub permissions : TidyPermissions d.permissions
  pub channels : TidyChannels d.channels

-- from the draft `d` the code made `r`, which means `due`; tables that were tidy are, where `given` holds of what was put there; and
-- what is sent again and what is asked for grew by no more than `sent` and `asked`
pub record Drafts (given : Type 0) (sent asked : ℕ) (d : Draft) (due : Plan) (r : Draft) : Type 0 where
  pub means : plan_in r ≡ due
  pub tidy : given → TidyDraft d → TidyDraft r
  pub few_sends : r.sends.len ≤ d.sends.len + sent
  pub few_timeouts : r.timeouts ≤ d.timeouts + sent
  pub few_asks : r.asks.len ≤ d.asks.len + asked

-- from a client the code made `r`, which means `due`, with no more than so many requests that are sent again or timed out, and asked for
pub record From (client : Client) (due : Plan) (sent asked : ℕ) (r : Draft) : Type 0 where
  pub means : plan_in r ≡ due
  pub tidy : TidyRequests client.requests → TidyPermissions client.permissions → TidyChannels client.channels → TidyDraft r
  pub few_sends : r.sends.len ≤ sent
  pub few_timeouts : r.timeouts ≤ sent
  pub few_asks : r.asks.len ≤ asked

abbrev pub Begins : Client → Draft → Type 0
Begins client r = From client (entry (view client)) 0 0 r

-- what the code plans for it; above the limit of times it plans nothing
abbrev pub Plans : Client → ℕ → Draft → Type 0
Plans client now r =
    From client (cond (leb now 9007199254740991) (planned now (view client)) (entry (view client))) 64 65 r

-- the client with these tables
abbrev pub with_tables : Requests → Permissions → Client → Client
with_tables requests permissions client = record client { requests = requests; permissions = permissions }

-- what the code binds after a permission's success, from the tables in which its request is gone and it is granted; the client's own are not asked
abbrev pub Binds : Client → Requests → Permissions → Ip → Draft → Type 0
Binds client requests permissions ip r =
    From (with_tables requests permissions client) (plan_binds ip (entry (view (with_tables requests permissions client)))) 0 32 r
