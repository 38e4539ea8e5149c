-- What is listed at an entry: of the rows that a test accepts, in the table's order; blank rows after them.
use Rattle.std.specs.Prelude.{Bool, ◌&&◌, List, map, ℕ, length, take, leb}
use Rattle.stun_address.specs.declared.Ip.{Ip}
use Rattle.turn_state.specs.declared.Host.{Host}
use Rattle.turn_state.specs.declared.Place.{Place}
use Rattle.turn_state.specs.declared.Request.{Request}
use Rattle.turn_state.specs.declared.Permission.{Permission}
use Rattle.turn_state.specs.declared.Channel.{Channel}
use Rattle.turn_state.specs.declared.Requests.{Requests}
use Rattle.turn_state.specs.declared.Permissions.{Permissions}
use Rattle.turn_state.specs.declared.Channels.{Channels}
use Rattle.turn_state.specs.Maps.{filter}
use Rattle.turn_state.specs.Source.{waiting}
use Rattle.turn_state.specs.View.{chan_in, no_id, nowhere}
use Rattle.turn_tables.specs.declared.Id.{Id}
use Rattle.turn_tables.specs.declared.Ids.{Ids}
use Rattle.turn_tables.specs.declared.Hosts.{Hosts}
use Rattle.turn_tables.specs.declared.Places.{Places}
use Rattle.turn_tables.specs.Rows.{filled}

abbrev pub id_of : List ℕ → Id
id_of bytes = record { bytes = bytes }

-- lists of these
abbrev pub ids_of : List Id → Ids
ids_of l = record { rows = filled 64 (id_of no_id) l; len = length l }

abbrev pub hosts_of : List Host → Hosts
hosts_of l = record { rows = filled 32 nowhere.host l; len = length l }

abbrev pub places_of : List Place → Places
places_of l = record { rows = filled 32 nowhere l; len = length l }

-- what is due, and what waits
abbrev pub due_request : ℕ → Request → Bool
due_request now r = leb r.next now

abbrev pub due_permission : ℕ → Permission → Bool
due_permission now p = p.granted && leb p.at now

abbrev pub due_channel : ℕ → Channel → Bool
due_channel now c = c.bound && leb c.at now

abbrev pub waiting_channel : Ip → Channel → Bool
waiting_channel ip c = waiting ip (chan_in c)

abbrev pub due_ids : Requests → ℕ → Ids
due_ids t now = ids_of (map (λ r. id_of r.id) (filter (due_request now) (take t.len t.rows)))

abbrev pub due_hosts : Permissions → ℕ → Hosts
due_hosts t now = hosts_of (map (λ p. p.host) (filter (due_permission now) (take t.len t.rows)))

abbrev pub due_places : Channels → ℕ → Places
due_places t now = places_of (map (λ c. c.peer) (filter (due_channel now) (take t.len t.rows)))

abbrev pub waiting_places : Channels → Ip → Places
waiting_places t ip = places_of (map (λ c. c.peer) (filter (waiting_channel ip) (take t.len t.rows)))
