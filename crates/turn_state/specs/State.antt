-- What turn.rs holds (struct TurnClient and what it is made of), over plain lists and without limits, and what a call's run keeps
-- beside it: what it sends and tells, and the report of what it used. Maps stand in the order in which their records came.
use Rattle.std.specs.Prelude.{Bool, cond, List, [], ◌∷◌, ◌++◌, ℕ, ◌*◌, ◌/◌, length, take, drop, ltb, Option}
use Rattle.stun_address.specs.declared.Ip.{Ip}
use Rattle.stun_address.specs.declared.Address.{Address}
use Rattle.stun_write.specs.Source.{Attribute}
use Rattle.turn_state.specs.declared.Kind.{Kind}
use Rattle.turn_state.specs.declared.Event.{Event}

-- struct Message of stun.rs
pub record Message : Type 0 where
  pub typ : ℕ
  pub tid : List ℕ
  pub attrs : List Attribute

-- struct Txn; its key in `txns` is its message's tid
pub record Txn : Type 0 where
  pub kind : Kind
  pub msg : Message
  pub tries : ℕ
  pub next : ℕ
  pub auth_retried : Bool

-- a record of `perms`: none where it was requested, some where it is to be renewed then
pub record Perm : Type 0 where
  pub ip : Ip
  pub refresh : Option ℕ

-- struct Chan, under its peer. `by_num`, the source's map from a number to its peer, is the channel of that number: the source puts
-- a number there with its channel and takes it out with it.
pub record Chan : Type 0 where
  pub peer : Address
  pub num : ℕ
  pub bound : Bool
  pub refresh_at : ℕ

-- struct TurnClient
pub record Turn : Type 0 where
  pub username : List ℕ
  pub password : List ℕ
  pub realm : Option (List ℕ)
  pub nonce : Option (List ℕ)
  pub key : Option (List ℕ)
  pub relay : Option Address
  pub done : Bool
  pub refresh_at : Option ℕ
  pub txns : List Txn
  pub perms : List Perm
  pub chans : List Chan
  pub next_num : ℕ
  pub closing : Bool
  pub reliable : Bool

-- assignments to its fields
abbrev pub set_txns : List Txn → Turn → Turn
set_txns x c = record { username = c.username; password = c.password; realm = c.realm; nonce = c.nonce; key = c.key; relay = c.relay; done = c.done; refresh_at = c.refresh_at; txns = x; perms = c.perms; chans = c.chans; next_num = c.next_num; closing = c.closing; reliable = c.reliable }

abbrev pub set_perms : List Perm → Turn → Turn
set_perms x c = record { username = c.username; password = c.password; realm = c.realm; nonce = c.nonce; key = c.key; relay = c.relay; done = c.done; refresh_at = c.refresh_at; txns = c.txns; perms = x; chans = c.chans; next_num = c.next_num; closing = c.closing; reliable = c.reliable }

abbrev pub set_chans : List Chan → Turn → Turn
set_chans x c = record { username = c.username; password = c.password; realm = c.realm; nonce = c.nonce; key = c.key; relay = c.relay; done = c.done; refresh_at = c.refresh_at; txns = c.txns; perms = c.perms; chans = x; next_num = c.next_num; closing = c.closing; reliable = c.reliable }

abbrev pub set_realm : Option (List ℕ) → Turn → Turn
set_realm x c = record { username = c.username; password = c.password; realm = x; nonce = c.nonce; key = c.key; relay = c.relay; done = c.done; refresh_at = c.refresh_at; txns = c.txns; perms = c.perms; chans = c.chans; next_num = c.next_num; closing = c.closing; reliable = c.reliable }

abbrev pub set_nonce : Option (List ℕ) → Turn → Turn
set_nonce x c = record { username = c.username; password = c.password; realm = c.realm; nonce = x; key = c.key; relay = c.relay; done = c.done; refresh_at = c.refresh_at; txns = c.txns; perms = c.perms; chans = c.chans; next_num = c.next_num; closing = c.closing; reliable = c.reliable }

abbrev pub set_key : Option (List ℕ) → Turn → Turn
set_key x c = record { username = c.username; password = c.password; realm = c.realm; nonce = c.nonce; key = x; relay = c.relay; done = c.done; refresh_at = c.refresh_at; txns = c.txns; perms = c.perms; chans = c.chans; next_num = c.next_num; closing = c.closing; reliable = c.reliable }

abbrev pub set_relay : Option Address → Turn → Turn
set_relay x c = record { username = c.username; password = c.password; realm = c.realm; nonce = c.nonce; key = c.key; relay = x; done = c.done; refresh_at = c.refresh_at; txns = c.txns; perms = c.perms; chans = c.chans; next_num = c.next_num; closing = c.closing; reliable = c.reliable }

abbrev pub set_done : Bool → Turn → Turn
set_done x c = record { username = c.username; password = c.password; realm = c.realm; nonce = c.nonce; key = c.key; relay = c.relay; done = x; refresh_at = c.refresh_at; txns = c.txns; perms = c.perms; chans = c.chans; next_num = c.next_num; closing = c.closing; reliable = c.reliable }

abbrev pub set_refresh_at : Option ℕ → Turn → Turn
set_refresh_at x c = record { username = c.username; password = c.password; realm = c.realm; nonce = c.nonce; key = c.key; relay = c.relay; done = c.done; refresh_at = x; txns = c.txns; perms = c.perms; chans = c.chans; next_num = c.next_num; closing = c.closing; reliable = c.reliable }

abbrev pub set_next_num : ℕ → Turn → Turn
set_next_num x c = record { username = c.username; password = c.password; realm = c.realm; nonce = c.nonce; key = c.key; relay = c.relay; done = c.done; refresh_at = c.refresh_at; txns = c.txns; perms = c.perms; chans = c.chans; next_num = x; closing = c.closing; reliable = c.reliable }

abbrev pub set_closing : Bool → Turn → Turn
set_closing x c = record { username = c.username; password = c.password; realm = c.realm; nonce = c.nonce; key = c.key; relay = c.relay; done = c.done; refresh_at = c.refresh_at; txns = c.txns; perms = c.perms; chans = c.chans; next_num = c.next_num; closing = x; reliable = c.reliable }

-- a record that was added to a table which then held `held` and has `room`
pub record Added : Type 0 where
  pub room : ℕ
  pub held : ℕ

-- what a run used: ids in order, records added, lengths of the texts taken over, after replacement, and of the bodies written
pub record Report : Type 0 where
  pub used : List (List ℕ)
  pub added : List Added
  pub texts : List ℕ
  pub bodies : List ℕ

-- a method's `self`, `out` and `ev`, with the ids that were lent and the report
pub record Run : Type 0 where
  pub self : Turn
  pub out : List (List ℕ)
  pub ev : List Event
  pub lent : List ℕ
  pub report : Report

abbrev pub begin : Turn → List ℕ → Run
begin c ids = record { self = c; out = []; ev = []; lent = ids; report = record { used = []; added = []; texts = []; bodies = [] } }

-- self.. = ..
abbrev pub on_self : (Turn → Turn) → Run → Run
on_self f s = record { self = f s.self; out = s.out; ev = s.ev; lent = s.lent; report = s.report }

-- ev.push(event)
abbrev pub tell : Event → Run → Run
tell event s = record { self = s.self; out = s.out; ev = s.ev ++ (event ∷ []); lent = s.lent; report = s.report }

-- out.push(frame), of ChannelData
abbrev pub push_frame : List ℕ → Run → Run
push_frame frame s = record { self = s.self; out = s.out ++ (frame ∷ []); ev = s.ev; lent = s.lent; report = s.report }

-- the report with one more
abbrev pub report_used : List ℕ → Report → Report
report_used x r = record { used = r.used ++ (x ∷ []); added = r.added; texts = r.texts; bodies = r.bodies }

abbrev pub report_added : Added → Report → Report
report_added x r = record { used = r.used; added = r.added ++ (x ∷ []); texts = r.texts; bodies = r.bodies }

abbrev pub report_text : ℕ → Report → Report
report_text x r = record { used = r.used; added = r.added; texts = r.texts ++ (x ∷ []); bodies = r.bodies }

abbrev pub report_body : ℕ → Report → Report
report_body x r = record { used = r.used; added = r.added; texts = r.texts; bodies = r.bodies ++ (x ∷ []) }

abbrev pub on_report : (Report → Report) → Run → Run
on_report f s = record { self = s.self; out = s.out; ev = s.ev; lent = s.lent; report = f s.report }

-- how many ids are lent, of 12 bytes each; spare bytes are ignored
abbrev pub ids_in : List ℕ → ℕ
ids_in lent = length lent / 12

-- the id at k; one that was not lent is empty
abbrev pub id_at : List ℕ → ℕ → List ℕ
id_at lent k = cond (ltb k (ids_in lent)) (take 12 (drop (12 * k) lent)) []

-- new_tid(), and the run in which it has been drawn
abbrev pub new_tid : Run → List ℕ
new_tid s = id_at s.lent (length s.report.used)

abbrev pub drew : Run → Run
drew s = on_report (report_used (new_tid s)) s
