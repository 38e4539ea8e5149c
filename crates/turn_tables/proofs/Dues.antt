-- What is listed at an entry is what the definition lists of the table's view, and fits its room.
use mathlib.Core.Path.{◌≡◌, refl, ap, ap₂, ◌∙◌}
use mathlib.Core.Bool.{Bool, true, false, cond, ◌&&◌}
use mathlib.Core.List.{List, [], ◌∷◌, map}
use Prim.Native.Nat.{ℕ, ◌≤◌, min}
use native.Mathlib.Omega.{arith}
use lib.ListN.{length, take}
use lib.Dec.{leb}
use Rattle.stun_address.specs.declared.Ip.{Ip}
use Rattle.turn_state.specs.declared.Requests.{Requests}
use Rattle.turn_state.specs.declared.Permissions.{Permissions}
use Rattle.turn_state.specs.declared.Channels.{Channels}
use Rattle.turn_state.specs.Maps.{filter}
use Rattle.turn_state.specs.Source.{is_due, waiting}
use Rattle.turn_state.specs.State.{Txn, Perm, Chan}
use Rattle.turn_state.specs.View.{ip_in, address_in, held, txn_in, perm_in, chan_in, txns_in, perms_in, chans_in, no_id, nowhere}
use Rattle.turn_tables.specs.declared.Id.{Id}
use Rattle.turn_tables.specs.Lists.{id_of, due_request, due_permission, due_channel, waiting_channel, due_ids, due_hosts, due_places, waiting_places}
use Rattle.turn_tables.specs.Rows.{filled}
use Rattle.turn_tables.proofs.Listing.{listed_le, filled_front}

-- rows chosen by a test of the view, and what they mean
module _ {R W X Y : Type 0} (f : R → W) (test : W → Bool) (own : R → Bool) (h : W → Y) (g : R → X) (k : X → Y) (agree : (r : R) → own r ≡ test (f r))
    (means : (r : R) → k (g r) ≡ h (f r)) where
  chosen : (x : R) (b : Bool) (l : List R) (m : List W) → map k (map g l) ≡ map h m → map k (map g (cond b (x ∷ l) l)) ≡ map h (cond b (f x ∷ m) m)
  chosen x true l m e = ap₂ {C = List Y} (λ y r. y ∷ r) (means x) e
  chosen x false l m e = e

  shown_listed : (l : List R) → map k (map g (filter own l)) ≡ map h (filter test (map f l))
  shown_listed [] = refl
  shown_listed (x ∷ l) = let e = chosen x (test (f x)) (filter own l) (filter test (map f l)) (shown_listed l) in rw (agree x) e

  -- as it stands in the answer's rows
  pub shown_filled : (room : ℕ) (blank : X) (l : List R)
      → map k (take (length (map g (filter own l))) (filled room blank (map g (filter own l)))) ≡ map h (filter test (map f l))
  shown_filled room blank l = ap (map k) (filled_front room blank (map g (filter own l))) ∙ shown_listed l

granted_due : (now : ℕ) (b : Bool) (at : ℕ) → (b && leb at now) ≡ is_due now (held b at)
granted_due now true at = refl
granted_due now false at = refl

pub due_ids_shown : (t : Requests) (now : ℕ)
    → map (λ (x : Id). x.bytes) (take (due_ids t now).len (due_ids t now).rows)
    ≡ map (λ (x : Txn). x.msg.tid) (filter (λ (x : Txn). leb x.next now) (txns_in t))
due_ids_shown t now =
    shown_filled txn_in (λ x. leb x.next now) (due_request now) (λ x. x.msg.tid) (λ r. id_of r.id) (λ x. x.bytes) (λ r. refl) (λ r. refl) 64
    (id_of no_id) (take t.len t.rows)

pub due_hosts_shown : (t : Permissions) (now : ℕ)
    → map ip_in (take (due_hosts t now).len (due_hosts t now).rows) ≡ map (λ (p : Perm). p.ip) (filter (λ (p : Perm). is_due now p.refresh) (perms_in t))
due_hosts_shown t now =
    shown_filled perm_in (λ p. is_due now p.refresh) (due_permission now) (λ p. p.ip) (λ r. r.host) ip_in (λ r. granted_due now r.granted r.at)
    (λ r. refl) 32 nowhere.host (take t.len t.rows)

pub due_places_shown : (t : Channels) (now : ℕ)
    → map address_in (take (due_places t now).len (due_places t now).rows)
    ≡ map (λ (c : Chan). c.peer) (filter (λ (c : Chan). c.bound && leb c.refresh_at now) (chans_in t))
due_places_shown t now =
    shown_filled chan_in (λ c. c.bound && leb c.refresh_at now) (due_channel now) (λ c. c.peer) (λ r. r.peer) address_in (λ r. refl) (λ r. refl) 32
    nowhere (take t.len t.rows)

pub waiting_places_shown : (t : Channels) (ip : Ip)
    → map address_in (take (waiting_places t ip).len (waiting_places t ip).rows) ≡ map (λ (c : Chan). c.peer) (filter (waiting ip) (chans_in t))
waiting_places_shown t ip =
    shown_filled chan_in (waiting ip) (waiting_channel ip) (λ c. c.peer) (λ r. r.peer) address_in (λ r. refl) (λ r. refl) 32 nowhere (take t.len t.rows)

-- how many are listed, and that the answer's rows have their length
module _ (t : Requests) (now : ℕ) (full : length t.rows ≡ 64) where
  pub due_ids_len : (due_ids t now).len ≤ min t.len 64
  due_ids_len = omega (arith, listed_le (due_request now) (λ r. id_of r.id) t.rows t.len)

module _ (t : Permissions) (now : ℕ) (full : length t.rows ≡ 32) where
  pub due_hosts_len : (due_hosts t now).len ≤ min t.len 32
  due_hosts_len = omega (arith, listed_le (due_permission now) (λ r. r.host) t.rows t.len)

module _ (t : Channels) (full : length t.rows ≡ 32) where
  pub due_places_len : (now : ℕ) → (due_places t now).len ≤ min t.len 32
  due_places_len now = omega (arith, listed_le (due_channel now) (λ r. r.peer) t.rows t.len)

  pub waiting_places_len : (ip : Ip) → (waiting_places t ip).len ≤ min t.len 32
  waiting_places_len ip = omega (arith, listed_le (waiting_channel ip) (λ r. r.peer) t.rows t.len)
