-- A permission's success: the code's tables are the definition's, its plan stands for the definition's run, and where the permission meets
-- a full table the number is 5.
use Rattle.std.specs.Prelude.{Option, None, Some}
use mathlib.Core.Path.{◌≡◌, refl, ap, sym, subst, ◌∙◌}
use mathlib.Core.Bool.{Bool, true, false}
use mathlib.Core.List.{List, [], ◌∷◌}
use Prim.Native.Nat.{ℕ, ◌+◌, ◌≤◌, ◌<◌, min}
use native.Mathlib.Omega.{arith}
use lib.ListN.{length}
use lib.Dec.{leb}
use borrow.Author.Tests.{le-ltb, le-leb, lt-leb, leb-true, leb-false}
use Rattle.stun_address.specs.declared.Ip.{Ip}
use Rattle.stun_address.specs.declared.Address.{Address}
use Rattle.turn_state.specs.declared.Client.{Client}
use Rattle.turn_state.specs.declared.Kind.TheVariants.{ChannelBind}
use Rattle.turn_state.specs.declared.Host.{Host}
use Rattle.turn_state.specs.declared.Permission.{Permission}
use Rattle.turn_state.specs.declared.Permissions.{Permissions}
use Rattle.turn_state.specs.declared.Requests.{Requests}
use Rattle.turn_state.specs.Maps.{get, insert, remove, each, if_let}
use Rattle.turn_state.specs.State.{Txn, Perm, Chan, Turn, Run, begin}
use Rattle.turn_state.specs.Source.{under_id, for_ip, for_peer}
use Rattle.turn_state.specs.Number.{given_of, number, above, full}
use Rattle.turn_state.specs.View.{view, host_of, ip_in, perm_in, txns_in, perms_in, TidyRequests, TidyPermission}
use Rattle.turn_tables.specs.Rows.{position}
use Rattle.turn_tables.specs.Tables.{removed_request, put_permission, pushed_permission}
use Rattle.turn_tables.proofs.Keys.{nowhere_remove, nowhere_contains, at_contains}
use Rattle.turn_tables.proofs.Laws.{txns_length, remove_txn, tidy_removed_request, perms_length, replace_perm, add_perm, tidy_put_permission, tidy_pushed_permission}
use Rattle.turn_packet.proofs.Rooms.{Rooms}
use Rattle.turn_plan.specs.declared.Draft.{Draft}
use Rattle.turn_plan.specs.Plan.{Plan, entry, with_txns, with_perms, asking, plan_bind, plan_binds, waiting_peers, granting, plan_success}
use Rattle.turn_plan.specs.Draft.{plan_in, with_tables}
use Rattle.turn_plan.specs.Follows.{Follows, FollowsFull, perm_full}
use Rattle.turn_plan.proofs.Steps.{success_follows}
use Rattle.turn_state.specs.declared.Refusal.TheVariants.{Full}
use Rattle.turn_poll.specs.Concluding.{permitted, Granted, NoPlace}
use Rattle.turn_poll.proofs.Packets.{not_above, short_kinds}

-- is there room for the permission?
many : (b : Bool) (n m : ℕ) → m ≡ min n 32 → leb 32 n ≡ b → b ≡ leb 32 m
many true n m e h = sym (le-leb 32 m (omega (arith, e, leb-true 32 n h)))
many false n m e h = sym (lt-leb 32 m (omega (arith, e, leb-false 32 n h)))

room_missing : (t : Permissions) (ip : Ip) → length t.rows ≡ 32 → position (for_ip ip) (perms_in t) ≡ None → leb 32 t.len ≡ perm_full (perms_in t) ip
room_missing t ip rows missing =
    rw (nowhere_contains (for_ip ip) (perms_in t) missing) (many (leb 32 t.len) t.len (length (perms_in t)) (perms_length t rows) refl)

-- the requests without one
module _ (t : Requests) (id : List ℕ) (rows : length t.rows ≡ 64) where
  pub without_found : (r : Requests) (i : ℕ) → position (under_id id) (txns_in t) ≡ Some i → r ≡ removed_request t i
      → (txns_in r ≡ remove (under_id id) (txns_in t)) × (TidyRequests t → TidyRequests r)
  without_found r i found e = (ap txns_in e ∙ remove_txn t rows (under_id id) i found, λ n. rw e (tidy_removed_request t n i rows))

  pub without_missing : position (under_id id) (txns_in t) ≡ None → (txns_in t ≡ remove (under_id id) (txns_in t)) × (TidyRequests t → TidyRequests t)
  without_missing missing = (sym (nowhere_remove (under_id id) (txns_in t) missing), λ n. n)

-- the permissions with one that is granted
module _ (t : Permissions) (ip : Ip) (now : ℕ) (host : Host) (rows : length t.rows ≡ 32) (eh : host ≡ host_of ip) (back : ip_in host ≡ ip) where
  abbrev row : Permission
  row = record { host = host; granted = true; at = now + 240000 }

  shown : perm_in row ≡ record { ip = ip; refresh = Some (now + 240000) }
  shown = rw back

  neat : TidyPermission row
  neat = record { host = rw back (sym eh); asked = tt }

  pub grant_found : (r : Permissions) (i : ℕ) → position (for_ip ip) (perms_in t) ≡ Some i → r ≡ put_permission t i row → Granted t ip now r
  grant_found r i found e =
      record {
        free = rw (at_contains (for_ip ip) (perms_in t) i found);
        granted = ap perms_in e ∙ replace_perm t rows (for_ip ip) i row found ∙ ap (λ (p : Perm). insert (for_ip ip) p (perms_in t)) shown;
        tidy = λ n. rw e (tidy_put_permission t n i row neat);
      }

  pub grant_new : (r : Permissions) → position (for_ip ip) (perms_in t) ≡ None → t.len < 32 → r ≡ pushed_permission t row → Granted t ip now r
  grant_new r missing few e =
      record {
        free = sym (room_missing t ip rows missing) ∙ lt-leb 32 t.len few;
        granted = ap perms_in e ∙ add_perm t rows (for_ip ip) row missing few ∙ ap (λ (p : Perm). insert (for_ip ip) p (perms_in t)) shown;
        tidy = λ n. rw e (tidy_pushed_permission t n row neat);
      }

pub no_grant : (t : Permissions) (ip : Ip) → length t.rows ≡ 32 → position (for_ip ip) (perms_in t) ≡ None → 32 ≤ t.len → NoPlace t ip Full
no_grant t ip rows missing many = record { five = refl; met = sym (room_missing t ip rows missing) ∙ le-leb 32 t.len many }

-- a row of binds sends nothing again
bind_sends : (p : Plan) (o : Option Chan) (peer : Address) → (if_let o (λ c. asking (ChannelBind peer c.num) p) p).sends ≡ p.sends
bind_sends p None peer = refl
bind_sends p (Some c) peer = refl

binds_sends : (peers : List Address) (p : Plan) → (each plan_bind peers p).sends ≡ p.sends
unfolding plan_bind
binds_sends [] p = refl
binds_sends (peer ∷ peers) p = binds_sends peers (plan_bind peer p) ∙ bind_sends p (get (for_peer peer) p.chans) peer

module _ (client : Client) (now : ℕ) (lent id buf : List ℕ) (ip : Ip) (rows : length client.requests.rows ≡ 64) where
  abbrev c : Turn
  c = view client

  abbrev success : Run
  success = permitted now buf id ip (begin c lent)

  follows : FollowsFull (perm_full c.perms ip) c now lent (plan_success now id ip c) success
  unfolding permitted
  follows = success_follows c now lent id buf ip (omega (arith, txns_length client.requests rows))

  pub no_place : (room : ℕ) → Rooms client.credentials → now ≤ 9007199254740991 → perm_full c.perms ip ≡ true → number (given_of now lent room) c success ≡ 5
  unfolding number
  no_place room rooms in_time e =
      let f = follows in
      let none-again : (plan_success now id ip c).sends ≡ [] = binds_sends (waiting_peers ip c.chans) _ in
      let bodies : above 65535 success.report.bodies ≡ false =
      ap (λ (r : Run). above 65535 r.report.bodies) f.run ∙ rw none-again (not_above (short_kinds client rooms lent (plan_success now id ip c).kinds)) in
      let texts : above 763 success.report.texts ≡ false = ap (λ (r : Run). above 763 r.report.texts) f.run in
      let met : full success.report.added ≡ true = ap (λ (r : Run). full r.report.added) f.run ∙ f.met ∙ rw e in
      rw (le-ltb 9007199254740991 now in_time, texts, bodies, met)

  -- the draft of the code, from the tables in which the request is gone and the permission granted
  pub success_plan : (d : Draft) (t : Requests) (p : Permissions) → plan_in d ≡ plan_binds ip (entry (view (with_tables t p client)))
      → txns_in t ≡ remove (under_id id) c.txns → perms_in p ≡ granting now ip c.perms → perm_full c.perms ip ≡ false → Follows c now lent (plan_in d) success
  success_plan d t p means et ep free =
      let is : plan_in d ≡ plan_success now id ip c =
      means ∙ ap (λ (l : List Txn). plan_binds ip (with_perms (perms_in p) (with_txns l (entry c)))) et
      ∙ ap (λ (l : List Perm). plan_binds ip (with_perms l (with_txns (remove (under_id id) c.txns) (entry c)))) ep in
      let g = subst (λ (b : Bool). FollowsFull b c now lent (plan_success now id ip c) success) free follows in
      subst (λ (q : Plan). Follows c now lent q success) (sym is) g
