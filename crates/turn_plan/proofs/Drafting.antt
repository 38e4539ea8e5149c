-- What the code does to a draft is what the plan's step does to its meaning.
use Rattle.std.specs.Prelude.{Option, None, Some}
use Rattle.turn_tables.proofs.Neat.{tidy_row}
use mathlib.Core.Path.{◌≡◌, refl, ap, sym, subst, ◌∙◌}
use mathlib.Core.Bool.{Bool, true, false, cond, ◌||◌}
use mathlib.Core.List.{List, [], ◌∷◌, ◌++◌, map, map-append}
use lib.Seq.{take-suc}
use Rattle.std.proofs.lemmas.List.{take_all}
use native.Mathlib.Numerals.{add-one}
use Prim.Native.Nat.{ℕ, ◌+◌, ◌-◌, ◌*◌, ◌^◌, ◌≤◌, ◌<◌, min}
use native.Mathlib.Omega.{arith}
use lib.ListN.{length, take, get_or}
use lib.Dec.{leb}
use borrow.Author.Tests.{lt-ltb, le-leb, lt-leb}
use Rattle.stun_address.specs.declared.Ip.{Ip}
use Rattle.stun_address.specs.declared.Address.{Address}
use Rattle.turn_state.specs.declared.Kind.TheVariants.{Refresh, Permission, ChannelBind}
use Rattle.turn_state.specs.declared.Host.{Host}
use Rattle.turn_state.specs.declared.Place.{Place}
use Rattle.turn_state.specs.declared.Permission.{Permission as PermissionRow}
use Rattle.turn_state.specs.declared.Channel.{Channel}
use Rattle.turn_state.specs.declared.Request.{Request}
use Rattle.turn_state.specs.declared.Requests.{Requests}
use Rattle.turn_state.specs.declared.Permissions.{Permissions}
use Rattle.turn_state.specs.declared.Channels.{Channels}
use Rattle.turn_state.specs.Maps.{insert, remove, each}
use Rattle.turn_state.specs.State.{Txn, Perm, Chan}
use Rattle.turn_state.specs.Source.{under_id, under_drawn, for_ip, for_peer, repeated, renewed_at}
use Rattle.turn_state.specs.Source.{RTO}
use Rattle.turn_state.specs.View.{view, kind_in, txn_in, txns_in, perms_in, chans_in, host_of, ip_in, address_in, chan_in, no_request, no_channel, TidyRequest, TidyRequests, TidyPermission, TidyChannel}
use Rattle.turn_tables.specs.declared.Ids.{Ids}
use Rattle.turn_tables.specs.declared.Hosts.{Hosts}
use Rattle.turn_tables.specs.declared.Places.{Places}
use Rattle.turn_tables.specs.Lists.{due_ids, due_hosts, due_places, waiting_places}
use Rattle.turn_tables.proofs.Dues.{due_ids_shown, due_hosts_shown, due_places_shown, waiting_places_shown}
use Rattle.turn_tables.specs.Rows.{position}
use Rattle.turn_tables.specs.Tables.{pushed_request, removed_request, put_permission, removed_permission, put_channel, removed_channel}
use Rattle.turn_tables.proofs.Keys.{nowhere_remove, nowhere_get, nowhere_contains, at_contains}
use Rattle.turn_tables.proofs.Views.{shown_pushed}
use Rattle.turn_state.proofs.Rows.{ip_back}
use Rattle.turn_tables.proofs.Laws.{found_txn, get_txn, add_txn, replace_txn, remove_txn, remove_perm, remove_chan, replace_perm, replace_chan, found_chan, get_chan, tidy_put_permission, tidy_put_channel, tidy_pushed_request, tidy_put_request, tidy_removed_request, tidy_removed_permission, tidy_removed_channel}
use Rattle.turn_state.specs.declared.Kind.{Kind}
use Rattle.turn_plan.specs.declared.Draft.{Draft}
use Rattle.turn_state.specs.declared.Client.{Client}
use Rattle.turn_plan.specs.Plan.{Plan, entry, due_tids, due_ips, due_peers, plan_perms, plan_chans, planned, planned_from, asking, plan_refresh, plan_perm, plan_chan, failed, sent_again, settle_due, with_txns, with_perms, with_chans, plan_due, plan_bind, plan_binds, waiting_peers}
use Rattle.turn_plan.specs.Draft.{inserted, insert_at, id_bytes, plan_in, messages_in, TidyDraft, Drafts, From, Begins, Plans, Binds, set_requests, set_permissions, set_channels, set_sends}

-- nothing changes
pub same_draft : (sent asked : ℕ) (d : Draft) (p : Plan) → plan_in d ≡ p → Drafts (Unit {0}) sent asked d p d
same_draft sent asked d p e = record { means = e; tidy = λ _ t. t; few_sends = omega arith; few_asks = omega arith; few_timeouts = omega arith }

-- a permission or a channel is taken out, or was not there
pub fail_permission : (d : Draft) (ip : Ip) (i : ℕ) (t : Permissions) → length d.permissions.rows ≡ 32 → position (for_ip ip) (perms_in d.permissions) ≡ Some i
    → t ≡ removed_permission d.permissions i → Drafts (Unit {0}) 1 0 d (failed (Permission ip) (plan_in d)) (set_permissions t d)
fail_permission d ip i t full found e =
    record {
      means = ap (λ (l : List Perm). with_perms l (plan_in d)) (ap perms_in e ∙ remove_perm d.permissions full (for_ip ip) i found);
      tidy = λ _ n. record { requests = n.requests; permissions = rw e (tidy_removed_permission d.permissions n.permissions i full); channels = n.channels };
      few_sends = omega arith;
      few_asks = omega arith;
      few_timeouts = omega arith;
    }

pub fail_no_permission : (d : Draft) (ip : Ip) → position (for_ip ip) (perms_in d.permissions) ≡ None → Drafts (Unit {0}) 1 0 d (failed (Permission ip) (plan_in d)) d
fail_no_permission d ip missing = same_draft 1 0 d (failed (Permission ip) (plan_in d)) (ap (λ (l : List Perm). with_perms l (plan_in d)) (sym (nowhere_remove (for_ip ip) (perms_in d.permissions) missing)))

pub fail_channel : (d : Draft) (peer : Address) (num i : ℕ) (t : Channels) → length d.channels.rows ≡ 32 → position (for_peer peer) (chans_in d.channels) ≡ Some i
    → t ≡ removed_channel d.channels i → Drafts (Unit {0}) 1 0 d (failed (ChannelBind peer num) (plan_in d)) (set_channels t d)
fail_channel d peer num i t full found e =
    record {
      means = ap (λ (l : List Chan). with_chans l (plan_in d)) (ap chans_in e ∙ remove_chan d.channels full (for_peer peer) i found);
      tidy = λ _ n. record { requests = n.requests; permissions = n.permissions; channels = rw e (tidy_removed_channel d.channels n.channels i full) };
      few_sends = omega arith;
      few_asks = omega arith;
      few_timeouts = omega arith;
    }

pub fail_no_channel : (d : Draft) (peer : Address) (num : ℕ) → position (for_peer peer) (chans_in d.channels) ≡ None → Drafts (Unit {0}) 1 0 d (failed (ChannelBind peer num) (plan_in d)) d
fail_no_channel d peer num missing = same_draft 1 0 d (failed (ChannelBind peer num) (plan_in d)) (ap (λ (l : List Chan). with_chans l (plan_in d)) (sym (nowhere_remove (for_peer peer) (chans_in d.channels) missing)))

-- a request under an id of twelve bytes
pub insert_drawn : (id : List ℕ) (t : Txn) (l : List Txn) → length id ≡ 12 → insert (under_id id) t l ≡ insert (under_drawn id) t l
insert_drawn [] t l e = let z : ⊥ = omega arith in absurd z
insert_drawn (b ∷ bs) t l e = refl

inserted_step : (t : Requests) (r : Request) (p : Option ℕ) → length t.rows ≡ 64 → t.len < 64 → position (under_id r.id) (txns_in t) ≡ p
    → txns_in (insert_at p t r) ≡ insert (under_id r.id) (txn_in r) (txns_in t)
inserted_step t r (Some i) full room found = replace_txn t full (under_id r.id) i r found
inserted_step t r None full room found = add_txn t full (under_id r.id) r found room

pub inserted_txns : (t : Requests) (r : Request) → length t.rows ≡ 64 → t.len < 64 → length r.id ≡ 12
    → txns_in (inserted t r) ≡ insert (under_drawn r.id) (txn_in r) (txns_in t)
unfolding inserted
inserted_txns t r full room twelve =
    inserted_step t r (position (under_id r.id) (txns_in t)) full room refl ∙ insert_drawn r.id (txn_in r) (txns_in t) twelve

tidy_step : (t : Requests) (r : Request) (p : Option ℕ) → TidyRequest r → TidyRequests t → TidyRequests (insert_at p t r)
tidy_step t r (Some i) neat tidy = tidy_put_request t tidy i r neat
tidy_step t r None neat tidy = tidy_pushed_request t tidy r neat

pub tidy_inserted : (t : Requests) (r : Request) → TidyRequest r → TidyRequests t → TidyRequests (inserted t r)
unfolding inserted
tidy_inserted t r neat tidy = tidy_step t r (position (under_id r.id) (txns_in t)) neat tidy

-- a request sent again
abbrev pub later : ℕ → ℕ → Request → Request
later now w r = record { id = r.id; under = r.under; asked = r.asked; tries = r.tries + 1; next = now + w; retried = r.retried }

pub again_draft : (d : Draft) (r : Request) (now w : ℕ) (t sent : Requests) → length d.requests.rows ≡ 64 → length d.sends.rows ≡ 64
    → d.requests.len < 64 → d.sends.len < 64 → length r.id ≡ 12 → w ≡ RTO * min (2 ^ (r.tries + 1 - 1)) 8
    → t ≡ inserted d.requests (later now w r) → sent ≡ pushed_request d.sends r
    → Drafts (TidyRequest r) 1 0 d (sent_again now (txn_in r) (plan_in d)) (set_sends sent (set_requests t d))
again_draft d r now w t sent full full-sends room room-sends twelve wait e s =
    let q = later now w r in
    let is : txns_in t ≡ insert (under_drawn r.id) (repeated now (txn_in r)) (txns_in d.requests) =
    ap txns_in e ∙ inserted_txns d.requests q full room twelve ∙ rw wait in
    let more : messages_in sent ≡ messages_in d.sends ++ ((txn_in r).msg ∷ []) =
    ap messages_in s ∙ rw (lt-ltb d.sends.len 64 room-sends) (shown_pushed (λ x. (txn_in x).msg) d.sends.rows d.sends.len 64 full-sends r room-sends) in
    record {
      means = rw (is, more);
      tidy = λ neat n. record { requests = rw e (tidy_inserted d.requests q neat n.requests); permissions = n.permissions; channels = n.channels };
      few_sends = rw (s, lt-ltb d.sends.len 64 room-sends) (omega arith);
      few_asks = omega arith;
      few_timeouts = omega arith;
    }

-- one due request, found at i
module _ (d : Draft) (id : List ℕ) (now : ℕ) (reliable : Bool) (i : ℕ) (z : Request) (less : Requests) (full : length d.requests.rows ≡ 64)
    (found : position (under_id id) (txns_in d.requests) ≡ Some i) (e : less ≡ removed_request d.requests i) where
  abbrev r₀ : Request
  r₀ = get_or d.requests.rows i z

  out_means : plan_in (set_requests less d) ≡ with_txns (remove (under_id id) (txns_in d.requests)) (plan_in d)
  out_means = ap (λ (l : List Txn). with_txns l (plan_in d)) (ap txns_in e ∙ remove_txn d.requests full (under_id id) i found)

  out_tidy : TidyDraft d → TidyDraft (set_requests less d)
  out_tidy n = record { requests = rw e (tidy_removed_request d.requests n.requests i full); permissions = n.permissions; channels = n.channels }

  due_means : plan_due now reliable id (plan_in d) ≡ settle_due now reliable (txn_in r₀) (plan_in (set_requests less d))
  unfolding plan_due
  due_means = rw (get_txn d.requests full (under_id id) i z found) (ap (λ (p : Plan). settle_due now reliable (txn_in r₀) p) (sym out_means))

  pub due_fails : (r : Draft) → (reliable || leb 6 r₀.tries) ≡ true → Drafts (Unit {0}) 1 0 (set_requests less d) (failed (kind_in r₀.asked) (plan_in (set_requests less d))) r
      → Drafts (Unit {0}) 1 0 d (plan_due now reliable id (plan_in d)) r
  due_fails r test f =
      record {
        means = f.means ∙ sym (due_means ∙ rw test);
        tidy = λ u n. f.tidy u (out_tidy n);
        few_sends = f.few_sends;
        few_asks = f.few_asks;
        few_timeouts = f.few_timeouts;
      }

  pub due_again : (r : Draft) → (reliable || leb 6 r₀.tries) ≡ false → Drafts (TidyRequest r₀) 1 0 (set_requests less d) (sent_again now (txn_in r₀) (plan_in (set_requests less d))) r
      → Drafts (Unit {0}) 1 0 d (plan_due now reliable id (plan_in d)) r
  due_again r test f =
      record {
        means = f.means ∙ sym (due_means ∙ rw test);
        tidy = λ u n. f.tidy (tidy_row no_request 64 d.requests.len d.requests.rows i z full (found_txn d.requests full (under_id id) i found) n.requests) (out_tidy n);
        few_sends = f.few_sends;
        few_asks = f.few_asks;
        few_timeouts = f.few_timeouts;
      }

pub due_none : (d : Draft) (id : List ℕ) (now : ℕ) (reliable : Bool) → position (under_id id) (txns_in d.requests) ≡ None
    → Drafts (Unit {0}) 1 0 d (plan_due now reliable id (plan_in d)) d
unfolding plan_due
due_none d id now reliable missing = same_draft 1 0 d (plan_due now reliable id (plan_in d)) (rw (nowhere_get (under_id id) (txns_in d.requests) missing))

-- a table from which a request was taken has room
pub one_shorter : (t less : Requests) → length t.rows ≡ 64 → (is : Txn → Bool) (i : ℕ) → position is (txns_in t) ≡ Some i → less ≡ removed_request t i → less.len < 64
one_shorter t less full is i found e =
    let h = found_txn t full is i found in rw (e, lt-ltb i (min t.len 64) h) (omega (arith, h))

-- one step after another that left the lists alone
pub chain : (d mid r : Draft) (due : Plan) → Drafts (Unit {0}) 0 1 mid due r → (TidyDraft d → TidyDraft mid) → mid.sends.len ≡ d.sends.len → mid.asks.len ≡ d.asks.len
    → mid.timeouts ≡ d.timeouts → Drafts (Unit {0}) 0 1 d due r
chain d mid r due f tidy sends asks timeouts =
    record {
      means = f.means;
      tidy = λ u n. f.tidy u (tidy n);
      few_sends = omega (arith, f.few_sends);
      few_asks = omega (arith, f.few_asks);
      few_timeouts = omega (arith, f.few_timeouts);
    }

-- the allocation's Refresh
abbrev pub unrefreshed : Draft → Draft
unrefreshed d = record { requests = d.requests; permissions = d.permissions; channels = d.channels; sends = d.sends; asks = d.asks; timeouts = d.timeouts; refresh = None; done = d.done }

pub refresh_none : (d : Draft) (now : ℕ) → d.refresh ≡ None → Drafts (Unit {0}) 0 1 d (plan_refresh now (plan_in d)) d
unfolding plan_refresh
refresh_none d now e = same_draft 0 1 d (plan_refresh now (plan_in d)) (rw e)

pub refresh_later : (d : Draft) (now at : ℕ) → d.refresh ≡ Some at → now < at → Drafts (Unit {0}) 0 1 d (plan_refresh now (plan_in d)) d
unfolding plan_refresh
refresh_later d now at e h = same_draft 0 1 d (plan_refresh now (plan_in d)) (rw (e, lt-leb at now h))

pub refresh_due : (d r : Draft) (now at : ℕ) → d.refresh ≡ Some at → at ≤ now
    → Drafts (Unit {0}) 0 1 (unrefreshed d) (asking (Refresh 600) (plan_in (unrefreshed d))) r → Drafts (Unit {0}) 0 1 d (plan_refresh now (plan_in d)) r
unfolding plan_refresh
refresh_due d r now at e h f =
    let due : plan_refresh now (plan_in d) ≡ asking (Refresh 600) (plan_in (unrefreshed d)) = rw (e, le-leb at now h) in
    rw due (chain d (unrefreshed d) r (asking (Refresh 600) (plan_in (unrefreshed d))) f (λ n. record { requests = n.requests; permissions = n.permissions; channels = n.channels }) refl refl refl)

-- a permission is asked for again, in its place
pub permission_none : (d : Draft) (ip : Ip) → position (for_ip ip) (perms_in d.permissions) ≡ None → Drafts (Unit {0}) 0 1 d (plan_perm ip (plan_in d)) d
unfolding plan_perm
permission_none d ip missing = same_draft 0 1 d (plan_perm ip (plan_in d)) (rw (nowhere_contains (for_ip ip) (perms_in d.permissions) missing))

pub permission_due : (d r : Draft) (h : Host) (i : ℕ) (t : Permissions) → length d.permissions.rows ≡ 32
    → position (for_ip (ip_in h)) (perms_in d.permissions) ≡ Some i → t ≡ put_permission d.permissions i (record { host = host_of (ip_in h); granted = false; at = 0 })
    → Drafts (Unit {0}) 0 1 (set_permissions t d) (asking (Permission (ip_in h)) (plan_in (set_permissions t d))) r
    → Drafts (Unit {0}) 0 1 d (plan_perm (ip_in h) (plan_in d)) r
unfolding plan_perm
permission_due d r h i t full found e f =
    let ip = ip_in h in
    let own : PermissionRow = record { host = host_of ip; granted = false; at = 0 } in
    let mid = set_permissions t d in
    let back = ip_back h in
    let neat : TidyPermission own = record { host = ap host_of back; asked = refl } in
    let means : perms_in t ≡ insert (for_ip ip) (record { ip = ip; refresh = None }) (perms_in d.permissions) =
    ap perms_in e ∙ replace_perm d.permissions full (for_ip ip) i own found ∙ ap (λ (x : Ip). insert (for_ip ip) (record { ip = x; refresh = None }) (perms_in d.permissions)) back in
    let due : plan_perm ip (plan_in d) ≡ asking (Permission ip) (plan_in mid) =
    rw (at_contains (for_ip ip) (perms_in d.permissions) i found) (ap (λ (l : List Perm). asking (Permission ip) (with_perms l (plan_in d))) (sym means)) in
    rw due
    (chain d mid r (asking (Permission ip) (plan_in mid)) f
    (λ n. record { requests = n.requests; permissions = rw e (tidy_put_permission d.permissions n.permissions i own neat); channels = n.channels }) refl refl refl)

-- a channel is bound again
pub channel_none : (d : Draft) (peer : Address) (now : ℕ) → position (for_peer peer) (chans_in d.channels) ≡ None → Drafts (Unit {0}) 0 1 d (plan_chan now peer (plan_in d)) d
unfolding plan_chan
channel_none d peer now missing = same_draft 0 1 d (plan_chan now peer (plan_in d)) (rw (nowhere_get (for_peer peer) (chans_in d.channels) missing))

abbrev pub renewed_row : ℕ → Channel → Channel
renewed_row now c = record { peer = c.peer; number = c.number; bound = c.bound; at = now + 540000 }

pub channel_due : (d r : Draft) (p : Place) (now i : ℕ) (z : Channel) (t : Channels) → length d.channels.rows ≡ 32
    → position (for_peer (address_in p)) (chans_in d.channels) ≡ Some i → t ≡ put_channel d.channels i (renewed_row now (get_or d.channels.rows i z))
    → Drafts (Unit {0}) 0 1 (set_channels t d) (asking (ChannelBind (address_in p) (get_or d.channels.rows i z).number) (plan_in (set_channels t d))) r
    → Drafts (Unit {0}) 0 1 d (plan_chan now (address_in p) (plan_in d)) r
unfolding plan_chan
channel_due d r p now i z t full found e f =
    let peer = address_in p in
    let old = get_or d.channels.rows i z in
    let mid = set_channels t d in
    let means : chans_in t ≡ insert (for_peer peer) (renewed_at now (chan_in old)) (chans_in d.channels) =
    ap chans_in e ∙ replace_chan d.channels full (for_peer peer) i (renewed_row now old) found in
    let due : plan_chan now peer (plan_in d) ≡ asking (ChannelBind peer old.number) (plan_in mid) =
    rw (get_chan d.channels full (for_peer peer) i z found) (ap (λ (l : List Chan). asking (ChannelBind peer old.number) (with_chans l (plan_in d))) (sym means)) in
    let at = found_chan d.channels full (for_peer peer) i found in
    rw due
    (chain d mid r (asking (ChannelBind peer old.number) (plan_in mid)) f
    (λ n. record { requests = n.requests; permissions = n.permissions; channels = rw e (tidy_put_channel d.channels n.channels i (renewed_row now old) (tidy_row {tidy = TidyChannel} no_channel 32 d.channels.len d.channels.rows i z full at n.channels)) }) refl refl refl)

-- the same, of an address that was read from its numbers
pub permission_renewed : (d r : Draft) (h : Host) (ip : Ip) (own : Host) (i : ℕ) (t : Permissions) → length d.permissions.rows ≡ 32 → ip ≡ ip_in h → own ≡ host_of ip
    → position (for_ip ip) (perms_in d.permissions) ≡ Some i → t ≡ put_permission d.permissions i (record { host = own; granted = false; at = 0 })
    → Drafts (Unit {0}) 0 1 (set_permissions t d) (asking (Permission ip) (plan_in (set_permissions t d))) r
    → Drafts (Unit {0}) 0 1 d (plan_perm (ip_in h) (plan_in d)) r
permission_renewed d r h ip own i t full e o found put f =
    permission_due d r h i t full (subst (λ (x : Ip). position (for_ip x) (perms_in d.permissions) ≡ Some i) e found)
    (put ∙ ap (λ (x : Host). put_permission d.permissions i (record { host = x; granted = false; at = 0 })) (o ∙ ap host_of e))
    (subst (λ (x : Ip). Drafts (Unit {0}) 0 1 (set_permissions t d) (asking (Permission x) (plan_in (set_permissions t d))) r) e f)

pub permission_missing : (d : Draft) (h : Host) (ip : Ip) → ip ≡ ip_in h → position (for_ip ip) (perms_in d.permissions) ≡ None
    → Drafts (Unit {0}) 0 1 d (plan_perm (ip_in h) (plan_in d)) d
permission_missing d h ip e missing = permission_none d (ip_in h) (subst (λ (x : Ip). position (for_ip x) (perms_in d.permissions) ≡ None) e missing)

pub channel_renewed : (d r : Draft) (p : Place) (peer : Address) (now i : ℕ) (z : Channel) (t : Channels) → length d.channels.rows ≡ 32 → peer ≡ address_in p
    → position (for_peer peer) (chans_in d.channels) ≡ Some i → t ≡ put_channel d.channels i (renewed_row now (get_or d.channels.rows i z))
    → Drafts (Unit {0}) 0 1 (set_channels t d) (asking (ChannelBind peer (get_or d.channels.rows i z).number) (plan_in (set_channels t d))) r
    → Drafts (Unit {0}) 0 1 d (plan_chan now (address_in p) (plan_in d)) r
channel_renewed d r p peer now i z t full e found put f =
    channel_due d r p now i z t full (subst (λ (x : Address). position (for_peer x) (chans_in d.channels) ≡ Some i) e found) put
    (subst (λ (x : Address). Drafts (Unit {0}) 0 1 (set_channels t d) (asking (ChannelBind x (get_or d.channels.rows i z).number) (plan_in (set_channels t d))) r) e f)

pub channel_missing : (d : Draft) (p : Place) (peer : Address) (now : ℕ) → peer ≡ address_in p → position (for_peer peer) (chans_in d.channels) ≡ None
    → Drafts (Unit {0}) 0 1 d (plan_chan now (address_in p) (plan_in d)) d
channel_missing d p peer now e missing = channel_none d (address_in p) now (subst (λ (x : Address). position (for_peer x) (chans_in d.channels) ≡ None) e missing)

-- one step more of a loop over rows
each_snoc : {X S : Type 0} (f : X → S → S) (l : List X) (x : X) (s : S) → each f (l ++ (x ∷ [])) s ≡ f x (each f l s)
each_snoc f [] x s = refl
each_snoc f (y ∷ l) x s = each_snoc f l x (f y s)

pub went_next : {R X : Type 0} (g : R → X) (f : X → Plan → Plan) (rows : List R) (z : R) (d at next : Draft) (k s₀ a₀ s₁ a₁ : ℕ) → k < length rows
    → Drafts (Unit {0}) s₀ a₀ d (each f (map g (take k rows)) (plan_in d)) at → Drafts (Unit {0}) s₁ a₁ at (f (g (get_or rows k z)) (plan_in at)) next
    → Drafts (Unit {0}) (s₀ + s₁) (a₀ + a₁) d (each f (map g (take (k + 1) rows)) (plan_in d)) next
went_next g f rows z d at next k s₀ a₀ s₁ a₁ h p q =
    let front : map g (take (k + 1) rows) ≡ map g (take k rows) ++ (g (get_or rows k z) ∷ []) = rw (add-one, take-suc rows k z h) (map-append g (take k rows) (get_or rows k z ∷ [])) in
    record {
      means = q.means ∙ rw (p.means, front) (sym (each_snoc f (map g (take k rows)) (g (get_or rows k z)) (plan_in d)));
      tidy = λ u n. q.tidy u (p.tidy u n);
      few_sends = omega (arith, p.few_sends, q.few_sends);
      few_timeouts = omega (arith, p.few_timeouts, q.few_timeouts);
      few_asks = omega (arith, p.few_asks, q.few_asks);
    }

-- all of a loop
pub went_all : (d at : Draft) (p q : Plan) (s₀ a₀ s a : ℕ) → q ≡ p → s₀ ≤ s → a₀ ≤ a → Drafts (Unit {0}) s₀ a₀ d p at → Drafts (Unit {0}) s a d q at
went_all d at p q s₀ a₀ s a e hs ha f =
    record {
      means = f.means ∙ sym e;
      tidy = f.tidy;
      few_sends = omega (arith, f.few_sends);
      few_timeouts = omega (arith, f.few_timeouts);
      few_asks = omega (arith, f.few_asks);
    }

-- the end of a loop over all rows
pub went_through : {R X : Type 0} (g : R → X) (f : X → Plan → Plan) (rows : List R) (d at : Draft) (k s₀ a₀ s a : ℕ) → length rows ≤ k → s₀ ≤ s → a₀ ≤ a
    → Drafts (Unit {0}) s₀ a₀ d (each f (map g (take k rows)) (plan_in d)) at → Drafts (Unit {0}) s a d (each f (map g rows) (plan_in d)) at
went_through g f rows d at k s₀ a₀ s a h hs ha p =
    went_all d at (each f (map g (take k rows)) (plan_in d)) (each f (map g rows) (plan_in d)) s₀ a₀ s a (rw (take_all k rows h)) hs ha p

-- the whole poll, put together
pub draft_due : (d a : Draft) (ids : Ids) (now : ℕ) (reliable : Bool) → ids ≡ due_ids d.requests now
    → Drafts (Unit {0}) 64 0 d (each (plan_due now reliable) (map id_bytes (take ids.len ids.rows)) (plan_in d)) a
    → Drafts (Unit {0}) 64 0 d (each (plan_due now reliable) (due_tids now (txns_in d.requests)) (plan_in d)) a
draft_due d a ids now reliable e f =
    went_all d a (each (plan_due now reliable) (map id_bytes (take ids.len ids.rows)) (plan_in d)) (each (plan_due now reliable) (due_tids now (txns_in d.requests)) (plan_in d)) 64 0 64 0
    (ap (λ (l : List (List ℕ)). each (plan_due now reliable) l (plan_in d)) (sym (ap (λ (i : Ids). map id_bytes (take i.len i.rows)) e ∙ due_ids_shown d.requests now))) (omega arith) (omega arith) f

pub draft_closing : (d a : Draft) (now : ℕ) (reliable closing : Bool) → closing ≡ true
    → Drafts (Unit {0}) 64 0 d (each (plan_due now reliable) (due_tids now (txns_in d.requests)) (plan_in d)) a
    → Drafts (Unit {0}) 64 65 d (planned_from now reliable closing (plan_in d)) a
unfolding planned_from
draft_closing d a now reliable closing e f =
    went_all d a (each (plan_due now reliable) (due_tids now (txns_in d.requests)) (plan_in d)) (planned_from now reliable closing (plan_in d)) 64 0 64 65 (rw e) (omega arith) (omega arith) f

then_drafts : (d mid r : Draft) (p q : Plan) (s₀ a₀ s₁ a₁ : ℕ) → Drafts (Unit {0}) s₀ a₀ d p mid → Drafts (Unit {0}) s₁ a₁ mid q r → Drafts (Unit {0}) (s₀ + s₁) (a₀ + a₁) d q r
then_drafts d mid r p q s₀ a₀ s₁ a₁ f g =
    record {
      means = g.means;
      tidy = λ u n. g.tidy u (f.tidy u n);
      few_sends = omega (arith, f.few_sends, g.few_sends);
      few_timeouts = omega (arith, f.few_timeouts, g.few_timeouts);
      few_asks = omega (arith, f.few_asks, g.few_asks);
    }

pub draft_renewals : (d a b m r : Draft) (hosts : Hosts) (places : Places) (now : ℕ) (reliable closing : Bool) → closing ≡ false
    → Drafts (Unit {0}) 64 0 d (each (plan_due now reliable) (due_tids now (txns_in d.requests)) (plan_in d)) a
    → Drafts (Unit {0}) 0 1 a (plan_refresh now (plan_in a)) b
    → hosts ≡ due_hosts b.permissions now → Drafts (Unit {0}) 0 32 b (each plan_perm (map ip_in (take hosts.len hosts.rows)) (plan_in b)) m
    → places ≡ due_places m.channels now → Drafts (Unit {0}) 0 32 m (each (plan_chan now) (map address_in (take places.len places.rows)) (plan_in m)) r
    → Drafts (Unit {0}) 64 65 d (planned_from now reliable closing (plan_in d)) r
unfolding planned_from
draft_renewals d a b m r hosts places now reliable closing e f g eh h ep k =
    let p = each (plan_due now reliable) (due_tids now (txns_in d.requests)) (plan_in d) in
    let ips : map ip_in (take hosts.len hosts.rows) ≡ due_ips now (perms_in b.permissions) = ap (λ (i : Hosts). map ip_in (take i.len i.rows)) eh ∙ due_hosts_shown b.permissions now in
    let peers : map address_in (take places.len places.rows) ≡ due_peers now (chans_in m.channels) =
    ap (λ (i : Places). map address_in (take i.len i.rows)) ep ∙ due_places_shown m.channels now in
    let whole = then_drafts d a r p (each (plan_chan now) (map address_in (take places.len places.rows)) (plan_in m)) 64 0 0 65 f
    (then_drafts a b r (plan_refresh now (plan_in a)) (each (plan_chan now) (map address_in (take places.len places.rows)) (plan_in m)) 0 1 0 64 g
    (then_drafts b m r (each plan_perm (map ip_in (take hosts.len hosts.rows)) (plan_in b)) (each (plan_chan now) (map address_in (take places.len places.rows)) (plan_in m)) 0 32 0 32 h k)) in
    let mid : plan_in m ≡ plan_perms now (plan_refresh now p) =
    h.means ∙ ap (λ (l : List Ip). each plan_perm l (plan_in b)) ips ∙ ap (plan_perms now) (g.means ∙ ap (plan_refresh now) f.means) in
    went_all d r (each (plan_chan now) (map address_in (take places.len places.rows)) (plan_in m)) (planned_from now reliable closing (plan_in d)) 64 65 64 65
    (rw e (sym (ap (λ (l : List Address). each (plan_chan now) l (plan_in m)) peers ∙ ap (plan_chans now) mid))) (omega arith) (omega arith) whole

-- a channel is to be bound
pub bind_found : (d r : Draft) (p : Place) (peer : Address) (i : ℕ) (z : Channel) → length d.channels.rows ≡ 32 → peer ≡ address_in p
    → position (for_peer peer) (chans_in d.channels) ≡ Some i
    → Drafts (Unit {0}) 0 1 d (asking (ChannelBind peer (get_or d.channels.rows i z).number) (plan_in d)) r → Drafts (Unit {0}) 0 1 d (plan_bind (address_in p) (plan_in d)) r
unfolding plan_bind
bind_found d r p peer i z full e found f =
    let old = get_or d.channels.rows i z in
    let there : position (for_peer (address_in p)) (chans_in d.channels) ≡ Some i = subst (λ (x : Address). position (for_peer x) (chans_in d.channels) ≡ Some i) e found in
    went_all d r (asking (ChannelBind peer old.number) (plan_in d)) (plan_bind (address_in p) (plan_in d)) 0 1 0 1
    (rw (get_chan d.channels full (for_peer (address_in p)) i z there) (ap (λ (x : Address). asking (ChannelBind x old.number) (plan_in d)) (sym e))) (omega arith) (omega arith) f

pub bind_missing : (d : Draft) (p : Place) (peer : Address) → peer ≡ address_in p → position (for_peer peer) (chans_in d.channels) ≡ None
    → Drafts (Unit {0}) 0 1 d (plan_bind (address_in p) (plan_in d)) d
unfolding plan_bind
bind_missing d p peer e missing =
    let gone = subst (λ (x : Address). position (for_peer x) (chans_in d.channels) ≡ None) e missing in
    same_draft 0 1 d (plan_bind (address_in p) (plan_in d)) (rw (nowhere_get (for_peer (address_in p)) (chans_in d.channels) gone))

pub binds_all : (ip : Ip) (d r : Draft) (places : Places) → places ≡ waiting_places d.channels ip
    → Drafts (Unit {0}) 0 32 d (each plan_bind (map address_in (take places.len places.rows)) (plan_in d)) r → Drafts (Unit {0}) 0 32 d (plan_binds ip (plan_in d)) r
binds_all ip d r places e f =
    let peers : map address_in (take places.len places.rows) ≡ waiting_peers ip (chans_in d.channels) =
    ap (λ (i : Places). map address_in (take i.len i.rows)) e ∙ waiting_places_shown d.channels ip in
    went_all d r (each plan_bind (map address_in (take places.len places.rows)) (plan_in d)) (plan_binds ip (plan_in d)) 0 32 0 32
    (sym (ap (λ (l : List Address). each plan_bind l (plan_in d)) peers)) (omega arith) (omega arith) f

-- from a client
module _ (client : Client) where
  -- what is made of the draft at entry
  after_entry : (d r : Draft) (due q : Plan) (sent asked : ℕ) → due ≡ q → Begins client d → Drafts (Unit {0}) sent asked d q r → From client due sent asked r
  after_entry d r due q sent asked e b f =
      record {
        means = f.means ∙ sym e;
        tidy = λ x p c. f.tidy tt (b.tidy x p c);
        few_sends = omega (arith, f.few_sends, b.few_sends);
        few_timeouts = omega (arith, f.few_timeouts, b.few_timeouts);
        few_asks = omega (arith, f.few_asks, b.few_asks);
      }

  pub plans_nothing : (now : ℕ) (d : Draft) → 9007199254740991 < now → Begins client d → Plans client now d
  plans_nothing now d h b =
      record {
        means = b.means ∙ rw (lt-leb now 9007199254740991 h);
        tidy = b.tidy;
        few_sends = omega (arith, b.few_sends);
        few_timeouts = omega (arith, b.few_timeouts);
        few_asks = omega (arith, b.few_asks);
      }

  pub plans_all : (now : ℕ) (d r : Draft) → now ≤ 9007199254740991 → Begins client d
      → Drafts (Unit {0}) 64 65 d (planned_from now client.reliable client.closing (plan_in d)) r → Plans client now r
  plans_all now d r h b f =
      after_entry d r (cond (leb now 9007199254740991) (planned now (view client)) (entry (view client))) (planned_from now client.reliable client.closing (plan_in d)) 64 65
      (rw (le-leb now 9007199254740991 h) (ap (planned_from now client.reliable client.closing) (sym b.means))) b f

  pub asked_first : (kind : Kind) (d r : Draft) → Begins client d → Drafts (Unit {0}) 0 1 d (asking kind (plan_in d)) r → From client (asking kind (entry (view client))) 0 1 r
  asked_first kind d r b f =
      after_entry d r (asking kind (entry (view client))) (asking kind (plan_in d)) 0 1 (ap (asking kind) (sym b.means)) b f

  -- with other requests and permissions than the client's: these are tidy where those that are given are
  pub binds_given : (ip : Ip) (requests : Requests) (permissions : Permissions) (b r : Draft) → Begins client b → b.channels ≡ client.channels
      → Drafts (Unit {0}) 0 32 (set_requests requests (set_permissions permissions b)) (plan_binds ip (plan_in (set_requests requests (set_permissions permissions b)))) r
      → Binds client requests permissions ip r
  binds_given ip requests permissions b r begins channels f =
      record {
        means = f.means ∙ ap (λ (p : Plan). plan_binds ip (with_perms (perms_in permissions) (with_txns (txns_in requests) p))) begins.means;
        tidy = λ x p c. f.tidy tt (record { requests = x; permissions = p; channels = rw channels c });
        few_sends = omega (arith, f.few_sends, begins.few_sends);
        few_timeouts = omega (arith, f.few_timeouts, begins.few_timeouts);
        few_asks = omega (arith, f.few_asks, begins.few_asks);
      }
