-- What each kind's success and failure come to, over the client that they change.
use Rattle.std.specs.Prelude.{Option, None, Some, unwrap_or}
use Rattle.turn_tables.proofs.Neat.{tidy_row}
use mathlib.Core.Path.{◌≡◌, refl, ap, sym, ◌∙◌}
use mathlib.Core.Bool.{Bool, true}
use mathlib.Core.List.{List}
use Prim.Native.Nat.{ℕ, ◌<◌}
use borrow.Author.Tests.{lt-ltb, ne_eqb}
use lib.ListN.{length, get_or}
use Rattle.stun_address.specs.declared.Ip.{Ip}
use Rattle.stun_address.specs.declared.Address.{Address}
use Rattle.stun_walk.specs.Source.{lifetime_of, xor_addr_of}
use Rattle.turn_state.specs.declared.Kind.TheVariants.{Allocate, Refresh, Permission, ChannelBind}
use Rattle.turn_state.specs.declared.Reason.{Reason}
use Rattle.turn_state.specs.declared.Reason.TheVariants.{NoRelayedAddress}
use Rattle.turn_state.specs.declared.Event.TheVariants.{Allocated, Failed}
use Rattle.turn_state.specs.declared.Place.{Place}
use Rattle.turn_state.specs.declared.Channel.{Channel}
use Rattle.turn_state.specs.declared.Permissions.{Permissions}
use Rattle.turn_state.specs.declared.Channels.{Channels}
use Rattle.turn_state.specs.declared.Client.{Client}
use Rattle.turn_state.specs.Maps.{insert, remove}
use Rattle.turn_state.specs.State.{Perm, Chan, set_perms, set_chans, set_relay, set_done, set_refresh_at}
use Rattle.turn_state.specs.Source.{for_ip, for_peer, granted_or, refresh_time, bound_at, update_chan, on_success, on_failure}
use Rattle.turn_state.specs.View.{view, place_of, address_in, chan_in, perms_in, chans_in, no_channel, quiet, telling, TidyTable, TidyChannel, Tidy}
use Rattle.turn_tables.specs.Rows.{position}
use Rattle.turn_tables.specs.Tables.{put_channel, removed_permission, removed_channel}
use Rattle.turn_tables.proofs.Keys.{nowhere_get, nowhere_remove}
use Rattle.turn_tables.proofs.Laws.{found_chan, get_chan, replace_chan, remove_perm, remove_chan, tidy_put_channel, tidy_removed_permission, tidy_removed_channel}
use Rattle.turn_handle.specs.Handling.{Quiet}
use Rattle.turn_handle.proofs.Settling.{settles_by, still}

-- what was granted, or else asked for
pub granted_is : (n : ℕ) (o : Option ℕ) → unwrap_or o n ≡ granted_or n o
granted_is n None = refl
granted_is n (Some m) = refl

-- a client with other tables, times and flags
abbrev changed : Client → Permissions → Channels → Place → ℕ → Bool → Bool → Bool → Client
changed c permissions channels relay at relayed renewing done =
    record {
      password = c.password;
      credentials = c.credentials;
      requests = c.requests;
      permissions = permissions;
      channels = channels;
      relay = relay;
      refresh_at = at;
      next_num = c.next_num;
      has_relay = relayed;
      has_refresh = renewing;
      done = done;
      closing = c.closing;
      reliable = c.reliable;
    }

abbrev pub with_done : Client → Client
with_done c = changed c c.permissions c.channels c.relay c.refresh_at c.has_relay c.has_refresh true

abbrev pub with_relay : Client → Place → ℕ → Client
with_relay c relay at = changed c c.permissions c.channels relay at true true true

abbrev pub with_refresh : Client → ℕ → Client
with_refresh c at = changed c c.permissions c.channels c.relay at c.has_relay true c.done

abbrev pub with_permissions : Client → Permissions → Client
with_permissions c t = changed c t c.channels c.relay c.refresh_at c.has_relay c.has_refresh c.done

abbrev pub with_channels : Client → Channels → Client
with_channels c t = changed c c.permissions t c.relay c.refresh_at c.has_relay c.has_refresh c.done

done_tidy : (c : Client) → Tidy c → Tidy (with_done c)
done_tidy c t = record { password = t.password; credentials = t.credentials; requests = t.requests; permissions = t.permissions; channels = t.channels; relay = t.relay; no_refresh = t.no_refresh }

module _ (client : Client) (now : ℕ) (buf : List ℕ) where
  -- an allocation, with its relay and without one
  pub allocates : (relay : Address) (mapped : Option Address) (place : Place) (at : ℕ) → xor_addr_of buf 0x0016 ≡ Some relay → mapped ≡ xor_addr_of buf 0x0020 → place ≡ place_of relay → address_in place ≡ relay
      → at ≡ refresh_time now (granted_or 600 (lifetime_of buf))
      → Quiet client (on_success now Allocate buf) (telling (with_relay client place at) (Allocated relay mapped))
  unfolding on_success
  allocates relay mapped place at er em ep back ea lent =
      let time = refresh_time now (granted_or 600 (lifetime_of buf)) in
      rw em
      (settles_by client (with_relay client place at) lent _ (set_done true (set_relay (Some relay) (set_refresh_at (Some time) (view client)))) (Some (Allocated relay (xor_addr_of buf 0x0020))) (rw er)
      (ap (λ (x : Address). set_done true (set_relay (Some x) (set_refresh_at (Some at) (view client)))) back
      ∙ ap (λ (x : ℕ). set_done true (set_relay (Some relay) (set_refresh_at (Some x) (view client)))) ea)
      (λ t. record { password = t.password; credentials = t.credentials; requests = t.requests; permissions = t.permissions; channels = t.channels; relay = ap place_of back ∙ sym ep; no_refresh = tt }))

  pub no_relay : xor_addr_of buf 0x0016 ≡ None
      → Quiet client (on_success now Allocate buf) (telling (with_done client) (Failed NoRelayedAddress))
  unfolding on_success on_failure
  no_relay er lent = settles_by client (with_done client) lent _ (set_done true (view client)) (Some (Failed NoRelayedAddress)) (rw er) refl (done_tidy client)

  -- a Refresh
  pub given_back : (seconds : ℕ) → seconds ≡ 0 → Quiet client (on_success now (Refresh seconds) buf) (quiet client)
  unfolding on_success
  given_back seconds e lent = still client lent _ (rw e)

  pub refreshes : (seconds at : ℕ) → 0 < seconds → at ≡ refresh_time now (granted_or seconds (lifetime_of buf))
      → Quiet client (on_success now (Refresh seconds) buf) (quiet (with_refresh client at))
  unfolding on_success
  refreshes seconds at h ea lent =
      settles_by client (with_refresh client at) lent _ (set_refresh_at (Some (refresh_time now (granted_or seconds (lifetime_of buf)))) (view client)) None (rw (lt-ltb 0 seconds h))
      (ap (λ (x : ℕ). set_refresh_at (Some x) (view client)) ea)
      (λ t. record { password = t.password; credentials = t.credentials; requests = t.requests; permissions = t.permissions; channels = t.channels; relay = t.relay; no_refresh = tt })

permissions_tidy : (c : Client) (i : ℕ) (less : Permissions) → length c.permissions.rows ≡ 32 → less ≡ removed_permission c.permissions i → Tidy c → Tidy (with_permissions c less)
permissions_tidy c i less full e t =
    record {
      password = t.password;
      credentials = t.credentials;
      requests = t.requests;
      permissions = rw e (tidy_removed_permission c.permissions t.permissions i full);
      channels = t.channels;
      relay = t.relay;
      no_refresh = t.no_refresh;
    }

channels_tidy : (c : Client) (t : Channels) → (Tidy c → TidyTable TidyChannel no_channel 32 t.len t.rows) → Tidy c → Tidy (with_channels c t)
channels_tidy c t neat n =
    record {
      password = n.password;
      credentials = n.credentials;
      requests = n.requests;
      permissions = n.permissions;
      channels = neat n;
      relay = n.relay;
      no_refresh = n.no_refresh;
    }

-- a bind
module _ (client : Client) (peer : Address) (num now : ℕ) where
  pub binds : (i : ℕ) (z own : Channel) (put : Channels) → length client.channels.rows ≡ 32 → position (for_peer peer) (chans_in client.channels) ≡ Some i
      → chan_in own ≡ bound_at now num (chan_in (get_or client.channels.rows i z)) → own.peer ≡ (get_or client.channels.rows i z).peer → put ≡ put_channel client.channels i own
      → Quiet client (update_chan peer (bound_at now num)) (quiet (with_channels client put))
  binds i z own put full found eo ep e lent =
      let old = get_or client.channels.rows i z in
      let shown : chans_in put ≡ insert (for_peer peer) (bound_at now num (chan_in old)) (chans_in client.channels) =
      ap chans_in e ∙ replace_chan client.channels full (for_peer peer) i own found ∙ ap (λ (x : Chan). insert (for_peer peer) x (chans_in client.channels)) eo in
      let there = found_chan client.channels full (for_peer peer) i found in
      let neat : Tidy client → TidyChannel own = λ t. rw ep (tidy_row {tidy = TidyChannel} no_channel 32 client.channels.len client.channels.rows i z full there t.channels) in
      settles_by client (with_channels client put) lent _ (set_chans (insert (for_peer peer) (bound_at now num (chan_in old)) (chans_in client.channels)) (view client)) None
      (rw (get_chan client.channels full (for_peer peer) i z found)) (ap (λ (l : List Chan). set_chans l (view client)) shown)
      (channels_tidy client put (λ t. rw e (tidy_put_channel client.channels t.channels i own (neat t))))

  pub no_channel_bound : position (for_peer peer) (chans_in client.channels) ≡ None → Quiet client (update_chan peer (bound_at now num)) (quiet client)
  no_channel_bound missing lent = still client lent _ (rw (nowhere_get (for_peer peer) (chans_in client.channels) missing))

pub bound_other : (ch : Channel) (now num : ℕ) → (ch.number ≡ num → ⊥) → chan_in ch ≡ bound_at now num (chan_in ch)
bound_other ch now num n = rw (ne_eqb ch.number num n)

-- failures
module _ (client : Client) (why : Reason) where
  pub not_allocated : Quiet client (on_failure Allocate why) (telling (with_done client) (Failed why))
  unfolding on_failure
  not_allocated lent = settles_by client (with_done client) lent _ (set_done true (view client)) (Some (Failed why)) refl refl (done_tidy client)

  pub not_refreshed : (seconds : ℕ) → Quiet client (on_failure (Refresh seconds) why) (quiet client)
  unfolding on_failure
  not_refreshed seconds lent = still client lent _ refl

  pub not_permitted : (ip : Ip) (i : ℕ) (less : Permissions) → length client.permissions.rows ≡ 32 → position (for_ip ip) (perms_in client.permissions) ≡ Some i
      → less ≡ removed_permission client.permissions i → Quiet client (on_failure (Permission ip) why) (quiet (with_permissions client less))
  unfolding on_failure
  not_permitted ip i less full found e lent =
      settles_by client (with_permissions client less) lent _ (set_perms (remove (for_ip ip) (perms_in client.permissions)) (view client)) None refl
      (ap (λ (l : List Perm). set_perms l (view client)) (ap perms_in e ∙ remove_perm client.permissions full (for_ip ip) i found)) (permissions_tidy client i less full e)

  pub none_permitted : (ip : Ip) → position (for_ip ip) (perms_in client.permissions) ≡ None → Quiet client (on_failure (Permission ip) why) (quiet client)
  unfolding on_failure
  none_permitted ip missing lent =
      settles_by client client lent _ (set_perms (remove (for_ip ip) (perms_in client.permissions)) (view client)) None refl
      (ap (λ (l : List Perm). set_perms l (view client)) (sym (nowhere_remove (for_ip ip) (perms_in client.permissions) missing))) (λ t. t)

  pub not_bound : (peer : Address) (num i : ℕ) (less : Channels) → length client.channels.rows ≡ 32 → position (for_peer peer) (chans_in client.channels) ≡ Some i
      → less ≡ removed_channel client.channels i → Quiet client (on_failure (ChannelBind peer num) why) (quiet (with_channels client less))
  unfolding on_failure
  not_bound peer num i less full found e lent =
      settles_by client (with_channels client less) lent _ (set_chans (remove (for_peer peer) (chans_in client.channels)) (view client)) None refl
      (ap (λ (l : List Chan). set_chans l (view client)) (ap chans_in e ∙ remove_chan client.channels full (for_peer peer) i found))
      (channels_tidy client less (λ t. rw e (tidy_removed_channel client.channels t.channels i full)))

  pub none_bound : (peer : Address) (num : ℕ) → position (for_peer peer) (chans_in client.channels) ≡ None → Quiet client (on_failure (ChannelBind peer num) why) (quiet client)
  unfolding on_failure
  none_bound peer num missing lent =
      settles_by client client lent _ (set_chans (remove (for_peer peer) (chans_in client.channels)) (view client)) None refl
      (ap (λ (l : List Chan). set_chans l (view client)) (sym (nowhere_remove (for_peer peer) (chans_in client.channels) missing))) (λ t. t)
