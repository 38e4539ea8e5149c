-- The laws of the three tables: what they show after an operation (`_txns`, `_perms`, `_chans`), that a removal keeps the rows of the
-- requests (`removed_request_rows`), and that they stay tidy (`tidy_`). `full` is what an array's type says of its rows.
use Rattle.std.specs.Prelude.{Some, None}
use mathlib.Core.Path.{◌≡◌, ◌∙◌}
use mathlib.Core.Bool.{Bool}
use Prim.Native.Nat.{ℕ, ◌<◌, min}
use native.Mathlib.Omega.{arith}
use borrow.Author.Tests.{lt-ltb}
use lib.ListN.{length, get_or}
use Rattle.turn_state.specs.declared.Request.{Request}
use Rattle.turn_state.specs.declared.Requests.{Requests}
use Rattle.turn_state.specs.declared.Permission.{Permission}
use Rattle.turn_state.specs.declared.Permissions.{Permissions}
use Rattle.turn_state.specs.declared.Channel.{Channel}
use Rattle.turn_state.specs.declared.Channels.{Channels}
use Rattle.turn_state.specs.Maps.{get, insert, remove}
use Rattle.turn_state.specs.State.{Txn, Perm, Chan}
use Rattle.turn_state.specs.View.{txn_in, perm_in, chan_in, txns_in, perms_in, chans_in, no_request, no_permission, no_channel, TidyRequest, TidyPermission, TidyChannel, TidyRequests, TidyPermissions, TidyChannels}
use Rattle.turn_tables.specs.Rows.{position}
use Rattle.turn_tables.specs.Tables.{pushed_request, put_request, removed_request, pushed_permission, put_permission, removed_permission, pushed_channel, put_channel, removed_channel}
use Rattle.turn_tables.proofs.Views.{either_way, closed_length, shown_length, found_row, shown_get, shown_added, shown_replaced, shown_taken}
use Rattle.turn_tables.proofs.Neat.{tidy_pushed, tidy_put, tidy_removed}

module _ (t : Requests) (full : length t.rows ≡ 64) where
  pub txns_length : length (txns_in t) ≡ min t.len 64
  txns_length = shown_length txn_in t.rows t.len 64 full

  -- by any test of a record
  module _ (is : Txn → Bool) where
    pub found_txn : (i : ℕ) → position is (txns_in t) ≡ Some i → i < min t.len 64
    found_txn i found = found_row txn_in t.rows t.len 64 full is i found

    pub get_txn : (i : ℕ) (d : Request) → position is (txns_in t) ≡ Some i → get is (txns_in t) ≡ Some (txn_in (get_or t.rows i d))
    get_txn i d found = shown_get txn_in t.rows t.len 64 full is i d found

    pub add_txn : (r : Request) → position is (txns_in t) ≡ None → t.len < 64 → txns_in (pushed_request t r) ≡ insert is (txn_in r) (txns_in t)
    add_txn r missing h = rw (lt-ltb t.len 64 h) (shown_added txn_in t.rows t.len 64 full is r missing h)

    pub replace_txn : (i : ℕ) (r : Request) → position is (txns_in t) ≡ Some i → txns_in (put_request t i r) ≡ insert is (txn_in r) (txns_in t)
    replace_txn i r found = rw (lt-ltb i (min t.len 64) (found_txn i found)) (shown_replaced txn_in t.rows t.len 64 full is i r found)

    pub remove_txn : (i : ℕ) → position is (txns_in t) ≡ Some i → txns_in (removed_request t i) ≡ remove is (txns_in t)
    remove_txn i found = rw (lt-ltb i (min t.len 64) (found_txn i found)) (shown_taken txn_in t.rows t.len 64 full is i no_request found)

  pub removed_request_rows : (i : ℕ) → length (removed_request t i).rows ≡ 64
  removed_request_rows i = either_way (λ (u : Requests). length u.rows ≡ 64) i (min t.len 64) _ _ (λ h. closed_length t.rows (min t.len 64) i no_request (omega arith) h ∙ full) (λ h. full)

module _ (t : Requests) (tidy : TidyRequests t) where
  pub tidy_pushed_request : (r : Request) → TidyRequest r → TidyRequests (pushed_request t r)
  tidy_pushed_request r n = either_way TidyRequests t.len 64 _ _ (λ h. tidy_pushed no_request 64 t.len t.rows tidy r n h) (λ h. tidy)

  pub tidy_put_request : (i : ℕ) (r : Request) → TidyRequest r → TidyRequests (put_request t i r)
  tidy_put_request i r n = either_way TidyRequests i (min t.len 64) _ _ (λ h. tidy_put no_request 64 t.len t.rows tidy i r n (omega arith)) (λ h. tidy)

  pub tidy_removed_request : (i : ℕ) → length t.rows ≡ 64 → TidyRequests (removed_request t i)
  tidy_removed_request i full =
      let f = tidy.fits in
      let e : min t.len 64 ≡ t.len = omega arith in
      rw e (either_way TidyRequests i t.len _ _ (λ h. tidy_removed no_request 64 t.len t.rows tidy i full h) (λ h. tidy))

module _ (t : Permissions) (full : length t.rows ≡ 32) where
  pub perms_length : length (perms_in t) ≡ min t.len 32
  perms_length = shown_length perm_in t.rows t.len 32 full

  -- by any test of a record
  module _ (is : Perm → Bool) where
    pub found_perm : (i : ℕ) → position is (perms_in t) ≡ Some i → i < min t.len 32
    found_perm i found = found_row perm_in t.rows t.len 32 full is i found

    pub get_perm : (i : ℕ) (d : Permission) → position is (perms_in t) ≡ Some i → get is (perms_in t) ≡ Some (perm_in (get_or t.rows i d))
    get_perm i d found = shown_get perm_in t.rows t.len 32 full is i d found

    pub add_perm : (r : Permission) → position is (perms_in t) ≡ None → t.len < 32 → perms_in (pushed_permission t r) ≡ insert is (perm_in r) (perms_in t)
    add_perm r missing h = rw (lt-ltb t.len 32 h) (shown_added perm_in t.rows t.len 32 full is r missing h)

    pub replace_perm : (i : ℕ) (r : Permission) → position is (perms_in t) ≡ Some i → perms_in (put_permission t i r) ≡ insert is (perm_in r) (perms_in t)
    replace_perm i r found = rw (lt-ltb i (min t.len 32) (found_perm i found)) (shown_replaced perm_in t.rows t.len 32 full is i r found)

    pub remove_perm : (i : ℕ) → position is (perms_in t) ≡ Some i → perms_in (removed_permission t i) ≡ remove is (perms_in t)
    remove_perm i found = rw (lt-ltb i (min t.len 32) (found_perm i found)) (shown_taken perm_in t.rows t.len 32 full is i no_permission found)

module _ (t : Permissions) (tidy : TidyPermissions t) where
  pub tidy_pushed_permission : (r : Permission) → TidyPermission r → TidyPermissions (pushed_permission t r)
  tidy_pushed_permission r n = either_way TidyPermissions t.len 32 _ _ (λ h. tidy_pushed no_permission 32 t.len t.rows tidy r n h) (λ h. tidy)

  pub tidy_put_permission : (i : ℕ) (r : Permission) → TidyPermission r → TidyPermissions (put_permission t i r)
  tidy_put_permission i r n = either_way TidyPermissions i (min t.len 32) _ _ (λ h. tidy_put no_permission 32 t.len t.rows tidy i r n (omega arith)) (λ h. tidy)

  pub tidy_removed_permission : (i : ℕ) → length t.rows ≡ 32 → TidyPermissions (removed_permission t i)
  tidy_removed_permission i full =
      let f = tidy.fits in
      let e : min t.len 32 ≡ t.len = omega arith in
      rw e (either_way TidyPermissions i t.len _ _ (λ h. tidy_removed no_permission 32 t.len t.rows tidy i full h) (λ h. tidy))

module _ (t : Channels) (full : length t.rows ≡ 32) where
  pub chans_length : length (chans_in t) ≡ min t.len 32
  chans_length = shown_length chan_in t.rows t.len 32 full

  -- by any test of a record
  module _ (is : Chan → Bool) where
    pub found_chan : (i : ℕ) → position is (chans_in t) ≡ Some i → i < min t.len 32
    found_chan i found = found_row chan_in t.rows t.len 32 full is i found

    pub get_chan : (i : ℕ) (d : Channel) → position is (chans_in t) ≡ Some i → get is (chans_in t) ≡ Some (chan_in (get_or t.rows i d))
    get_chan i d found = shown_get chan_in t.rows t.len 32 full is i d found

    pub add_chan : (r : Channel) → position is (chans_in t) ≡ None → t.len < 32 → chans_in (pushed_channel t r) ≡ insert is (chan_in r) (chans_in t)
    add_chan r missing h = rw (lt-ltb t.len 32 h) (shown_added chan_in t.rows t.len 32 full is r missing h)

    pub replace_chan : (i : ℕ) (r : Channel) → position is (chans_in t) ≡ Some i → chans_in (put_channel t i r) ≡ insert is (chan_in r) (chans_in t)
    replace_chan i r found = rw (lt-ltb i (min t.len 32) (found_chan i found)) (shown_replaced chan_in t.rows t.len 32 full is i r found)

    pub remove_chan : (i : ℕ) → position is (chans_in t) ≡ Some i → chans_in (removed_channel t i) ≡ remove is (chans_in t)
    remove_chan i found = rw (lt-ltb i (min t.len 32) (found_chan i found)) (shown_taken chan_in t.rows t.len 32 full is i no_channel found)

module _ (t : Channels) (tidy : TidyChannels t) where
  pub tidy_pushed_channel : (r : Channel) → TidyChannel r → TidyChannels (pushed_channel t r)
  tidy_pushed_channel r n = either_way TidyChannels t.len 32 _ _ (λ h. tidy_pushed no_channel 32 t.len t.rows tidy r n h) (λ h. tidy)

  pub tidy_put_channel : (i : ℕ) (r : Channel) → TidyChannel r → TidyChannels (put_channel t i r)
  tidy_put_channel i r n = either_way TidyChannels i (min t.len 32) _ _ (λ h. tidy_put no_channel 32 t.len t.rows tidy i r n (omega arith)) (λ h. tidy)

  pub tidy_removed_channel : (i : ℕ) → length t.rows ≡ 32 → TidyChannels (removed_channel t i)
  tidy_removed_channel i full =
      let f = tidy.fits in
      let e : min t.len 32 ≡ t.len = omega arith in
      rw e (either_way TidyChannels i t.len _ _ (λ h. tidy_removed no_channel 32 t.len t.rows tidy i full h) (λ h. tidy))
