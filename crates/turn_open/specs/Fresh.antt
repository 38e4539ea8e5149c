-- The tables that hold nothing, and the client that holds nothing but its name and password.
use Rattle.std.specs.Prelude.{Bool, false, replicate}
use Rattle.stun_text.specs.declared.Text.{Text}
use Rattle.turn_state.specs.declared.Requests.{Requests}
use Rattle.turn_state.specs.declared.Permissions.{Permissions}
use Rattle.turn_state.specs.declared.Channels.{Channels}
use Rattle.turn_state.specs.declared.Client.{Client}
use Rattle.turn_state.specs.View.{no_request, no_permission, no_channel, no_text, nowhere}

abbrev pub blank_requests : Requests
blank_requests = record { rows = replicate 64 no_request; len = 0 }

abbrev pub blank_permissions : Permissions
blank_permissions = record { rows = replicate 32 no_permission; len = 0 }

abbrev pub blank_channels : Channels
blank_channels = record { rows = replicate 32 no_channel; len = 0 }

abbrev pub fresh_client : Text → Text → Bool → Client
fresh_client username password reliable =
    record {
      password = password;
      credentials =
          record {
            username = username;
            realm = no_text;
            nonce = no_text;
            key = replicate 16 0;
            has_realm = false;
            has_nonce = false;
            has_key = false;
          };
      requests = blank_requests;
      permissions = blank_permissions;
      channels = blank_channels;
      relay = nowhere;
      refresh_at = 0;
      next_num = 0x4000;
      has_relay = false;
      has_refresh = false;
      done = false;
      closing = false;
      reliable = reliable;
    }

-- the client after a refused opening
abbrev pub unopened_client : Client
unopened_client = fresh_client no_text no_text false
