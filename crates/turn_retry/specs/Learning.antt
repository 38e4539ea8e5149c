-- What the code learns from an answer, and the row of a request that is tried again.
use Rattle.std.specs.Prelude.{true, cond, List, ℕ, Option, None, Some}
use Rattle.stun_text.specs.declared.Text.{Text}
use Rattle.stun_check.specs.Source.{long_term}
use Rattle.turn_state.specs.declared.Client.{Client}
use Rattle.turn_state.specs.declared.Request.{Request}
use Rattle.turn_state.specs.declared.Requests.{Requests}
use Rattle.turn_state.specs.declared.Credentials.{Credentials}
use Rattle.turn_state.specs.View.{kind_in, text_in, shows_under}

-- the credentials with a realm and its key, and with a nonce, where one was given
abbrev pub with_realm : Option Text → Text → Credentials → Credentials
with_realm None password c = c
with_realm (Some realm) password c =
    record {
      username = c.username;
      realm = realm;
      nonce = c.nonce;
      key = long_term (text_in c.username) (text_in realm) (text_in password);
      has_realm = true;
      has_nonce = c.has_nonce;
      has_key = true;
    }

abbrev pub with_nonce : Option Text → Credentials → Credentials
with_nonce None c = c
with_nonce (Some nonce) c =
    record {
      username = c.username;
      realm = c.realm;
      nonce = nonce;
      key = c.key;
      has_realm = c.has_realm;
      has_nonce = true;
      has_key = c.has_key;
    }

-- the row under the new id: its peer stays encoded under the old one, where that shows
abbrev pub row_again : Request → List ℕ → ℕ → Request
row_again r id next =
    record {
      id = id;
      under = cond (shows_under (kind_in r.asked)) r.under id;
      asked = r.asked;
      tries = 1;
      next = next;
      retried = true;
    }

-- the client with other credentials and requests
abbrev pub client_with : Credentials → Requests → Client → Client
client_with credentials requests c =
    record {
      password = c.password;
      credentials = credentials;
      requests = requests;
      permissions = c.permissions;
      channels = c.channels;
      relay = c.relay;
      refresh_at = c.refresh_at;
      next_num = c.next_num;
      has_relay = c.has_relay;
      has_refresh = c.has_refresh;
      done = c.done;
      closing = c.closing;
      reliable = c.reliable;
    }
