-- How long the arrays of a text and of the credentials are: their types say it, and every value that a function is given has its type.
use mathlib.Core.Path.{◌≡◌}
use mathlib.Core.List.{List}
use lib.ListN.{length}
use mir.Val.{Val}
use denote.Laws.{Is}
use denote.Struct.Declared.{row}
use Rattle.stun_text.specs.declared.Text.{Text}
use Rattle.stun_text.specs.contracts.Text.{the_type}
use Rattle.turn_state.specs.declared.Credentials.{Credentials}
use Rattle.turn_state.specs.contracts.Credentials.{the_type as the_credentials}

pub text_room : (t : Text) (vs : List Val) → Is (row the_type) t vs → length t.bytes ≡ 763
text_room t vs g = g.1.1.0.1.0.1

-- the four arrays of the credentials
pub record Rooms (c : Credentials) : Type 0 where
  pub username : length c.username.bytes ≡ 763
  pub realm : length c.realm.bytes ≡ 763
  pub nonce : length c.nonce.bytes ≡ 763
  pub key : length c.key ≡ 16

pub rooms : (c : Credentials) (vs : List Val) → Is (row the_credentials) c vs → Rooms c
rooms c vs g =
    record {
      username = text_room c.username _ g.1.1.0;
      realm = text_room c.realm _ g.1.1.1.0;
      nonce = text_room c.nonce _ g.1.1.1.1.0;
      key = g.1.1.1.1.1.0.1.0.1;
    }
