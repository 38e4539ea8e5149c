-- What each row of a table has to wait for.
use Rattle.std.specs.Prelude.{cond, ℕ, Option, None, Some}
use Rattle.turn_state.specs.State.{Txn, Perm, Chan}

-- when a request is sent again, a channel bound again, a permission asked for again
abbrev pub of_request : Txn → Option ℕ
of_request t = Some t.next

abbrev pub of_channel : Chan → Option ℕ
of_channel c = cond c.bound (Some c.refresh_at) None

abbrev pub of_permission : Perm → Option ℕ
of_permission p = p.refresh
