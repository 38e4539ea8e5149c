-- The tables after a row was put last, replaced, taken out. A length above the room is read as the room.
use Rattle.std.specs.Prelude.{cond, ℕ, ◌+◌, ◌-◌, min, set, ltb}
use Rattle.turn_state.specs.declared.Request.{Request}
use Rattle.turn_state.specs.declared.Permission.{Permission}
use Rattle.turn_state.specs.declared.Channel.{Channel}
use Rattle.turn_state.specs.declared.Requests.{Requests}
use Rattle.turn_state.specs.declared.Permissions.{Permissions}
use Rattle.turn_state.specs.declared.Channels.{Channels}
use Rattle.turn_state.specs.View.{no_request, no_permission, no_channel}
use Rattle.turn_tables.specs.Rows.{closed}

-- a row put last, where there is room
abbrev pub pushed_request : Requests → Request → Requests
pushed_request t row = cond (ltb t.len 64) (record { rows = set t.rows t.len row; len = t.len + 1 }) t

abbrev pub pushed_permission : Permissions → Permission → Permissions
pushed_permission t row = cond (ltb t.len 32) (record { rows = set t.rows t.len row; len = t.len + 1 }) t

abbrev pub pushed_channel : Channels → Channel → Channels
pushed_channel t row = cond (ltb t.len 32) (record { rows = set t.rows t.len row; len = t.len + 1 }) t

-- the row at i replaced, where there is one
abbrev pub put_request : Requests → ℕ → Request → Requests
put_request t i row = cond (ltb i (min t.len 64)) (record { rows = set t.rows i row; len = t.len }) t

abbrev pub put_permission : Permissions → ℕ → Permission → Permissions
put_permission t i row = cond (ltb i (min t.len 32)) (record { rows = set t.rows i row; len = t.len }) t

abbrev pub put_channel : Channels → ℕ → Channel → Channels
put_channel t i row = cond (ltb i (min t.len 32)) (record { rows = set t.rows i row; len = t.len }) t

-- the row at i taken out, where there is one
abbrev pub removed_request : Requests → ℕ → Requests
removed_request t i =
    let n = min t.len 64 in cond (ltb i n) (record { rows = closed no_request n t.rows i; len = n - 1 }) t

abbrev pub removed_permission : Permissions → ℕ → Permissions
removed_permission t i =
    let n = min t.len 32 in cond (ltb i n) (record { rows = closed no_permission n t.rows i; len = n - 1 }) t

abbrev pub removed_channel : Channels → ℕ → Channels
removed_channel t i =
    let n = min t.len 32 in cond (ltb i n) (record { rows = closed no_channel n t.rows i; len = n - 1 }) t
