-- Two rules of the definition that a wrong reading would miss: the floor of a refresh time (case 7), and that a repeat is encoded afresh.
use Rattle.std.specs.Prelude.{Some}
use mathlib.Core.Path.{◌≡◌, refl}
use mathlib.Core.Bool.{Bool, true, false, ◌||◌}
use mathlib.Core.List.{List, [], ◌∷◌, ◌++◌}
use Prim.Native.Nat.{ℕ, ◌+◌, ◌<◌}
use lib.Dec.{leb}
use borrow.Author.Tests.{lt-leb}
use Rattle.turn_state.specs.Maps.{get}
use Rattle.turn_state.specs.State.{Txn, Run}
use Rattle.turn_state.specs.Source.{under_id, add, encode, insert_txn, poll_due, refresh_time}

-- case 7, at any time
pub at_0 : (now : ℕ) → refresh_time now 0 ≡ now + 60000
at_0 now = refl

pub at_120 : (now : ℕ) → refresh_time now 120 ≡ now + 60000
at_120 now = refl

pub at_121 : (now : ℕ) → refresh_time now 121 ≡ now + 61000
at_121 now = refl

-- a record that is added is reported, and nothing is sent for it
add_out : (b : Bool) (room held : ℕ) (s : Run) → (add b room held s).out ≡ s.out
add_out true room held s = refl
add_out false room held s = refl

-- a repeat is `encode` of its message by the client as it is then
pub afresh : (now : ℕ) (tid : List ℕ) (s : Run) (t : Txn) → get (under_id tid) s.self.txns ≡ Some t → s.self.reliable ≡ false → t.tries < 6
    → (poll_due now tid s).out ≡ s.out ++ (encode s.self t.msg ∷ [])
unfolding poll_due insert_txn
afresh now tid s t pending udp left =
    let stays : (s.self.reliable || leb 6 t.tries) ≡ false = rw (udp, lt-leb 6 t.tries left) in
    rw (pending, stays, add_out)
