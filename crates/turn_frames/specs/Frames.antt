-- A row of requests as packets: those that are sent again, each under its own ids, and those that are to be asked for, the k-th under the
-- k-th lent id; and how many bytes they are in the output, by arithmetic.
use Rattle.std.specs.Prelude.{List, [], ◌∷◌, map, ℕ, suc, ◌+◌, take}
use Rattle.turn_state.specs.declared.Asked.{Asked}
use Rattle.turn_state.specs.declared.Asks.{Asks}
use Rattle.turn_state.specs.declared.Credentials.{Credentials}
use Rattle.turn_state.specs.declared.Request.{Request}
use Rattle.turn_state.specs.declared.Requests.{Requests}
use Rattle.turn_packet.specs.Source.{packet_of, packet_size}
use Rattle.turn_ids.specs.Ids.{lent_id}

-- what rows give, each with its number, the first of which is k
abbrev pub numbered : {R : Type 0} → (ℕ → R → List ℕ) → ℕ → List R → List (List ℕ)
numbered f k [] = []
numbered f k (r ∷ more) = f k r ∷ numbered f (suc k) more

-- sent again
abbrev pub again : Credentials → Request → List ℕ
again c r = packet_of c r.asked r.id r.under

abbrev pub sends_of : Credentials → List Request → List (List ℕ)
sends_of c rows = map (again c) rows

abbrev pub sends_in : Credentials → Requests → List (List ℕ)
sends_in c t = sends_of c (take t.len t.rows)

-- asked for
abbrev pub anew : Credentials → List ℕ → ℕ → Asked → List ℕ
anew c lent k a = packet_of c a (lent_id lent k) (lent_id lent k)

abbrev pub asks_of : Credentials → List ℕ → ℕ → List Asked → List (List ℕ)
asks_of c lent k rows = numbered (anew c lent) k rows

abbrev pub asks_in : Credentials → List ℕ → Asks → List (List ℕ)
asks_in c lent a = asks_of c lent 0 (take a.len a.rows)

-- the bytes of packets with their heads
abbrev pub sum_of : {R : Type 0} → (R → ℕ) → List R → ℕ
sum_of size [] = 0
sum_of size (r ∷ more) = 3 + size r + sum_of size more

abbrev pub sends_size : Credentials → List Request → ℕ
sends_size c rows = sum_of (λ r. packet_size c r.asked) rows

abbrev pub asks_size : Credentials → List Asked → ℕ
asks_size c rows = sum_of (packet_size c) rows
