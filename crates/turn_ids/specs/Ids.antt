-- The ids that a caller lends, as the code reads them: twelve bytes each, in order; twelve zeros where one is missing.
use Rattle.std.specs.Prelude.{Bool, cond, not, ◌&&◌, List, [], ◌∷◌, ℕ, zero, suc, ◌*◌, length, take, drop, replicate, ltb, leb}
use Rattle.turn_state.specs.Maps.{contains}
use Rattle.turn_state.specs.State.{Txn, ids_in, id_at}
use Rattle.turn_state.specs.Source.{under_drawn}
use Rattle.turn_state.specs.Number.{first, clash}

abbrev pub lent_id : List ℕ → ℕ → List ℕ
lent_id lent k = cond (ltb k (ids_in lent)) (take 12 (drop (12 * k) lent)) (replicate 12 0)

-- n ids from the k-th on
abbrev pub ids_from : List ℕ → ℕ → ℕ → List (List ℕ)
ids_from lent k zero = []
ids_from lent k (suc n) = id_at lent k ∷ ids_from lent (suc k) n

-- a request under the id at k would be added to a full table
unfoldable pub request_full : List Txn → List ℕ → ℕ → Bool
request_full txns lent k = not (contains (under_drawn (id_at lent k)) txns) && leb 64 (length txns)

-- the number of a call that met a full table or not, uses the first n ids and writes `size` bytes
unfoldable pub verdict_of : Bool → List (List ℕ) → List ℕ → ℕ → ℕ → ℕ → ℕ
verdict_of full pending lent n size room =
    first ((5, full) ∷ (6, ltb (ids_in lent) n) ∷ (7, clash pending (ids_from lent 0 n)) ∷ (8, ltb room size) ∷ [])
