-- The code's values as the definitions have them: the running digest, and the five words of a state.
use Rattle.std.specs.Prelude.{ℕ, ◌+◌, List, [], ◌∷◌}
use Rattle.digest.specs.Running.{Running}
use Rattle.digest.specs.View as running
use Rattle.digest.specs.declared.hasher.Hasher.{Hasher}
use Rattle.sha1_digest.specs.Rfc3174.{State, five, round}
use Rattle.sha1_digest.specs.declared.Rfc3174.{Rfc3174}

abbrev pub view : Hasher Rfc3174 (List ℕ) → Running
view h = running.view (λ words. words) h

abbrev pub listed : State → List ℕ
listed (five A B C D E) = A ∷ B ∷ C ∷ D ∷ E ∷ []

-- the rounds t to t + 4
abbrev pub five_rounds : List ℕ → ℕ → State → State
five_rounds w t s = round w (t + 4) (round w (t + 3) (round w (t + 2) (round w (t + 1) (round w t s))))
