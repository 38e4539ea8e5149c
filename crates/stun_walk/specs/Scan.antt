-- What the one pass over a message finds, for the private function's contract: nothing where the message is not readable, else the first
-- attribute of a type, if there is one.
use Rattle.std.specs.Prelude.{ℕ, List, cond, Option, Some, None}
use Rattle.stun_walk.specs.declared.Value.{Value}
use Rattle.stun_walk.specs.Source.{attributes, readable, first}

unfoldable pub scanned : List ℕ → ℕ → Option (Option Value)
scanned buf t = cond (readable buf) (Some (first t (attributes buf))) None
