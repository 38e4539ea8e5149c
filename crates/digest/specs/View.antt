-- The code's running digest as the definition has it.
use Rattle.std.specs.Prelude.{ℕ, List}
use Rattle.digest.specs.Running.{Running}
use Rattle.digest.specs.declared.hasher.Hasher.{Hasher}

module _ {C W : Type 0} (words : W → List ℕ) where
  abbrev pub view : Hasher C W → Running
  view h = record { words = words h.words; count = h.count; tail = h.tail }
