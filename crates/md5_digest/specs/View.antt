-- The code's running digest as the definition has it.
use Rattle.std.specs.Prelude.{ℕ, List}
use Rattle.digest.specs.Running.{Running}
use Rattle.digest.specs.View as running
use Rattle.digest.specs.declared.hasher.Hasher.{Hasher}
use Rattle.md5_digest.specs.declared.Rfc1321.{Rfc1321}

abbrev pub view : Hasher Rfc1321 (List ℕ) → Running
view h = running.view (λ words. words) h
