-- The table of RFC 1952 section 8: its entry n is what eight zero bits make of a register that holds n.
-- Assumes nothing.
use Rattle.std.specs.Prelude.{ℕ, ◌<◌, ◌≡◌, List, get_or}
use Rattle.crc32.specs.Register.{with_bits}

unfoldable pub entry : ℕ → ℕ
entry n = with_bits 8 n 0

pub record IsTable (t : List ℕ) : Type 0 where
  pub rule : (n : ℕ) → n < 256 → get_or t n 0 ≡ entry n
