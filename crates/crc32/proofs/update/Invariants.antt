-- The register, fed the bytes that are left, is the result.
use Rattle.std.proofs.Common.{◌≡◌, ◌*◌, drop}
use Rattle.crc32.specs.Register.{fed}
use Rattle.crc32.proofs.update.Given as goal

abbrev pub invariant-loop-four : goal.invariant-loop-four
invariant-loop-four l = fed l.c (drop (l.four-index * 4) l.part) ≡ fed l.c-2 l.part
