-- The register, fed the bytes that are left, is the result.
use Rattle.std.proofs.Common.{◌≡◌, drop}
use Rattle.crc32.specs.Register.{fed}
use Rattle.crc32.proofs.run.Given as goal

abbrev pub invariant-loop-b : goal.invariant-loop-b
invariant-loop-b l = fed l.c (drop l.b-index l.part) ≡ fed l.c-2 l.part
