-- The first i words, with zeros after them.
use Rattle.std.proofs.Common.{◌≡◌, take}
use Rattle.digest.proofs.Fill.{onto}
use Rattle.md5_digest.specs.Rfc1321.{words}
use Rattle.md5_digest.proofs.block_words.Given as goal

abbrev pub invariant-loop-i : goal.invariant-loop-i
invariant-loop-i l = l.x ≡ onto 16 (take l.i (words 16 l.m))
