-- The words after the first blocks of what lies in the part itself.
use Rattle.std.proofs.Common.{◌≡◌, drop}
use Rattle.digest.specs.Digest.{blocks}
use Rattle.digest.proofs.hasher.Hasher.update.Given as goal

abbrev pub invariant-loop-block : goal.invariant-loop-block
invariant-loop-block g l =
    let d = g.C.Compression.parameters in
    g.C.Compression.words l.words ≡ blocks d l.block-index (g.C.Compression.words l.initial.words) (drop l.room l.part)
