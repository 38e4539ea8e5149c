-- RFC 3174 section 7.3, TEST1: the definition computes the digest of "abc".
use Rattle.std.proofs.Common.{◌≡◌, [], ◌∷◌, refl}
use mathlib.Core.List.{flat_map}
use Rattle.digest.specs.Digest.{digest, padding, absorbed, result}
use Rattle.sha1_digest.specs.Rfc3174.{sha1, step, schedule, rounds, round, f, K}

abc : digest sha1 (97 ∷ 98 ∷ 99 ∷ [])
    ≡ 0xA9 ∷ 0x99 ∷ 0x3E ∷ 0x36 ∷ 0x47 ∷ 0x06 ∷ 0x81 ∷ 0x6A ∷ 0xBA ∷ 0x3E ∷ 0x25 ∷ 0x71 ∷ 0x78 ∷ 0x50 ∷ 0xC2 ∷ 0x6C ∷ 0x9C ∷ 0xD0 ∷ 0xD8 ∷ 0x9D ∷ []
unfolding digest padding absorbed result step schedule rounds round f K flat_map
abc = refl
