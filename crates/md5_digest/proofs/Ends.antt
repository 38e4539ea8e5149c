-- A digest's end as the code takes it, where the length has room behind what waits.
use Rattle.std.proofs.Common.{◌≡◌, ℕ, List, [], ◌∷◌, ◌++◌, ◌*◌, ◌%◌, ◌^◌, ◌<◌, length, take, refl, false}
use Rattle.digest.specs.Bytes.{bytes, ordered}
use Rattle.digest.specs.Digest.{result}
use Rattle.digest.specs.Running.{filled, finished}
use Rattle.digest.specs.declared.hasher.Hasher.{Hasher}
use Rattle.digest.proofs.Ending.{finished_short}
use Rattle.md5_digest.specs.Rfc1321.{md5, step}
use Rattle.md5_digest.specs.View.{view}
use Rattle.md5_digest.specs.declared.Rfc1321.{Rfc1321}

pub one_block : (s : Hasher Rfc1321 (List ℕ)) (front last : List ℕ) → length s.tail ≡ 64 → s.count % 64 < 56
    → front ≡ filled 64 (take (s.count % 64) s.tail ++ (0x80 ∷ []))
    → last ≡ take 56 front ++ bytes (ordered false) 8 (8 * s.count % 2 ^ 64)
    → result md5 (step s.words last) ≡ finished md5 (view s)
one_block s front last full lt f l = finished_short md5 refl (view s) full refl lt f l refl
