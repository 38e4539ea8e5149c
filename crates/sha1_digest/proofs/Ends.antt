-- A digest's end as the code takes it, where the length has room behind what waits.
use Rattle.std.proofs.Common.{◌≡◌, ℕ, List, [], ◌∷◌, ◌++◌, ◌*◌, ◌%◌, ◌^◌, ◌<◌, length, take, refl, true}
use Rattle.digest.specs.Bytes.{bytes, ordered}
use Rattle.digest.specs.Digest.{result}
use Rattle.digest.specs.Running.{filled, finished}
use Rattle.digest.specs.declared.hasher.Hasher.{Hasher}
use Rattle.digest.proofs.Ending.{finished_short}
use Rattle.sha1_digest.specs.Rfc3174.{sha1, step}
use Rattle.sha1_digest.specs.View.{view}
use Rattle.sha1_digest.specs.declared.Rfc3174.{Rfc3174}

pub one_block : (s : Hasher Rfc3174 (List ℕ)) (front last : List ℕ) → length s.tail ≡ 64 → s.count % 64 < 56
    → front ≡ filled 64 (take (s.count % 64) s.tail ++ (0x80 ∷ []))
    → last ≡ take 56 front ++ bytes (ordered true) 8 (8 * s.count % 2 ^ 64)
    → result sha1 (step s.words last) ≡ finished sha1 (view s)
one_block s front last full lt f l = finished_short sha1 refl (view s) full refl lt f l refl
