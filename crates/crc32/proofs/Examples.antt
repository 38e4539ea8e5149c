-- Values of the definition that others give: of no byte, of "a", and of "123456789", the usual check value.
-- Assumes nothing.
use mathlib.Core.Path.{◌≡◌, refl}
use mathlib.Core.List.{[], ◌∷◌}
use Rattle.crc32.specs.Crc.{divide, stream, number, dividend, crc32}

nothing : crc32 [] ≡ 0
unfolding divide stream number dividend crc32
nothing = refl

letter : crc32 (97 ∷ []) ≡ 0xe8b7_be43
unfolding divide stream number dividend crc32
letter = refl

digits : crc32 (49 ∷ 50 ∷ 51 ∷ 52 ∷ 53 ∷ 54 ∷ 55 ∷ 56 ∷ 57 ∷ []) ≡ 0xcbf4_3926
unfolding divide stream number dividend crc32
digits = refl
