-- The Unicode Standard's own examples, section 3.9, tables 3-8 to 3-11: the definition computes to them.
use mathlib.Core.Path.{◌≡◌, refl}
use mathlib.Core.List.{List, [], ◌∷◌, ◌++◌}
use Prim.Native.Nat.{ℕ, zero, suc}
use Rattle.stun_text.specs.Utf8.{sequence, subpart, parts, replacement, replaced}

marks : ℕ → List ℕ
marks zero = []
marks (suc n) = replacement ++ marks n

-- non-shortest forms
table_3_8 : replaced (0xC0 ∷ 0xAF ∷ 0xE0 ∷ 0x80 ∷ 0xBF ∷ 0xF0 ∷ 0x81 ∷ 0x82 ∷ 0x41 ∷ []) ≡ marks 8 ++ (0x41 ∷ [])
unfolding replaced parts sequence subpart marks
table_3_8 = refl

-- surrogates
table_3_9 : replaced (0xED ∷ 0xA0 ∷ 0x80 ∷ 0xED ∷ 0xBF ∷ 0xBF ∷ 0xED ∷ 0xAF ∷ 0x41 ∷ []) ≡ marks 8 ++ (0x41 ∷ [])
unfolding replaced parts sequence subpart marks
table_3_9 = refl

-- other ill-formed sequences
table_3_10 : replaced (0xF4 ∷ 0x91 ∷ 0x92 ∷ 0x93 ∷ 0xFF ∷ 0x41 ∷ 0x80 ∷ 0xBF ∷ 0x42 ∷ []) ≡ marks 5 ++ (0x41 ∷ []) ++ marks 2 ++ (0x42 ∷ [])
unfolding replaced parts sequence subpart marks
table_3_10 = refl

-- truncated sequences
table_3_11 : replaced (0xE1 ∷ 0x80 ∷ 0xE2 ∷ 0xF0 ∷ 0x91 ∷ 0x92 ∷ 0xF1 ∷ 0xBF ∷ 0x41 ∷ []) ≡ marks 4 ++ (0x41 ∷ [])
unfolding replaced parts sequence subpart marks
table_3_11 = refl
