-- The test suite of RFC 1321, section A.5, computed from the definition.
use Rattle.std.proofs.Common.{◌≡◌, ℕ, List, [], ◌∷◌, ◌++◌, refl}
use mathlib.Core.List.{flat_map}
use Rattle.digest.specs.Digest.{digest, padding, absorbed, result}
use Rattle.md5_digest.specs.Rfc1321.{T, operation, turn, turns, step, md5}

-- MD5 ("")
none : digest md5 [] ≡ 0xd4 ∷ 0x1d ∷ 0x8c ∷ 0xd9 ∷ 0x8f ∷ 0x00 ∷ 0xb2 ∷ 0x04 ∷ 0xe9 ∷ 0x80 ∷ 0x09 ∷ 0x98 ∷ 0xec ∷ 0xf8 ∷ 0x42 ∷ 0x7e ∷ []
unfolding digest padding absorbed result flat_map T operation turn turns step
none = refl

-- MD5 ("a")
a : digest md5 (97 ∷ []) ≡ 0x0c ∷ 0xc1 ∷ 0x75 ∷ 0xb9 ∷ 0xc0 ∷ 0xf1 ∷ 0xb6 ∷ 0xa8 ∷ 0x31 ∷ 0xc3 ∷ 0x99 ∷ 0xe2 ∷ 0x69 ∷ 0x77 ∷ 0x26 ∷ 0x61 ∷ []
unfolding digest padding absorbed result flat_map T operation turn turns step
a = refl

-- MD5 ("abc")
abc : digest md5 (97 ∷ 98 ∷ 99 ∷ []) ≡ 0x90 ∷ 0x01 ∷ 0x50 ∷ 0x98 ∷ 0x3c ∷ 0xd2 ∷ 0x4f ∷ 0xb0 ∷ 0xd6 ∷ 0x96 ∷ 0x3f ∷ 0x7d ∷ 0x28 ∷ 0xe1 ∷ 0x7f ∷ 0x72 ∷ []
unfolding digest padding absorbed result flat_map T operation turn turns step
abc = refl

-- MD5 ("message digest")
text : digest md5 (109 ∷ 101 ∷ 115 ∷ 115 ∷ 97 ∷ 103 ∷ 101 ∷ 32 ∷ 100 ∷ 105 ∷ 103 ∷ 101 ∷ 115 ∷ 116 ∷ []) ≡ 0xf9 ∷ 0x6b ∷ 0x69 ∷ 0x7d ∷ 0x7c ∷ 0xb7 ∷ 0x93 ∷ 0x8d ∷ 0x52 ∷ 0x5a ∷ 0x2f ∷ 0x31 ∷ 0xaa ∷ 0xf1 ∷ 0x61 ∷ 0xd0 ∷ []
unfolding digest padding absorbed result flat_map T operation turn turns step
text = refl

digits : List ℕ
digits = 49 ∷ 50 ∷ 51 ∷ 52 ∷ 53 ∷ 54 ∷ 55 ∷ 56 ∷ 57 ∷ 48 ∷ []

-- MD5 ("1234567890" eight times)
eight : digest md5 (digits ++ digits ++ digits ++ digits ++ digits ++ digits ++ digits ++ digits)
    ≡ 0x57 ∷ 0xed ∷ 0xf4 ∷ 0xa2 ∷ 0x2b ∷ 0xe3 ∷ 0xc9 ∷ 0x55 ∷ 0xac ∷ 0x49 ∷ 0xda ∷ 0x2e ∷ 0x21 ∷ 0x07 ∷ 0xb6 ∷ 0x7a ∷ []
unfolding digits digest padding absorbed result flat_map T operation turn turns step
eight = refl
