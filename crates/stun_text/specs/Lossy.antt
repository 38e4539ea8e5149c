-- What the code's struct holds: a text of at most 763 bytes with zeros after it; and the replaced text where it has so few.
use Rattle.std.specs.Prelude.{ℕ, cond, List, ◌++◌, length, take, replicate, leb, Result, Ok, Err}
use Rattle.stun_text.specs.Utf8.{replaced}
use Rattle.stun_text.specs.declared.Text.{Text}
use Rattle.stun_text.specs.declared.TooLong.{TooLong}

-- the bytes, with zeros up to the room's end
abbrev pub filled : List ℕ → List ℕ
filled l = take 763 (l ++ replicate 763 0)

abbrev pub text_of : List ℕ → Text
text_of l = record { bytes = filled l; len = length l }

unfoldable pub lossy_of : List ℕ → Result Text TooLong
lossy_of l = cond (leb (length (replaced l)) 763) (Ok (text_of (replaced l))) (Err (record {}))
