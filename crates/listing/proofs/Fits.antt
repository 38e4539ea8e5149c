-- A line has no more than 160 bytes, whatever its numbers are, as long as they are of their types.
use mathlib.Core.Path.{◌≡◌, sym, subst}
use mathlib.Core.List.{List, [], ◌∷◌}
use Prim.Native.Nat.{ℕ, suc, ◌+◌, ◌^◌, ◌≤◌, ◌<◌}
use native.Mathlib.Omega.{arith}
use lib.ListN.{length, length-append}
use Rattle.std.specs.Prelude.{Option, Some, None}
use Rattle.std.proofs.lemmas.Fmt.{length-decimal-le}
use Rattle.listing.specs.declared.Call.{Call}
use Rattle.listing.specs.declared.Call.TheVariants.{Start, Data, Send, Poll, Lost, Close}
use Rattle.listing.specs.declared.Line.{Line}
use Rattle.listing.specs.declared.Line.TheVariants.{First, Called, Bad, Refused}
use Rattle.listing.specs.Listing.{decimal, line, name, due, text}
use Rattle.listing.proofs.Numbers.{decimal_is}

-- a time of its type, where there is one
abbrev pub DueTyped : Option ℕ → Type 0
DueTyped (Some t) = t < 2 ^ 64
DueTyped None = Unit {0}

-- the numbers are of their types
abbrev pub Typed : Line → Type 0
Typed First = Unit {0}
Typed (Called number call refusal events packets bytes deadline) =
    (number < 2 ^ 64) × (refusal < 2 ^ 32) × (events < 2 ^ 64) × (packets < 2 ^ 64) × (bytes < 2 ^ 64) × DueTyped deadline
Typed (Bad place) = place < 2 ^ 64
Typed (Refused number) = number < 2 ^ 32

short : (n : ℕ) → n < 2 ^ 64 → length (decimal n) ≤ 20
short n h = subst (λ (l : List ℕ). length l ≤ 20) (sym (decimal_is n h)) (length-decimal-le 20 n (omega arith) (omega arith) h)

due_short : (o : Option ℕ) → DueTyped o → length (due o) ≤ 20
due_short (Some t) h = short t h
due_short None h = omega arith

name_short : (c : Call) → length (name c) ≤ 5
name_short Start = omega arith
name_short Data = omega arith
name_short Send = omega arith
name_short Poll = omega arith
name_short Lost = omega arith
name_short Close = omega arith

-- one word more is its length and a blank
more_words : (w v : List ℕ) (more : List (List ℕ)) → length (line (w ∷ v ∷ more)) ≡ length w + suc (length (line (v ∷ more)))
more_words w v more = length-append w (32 ∷ line (v ∷ more))

one_word : (w : List ℕ) → length (line (w ∷ [])) ≡ length w + 1
one_word w = length-append w (10 ∷ [])

pub line_fits : (l : Line) → Typed l → length (text l) ≤ 160
line_fits First h = omega (arith, one_word (decimal 1), short 1 (omega arith))
line_fits (Called number call refusal events packets bytes deadline) h =
    omega (
      arith,
      more_words (decimal number) (name call) (decimal refusal ∷ decimal events ∷ decimal packets ∷ decimal bytes ∷ due deadline ∷ []),
      more_words (name call) (decimal refusal) (decimal events ∷ decimal packets ∷ decimal bytes ∷ due deadline ∷ []),
      more_words (decimal refusal) (decimal events) (decimal packets ∷ decimal bytes ∷ due deadline ∷ []),
      more_words (decimal events) (decimal packets) (decimal bytes ∷ due deadline ∷ []),
      more_words (decimal packets) (decimal bytes) (due deadline ∷ []),
      more_words (decimal bytes) (due deadline) [],
      one_word (due deadline),
      short number h.0,
      name_short call,
      short refusal (omega (arith, h.1)),
      short events h.2,
      short packets h.3,
      short bytes h.4,
      due_short deadline h.5,
    )
line_fits (Bad place) h = omega (arith, more_words (98 ∷ 97 ∷ 100 ∷ []) (decimal place) [], one_word (decimal place), short place h)
line_fits (Refused number) h =
    omega (
      arith,
      more_words (decimal 0) (111 ∷ 112 ∷ 101 ∷ 110 ∷ []) (decimal number ∷ decimal 0 ∷ decimal 0 ∷ decimal 0 ∷ (45 ∷ []) ∷ []),
      more_words (111 ∷ 112 ∷ 101 ∷ 110 ∷ []) (decimal number) (decimal 0 ∷ decimal 0 ∷ decimal 0 ∷ (45 ∷ []) ∷ []),
      more_words (decimal number) (decimal 0) (decimal 0 ∷ decimal 0 ∷ (45 ∷ []) ∷ []),
      more_words (decimal 0) (decimal 0) (decimal 0 ∷ (45 ∷ []) ∷ []),
      more_words (decimal 0) (decimal 0) ((45 ∷ []) ∷ []),
      more_words (decimal 0) (45 ∷ []) [],
      one_word (45 ∷ []),
      short number (omega (arith, h)),
      short 0 (omega arith),
    )
