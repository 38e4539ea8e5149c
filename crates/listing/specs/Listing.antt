-- The lines of a replay listing (document 01, "The replay tape"), in ASCII: words with one blank between, a newline at the end.
use Rattle.std.specs.Prelude.{ℕ, zero, suc, ◌+◌, ◌/◌, ◌%◌, cond, List, [], ◌∷◌, ◌++◌, Option, Some, None, ltb}
use Rattle.listing.specs.declared.Call.{Call}
use Rattle.listing.specs.declared.Call.TheVariants.{Start, Data, Send, Poll, Lost, Close}
use Rattle.listing.specs.declared.Line.{Line}
use Rattle.listing.specs.declared.Line.TheVariants.{First, Called, Bad, Refused}

-- the digit of a number below 10: `0` is 48
abbrev pub digit : ℕ → ℕ
digit d = 48 + d

-- the digits of n without zeros in front, 0 as `0`; only the last k where n has more
abbrev pub digits_in : ℕ → ℕ → List ℕ
digits_in zero n = []
digits_in (suc k) n = cond (ltb n 10) (digit n ∷ []) (digits_in k (n / 10) ++ (digit (n % 10) ∷ []))

-- all of them, since n has no more than n + 1
unfoldable pub decimal : ℕ → List ℕ
decimal n = digits_in (suc n) n

abbrev pub blank : ℕ
blank = 32

abbrev pub newline : ℕ
newline = 10

-- the words of a line, one blank between, a newline at the end
abbrev pub line : List (List ℕ) → List ℕ
line [] = newline ∷ []
line (w ∷ []) = w ++ (newline ∷ [])
line (w ∷ v ∷ more) = w ++ (blank ∷ line (v ∷ more))

-- start, data, send, poll, lost, close
abbrev pub name : Call → List ℕ
name Start = 115 ∷ 116 ∷ 97 ∷ 114 ∷ 116 ∷ []
name Data = 100 ∷ 97 ∷ 116 ∷ 97 ∷ []
name Send = 115 ∷ 101 ∷ 110 ∷ 100 ∷ []
name Poll = 112 ∷ 111 ∷ 108 ∷ 108 ∷ []
name Lost = 108 ∷ 111 ∷ 115 ∷ 116 ∷ []
name Close = 99 ∷ 108 ∷ 111 ∷ 115 ∷ 101 ∷ []

-- `-`
abbrev pub dash : List ℕ
dash = 45 ∷ []

-- the next deadline, or `-`
abbrev pub due : Option ℕ → List ℕ
due (Some t) = decimal t
due None = dash

-- `turn-replay 1`
abbrev pub first_text : List ℕ
first_text = line ((116 ∷ 117 ∷ 114 ∷ 110 ∷ 45 ∷ 114 ∷ 101 ∷ 112 ∷ 108 ∷ 97 ∷ 121 ∷ []) ∷ decimal 1 ∷ [])

-- call number, name, refusal, events, packets, packet bytes without field heads, next deadline
abbrev pub call_text : ℕ → Call → ℕ → ℕ → ℕ → ℕ → Option ℕ → List ℕ
call_text number call refusal events packets bytes deadline =
    line (decimal number ∷ name call ∷ decimal refusal ∷ decimal events ∷ decimal packets ∷ decimal bytes ∷ due deadline ∷ [])

-- `bad` and the place of the field's tag
abbrev pub bad_text : ℕ → List ℕ
bad_text place = line ((98 ∷ 97 ∷ 100 ∷ []) ∷ decimal place ∷ [])

-- `0 open`, the number and `0 0 0 -`
abbrev pub refused_text : ℕ → List ℕ
refused_text number =
    line (decimal 0 ∷ (111 ∷ 112 ∷ 101 ∷ 110 ∷ []) ∷ decimal number ∷ decimal 0 ∷ decimal 0 ∷ decimal 0 ∷ dash ∷ [])

-- what a line prints
abbrev pub text : Line → List ℕ
text First = first_text
text (Called number call refusal events packets bytes deadline) = call_text number call refusal events packets bytes deadline
text (Bad place) = bad_text place
text (Refused number) = refused_text number
