-- Document 01's listing, line by line, and a line of each other kind.
use mathlib.Core.Path.{◌≡◌, refl}
use mathlib.Core.List.{[], ◌∷◌}
use native.Mathlib.Omega.{arith}
use Rattle.std.specs.Prelude.{Some, None}
use Rattle.listing.specs.declared.Call.TheVariants.{Start, Data, Send, Poll, Lost, Close}
use Rattle.listing.specs.Listing.{decimal, first_text, call_text, bad_text, refused_text}
use Rattle.std.specs.Fmt.{digits}
use Rattle.listing.proofs.Numbers.{decimal_is}

-- `turn-replay 1`
pub line_first : first_text ≡ 116 ∷ 117 ∷ 114 ∷ 110 ∷ 45 ∷ 114 ∷ 101 ∷ 112 ∷ 108 ∷ 97 ∷ 121 ∷ 32 ∷ 49 ∷ 10 ∷ []
unfolding decimal
line_first = refl

-- `1 start 0 0 1 60 1500`
pub line_one : call_text 1 Start 0 0 1 60 (Some 1500) ≡ 49 ∷ 32 ∷ 115 ∷ 116 ∷ 97 ∷ 114 ∷ 116 ∷ 32 ∷ 48 ∷ 32 ∷ 48 ∷ 32 ∷ 49 ∷ 32 ∷ 54 ∷ 48 ∷ 32 ∷ 49 ∷ 53 ∷ 48 ∷ 48 ∷ 10 ∷ []
unfolding decimal
line_one = refl

-- `2 poll 0 0 0 0 1500`
pub line_two : call_text 2 Poll 0 0 0 0 (Some 1500) ≡ 50 ∷ 32 ∷ 112 ∷ 111 ∷ 108 ∷ 108 ∷ 32 ∷ 48 ∷ 32 ∷ 48 ∷ 32 ∷ 48 ∷ 32 ∷ 48 ∷ 32 ∷ 49 ∷ 53 ∷ 48 ∷ 48 ∷ 10 ∷ []
unfolding decimal
line_two = refl

-- `3 poll 0 0 1 60 2500`
pub line_three : call_text 3 Poll 0 0 1 60 (Some 2500) ≡ 51 ∷ 32 ∷ 112 ∷ 111 ∷ 108 ∷ 108 ∷ 32 ∷ 48 ∷ 32 ∷ 48 ∷ 32 ∷ 49 ∷ 32 ∷ 54 ∷ 48 ∷ 32 ∷ 50 ∷ 53 ∷ 48 ∷ 48 ∷ 10 ∷ []
unfolding decimal
line_three = refl

-- `4 lost 0 1 0 0 -`
pub line_four : call_text 4 Lost 0 1 0 0 None ≡ 52 ∷ 32 ∷ 108 ∷ 111 ∷ 115 ∷ 116 ∷ 32 ∷ 48 ∷ 32 ∷ 49 ∷ 32 ∷ 48 ∷ 32 ∷ 48 ∷ 32 ∷ 45 ∷ 10 ∷ []
unfolding decimal
line_four = refl

-- `bad 9`
pub line_bad : bad_text 9 ≡ 98 ∷ 97 ∷ 100 ∷ 32 ∷ 57 ∷ 10 ∷ []
unfolding decimal
line_bad = refl

-- `0 open 2 0 0 0 -`
pub line_refused : refused_text 2 ≡ 48 ∷ 32 ∷ 111 ∷ 112 ∷ 101 ∷ 110 ∷ 32 ∷ 50 ∷ 32 ∷ 48 ∷ 32 ∷ 48 ∷ 32 ∷ 48 ∷ 32 ∷ 45 ∷ 10 ∷ []
unfolding decimal
line_refused = refl

-- `2 data 0 0 1 120 1600`
pub line_data : call_text 2 Data 0 0 1 120 (Some 1600) ≡ 50 ∷ 32 ∷ 100 ∷ 97 ∷ 116 ∷ 97 ∷ 32 ∷ 48 ∷ 32 ∷ 48 ∷ 32 ∷ 49 ∷ 32 ∷ 49 ∷ 50 ∷ 48 ∷ 32 ∷ 49 ∷ 54 ∷ 48 ∷ 48 ∷ 10 ∷ []
unfolding decimal
line_data = refl

-- `3 send 6 0 0 0 1500`
pub line_send : call_text 3 Send 6 0 0 0 (Some 1500) ≡ 51 ∷ 32 ∷ 115 ∷ 101 ∷ 110 ∷ 100 ∷ 32 ∷ 54 ∷ 32 ∷ 48 ∷ 32 ∷ 48 ∷ 32 ∷ 48 ∷ 32 ∷ 49 ∷ 53 ∷ 48 ∷ 48 ∷ 10 ∷ []
unfolding decimal
line_send = refl

-- `4 close 0 0 1 36 -`
pub line_close : call_text 4 Close 0 0 1 36 None ≡ 52 ∷ 32 ∷ 99 ∷ 108 ∷ 111 ∷ 115 ∷ 101 ∷ 32 ∷ 48 ∷ 32 ∷ 48 ∷ 32 ∷ 49 ∷ 32 ∷ 51 ∷ 54 ∷ 32 ∷ 45 ∷ 10 ∷ []
unfolding decimal
line_close = refl

-- the greatest number of 64 bits has 20 digits
pub greatest : decimal 18446744073709551615 ≡ 49 ∷ 56 ∷ 52 ∷ 52 ∷ 54 ∷ 55 ∷ 52 ∷ 52 ∷ 48 ∷ 55 ∷ 51 ∷ 55 ∷ 48 ∷ 57 ∷ 53 ∷ 53 ∷ 49 ∷ 54 ∷ 49 ∷ 53 ∷ []
unfolding digits
greatest = decimal_is 18446744073709551615 (omega arith)
