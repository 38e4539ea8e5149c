-- What stands at the front of a window on the tape: the answer of `next`.
use Rattle.std.specs.Prelude.{Bool, cond, List, Some, None, ℕ, ◌+◌, ◌-◌, length, get_or, take, drop, eqb, ltb}
use Rattle.tape.specs.declared.Stage.{Stage}
use Rattle.tape.specs.declared.Front.{Front}
use Rattle.tape.specs.declared.Front.TheVariants.{Field, More, End, Bad}
use Rattle.tape.specs.Tape.{Meaning, meaning, number_at}

-- a field's length and body, at the front
abbrev pub size_in : List ℕ → ℕ
size_in w = number_at w 2 1

abbrev pub body_in : List ℕ → List ℕ
body_in w = take (size_in w) (drop 3 w)

-- a field that is not whole: bad where no more input comes
abbrev pub cut : Bool → Front
cut ended = cond ended Bad More

-- a field with a body of n bytes: its whole size, and where what it carries lies
abbrev pub answer : Meaning → ℕ → Front
answer None n = Bad
answer (Some m) n = Field m.piece (3 + n) (3 + m.taken) (n - m.taken)

-- a body over 4,096 is bad as soon as its length is there, any other shape as soon as the field is whole
unfoldable pub next_of : Stage → List ℕ → Bool → Front
next_of stage w ended =
    cond (eqb (length w) 0) (cond ended End More)
    (cond (ltb (length w) 3) (cut ended)
    (cond (ltb 4096 (size_in w)) Bad
    (cond (ltb (length w) (3 + size_in w)) (cut ended) (answer (meaning stage (get_or w 0 0) (body_in w)) (size_in w)))))
