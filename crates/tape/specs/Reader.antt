-- Readers of a tape that go by the answers of `next` alone: one that has all of it (`taken`), and one that gets it in parts
-- (`streamed`).
use Rattle.std.specs.Prelude.{true, false, List, [], ◌∷◌, ◌++◌, ℕ, zero, suc, ◌+◌, length, take, drop}
use Rattle.tape.specs.declared.Stage.{Stage}
use Rattle.tape.specs.declared.Stage.TheVariants.{NeedsUsername}
use Rattle.tape.specs.declared.Front.{Front}
use Rattle.tape.specs.declared.Front.TheVariants.{Field, More, End, Bad}
use Rattle.tape.specs.Tape.{later, Tape, ends, bad, piece}
use Rattle.tape.specs.Window.{next_of}

-- an answer at a place; more is what the reader gets after a field
abbrev pub step : Front → ℕ → List ℕ → Tape → Tape
step (Field p size start len) at w more = piece p (take len (drop start w)) more
step More at w more = bad at
step End at w more = ends
step Bad at w more = bad at

-- the bytes that an answer leaves behind
abbrev pub behind : Front → ℕ
behind (Field p size start len) = size
behind More = 0
behind End = 0
behind Bad = 0

-- up to n fields from the front of a window with all that is left of the tape
unfoldable pub taken : ℕ → Stage → ℕ → List ℕ → Tape
taken zero stage at [] = ends
taken zero stage at (tag ∷ r) = bad at
taken (suc n) stage at w =
    let size : ℕ = behind (next_of stage w true) in
    step (next_of stage w true) at w (taken n (later stage) (at + size) (drop size w))

abbrev pub joined : List (List ℕ) → List ℕ
joined [] = []
joined (p ∷ ps) = p ++ joined ps

-- another part where the answer is More
abbrev pub waits : Front → Tape → Tape → Tape
waits More a b = a
waits (Field p size start len) a b = b
waits End a b = b
waits Bad a b = b

-- up to n answers: the window, and the parts that have not come yet
unfoldable pub streamed : ℕ → Stage → ℕ → List ℕ → List (List ℕ) → Tape
streamed zero stage at w parts = bad at
streamed (suc n) stage at w [] =
    let size : ℕ = behind (next_of stage w true) in
    step (next_of stage w true) at w (streamed n (later stage) (at + size) (drop size w) [])
streamed (suc n) stage at w (p ∷ ps) =
    let size : ℕ = behind (next_of stage w false) in
    waits (next_of stage w false) (streamed n stage at (w ++ p) ps)
    (step (next_of stage w false) at w (streamed n (later stage) (at + size) (drop size w) (p ∷ ps)))

-- each part and each field takes an answer, and the end one more
unfoldable pub streamed_all : List (List ℕ) → Tape
streamed_all parts = streamed (length (joined parts) + length parts + 1) NeedsUsername 0 [] parts
