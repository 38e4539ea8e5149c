-- Document 01, "Numbers a caller may get back": the number that a run's report and what the caller lent give, the lowest winning; and
-- what a call answers by it.
use Rattle.std.specs.Prelude.{Bool, false, cond, ◌||◌, not, List, [], ◌∷◌, ◌++◌, map, ℕ, length, ltb, leb, eqb, Option, None, Some, Result, Ok, Err}
use Rattle.stun_frame.specs.Source.{to_be}
use Rattle.stun_check.specs.Source.{same}
use Rattle.stun_text.specs.Utf8.{well_formed}
use Rattle.turn_state.specs.declared.Event.{Event}
use Rattle.turn_state.specs.declared.Refusal.{Refusal}
use Rattle.turn_state.specs.declared.Refusal.TheVariants.{Late, LongText, IllFormed, LongBody, Full, FewIds, TakenId, SmallOutput}
use Rattle.turn_state.specs.Maps.{contains}
use Rattle.turn_state.specs.State.{Turn, Added, Run, begin, ids_in}
use Rattle.turn_state.specs.Source.{new}

-- what a caller gives beside the call's own bytes: the time (0 where a call has none), the length of the data to send (0 where it
-- has none), the ids, and the length of the output
pub record Given : Type 0 where
  pub time : ℕ
  pub data_len : ℕ
  pub ids : List ℕ
  pub room : ℕ

-- of a call with a time and without data to send
abbrev pub given_of : ℕ → List ℕ → ℕ → Given
given_of now ids room = record { time = now; data_len = 0; ids = ids; room = room }

-- some number of the list is above the limit
abbrev pub above : ℕ → List ℕ → Bool
above limit [] = false
above limit (n ∷ more) = ltb limit n || above limit more

-- 5: some record met a full table
abbrev pub full : List Added → Bool
full [] = false
full (a ∷ more) = leb a.room a.held || full more

-- 7: some used id equals one pending at entry, or another used one
abbrev pub clash : List (List ℕ) → List (List ℕ) → Bool
clash pending [] = false
clash pending (id ∷ more) = contains (λ x. same x id) pending || contains (λ x. same x id) more || clash pending more

-- packets in the output: tag 0x01, two-byte length, bytes
abbrev pub framed : List (List ℕ) → List ℕ
framed [] = []
framed (p ∷ more) = 0x01 ∷ to_be (length p) ++ p ++ framed more

-- the first number whose condition holds; 0 where none does
abbrev pub first : List (ℕ × Bool) → ℕ
first [] = 0
first (c ∷ more) = cond c.1 c.0 (first more)

-- the ids that are pending
abbrev pub pending : Turn → List (List ℕ)
pending c = map (λ t. t.msg.tid) c.txns

unfoldable pub number : Given → Turn → Run → ℕ
number g before s =
    first
    (
    (1, ltb 9007199254740991 g.time)
    ∷ (2, above 763 s.report.texts)
    ∷ (4, ltb 2048 g.data_len || above 65535 s.report.bodies)
    ∷ (5, full s.report.added)
    ∷ (6, ltb (ids_in g.ids) (length s.report.used))
    ∷ (7, clash (pending before) s.report.used)
    ∷ (8, ltb g.room (length (framed s.out)))
    ∷ []
    )

-- the numbers of the code's refusals
abbrev pub number_of : Refusal → ℕ
number_of Late = 1
number_of LongText = 2
number_of IllFormed = 3
number_of LongBody = 4
number_of Full = 5
number_of FewIds = 6
number_of TakenId = 7
number_of SmallOutput = 8

-- the number of what may be refused: 0 where it is not
abbrev pub number_in : {A : Type 0} → Result A Refusal → ℕ
number_in (Ok a) = 0
number_in (Err r) = number_of r

abbrev pub number_or_0 : Option Refusal → ℕ
number_or_0 None = 0
number_or_0 (Some r) = number_of r

-- what a call answers: refused, it changes nothing and tells nothing
pub record Outcome : Type 0 where
  pub refusal : ℕ
  pub client : Turn
  pub events : List Event
  pub packets : List (List ℕ)

abbrev pub settled : ℕ → Turn → Run → Outcome
settled n before s =
    cond (eqb n 0)
    (record { refusal = 0; client = s.self; events = s.ev; packets = s.out })
    (record { refusal = n; client = before; events = []; packets = [] })

-- a call of the client `before`, by what its method does
abbrev pub called : (Run → Run) → Given → Turn → Outcome
called method g before = let s = method (begin before g.ids) in settled (number g before s) before s

-- opening: its number, and the client; a refused one is that of empty username and password over UDP
abbrev pub open_number : List ℕ → List ℕ → ℕ
open_number username password =
    first
    (
    (2, ltb 508 (length username) || ltb 256 (length password))
    ∷ (3, not (well_formed username) || not (well_formed password))
    ∷ []
    )

abbrev pub opened : List ℕ → List ℕ → Bool → Turn
opened username password reliable = cond (eqb (open_number username password) 0) (new username password reliable) (new [] [] false)
