-- "Numbers a caller may get back": a refused call of any kind changes nothing and tells nothing, so that the calls after it go as if it
-- had not been made; the lowest number wins; 0 says that no condition holds.
use Rattle.std.specs.Prelude.{None}
use mathlib.Core.Path.{◌≡◌, refl, ap}
use mathlib.Core.Bool.{Bool, true, false, ◌||◌}
use mathlib.Core.List.{List, [], ◌∷◌}
use Prim.Native.Nat.{ℕ, zero, suc, ◌≤◌, ◌<◌}
use native.Mathlib.Omega.{arith}
use lib.ListN.{length}
use lib.Dec.{ltb, eqb-suc-zero}
use borrow.Author.Tests.{lt-ltb, le-ltb, ne_eqb}
use Rattle.stun_frame.specs.Source.{decode_channel_data}
use Rattle.stun_walk.specs.Source.{readable}
use Rattle.turn_state.specs.State.{Turn, Run, begin, ids_in}
use Rattle.turn_state.specs.Source.{new, start, handle, send, poll, transport_failed, close, next_deadline}
use Rattle.turn_state.specs.Number.{Given, Outcome, above, full, clash, framed, first, pending, number, settled, called, open_number, opened}
use Rattle.turn_state.specs.Sequence.{Call, Start, Handle, Send, Poll, TransportFailed, Close, outcome, told, answers, after}

-- an answer that changes and tells nothing
pub record Unmoved (before : Turn) (o : Outcome) : Type 0 where
  pub client : o.client ≡ before
  pub events : o.events ≡ []
  pub packets : o.packets ≡ []

settled_unmoved : (n : ℕ) (before : Turn) (s : Run) → ¬ ((settled n before s).refusal ≡ 0) → Unmoved before (settled n before s)
settled_unmoved zero before s r = absurd (r refl)
settled_unmoved (suc n) before s r = let e = eqb-suc-zero n in record { client = rw e; events = rw e; packets = rw e }

-- a call's method, and what it is given
abbrev pub method_of : Call → Run → Run
method_of (Start now ids room) = start now
method_of (Handle now buf ids room) = handle now buf
method_of (Send now peer body ids room) = send now peer body
method_of (Poll now ids room) = poll now
method_of TransportFailed = transport_failed
method_of (Close ids room) = close

abbrev given : ℕ → ℕ → List ℕ → ℕ → Given
given time data_len ids room = record { time = time; data_len = data_len; ids = ids; room = room }

abbrev pub given_of : Call → Given
given_of (Start now ids room) = given now 0 ids room
given_of (Handle now buf ids room) = given now 0 ids room
given_of (Send now peer body ids room) = given now (length body) ids room
given_of (Poll now ids room) = given now 0 ids room
given_of TransportFailed = given 0 0 [] 0
given_of (Close ids room) = given 0 0 ids room

pub outcome_called : (c : Turn) (call : Call) → outcome c call ≡ called (method_of call) (given_of call) c
outcome_called c (Start now ids room) = refl
outcome_called c (Handle now buf ids room) = refl
outcome_called c (Send now peer body ids room) = refl
outcome_called c (Poll now ids room) = refl
outcome_called c TransportFailed = refl
outcome_called c (Close ids room) = refl

pub refused : (c : Turn) (call : Call) → ¬ ((outcome c call).refusal ≡ 0) → Unmoved c (outcome c call)
refused c call r =
    let e = outcome_called c call in
    let s : Run = method_of call (begin c (given_of call).ids) in
    rw e (settled_unmoved (number (given_of call) c s) c s (rw e at r))

-- the run of a call, whose number is the refusal; where that is 0, the answer is what the run came to
abbrev pub run_of : Turn → Call → Run
run_of c call = method_of call (begin c (given_of call).ids)

settled_refusal : (n : ℕ) (before : Turn) (s : Run) → (settled n before s).refusal ≡ n
settled_refusal zero before s = refl
settled_refusal (suc n) before s = rw (eqb-suc-zero n)

pub refusal : (c : Turn) (call : Call) → (outcome c call).refusal ≡ number (given_of call) c (run_of c call)
refusal c call = rw (outcome_called c call) (settled_refusal (number (given_of call) c (run_of c call)) c (run_of c call))

pub done : (c : Turn) (call : Call) → number (given_of call) c (run_of c call) ≡ 0
    → outcome c call ≡ record { refusal = 0; client = (run_of c call).self; events = (run_of c call).ev; packets = (run_of c call).out }
done c call z = rw (outcome_called c call, z)

-- the deadline stays, and the calls after it answer as without it
pub refused_deadline : (c : Turn) (call : Call) → ¬ ((outcome c call).refusal ≡ 0) → (told (outcome c call)).deadline ≡ next_deadline c
refused_deadline c call r = ap next_deadline (refused c call r).client

pub refused_answers : (c : Turn) (call : Call) (more : List Call) → ¬ ((outcome c call).refusal ≡ 0) → answers c (call ∷ more) ≡ told (outcome c call) ∷ answers c more
refused_answers c call more r = ap (λ (d : Turn). told (outcome c call) ∷ answers d more) (refused c call r).client

pub refused_after : (c : Turn) (call : Call) (more : List Call) → ¬ ((outcome c call).refusal ≡ 0) → after c (call ∷ more) ≡ after c more
refused_after c call more r = ap (λ (d : Turn). after d more) (refused c call r).client

-- a number with its condition, in a list of them
pub data Among (c : ℕ × Bool) : List (ℕ × Bool) → Type 0 where
  here : {more : List (ℕ × Bool)} → Among c (c ∷ more)
  there : {d : ℕ × Bool} {more : List (ℕ × Bool)} → Among c more → Among c (d ∷ more)

-- numbers above `low`, rising
pub data Rising : ℕ → List (ℕ × Bool) → Type 0 where
  end : {low : ℕ} → Rising low []
  next : (low n : ℕ) {b : Bool} {more : List (ℕ × Bool)} → low < n → Rising n more → Rising low ((n, b) ∷ more)

rising_above : {low : ℕ} {l : List (ℕ × Bool)} {m : ℕ} {b : Bool} → Rising low l → Among (m, b) l → low < m
rising_above end a = elim a [ ]
rising_above (next low n h r) here = h
rising_above (next low n h r) (there a) = let z = rising_above r a in omega arith

first_lowest : {low : ℕ} {l : List (ℕ × Bool)} (m : ℕ) → Rising low l → Among (m, true) l → first l ≤ m
first_lowest m end a = elim a [ ]
first_lowest m (next low n {b = true} h r) here = omega arith
first_lowest m (next low n {b = true} h r) (there a) = let z = rising_above r a in omega arith
first_lowest m (next low n {b = false} h r) (there a) = first_lowest m r a

first_held : {low : ℕ} {l : List (ℕ × Bool)} → Rising low l → ¬ (first l ≡ 0) → Among (first l, true) l
first_held end z = absurd (z refl)
first_held (next low n {b = true} h r) z = here
first_held (next low n {b = false} h r) z = there (first_held r z)

first_none : {low : ℕ} {l : List (ℕ × Bool)} (m : ℕ) (b : Bool) → Rising low l → first l ≡ 0 → Among (m, b) l → b ≡ false
first_none m b end z a = elim a [ ]
first_none m true (next low n h r) z here = let f : ⊥ = omega arith in absurd f
first_none m false (next low n h r) z here = refl
first_none m b (next low n {b = true} h r) z (there a) = let f : ⊥ = omega (arith, h) in absurd f
first_none m b (next low n {b = false} h r) z (there a) = first_none m b r z a

module _ (g : Given) (before : Turn) (s : Run) where
  -- the conditions under their numbers
  abbrev pub conditions : List (ℕ × Bool)
  conditions =
      (1, ltb 9007199254740991 g.time)
      ∷ (2, above 763 s.report.texts)
      ∷ (4, ltb 2048 g.data_len || above 65535 s.report.bodies)
      ∷ (5, full s.report.added)
      ∷ (6, ltb (ids_in g.ids) (length s.report.used))
      ∷ (7, clash (pending before) s.report.used)
      ∷ (8, ltb g.room (length (framed s.out)))
      ∷ []

  rising : Rising 0 conditions
  rising = next 0 1 (omega arith) (next 1 2 (omega arith) (next 2 4 (omega arith) (next 4 5 (omega arith) (next 5 6 (omega arith) (next 6 7 (omega arith) (next 7 8 (omega arith) end))))))

  -- the lowest number whose condition holds; 0 where none does
  pub lowest : (m : ℕ) → Among (m, true) conditions → number g before s ≤ m
  unfolding number
  lowest m a = first_lowest m rising a

  pub holds : ¬ (number g before s ≡ 0) → Among (number g before s, true) conditions
  unfolding number
  holds z = first_held rising z

  pub no_condition : number g before s ≡ 0 → (m : ℕ) (b : Bool) → Among (m, b) conditions → b ≡ false
  unfolding number
  no_condition z m b a = first_none m b rising z a

  -- 1 and 4 are tested even where the call would do nothing, and 1 before all
  pub late : 9007199254740991 < g.time → number g before s ≡ 1
  unfolding number
  late h = rw (lt-ltb 9007199254740991 g.time h)

  pub long_data : g.time ≤ 9007199254740991 → s.report ≡ (begin before g.ids).report → 2048 < g.data_len → number g before s ≡ 4
  unfolding number
  long_data h e d = rw (le-ltb 9007199254740991 g.time h, e, lt-ltb 2048 g.data_len d)

-- a run that does nothing is refused for its time or its data alone
pub idle : (g : Given) (c : Turn) → g.time ≤ 9007199254740991 → g.data_len ≤ 2048 → number g c (begin c g.ids) ≡ 0
unfolding number
idle g c t d =
    rw (le-ltb 9007199254740991 g.time t, le-ltb 2048 g.data_len d, le-ltb (ids_in g.ids) 0 (omega arith), le-ltb g.room 0 (omega arith))

-- so `handle` on unreadable bytes gives 0 and does nothing
pub unreadable : (c : Turn) (now : ℕ) (buf ids : List ℕ) (room : ℕ) → now ≤ 9007199254740991 → decode_channel_data buf ≡ None → readable buf ≡ false
    → outcome c (Handle now buf ids room) ≡ record { refusal = 0; client = c; events = []; packets = [] }
unfolding handle
unreadable c now buf ids room t ec er =
    let does : handle now buf (begin c ids) ≡ begin c ids = rw (ec, er) in
    rw (does, idle (given now 0 ids room) c t (omega arith))

-- a refused opening hands back the client of empty username and password over UDP
pub opening_refused : (username password : List ℕ) (reliable : Bool) → ¬ (open_number username password ≡ 0) → opened username password reliable ≡ new [] [] false
opening_refused username password reliable z = rw (ne_eqb (open_number username password) 0 z)

pub opening_done : (username password : List ℕ) (reliable : Bool) → open_number username password ≡ 0 → opened username password reliable ≡ new username password reliable
opening_done username password reliable z = rw z
