-- From a call's run to its answer, to a sequence of calls and to an opening: a fact of clients that every accepted run keeps is kept by
-- every call, since a refused one hands the client back, and so by any sequence.
use mathlib.Core.Path.{◌≡◌, refl, sym, subst}
use mathlib.Core.Bool.{Bool, true, false, cond}
use mathlib.Core.List.{List, [], ◌∷◌}
use Prim.Native.Nat.{ℕ}
use lib.Dec.{eqb}
use borrow.Author.Tests.{eqb-true}
use Rattle.turn_state.specs.State.{Turn, Run}
use Rattle.turn_state.specs.Source.{new}
use Rattle.turn_state.specs.Number.{Outcome, number, settled, open_number, opened}
use Rattle.turn_state.specs.Sequence.{Call, outcome, after}
use Rattle.turn.proofs.Refused.{given_of, run_of, outcome_called}

module _ (P : Turn → Type 0) where
  settled_keeps : (n : ℕ) (before : Turn) (s : Run) → P before → (n ≡ 0 → P s.self) → P (settled n before s).client
  settled_keeps n before s b h = by (eqb n 0) refl
    where
      by : (z : Bool) → eqb n 0 ≡ z
          → P (cond {A = Outcome} z (record { refusal = 0; client = s.self; events = s.ev; packets = s.out }) (record { refusal = n; client = before; events = []; packets = [] })).client
      by true q = h (eqb-true n 0 q)
      by false q = b

  pub call_keeps : (c : Turn) (call : Call) → P c → (number (given_of call) c (run_of c call) ≡ 0 → P (run_of c call).self) → P (outcome c call).client
  call_keeps c call h k =
      subst (λ (o : Outcome). P o.client) (sym (outcome_called c call)) (settled_keeps (number (given_of call) c (run_of c call)) c (run_of c call) h k)

  pub sequence_keeps : ((c : Turn) (call : Call) → P c → P (outcome c call).client) → (c : Turn) (calls : List Call) → P c → P (after c calls)
  sequence_keeps k c [] h = h
  sequence_keeps k c (call ∷ more) h = sequence_keeps k (outcome c call).client more (k c call h)

  pub opening_keeps : ((username password : List ℕ) (reliable : Bool) → P (new username password reliable)) → (username password : List ℕ) (reliable : Bool) → P (opened username password reliable)
  opening_keeps k username password reliable = by (eqb (open_number username password) 0)
    where
      by : (z : Bool) → P (cond z (new username password reliable) (new [] [] false))
      by true = k username password reliable
      by false = k [] [] false
