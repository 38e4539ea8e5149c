-- Where a field lies (`inside`), and how little of one is in the window where it is not whole (`waiting`): a window of 4,099 bytes
-- that is full always has an answer.
use mathlib.Core.Path.{◌≡◌, refl, sym, subst}
use mathlib.Core.Bool.{Bool, true, false, cond}
use mathlib.Core.Logic.{◌⊎◌, inl, inr}
use mathlib.Core.List.{List, [], ◌∷◌}
use Prim.Native.Nat.{ℕ, ◌+◌, ◌≤◌, ◌<◌}
use native.Mathlib.Omega.{arith}
use borrow.Author.Tests.{eqb-true, leb-true}
use lib.ListN.{length, get_or, take}
use lib.Seq.{length-take-le}
use lib.Dec.{eqb, leb, ltb}
use Rattle.std.specs.Prelude.{Some, None}
use Rattle.tape.specs.declared.Stage.{Stage}
use Rattle.tape.specs.declared.Stage.TheVariants.{NeedsUsername, NeedsPassword, NeedsTransport, Opened}
use Rattle.tape.specs.declared.Meant.{Meant}
use Rattle.tape.specs.declared.Piece.{Piece}
use Rattle.tape.specs.declared.Front.{Front}
use Rattle.tape.specs.declared.Front.TheVariants.{Field, More, End, Bad}
use Rattle.tape.specs.Tape.{Meaning, means, only, starts, transport, send, timed, call, meaning}
use Rattle.tape.specs.Window.{cut, answer, next_of}
use Rattle.tape.proofs.Fields.{compared, size, front_long, front_cut, front_whole}

-- a piece takes no more than the body
abbrev Fits : ℕ → Meaning → Type 0
Fits n None = Unit
Fits n (Some m) = m.taken ≤ n

either : (n : ℕ) (t : Bool) (a b : Meaning) → Fits n a → Fits n b → Fits n (cond t a b)
either n true a b f g = f
either n false a b f g = g

only_fits : (n k : ℕ) (p : Piece) → Fits n (only n k p)
only_fits n k p = go (eqb n k) refl
  where
    go : (t : Bool) → eqb n k ≡ t → Fits n (cond t (means p k) None)
    go true e = omega (arith, eqb-true n k e)
    go false e = tt

starts_fits : (n k : ℕ) (p : Piece) → Fits n (starts n k p)
starts_fits n k p = go (leb k n) refl
  where
    go : (t : Bool) → leb k n ≡ t → Fits n (cond t (means p k) None)
    go true e = leb-true k n e
    go false e = tt

transport_fits : (body : List ℕ) → Fits (length body) (transport body)
transport_fits [] = tt
transport_fits (b ∷ []) = either 1 (eqb b 0) _ _ (omega arith) (either 1 (eqb b 1) _ _ (omega arith) tt)
transport_fits (b ∷ c ∷ r) = tt

module _ (body : List ℕ) where
  send_fits : (time : ℕ) → Fits (length body) (send time body)
  unfolding send
  send_fits time =
      either (length body) (eqb (get_or body 8 0) 1) _ _ (starts_fits (length body) 15 _)
      (either (length body) (eqb (get_or body 8 0) 2) _ _ (starts_fits (length body) 27 _) tt)

  timed_fits : (tag time : ℕ) → Fits (length body) (timed tag time body)
  unfolding timed
  timed_fits tag time =
      either (length body) (eqb tag 0x10) _ _ (only_fits (length body) 8 _)
      (either (length body) (eqb tag 0x11) _ _ (starts_fits (length body) 8 _)
      (either (length body) (eqb tag 0x12) _ _ (send_fits time) (either (length body) (eqb tag 0x13) _ _ (only_fits (length body) 8 _) tt)))

  call_fits : (tag : ℕ) → Fits (length body) (call tag body)
  unfolding call
  call_fits tag =
      either (length body) (eqb tag 0x20) _ _ (starts_fits (length body) 0 _)
      (either (length body) (eqb tag 0x14) _ _ (only_fits (length body) 0 _)
      (either (length body) (eqb tag 0x15) _ _ (only_fits (length body) 0 _) (either (length body) (ltb (length body) 8) _ _ tt (timed_fits tag _))))

  meaning_fits : (stage : Stage) (tag : ℕ) → Fits (length body) (meaning stage tag body)
  unfolding meaning
  meaning_fits NeedsUsername tag = either (length body) (eqb tag 1) _ _ (starts_fits (length body) 0 _) tt
  meaning_fits NeedsPassword tag = either (length body) (eqb tag 2) _ _ (starts_fits (length body) 0 _) tt
  meaning_fits NeedsTransport tag = either (length body) (eqb tag 3) _ _ (transport_fits body) tt
  meaning_fits Opened tag = call_fits tag

pub meant_fits : (stage : Stage) (tag : ℕ) (body : List ℕ) (m : Meant) → meaning stage tag body ≡ Some m → m.taken ≤ length body
meant_fits stage tag body m e = subst (Fits (length body)) e (meaning_fits body stage tag)

-- a field of `size` bytes lies in the window, and what it carries ends with it
pub record Inside (w : List ℕ) (size start len : ℕ) : Type 0 where
  pub least : 3 ≤ size
  pub most : size ≤ 4099
  pub lies : size ≤ length w
  pub closes : start + len ≡ size

abbrev pub Fine : List ℕ → Bool → Front → Type 0
Fine w ended (Field p size start len) = Inside w size start len
Fine w ended More = (ended ≡ false) × (length w < 4099)
Fine w ended End = (ended ≡ true) × (length w ≡ 0)
Fine w ended Bad = Unit

cut_fine : (w : List ℕ) (ended : Bool) → length w < 4099 → Fine w ended (cut ended)
cut_fine w true h = tt
cut_fine w false h = (refl, h)

answer_fine : (w : List ℕ) (ended : Bool) (m : Meaning) (n : ℕ) → Fits n m → n ≤ 4096 → 3 + n ≤ length w → Fine w ended (answer m n)
answer_fine w ended None n f h g = tt
answer_fine w ended (Some m) n f h g = record { least = omega arith; most = omega arith; lies = g; closes = omega arith }

pub fine : (stage : Stage) (w : List ℕ) (ended : Bool) → Fine w ended (next_of stage w ended)
unfolding next_of
fine stage [] true = (refl, refl)
fine stage [] false = (refl, omega arith)
fine stage (tag ∷ []) ended = cut_fine (tag ∷ []) ended (omega arith)
fine stage (tag ∷ high ∷ []) ended = cut_fine (tag ∷ high ∷ []) ended (omega arith)
fine stage (tag ∷ high ∷ low ∷ r) ended = go (compared 4096 (size high low)) (compared (length r) (size high low))
  where
    w : List ℕ
    w = tag ∷ high ∷ low ∷ r

    s : ℕ
    s = size high low

    go : (4096 < s) ⊎ (s ≤ 4096) → (length r < s) ⊎ (s ≤ length r) → Fine w ended (next_of stage w ended)
    go (inl h) g = subst (λ (f : Front). Fine w ended f) (sym (front_long stage tag high low r ended h)) tt
    go (inr h) (inl g) = subst (λ (f : Front). Fine w ended f) (sym (front_cut stage tag high low r ended h g)) (cut_fine w ended (omega arith))
    go (inr h) (inr g) =
        let m : Fits s (meaning stage tag (take s r)) =
        subst (λ (k : ℕ). Fits k (meaning stage tag (take s r))) (length-take-le s r g) (meaning_fits (take s r) stage tag) in
        subst (λ (f : Front). Fine w ended f) (sym (front_whole stage tag high low r ended h g)) (answer_fine w ended (meaning stage tag (take s r)) s m h (omega arith))

pub inside : (stage : Stage) (w : List ℕ) (ended : Bool) (p : Piece) (size start len : ℕ) → next_of stage w ended ≡ Field p size start len → Inside w size start len
inside stage w ended p size start len e = subst (λ (f : Front). Fine w ended f) e (fine stage w ended)

pub waiting : (stage : Stage) (w : List ℕ) (ended : Bool) → next_of stage w ended ≡ More → (ended ≡ false) × (length w < 4099)
waiting stage w ended e = subst (λ (f : Front). Fine w ended f) e (fine stage w ended)
