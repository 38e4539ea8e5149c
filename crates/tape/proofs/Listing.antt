-- Field by field from the front, with all that is left in the window and no more to come, a reader gets the tape's definition
-- (`taken_read`).
use mathlib.Core.Path.{◌≡◌, refl, sym, ap, ap₂, ◌∙◌}
use mathlib.Core.Bool.{true}
use mathlib.Core.Logic.{◌⊎◌, inl, inr}
use mathlib.Core.List.{List, [], ◌∷◌}
use Prim.Native.Nat.{ℕ, zero, suc, ◌+◌, ◌-◌, ◌≤◌, ◌<◌}
use native.Mathlib.Nat.{sub-zero, zero-sub, suc-sub-suc}
use borrow.Author.Tests.{le-leb, lt-leb}
use lib.ListN.{length, take, drop}
use lib.Seq.{drop-drop, take-nil}
use Rattle.std.specs.Prelude.{Some, None}
use Rattle.tape.specs.declared.Stage.{Stage}
use Rattle.tape.specs.declared.Stage.TheVariants.{NeedsUsername}
use Rattle.tape.specs.declared.Front.{Front}
use Rattle.tape.specs.Tape.{Meaning, meaning, later, Tape, piece, entry, read_from, read}
use Rattle.tape.specs.Window.{answer, next_of}
use Rattle.tape.specs.Reader.{step, behind, taken}
use Rattle.tape.proofs.Fields.{compared, size, front_long, front_cut, front_whole}

drop_take : (k n : ℕ) (l : List ℕ) → drop k (take n l) ≡ take (n - k) (drop k l)
drop_take zero n l = rw sub-zero
drop_take (suc k) zero l = rw zero-sub
drop_take (suc k) (suc n) [] = sym (take-nil (suc n - suc k))
drop_take (suc k) (suc n) (x ∷ xs) = rw suc-sub-suc (drop_take k n xs)

-- one field of a reader is one of the definition, whatever follows
pub field : (stage : Stage) (at n : ℕ) (w : List ℕ)
    → read_from (suc n) stage at w
    ≡ step (next_of stage w true) at w (read_from n (later stage) (at + behind (next_of stage w true)) (drop (behind (next_of stage w true)) w))
unfolding read_from next_of
field stage at n [] = refl
field stage at n (tag ∷ []) = refl
field stage at n (tag ∷ high ∷ []) = refl
field stage at n (tag ∷ high ∷ low ∷ r) = go (compared 4096 (size high low)) (compared (length r) (size high low))
  where
    w : List ℕ
    w = tag ∷ high ∷ low ∷ r

    s : ℕ
    s = size high low

    next_tape : Front → Tape
    next_tape f = step f at w (read_from n (later stage) (at + behind f) (drop (behind f) w))

    from : (m : Meaning) → entry m at (take s r) (read_from n (later stage) (at + (3 + s)) (drop s r)) ≡ next_tape (answer m s)
    from None = refl
    from (Some m) =
        ap₂ (λ (x : List ℕ) (y : List ℕ). piece m.piece x (read_from n (later stage) (at + (3 + s)) y))
        (drop_take m.taken s r ∙ ap (take (s - m.taken)) (drop-drop m.taken 3 w)) (drop-drop s 3 w)

    go : (4096 < s) ⊎ (s ≤ 4096) → (length r < s) ⊎ (s ≤ length r) → read_from (suc n) stage at w ≡ next_tape (next_of stage w true)
    go (inl h) g = rw (lt-leb s 4096 h) (ap next_tape (sym (front_long stage tag high low r true h)))
    go (inr h) (inl g) = rw (le-leb s 4096 h, lt-leb s (length r) g) (ap next_tape (sym (front_cut stage tag high low r true h g)))
    go (inr h) (inr g) =
        rw (le-leb s 4096 h, le-leb s (length r) g) (from (meaning stage tag (take s r)) ∙ ap next_tape (sym (front_whole stage tag high low r true h g)))

same : (n : ℕ) (stage : Stage) (at : ℕ) (w : List ℕ) → taken n stage at w ≡ read_from n stage at w
unfolding taken read_from
same zero stage at [] = refl
same zero stage at (tag ∷ r) = refl
same (suc n) stage at w =
    let f : Front = next_of stage w true in
    let rest = same n (later stage) (at + behind f) (drop (behind f) w) in
    ap (step f at w) rest ∙ sym (field stage at n w)

pub taken_read : (tape : List ℕ) → taken (length tape) NeedsUsername 0 tape ≡ read tape
unfolding read
taken_read tape = same (length tape) NeedsUsername 0 tape
