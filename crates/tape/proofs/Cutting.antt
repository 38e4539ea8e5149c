-- Where the input is cut makes no difference: a longer window changes no answer but More (`longer`), and a reader that gets the
-- tape in parts, whatever they are, gets the tape's definition (`streamed_read`).
use mathlib.Core.Path.{◌≡◌, refl, sym, ap, ap₂, subst, ◌∙◌}
use mathlib.Core.Bool.{Bool, true, false}
use mathlib.Core.Logic.{◌⊎◌, inl, inr}
use mathlib.Core.List.{List, [], ◌∷◌, ◌++◌, append_assoc, append-nil}
use Prim.Native.Nat.{ℕ, zero, suc, ◌+◌, ◌-◌, ◌≤◌, ◌<◌}
use native.Mathlib.Omega.{arith}
use lib.ListN.{length, take, drop, length-append, length-drop}
use lib.Seq.{take-append-le, drop-append-le}
use Rattle.tape.specs.declared.Stage.{Stage}
use Rattle.tape.specs.declared.Stage.TheVariants.{NeedsUsername}
use Rattle.tape.specs.declared.Front.{Front}
use Rattle.tape.specs.declared.Front.TheVariants.{Field, More, End, Bad}
use Rattle.tape.specs.Tape.{meaning, later, piece, read_from, read}
use Rattle.tape.specs.Window.{answer, next_of}
use Rattle.tape.specs.Reader.{step, behind, joined, waits, streamed, streamed_all}
use Rattle.tape.proofs.Fields.{compared, size, front_long, front_cut, front_whole}
use Rattle.tape.proofs.Listing.{field}
use Rattle.tape.proofs.Sizes.{Fine, fine}

pub longer : (stage : Stage) (w more : List ℕ) (ended : Bool) → (next_of stage w false ≡ More → ⊥) → next_of stage (w ++ more) ended ≡ next_of stage w false
unfolding next_of
longer stage [] more ended h = absurd (h refl)
longer stage (tag ∷ []) more ended h = absurd (h refl)
longer stage (tag ∷ high ∷ []) more ended h = absurd (h refl)
longer stage (tag ∷ high ∷ low ∷ r) more ended h = go (compared 4096 (size high low)) (compared (length r) (size high low))
  where
    s : ℕ
    s = size high low

    go : (4096 < s) ⊎ (s ≤ 4096) → (length r < s) ⊎ (s ≤ length r)
        → next_of stage (tag ∷ high ∷ low ∷ (r ++ more)) ended ≡ next_of stage (tag ∷ high ∷ low ∷ r) false
    go (inl l) g = front_long stage tag high low (r ++ more) ended l ∙ sym (front_long stage tag high low r false l)
    go (inr l) (inl g) = absurd (h (front_cut stage tag high low r false l g))
    go (inr l) (inr g) =
        front_whole stage tag high low (r ++ more) ended l (omega (arith, length-append r more))
        ∙ ap (λ (body : List ℕ). answer (meaning stage tag body) s) (take-append-le s r more g) ∙ sym (front_whole stage tag high low r false l g)

-- one field of the definition, where there are fields enough
one_read : (m : ℕ) (stage : Stage) (at : ℕ) (w : List ℕ) (f : Front) → length w ≤ m → next_of stage w true ≡ f
    → read_from m stage at w ≡ step f at w (read_from (m - 1) (later stage) (at + behind f) (drop (behind f) w))
unfolding read_from next_of
one_read m stage at w f h e = go m w h ∙ ap (λ (x : Front). step x at w (read_from (m - 1) (later stage) (at + behind x) (drop (behind x) w))) e
  where
    go : (m : ℕ) (w : List ℕ) → length w ≤ m
        → read_from m stage at w
        ≡ step (next_of stage w true) at w
        (read_from (m - 1) (later stage) (at + behind (next_of stage w true)) (drop (behind (next_of stage w true)) w))
    go zero [] h = refl
    go zero (tag ∷ r) h = absurd (omega arith)
    go (suc m) w h =
        let f : Front = next_of stage w true in
        let k : m ≡ suc m - 1 = omega arith in
        field stage at m w ∙ ap (λ (j : ℕ). step f at w (read_from j (later stage) (at + behind f) (drop (behind f) w))) k

-- what n answers give, where n is enough
abbrev Claim : ℕ → Type 0
Claim n = (stage : Stage) (at m : ℕ) (w : List ℕ) (parts : List (List ℕ)) → length (w ++ joined parts) + length parts < n → length (w ++ joined parts) ≤ m
    → streamed n stage at w parts ≡ read_from m stage at (w ++ joined parts)

-- an answer is the same with what has not come yet behind the window
settled : (n : ℕ) → Claim n → (stage : Stage) (at m : ℕ) (w : List ℕ) (parts : List (List ℕ)) (ended : Bool) (f : Front) → Fine w ended f
    → length (w ++ joined parts) + length parts < suc n → length (w ++ joined parts) ≤ m
    → step f at w (streamed n (later stage) (at + behind f) (drop (behind f) w) parts)
    ≡ step f at (w ++ joined parts) (read_from (m - 1) (later stage) (at + behind f) (drop (behind f) (w ++ joined parts)))
settled n claim stage at m w parts ended (Field p size start len) i h g =
    let all = length-append w (joined parts) in
    let left = length-append (drop size w) (joined parts) in
    let cut = drop-append-le size w (joined parts) i.lies in
    ap₂ (piece p)
    (sym
    (ap (take len) (drop-append-le start w (joined parts) (omega (arith, i)))
    ∙ take-append-le len (drop start w) (joined parts) (omega (arith, i, length-drop start w))))
    (claim (later stage) (at + size) (m - 1) (drop size w) parts (omega (arith, i, all, left, length-drop size w)) (omega (arith, i, all, left, length-drop size w))
    ∙ ap (read_from (m - 1) (later stage) (at + size)) (sym cut))
settled n claim stage at m w parts ended More i h g = refl
settled n claim stage at m w parts ended End i h g = refl
settled n claim stage at m w parts ended Bad i h g = refl

one_more : (n : ℕ) → Claim n → Claim (suc n)
unfolding streamed
one_more n claim stage at m w [] h g =
    settled n claim stage at m w [] true (next_of stage w true) (fine stage w true) h g
    ∙ sym (one_read m stage at (w ++ []) (next_of stage w true) g (ap (λ (l : List ℕ). next_of stage l true) (append-nil w)))
one_more n claim stage at m w (p ∷ ps) h g = go (next_of stage w false) refl
  where
    all : List ℕ
    all = w ++ joined (p ∷ ps)

    settles : (f : Front) → next_of stage w false ≡ f → (f ≡ More → ⊥)
        → step f at w (streamed n (later stage) (at + behind f) (drop (behind f) w) (p ∷ ps)) ≡ read_from m stage at all
    settles f e o =
        settled n claim stage at m w (p ∷ ps) false f (subst (λ (x : Front). Fine w false x) e (fine stage w false)) h g
        ∙ sym (one_read m stage at all f g (longer stage w (joined (p ∷ ps)) true (λ x. o (sym e ∙ x)) ∙ e))

    go : (f : Front) → next_of stage w false ≡ f
        → waits f (streamed n stage at (w ++ p) ps) (step f at w (streamed n (later stage) (at + behind f) (drop (behind f) w) (p ∷ ps)))
        ≡ read_from m stage at all
    go More e =
        let a : (w ++ p) ++ joined ps ≡ all = append_assoc w p (joined ps) in
        let l = ap length a in
        claim stage at m (w ++ p) ps (omega (arith, l)) (omega (arith, l)) ∙ ap (read_from m stage at) a
    go (Field q size start len) e = settles (Field q size start len) e (λ x. cc)
    go End e = settles End e (λ x. cc)
    go Bad e = settles Bad e (λ x. cc)

enough : (n : ℕ) → Claim n
enough zero = λ stage at m w parts h g. absurd (omega arith)
enough (suc n) = one_more n (enough n)

pub streamed_read : (parts : List (List ℕ)) → streamed_all parts ≡ read (joined parts)
unfolding streamed_all read
streamed_read parts = enough (length (joined parts) + length parts + 1) NeedsUsername 0 (length (joined parts)) [] parts (omega arith) (omega arith)
