-- A row taken out by `copy_within`: those after it move down, and the last one is set.
use Rattle.std.proofs.Common.{◌≡◌, sym, ap, ap₂, ◌∙◌, List, ◌∷◌, ◌++◌, ℕ, suc, ◌+◌, ◌-◌, ◌≤◌, ◌<◌, length, take, drop, get_or, set, append_assoc, drop-cons, add-one, arith}
use Rattle.std.specs.List.{copy_within}
use Rattle.std.proofs.lemmas.List.{drop-take}
use lib.ListN.{length-append, length-take, length-drop}
use lib.Seq.{set_at}
use Rattle.turn_tables.specs.Rows.{closed}

pub taken_out : {R : Type 0} (l : List R) (i n : ℕ) (blank : R) → i < n → n ≤ length l → set (copy_within l (i + 1) n i) (n - 1) blank ≡ closed blank n l i
taken_out {R} l i n blank h s =
    let m : ℕ = n - (i + 1) in
    let k : ℕ = n - 1 in
    let q : List R = take m (drop (i + 1) l) in
    let p : List R = take i l ++ q in
    let e : i + m ≡ k = omega arith in
    let j : suc k ≡ n = omega arith in
    let f : i + 1 + m ≡ n = omega arith in
    let lp : length p ≡ k = simp (length-append, length-take, length-drop) (omega arith) in
    let rest : drop (i + m) l ≡ get_or l k blank ∷ drop (suc k) l = ap (λ (a : ℕ). drop a l) e ∙ drop-cons l k blank (omega arith) in
    let kept : q ≡ drop (suc i) (take n l) =
    sym (drop-take (i + 1) m l) ∙ ap₂ (λ (a b : ℕ). drop a (take b l)) (add-one i) f in
    ap (λ (r : List R). set (p ++ r) k blank) rest
    ∙ set_at p (get_or l k blank) (drop (suc k) l) blank k lp
    ∙ append_assoc (take i l) q (blank ∷ drop (suc k) l)
    ∙ ap₂ (λ (r : List R) (a : ℕ). take i l ++ (r ++ (blank ∷ drop a l))) kept j
