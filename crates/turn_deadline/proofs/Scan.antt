-- The least of what the rows in use have to wait for is the `min` of those that wait for something.
use Rattle.std.proofs.Common.{◌≡◌, refl, sym, ap, ◌∙◌, Bool, true, false, cond, Option, Some, None, List, [], ◌∷◌, map, ℕ, min, length, take, arith}
use Rattle.std.specs.List.{filter_map, cons_option, fold, reduce}
use Rattle.std.specs.Option.{option_map}
use Rattle.std.proofs.lemmas.Iterator.Adapters.{option_map_id}
use Rattle.std.specs.Bool.{then_some}
use Rattle.turn_state.specs.Source.{consider, least}
use Rattle.turn_state.specs.View.{held}
use Rattle.std.proofs.lemmas.List.{take_min}

fold_min : (x y : ℕ) (xs : List ℕ) → min (fold min y xs) x ≡ fold min (min x y) xs
fold_min x y [] = omega arith
fold_min x y (z ∷ zs) = let e : min (min x y) z ≡ min x (min y z) = omega arith in rw e (fold_min x (min y z) zs)

considered : (o : Option ℕ) (xs : List ℕ) → consider o (reduce min xs) ≡ reduce min (cons_option o xs)
considered None xs = refl
considered (Some x) [] = refl
considered (Some x) (y ∷ ys) = ap (λ (n : ℕ). Some n) (fold_min x y ys)

module _ {A B : Type 0} (wait : B → Option ℕ) (row : A → B) (own : A → Option ℕ) (agree : (a : A) → own a ≡ wait (row a)) where
  least_of : (l : List A) → least (map wait (map row l)) ≡ reduce min (filter_map own l)
  least_of [] = refl
  least_of (a ∷ l) =
      ap (consider (wait (row a))) (least_of l) ∙ considered (wait (row a)) (filter_map own l)
      ∙ ap (λ (o : Option ℕ). reduce min (cons_option o (filter_map own l))) (sym (agree a))

  -- of the first `len` of `room` rows
  pub least_row : (rows : List A) (len room n : ℕ) (r : Option ℕ) → length rows ≡ room → n ≡ min len room
      → option_map (λ x. x) r ≡ reduce min (filter_map own (take n rows)) → r ≡ least (map wait (map row (take len rows)))
  least_row rows len room n r full count e =
      let t : take n rows ≡ take len rows = rw (count, ← full) (take_min len rows) in
      sym (option_map_id r) ∙ e ∙ ap (λ (l : List A). reduce min (filter_map own l)) t ∙ sym (least_of (take len rows))

pub then_held : (b : Bool) (t : ℕ) → then_some b t ≡ held b t
then_held true t = refl
then_held false t = refl

pub then_cond : (b : Bool) (t : ℕ) → then_some b t ≡ cond b (Some t) None
then_cond true t = refl
then_cond false t = refl

pub map_some : {A : Type 0} (g : A → ℕ) (l : List A) → map g l ≡ filter_map (λ a. Some (g a)) l
map_some g [] = refl
map_some g (a ∷ l) = ap (λ (r : List ℕ). g a ∷ r) (map_some g l)
