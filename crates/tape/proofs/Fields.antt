-- The front of a window that has a field's head, by its length: too long, cut, or whole.
use mathlib.Core.Path.{◌≡◌, refl}
use mathlib.Core.Bool.{Bool, true, false}
use mathlib.Core.Logic.{◌⊎◌, inl, inr}
use mathlib.Core.List.{List, [], ◌∷◌}
use Prim.Native.Nat.{ℕ, ◌≤◌, ◌<◌}
use native.Mathlib.Omega.{arith}
use borrow.Author.Tests.{ltb-true, ltb-false}
use lib.ListN.{length, take}
use lib.Dec.{ltb}
use Rattle.stun_address.specs.Source.{from_be}
use Rattle.tape.specs.declared.Stage.{Stage}
use Rattle.tape.specs.declared.Front.TheVariants.{Bad}
use Rattle.tape.specs.Tape.{meaning}
use Rattle.tape.specs.Window.{cut, answer, next_of}
use Rattle.std.proofs.lemmas.Bool.Decides.{nat_tests}

pub compared : (a b : ℕ) → (a < b) ⊎ (b ≤ a)
compared a b = go (ltb a b) refl
  where
    go : (t : Bool) → ltb a b ≡ t → (a < b) ⊎ (b ≤ a)
    go true e = inl (ltb-true a b e)
    go false e = inr (ltb-false a b e)

-- the length that two bytes write
abbrev pub size : ℕ → ℕ → ℕ
size high low = from_be (high ∷ low ∷ [])

module _ (stage : Stage) (tag high low : ℕ) (r : List ℕ) (ended : Bool) where
  pub front_long : 4096 < size high low → next_of stage (tag ∷ high ∷ low ∷ r) ended ≡ Bad
  unfolding next_of
  front_long h = grind (arith, nat_tests)

  pub front_cut : size high low ≤ 4096 → length r < size high low → next_of stage (tag ∷ high ∷ low ∷ r) ended ≡ cut ended
  unfolding next_of
  front_cut h g = grind (arith, nat_tests)

  pub front_whole : size high low ≤ 4096 → size high low ≤ length r
      → next_of stage (tag ∷ high ∷ low ∷ r) ended ≡ answer (meaning stage tag (take (size high low) r)) (size high low)
  unfolding next_of
  front_whole h g = grind (arith, nat_tests)
