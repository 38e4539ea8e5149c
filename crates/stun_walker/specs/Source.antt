-- One turn of `Message::decode`'s loop of stun.rs: what stands at a place of a message (`step_of`). Then what a walk by such
-- steps meets: the attributes in order (`steps`), and the places it comes to (`Reached`).
use Rattle.std.specs.Prelude.{◌≡◌, ℕ, zero, suc, ◌+◌, List, [], ◌∷◌, cond, ◌&&◌, length, leb}
use Rattle.stun_frame.specs.Source.{field_at}
use Rattle.stun_walk.specs.Source.{padded, Attribute as «Found»}
use Rattle.stun_walker.specs.declared.Step.{Step}
use Rattle.stun_walker.specs.declared.Step.TheVariants.{Attribute, Past, Done}

-- while p + 4 <= 20 + len, with a header inside the buffer: buf.get(p + 4..p + 4 + l)?, and on to p + 4 + l.div_ceil(4) * 4
unfoldable pub step_of : List ℕ → ℕ → Step
step_of buf p =
    cond (leb (p + 4) (20 + field_at buf 2) && leb (p + 4) (length buf))
    (cond (leb (p + 4 + field_at buf (p + 2)) (length buf))
    (Attribute (field_at buf p) (p + 4) (field_at buf (p + 2)) (p + 4 + padded (field_at buf (p + 2))))
    Past)
    Done

-- the attribute that a step at p met, and what follows it
abbrev pub met : (ℕ → List «Found») → ℕ → Step → List «Found»
met rest p (Attribute typ start len next) = record { at = p; typ = typ; len = len } ∷ rest next
met rest p Past = []
met rest p Done = []

-- at most n steps from p on
unfoldable pub steps : ℕ → List ℕ → ℕ → List «Found»
steps zero buf p = []
steps (suc n) buf p = met (λ q. steps n buf q) p (step_of buf p)

-- the places that a walk comes to: 20, and from each that of the next attribute
pub data Reached (buf : List ℕ) : ℕ → Type 0 where
  start : Reached buf 20
  onward : {p typ from len next : ℕ} → Reached buf p → step_of buf p ≡ Attribute typ from len next → Reached buf next
