-- `stun_text::lossy` meets its contract. Invariant: the room holds the parts up to i, replaced, and zeros after them, and the
-- replaced text is those and the replaced rest (`Written`).
use mathlib.Core.Path.{◌≡◌, refl, sym, ap, ◌∙◌}
use mathlib.Core.List.{List}
use Prim.Native.Nat.{ℕ, ◌+◌, ◌-◌}
use native.Mathlib.Omega.{arith}
use lib.ListN.{take, drop}
use Rattle.stun_text.specs.Utf8.{replaced, replacement}
use Rattle.stun_text.proofs.Cut.{sequence_bounds, sequence_next, subpart_bounds, subpart_next}
use Rattle.stun_text.proofs.Room.{written_none, written_next, written_over, written_all}
use Rattle.stun_text.proofs.lossy.Goals as goal

-- the bytes of the part as they are lent
lent : (text : List ℕ) (from len : ℕ) → take (from + len - from) (drop from text) ≡ take len (drop from text)
lent text from len = let e : from + len - from ≡ len = omega arith in ap (λ (n : ℕ). take n (drop from text)) e

pub loop-i-init : goal.loop-i-init
loop-i-init c = (omega arith, omega arith, written_none c.args.s.now)

pub returns-then-len-n : goal.returns-then-len-n
returns-then-len-n c =
    let s = c.args.s.now in
    let i = c.loop-i.i in
    let n = c.in-Ok.n in
    let part = sym c.in-Ok.is ∙ c.part_at.ensures in
    written_over c.loop-i.invariant.1 c.loop-i.invariant.2 (take n (drop i s)) (replaced (drop (i + n) s)) (sequence_next s i n (omega arith) part)
    (omega (arith, sequence_bounds s i n (omega arith) part))

pub slice_bounds-copy_from_slice-end : goal.slice_bounds-copy_from_slice-end
slice_bounds-copy_from_slice-end c = (sequence_bounds c.args.s.now c.loop-i.i c.in-Ok.n (omega arith) (sym c.in-Ok.is ∙ c.part_at.ensures)).1

pub loop-i-preserved-in-Ok : goal.loop-i-preserved-in-Ok
loop-i-preserved-in-Ok c =
    let s = c.args.s.now in
    let i = c.loop-i.i in
    let n = c.in-Ok.n in
    let part = sym c.in-Ok.is ∙ c.part_at.ensures in
    let b = sequence_bounds s i n (omega arith) part in (
      b.1,
      omega arith,
      written_next c.loop-i.invariant.1 c.loop-i.invariant.2 (take n (drop i s)) c.copy_from_slice.new.self n _ (i + n) (c.copy_from_slice.ensures.after ∙ lent s i n)
          (omega arith) (sym b.2) (omega arith) (sequence_next s i n (omega arith) part),
    )

pub loop-i-preserved : goal.loop-i-preserved
loop-i-preserved c =
    let s = c.args.s.now in
    let i = c.loop-i.i in
    let n = c.in-Err.n in
    let part = sym c.in-Err.is ∙ c.part_at.ensures in (
      (subpart_bounds s i n (omega arith) part).1,
      omega arith,
      written_next c.loop-i.invariant.1 c.loop-i.invariant.2 replacement c.copy_from_slice-in-Err.new.self 3 _ (i + n) c.copy_from_slice-in-Err.ensures.after
          (omega arith) refl (omega arith) (subpart_next s i n (omega arith) part),
    )

pub returns : goal.returns
returns c = written_all c.loop-i.invariant.1 c.loop-i.invariant.2 c.loop-i-test.false
