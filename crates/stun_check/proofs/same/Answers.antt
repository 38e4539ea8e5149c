-- `stun_check::same` meets its contract. Invariant: nothing differs so far just where as many first bytes as were looked at are the same.
use mathlib.Core.Path.{◌≡◌, refl, ap₂, ◌∙◌}
use Prim.Native.Nat.{ℕ, ◌+◌, ◌<◌}
use mathlib.Core.List.{List}
use native.Mathlib.Omega.{arith}
use borrow.Author.Rules.{rules}
use lib.ListN.{length, get_or, take, length-append}
use lib.Dec.{eqb}
use lib.Bits.{bit_or, bit_xor}
use lib.Seq.{take_all}
use Rattle.std.proofs.lemmas.Slice.Zip.{zip_turn, zip_end}
use Rattle.stun_check.specs.Source.{same}
use Rattle.stun_check.proofs.Bytes.{same_next}
use Rattle.stun_check.proofs.same.Goals as goal

-- one more pair, as the loop has it
next : (xs ys : List ℕ) (i d x y k : ℕ) → i < length xs → i < length ys → x ≡ get_or xs i 0 → y ≡ get_or ys i 0 → k ≡ i + 1
    → eqb d 0 ≡ same (take i xs) (take i ys) → eqb (bit_or d (bit_xor x y)) 0 ≡ same (take k xs) (take k ys)
next xs ys i d x y k hx hy p q r e = rw (p, q, r) (same_next xs ys i d hx hy e)

pub loop-a-init : goal.loop-a-init
loop-a-init c = refl

pub loop-a-preserved : goal.loop-a-preserved
loop-a-preserved c =
    let xs = c.args.mac.now in
    let ys = c.args.part.now in
    let n = length c.loop-a.yielded in
    let turn =
    zip_turn xs ys c.loop-a.yielded c.into_iter-a-iterator.result c.loop-a.a-iterator c.next.new.self c.next.result (search rules) (search rules) c.loop-a.yielded_by
    (c.in-Some.a, c.in-Some.b) c.in-Some.is c.next.ensures.steps in
    next xs ys n c.loop-a.differ _ _ _ turn.0 turn.1 (turn.2 0) (turn.3 0) (length-append c.loop-a.yielded _) c.loop-a.invariant

pub returns : goal.returns
returns c =
    let xs = c.args.mac.now in
    let ys = c.args.part.now in
    let end =
    zip_end xs ys c.loop-a.yielded c.into_iter-a-iterator.result c.loop-a.a-iterator c.next.new.self c.next.result (search rules) (search rules) c.loop-a.yielded_by
    c.in-None.is c.next.ensures.steps in
    c.loop-a.invariant ∙ ap₂ same (take_all (length c.loop-a.yielded) xs (omega arith)) (take_all (length c.loop-a.yielded) ys (omega arith))
