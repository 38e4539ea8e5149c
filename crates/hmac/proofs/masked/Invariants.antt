-- The first bytes are masked, and the others wait.
use Rattle.std.proofs.Common.{◌≡◌, ◌++◌, take, drop, map, bit_xor}
use Rattle.hmac.proofs.masked.Given as goal

abbrev pub invariant-loop-x : goal.invariant-loop-x
invariant-loop-x l = l.x-items ≡ map (λ x. bit_xor x l.b) (take l.x-index l.fn.block) ++ drop l.x-index l.fn.block
