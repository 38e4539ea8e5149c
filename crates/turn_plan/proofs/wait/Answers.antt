-- `turn_plan::wait` meets its contract: from the fourth sending on the power is 8 or more.
use native.Mathlib.Nat.{pow-le-pow_right}
use Prim.Native.Nat.{◌+◌, ◌-◌, ◌^◌, ◌≤◌}
use native.Mathlib.Omega.{arith}
use Rattle.turn_plan.proofs.wait.Goals as goal

pub returns-in_default : goal.returns-in_default
returns-in_default c =
    let t = c.args.tries in
    let h : 8 ≤ 2 ^ (t + 1 - 1) = pow-le-pow_right {n = 2} (omega arith) {i = 3} {j = t + 1 - 1} (omega arith) in
    (omega (arith, h), omega arith)
