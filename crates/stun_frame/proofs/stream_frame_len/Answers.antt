-- `stun_frame::stream_frame_len`: what the mask leaves is no more than what was there.
use Prim.Native.Nat.{◌+◌, ◌-◌, ◌^◌}
use native.Mathlib.Omega.{arith}
use lib.Bits.{and_le_l}
use Rattle.stun_frame.proofs.stream_frame_len.Goals as goal

pub overflow_add-len-in-1-2 : goal.overflow_add-len-in-1-2
overflow_add-len-in-1-2 c = omega (arith, and_le_l (c.from-len.result + 3) (2 ^ 64 - 1 - 3))
