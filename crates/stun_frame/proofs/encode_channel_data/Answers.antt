-- `stun_frame::encode_channel_data` meets its contract, answer by answer.
use mathlib.Core.Path.{◌∙◌}
use borrow.Author.Rules.{rules}
use native.Mathlib.Omega.{arith}
use Rattle.stun_frame.proofs.Writing.{wrote_long, wrote_narrow, wrote_all, equations}
use Rattle.stun_frame.proofs.encode_channel_data.Goals as goal

pub returns-then-n-gt65535 : goal.returns-then-n-gt65535
returns-then-n-gt65535 c = equations (wrote_long c.args.channel c.args.«data».now c.args.out.now (omega arith))

pub returns-then-out-total : goal.returns-then-out-total
returns-then-out-total c = equations (wrote_narrow c.args.channel c.args.«data».now c.args.out.now (omega arith) (omega arith))

pub returns : goal.returns
returns c =
    equations
    (wrote_all c.args.channel c.args.«data».now c.args.out.now c.copy_from_slice.new.self c.copy_from_slice-2.new.self c.copy_from_slice-3.new.self c.fill.new.self
    _ _ _ (search rules) (omega arith) (omega arith) (c.copy_from_slice.ensures.after ∙ c.to_be_bytes.ensures)
    (c.copy_from_slice-2.ensures.after ∙ c.to_be_bytes-2.ensures) c.copy_from_slice-3.ensures.after (omega arith) (omega arith) (search rules) (c.fill.ensures.after (λ y e. e)))
