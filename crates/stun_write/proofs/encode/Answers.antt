-- `stun_write::encode` meets its contract, answer by answer.
use lib.ListN.{length}
use mathlib.Core.List.{[]}
use mathlib.Core.Path.{refl}
use native.Mathlib.Omega.{arith}
use Rattle.std.proofs.lemmas.Slice.{put_mid-paste}
use Rattle.stun_write.specs.Source.{sealed_size}
use Rattle.stun_write.proofs.Answers.{too_long, no_room, copied, equations, from_equations}
use Rattle.stun_write.proofs.encode.Goals as goal

pub returns-then-more-n : goal.returns-then-more-n
returns-then-more-n c =
    equations (too_long c.args.out.now [] (sealed_size (length c.args.body.now) c.args.signed c.args.fingerprint) (omega arith))

pub returns-then-out-n : goal.returns-then-out-n
returns-then-out-n c =
    equations (no_room c.args.out.now [] (sealed_size (length c.args.body.now) c.args.signed c.args.fingerprint) (omega arith) (omega arith))

pub returns : goal.returns
returns c =
    equations (copied c.args.out.now _ c.args.body.now c.args.id c.args.key.now c.seal.new.out c.args.typ c.args.signed c.args.fingerprint c.seal.result
    (put_mid-paste 20 _ c.args.out.now c.copy_from_slice.new.self c.args.body.now (length c.args.body.now) c.copy_from_slice.ensures.after (omega arith) refl) (omega (arith, c)) (omega (arith, c)) (from_equations c.seal.ensures))
