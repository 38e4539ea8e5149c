-- `stun_write::seal` meets its contract, answer by answer.
use Prim.Native.Nat.{◌-◌}
use mathlib.Core.Path.{◌≡◌}
use mathlib.Core.List.{[]}
use native.Mathlib.Omega.{arith}
use lib.ListN.{take, drop}
use Rattle.stun_write.specs.Source.{encoded, key_of, sealed_size}
use Rattle.stun_write.proofs.Answers.{too_long, no_room, written, equations}
use Rattle.stun_write.proofs.Places.{sealed}
use Rattle.stun_write.proofs.seal.Goals as goal

pub returns-then-more-at : goal.returns-then-more-at
returns-then-more-at c =
    equations (too_long c.args.out.now [] (sealed_size (c.args.end - 20) c.args.signed c.args.fingerprint) (omega arith))

pub returns-then-out-at : goal.returns-then-out-at
returns-then-out-at c =
    equations (no_room c.args.out.now [] (sealed_size (c.args.end - 20) c.args.signed c.args.fingerprint) (omega arith) (omega arith))

pub returns : goal.returns
returns c =
    let out = c.args.out.now in
    let n = c.args.end - 20 in
    let m = encoded c.args.typ c.args.id (take n (drop 20 out)) (key_of c.args.signed c.args.key.now) c.args.fingerprint in
    let size : c.mark-b.result ≡ sealed_size n c.args.signed c.args.fingerprint = omega (arith, c, c.sign-a.ensures.0, c.mark-b.ensures.0) in
    equations (written out m (sealed_size n c.args.signed c.args.fingerprint) c.mark-b.result c.set_length.new.out size (omega (arith, c)) (omega (arith, c, c))
    (sealed c.args.typ n c.max-at.result c.sign-a.result c.mark-b.result c.args.id c.args.key.now out
    c.begin.new.out c.sign-a.new.out c.mark-b.new.out c.set_length.new.out c.args.signed c.args.fingerprint
    (omega (arith, c.well_formed)) (omega arith) c.sign-a.ensures.0 c.mark-b.ensures.0 (omega (arith, c, c))
    c.begin.ensures c.sign-a.ensures.1 c.mark-b.ensures.1 c.set_length.ensures))
