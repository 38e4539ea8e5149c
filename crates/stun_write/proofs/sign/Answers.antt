-- `stun_write::sign` meets its contract: the length field, the code, the attribute; or nothing.
use mathlib.Core.Path.{refl}
use native.Mathlib.Omega.{arith}
use Rattle.stun_write.proofs.Places.{asked, integrity_put, integrity_left}
use Rattle.stun_write.proofs.sign.Goals as goal

pub set_length-requires : goal.set_length-requires
set_length-requires c = omega (arith, asked 24 c.if-signed.true)

pub attr-requires : goal.attr-requires
attr-requires c =
    omega (arith, asked 24 c.if-signed.true, c.digest-mac, c.set_length.auto)

pub returns-then-signed : goal.returns-then-signed
returns-then-signed c =
    rw c.if-signed.true (
      refl,
      integrity_put c.args.at c.args.out.now c.set_length.new.out c.attr.new.out c.requires.0 c.args.key.now c.digest-mac.result
          (omega (arith, asked 24 c.if-signed.true, c.requires)) c.set_length.ensures c.digest-mac.ensures c.attr.ensures,
    )

pub returns : goal.returns
returns c =
    rw c.if-signed.false (omega arith, integrity_left c.args.key.now c.args.out.now c.args.at)
