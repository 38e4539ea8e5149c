-- `stun_write::mark` meets its contract: the length field, the checksum, the attribute; or nothing.
use mathlib.Core.Path.{refl}
use native.Mathlib.Omega.{arith}
use Rattle.stun_write.proofs.Places.{asked, fingerprint_put, fingerprint_left}
use Rattle.stun_write.proofs.mark.Goals as goal

pub set_length-requires : goal.set_length-requires
set_length-requires c = omega (arith, asked 8 c.if-fingerprint.true)

pub attr-requires : goal.attr-requires
attr-requires c =
    omega (arith, asked 8 c.if-fingerprint.true, c.word_bytes-crc, c.set_length.auto)

pub returns-then-fingerprint : goal.returns-then-fingerprint
returns-then-fingerprint c =
    rw c.if-fingerprint.true (
      refl,
      fingerprint_put c.args.at c.args.out.now c.set_length.new.out c.attr.new.out c.requires.0 c.word_bytes-crc.result c.digest.result
          (omega (arith, asked 8 c.if-fingerprint.true, c.requires)) c.set_length.ensures c.digest.ensures c.word_bytes-crc.ensures c.attr.ensures,
    )

pub returns : goal.returns
returns c =
    rw c.if-fingerprint.false (omega arith, fingerprint_left c.args.out.now c.args.at)
