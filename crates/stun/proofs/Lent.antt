-- The same for the room that `encode` and `seal` leave: where they answer `Ok n`, the room reads as the message (`left_reads`), and
-- the check passes on its first n bytes (`left_passes`).
use mathlib.Core.Path.{◌≡◌, sym, ap, subst, ◌∙◌}
use Prim.Native.Nat.{ℕ, ◌+◌, ◌^◌, ◌<◌}
use native.Mathlib.Omega.{arith}
use mathlib.Core.List.{List, ◌++◌, map}
use mathlib.Core.Bool.{Bool, true}
use lib.ListN.{length, take, drop, length-append}
use lib.Seq.{take_at}
use Rattle.std.specs.Prelude.{Ok}
use Rattle.stun_check.specs.Source.{verified}
use Rattle.stun_walk.specs.Rfc.{value_of}
use Rattle.std.specs.Prelude.{None}
use Rattle.stun_walk.proofs.Message.{Reads}
use Rattle.stun_write.specs.Source.{Attribute, key_of, attributes, encoded, sealed_body, integrity, fingerprint, Encoded}
use Rattle.stun_write.proofs.Lengths.{length-integrity, length-fingerprint, length-encoded}
use Rattle.stun_write.proofs.Answers.{was_written}
use Rattle.stun.proofs.Trip.{AllFit, Writable, parts, sent, trip}
use Rattle.stun.proofs.Check.{passes}

module _ (typ : ℕ) (id : List ℕ) (attrs : List Attribute) (key : List ℕ) (f : Bool) (top : typ < 2 ^ 14) (ided : length id ≡ 12) (fit : AllFit attrs)
    (out after : List ℕ) (n : ℕ) where
  -- an answer `Bytes` says that the length field holds the length
  pub writable : (sign : Bool) → Encoded out typ id (attributes attrs) key sign f (Ok n) after → Writable typ id attrs (key_of sign key) f
  writable sign w =
      let b : List ℕ = attributes attrs in
      let i : List ℕ = integrity typ id b (key_of sign key) in
      let l : length (sealed_body typ id b (key_of sign key) f) ≡ length b + length i + length (fingerprint typ id (b ++ i) f) = simp length-append in
      let s = (was_written w).0 in
      record { top = top; ided = ided; fit = fit; room = omega (arith, length-integrity typ id sign key b, length-fingerprint typ id f (b ++ i)) }

  pub left_reads : (sign : Bool) (w : Encoded out typ id (attributes attrs) key sign f (Ok n) after)
      → Reads after typ id (parts typ id attrs (key_of sign key) f (writable sign w))
  left_reads sign w =
      subst (λ (m : List ℕ). Reads m typ id (parts typ id attrs (key_of sign key) f (writable sign w))) (sym (was_written w).2)
      (trip typ id attrs (key_of sign key) f (writable sign w) (drop n out))

  pub left_passes : Encoded out typ id (attributes attrs) key true f (Ok n) after → value_of 0x0008 (map sent attrs) ≡ None → verified (take n after) key ≡ true
  left_passes w u =
      let m : List ℕ = encoded typ id (attributes attrs) (key_of true key) f in
      let l : length m ≡ n = length-encoded typ id (attributes attrs) key true f ided ∙ sym (was_written w).1 in
      let t : take n after ≡ m = ap (take n) (was_written w).2 ∙ take_at m (drop n out) n l in
      rw t (passes typ id attrs key f (writable true w) u)
