-- How long what is written is: an HMAC-SHA1, an attribute, a message with each addition.
use mathlib.Core.Path.{◌≡◌, refl, ap, ap₂, ◌∙◌}
use mathlib.Core.Bool.{Bool, true, false}
use mathlib.Core.List.{List, [], ◌∷◌, ◌++◌, flat_map}
use Prim.Native.Nat.{ℕ, zero, suc, ◌+◌, ◌-◌, ◌*◌, ◌/◌, ◌≤◌}
use native.Mathlib.Omega.{arith}
use lib.ListN.{length, length-append, length-replicate}
use lib.Seq.{length-paste}
use lib.Bits.{bit_xor}
use Rattle.digest.specs.Bytes.{bytes, big}
use Rattle.digest.specs.Digest.{padding, blocks, absorbed, result, digest}
use Rattle.digest.specs.Hmac.{hmac}
use Rattle.sha1_digest.specs.Rfc3174.{sha1, State, five, schedule, rounds, state, sums, step}
use Rattle.crc32.specs.Crc.{crc32}
use Rattle.stun_frame.specs.Source.{to_be}
use Rattle.stun_write.specs.Source.{push_attr, attr_size, key_of, header, set_length, with_integrity, with_fingerprint, encoded, integrity, fingerprint_of, fingerprint, integrity_size, fingerprint_size, sealed_size}

length-sums : (h : List ℕ) (s : State) → length (sums h s) ≡ 5
length-sums h (five A B C D E) = refl

length-step : (h m : List ℕ) → length (step h m) ≡ 5
unfolding step
length-step h m = length-sums h (rounds (schedule m) 80 (state h))

length-blocks : (n : ℕ) (h m : List ℕ) → length h ≡ 5 → length (blocks sha1 n h m) ≡ 5
length-blocks zero h m e = e
length-blocks (suc n) h m e = length-blocks n _ _ (length-step _ _)

length-absorbed : (h m : List ℕ) → length h ≡ 5 → length (absorbed sha1 h m) ≡ 5
unfolding absorbed
length-absorbed h m e = length-blocks (length m / 64) h m e

length-words : (h : List ℕ) → length (flat_map (bytes big 4) h) ≡ 4 * length h
unfolding flat_map
length-words [] = omega arith
length-words (x ∷ h) = omega (arith, length-words h)

length-digest : (m : List ℕ) → length (digest sha1 m) ≡ 20
unfolding digest result
length-digest m =
    let h : List ℕ = absorbed sha1 sha1.start (m ++ padding sha1 (length m)) in
    length-words h ∙ omega (arith, length-absorbed sha1.start (m ++ padding sha1 (length m)) refl)

pub length-hmac : (key text : List ℕ) → length (hmac sha1 key text) ≡ 20
unfolding hmac
length-hmac key text = length-digest _

pub length-push_attr : (t : ℕ) (v : List ℕ) → length (push_attr t v) ≡ attr_size (length v)
unfolding push_attr
length-push_attr t v = simp (length-append, length-replicate) (omega arith)

pub length-header : (typ n : ℕ) (id : List ℕ) → length id ≡ 12 → length (header typ n id) ≡ 20
length-header typ n id e = omega arith

pub length-set_length : (n : ℕ) (out : List ℕ) → 4 ≤ length out → length (set_length n out) ≡ length out
length-set_length n out h = length-paste out 2 (to_be n) 2 h (omega arith)

pub length-with_integrity : (sign : Bool) (key out : List ℕ) → 4 ≤ length out → length (with_integrity (key_of sign key) out) ≡ length out + integrity_size sign
unfolding with_integrity
length-with_integrity false key out h = omega arith
length-with_integrity true key out h =
    let o : List ℕ = set_length (length out - 20 + 24) out in
    let a : List ℕ = push_attr 0x0008 (hmac sha1 key o) in
    let la : length a ≡ 24 = length-push_attr 0x0008 (hmac sha1 key o) ∙ ap attr_size (length-hmac key o) in
    length-append o a ∙ ap₂ (λ (x y : ℕ). x + y) (length-set_length (length out - 20 + 24) out h) la

pub length-with_fingerprint : (fingerprint : Bool) (out : List ℕ) → 4 ≤ length out → length (with_fingerprint fingerprint out) ≡ length out + fingerprint_size fingerprint
unfolding with_fingerprint
length-with_fingerprint false out h = omega arith
length-with_fingerprint true out h =
    let o : List ℕ = set_length (length out - 20 + 8) out in
    let v : List ℕ = bytes big 4 (bit_xor (crc32 o) 0x5354554E) in
    length-append o (push_attr 0x8028 v) ∙ ap₂ (λ (x y : ℕ). x + y) (length-set_length (length out - 20 + 8) out h) (length-push_attr 0x8028 v)

pub length-encoded : (typ : ℕ) (id body key : List ℕ) (sign fingerprint : Bool) → length id ≡ 12
    → length (encoded typ id body (key_of sign key) fingerprint) ≡ sealed_size (length body) sign fingerprint
unfolding encoded
length-encoded typ id body key sign fingerprint e =
    let m : List ℕ = header typ 0 id ++ body in
    let lm : length m ≡ 20 + length body = length-append (header typ 0 id) body ∙ ap (λ (k : ℕ). k + length body) (length-header typ 0 id e) in
    let l₁ : length (with_integrity (key_of sign key) m) ≡ length m + integrity_size sign = length-with_integrity sign key m (omega arith) in
    let l₂ = length-with_fingerprint fingerprint (with_integrity (key_of sign key) m) (omega arith) in
    length-set_length _ (with_fingerprint fingerprint (with_integrity (key_of sign key) m)) (omega arith) ∙ omega arith

-- the additions by themselves
module _ (typ : ℕ) (id : List ℕ) where
  pub length-integrity : (sign : Bool) (key body : List ℕ) → length (integrity typ id body (key_of sign key)) ≡ integrity_size sign
  length-integrity false key body = refl
  length-integrity true key body =
      let m : List ℕ = header typ (length body + 24) id ++ body in
      length-push_attr 0x0008 (hmac sha1 key m) ∙ ap attr_size (length-hmac key m)

  pub length-fingerprint : (f : Bool) (before : List ℕ) → length (fingerprint typ id before f) ≡ fingerprint_size f
  length-fingerprint false before = refl
  length-fingerprint true before = length-push_attr 0x8028 (fingerprint_of typ id before)
