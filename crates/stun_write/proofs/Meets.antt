-- What `encoded` writes is a message as RFC 8489 has it sent (`meets`): sections 5, 14, 14.5 and 14.7.
use mathlib.Core.Path.{◌≡◌, refl, sym, ap, ◌∙◌}
use mathlib.Core.Bool.{Bool, true, false}
use mathlib.Core.List.{List, [], ◌∷◌, ◌++◌}
use Prim.Native.Nat.{ℕ, ◌+◌, ◌%◌, ◌^◌, ◌≤◌, ◌<◌}
use native.Mathlib.Omega.{arith}
use lib.ListN.{length, take, drop, replicate, length-append, length-replicate}
use lib.Bits.{bit_xor, xor_lt}
use lib.Dec.{lit≤}
use lib.Seq.{take_at}
use Rattle.digest.specs.Bytes.{bytes, number, big}
use Rattle.digest.specs.Hmac.{hmac}
use Rattle.sha1_digest.specs.Rfc3174.{sha1}
use Rattle.crc32.specs.Crc.{crc32}
use Rattle.crc32.proofs.Join.{crc32_lt}
use Rattle.stun_frame.specs.Source.{padding}
use Rattle.std.specs.Prelude.{Ok}
use Rattle.stun_write.specs.Source.{push_attr, Attribute, attributes, header, encoded, integrity, fingerprint_of, fingerprint, key_of, integrity_size, fingerprint_size, sealed_size, Encoded}
use Rattle.stun_write.specs.Rfc.{Padding, Sent, sent, SentAll, none, more, Integrated, Fingerprinted, Message}
use Rattle.stun_write.proofs.Lengths.{length-push_attr, length-hmac, length-integrity, length-fingerprint, length-encoded}
use Rattle.stun_write.proofs.Parts.{encoded_is}
use Rattle.stun_write.proofs.Answers.{was_written}

pub sent_attr : (t : ℕ) (v : List ℕ) → length v < 2 ^ 16 → Sent t v (push_attr t v)
unfolding push_attr
sent_attr t v h =
    let l : length {A = ℕ} (replicate (padding (length v)) 0) ≡ padding (length v) = length-replicate (padding (length v)) 0 in
    let p : Padding v (replicate (padding (length v)) 0) = record { least = omega arith; whole = omega arith; zeros = rw l } in
    sent h p

pub sent_all : (attrs : List Attribute) → length (attributes attrs) < 2 ^ 16 → SentAll attrs (attributes attrs)
sent_all [] h = none
sent_all (a ∷ rest) h =
    let l : length (push_attr a.typ a.value ++ attributes rest) ≡ length (push_attr a.typ a.value) + length (attributes rest) = length-append (push_attr a.typ a.value) (attributes rest) in
    let n = length-push_attr a.typ a.value in
    more (sent_attr a.typ a.value (omega arith)) (sent_all rest (omega arith))

pub attributes_whole : (attrs : List Attribute) → length (attributes attrs) % 4 ≡ 0
attributes_whole [] = refl
attributes_whole (a ∷ rest) =
    let l : length (push_attr a.typ a.value ++ attributes rest) ≡ length (push_attr a.typ a.value) + length (attributes rest) = length-append (push_attr a.typ a.value) (attributes rest) in
    omega (arith, length-push_attr a.typ a.value, attributes_whole rest)

-- four bytes write a number of 32 bits
number_bytes : (x : ℕ) → x < 2 ^ 32 → number big (bytes big 4 x) ≡ x
number_bytes x h = omega arith

whole_integrity : (sign : Bool) → integrity_size sign % 4 ≡ 0
whole_integrity false = refl
whole_integrity true = refl

whole_fingerprint : (f : Bool) → fingerprint_size f % 4 ≡ 0
whole_fingerprint false = refl
whole_fingerprint true = refl

module _ (typ : ℕ) (id : List ℕ) where
  integrated : (sign : Bool) (key body : List ℕ) → Integrated typ id body (key_of sign key) (integrity typ id body (key_of sign key))
  integrated false key body = Integrated.without
  integrated true key body =
      let v : List ℕ = hmac sha1 key (header typ (length body + 24) id ++ body) in
      let l : length (body ++ push_attr 0x0008 v) ≡ length body + 24 = length-append body (push_attr 0x0008 v) ∙ ap (λ (k : ℕ). length body + k) (length-integrity typ id true key body) in
      let lv : length v ≡ 20 = length-hmac key (header typ (length body + 24) id ++ body) in
      Integrated.with (record {
        value = v;
        twenty = lv;
        attribute = sent_attr 0x0008 v (omega arith);
        code = ap (λ (k : ℕ). hmac sha1 key (header typ k id ++ body)) (sym l);
      })

  fingerprinted : (f : Bool) (before : List ℕ) → Fingerprinted typ id before f (fingerprint typ id before f)
  fingerprinted false before = Fingerprinted.without
  fingerprinted true before =
      let v : List ℕ = fingerprint_of typ id before in
      let l : length (before ++ push_attr 0x8028 v) ≡ length before + 8 = length-append before (push_attr 0x8028 v) ∙ ap (λ (k : ℕ). length before + k) (length-fingerprint typ id true before) in
      Fingerprinted.with (record {
        value = v;
        four = refl;
        attribute = sent_attr 0x8028 v (lit≤ tt);
        code = number_bytes _ (xor_lt 32 _ 0x5354554E (crc32_lt _) (lit≤ tt)) ∙ ap (λ (k : ℕ). bit_xor (crc32 (header typ k id ++ before)) 0x5354554E) (sym l);
      })

  -- where the writers do not answer that it is too long
  pub meets : (attrs : List Attribute) (key : List ℕ) (sign f : Bool) → typ < 2 ^ 14 → length id ≡ 12
      → sealed_size (length (attributes attrs)) sign f ≤ 65555 → Message typ id attrs (key_of sign key) f (encoded typ id (attributes attrs) (key_of sign key) f)
  meets attrs key sign f top ided fits =
      let body : List ℕ = attributes attrs in
      let i : List ℕ = integrity typ id body (key_of sign key) in
      let p : List ℕ = fingerprint typ id (body ++ i) f in
      let l : length (body ++ i ++ p) ≡ length body + length i + length p = simp length-append in
      let li : length i ≡ integrity_size sign = length-integrity typ id sign key body in
      let lp : length p ≡ fingerprint_size f = length-fingerprint typ id f (body ++ i) in
      record {
        body = body;
        integrity = i;
        last = p;
        attributes = sent_all attrs (omega arith);
        integrated = integrated sign key body;
        fingerprinted = fingerprinted f (body ++ i);
        parts = record { top = top; ided = ided; fits = omega arith; whole = omega (arith, attributes_whole attrs, whole_integrity sign, whole_fingerprint f) };
        whole = encoded_is typ id ided body (key_of sign key) f;
      }

  -- what `encode` leaves in front on `Ok n` is such a message, and so `seal` (`sealed_as` of Answers)
  pub left_meets : (attrs : List Attribute) (key out after : List ℕ) (sign f : Bool) (n : ℕ) → typ < 2 ^ 14 → length id ≡ 12
      → Encoded out typ id (attributes attrs) key sign f (Ok n) after → Message typ id attrs (key_of sign key) f (take n after)
  left_meets attrs key out after sign f n top ided w =
      let m : List ℕ = encoded typ id (attributes attrs) (key_of sign key) f in
      let r = was_written w in
      let l : length m ≡ n = length-encoded typ id (attributes attrs) key sign f ided ∙ sym r.1 in
      let e : take n after ≡ m = ap (take n) r.2 ∙ take_at m (drop n out) n l in
      rw e (meets attrs key sign f top ided r.0)
