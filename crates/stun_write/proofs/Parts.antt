-- An encoded message by its parts: header, body, MESSAGE-INTEGRITY, FINGERPRINT (`encoded_is`), and where each stands, as a reader
-- finds them. The integrity's value is the one that `stun_check` compares with (`signed_value`).
use mathlib.Core.Path.{◌≡◌, refl, sym, ap, ap₂, ◌∙◌}
use mathlib.Core.Bool.{Bool, true, false}
use mathlib.Core.List.{List, [], ◌∷◌, ◌++◌, append_assoc, append-nil}
use Prim.Native.Nat.{ℕ, ◌+◌, ◌-◌, ◌/◌, ◌%◌, ◌^◌, ◌<◌}
use native.Mathlib.Omega.{arith}
use lib.ListN.{length, take, drop, replicate, length-append}
use lib.Seq.{take_at, drop_at, drop-append-add}
use Rattle.digest.specs.Bytes.{bytes, big}
use Rattle.digest.specs.Hmac.{hmac}
use Rattle.sha1_digest.specs.Rfc3174.{sha1}
use Rattle.stun_frame.specs.Source.{to_be, padding}
use Rattle.stun_check.specs.Source.{covered}
use Rattle.stun_write.specs.Source.{push_attr, attr_size, Attribute, attributes, Key, unsigned, signed, header, set_length, with_integrity, with_fingerprint, encoded, integrity, fingerprint, sealed_body}
use Rattle.stun_write.proofs.Lengths.{length-push_attr, length-header, length-hmac}

-- attributes one after the other
pub attributes_append : (a b : List Attribute) → attributes (a ++ b) ≡ attributes a ++ attributes b
attributes_append [] b = refl
attributes_append (x ∷ a) b =
    ap (λ (l : List ℕ). push_attr x.typ x.value ++ l) (attributes_append a b) ∙ sym (append_assoc (push_attr x.typ x.value) (attributes a) (attributes b))

-- an attribute at the front of the rest, as a reader takes it: its type and length, its value, what follows it
pub push_head : (t : ℕ) (v rest : List ℕ) → take 4 (push_attr t v ++ rest) ≡ to_be t ++ to_be (length v)
unfolding push_attr
push_head t v rest = refl

pub push_value : (t : ℕ) (v rest : List ℕ) (n : ℕ) → length v ≡ n → take n (drop 4 (push_attr t v ++ rest)) ≡ v
unfolding push_attr
push_value t v rest n e = ap (take n) (append_assoc v (replicate (padding (length v)) 0) rest) ∙ take_at v _ n e

pub push_rest : (t : ℕ) (v rest : List ℕ) → drop (attr_size (length v)) (push_attr t v ++ rest) ≡ rest
push_rest t v rest = drop_at (push_attr t v) rest (attr_size (length v)) (length-push_attr t v)

module _ (typ : ℕ) (id : List ℕ) (ided : length id ≡ 12) where
  behind_header : (n : ℕ) (b : List ℕ) → length (header typ n id ++ b) - 20 ≡ length b
  behind_header n b =
      let l : length (header typ n id ++ b) ≡ length (header typ n id) + length b = length-append (header typ n id) b in
      omega (arith, length-header typ n id ided)

  -- the length field after each addition is some number: the next one sets it again
  integrity_is : (n : ℕ) (b : List ℕ) (key : Key) → (k : ℕ) × (with_integrity key (header typ n id ++ b) ≡ header typ k id ++ (b ++ integrity typ id b key))
  unfolding with_integrity
  integrity_is n b unsigned = (n, rw append-nil)
  integrity_is n b (signed key) = (length b + 24, rw (behind_header n b) (append_assoc (header typ (length b + 24) id) b _))

  fingerprint_is : (n : ℕ) (b : List ℕ) (f : Bool) → (k : ℕ) × (with_fingerprint f (header typ n id ++ b) ≡ header typ k id ++ (b ++ fingerprint typ id b f))
  unfolding with_fingerprint
  fingerprint_is n b false = (n, rw append-nil)
  fingerprint_is n b true = (length b + 8, rw (behind_header n b) (append_assoc (header typ (length b + 8) id) b _))

  pub encoded_is : (body : List ℕ) (key : Key) (f : Bool)
      → encoded typ id body key f ≡ header typ (length (sealed_body typ id body key f)) id ++ sealed_body typ id body key f
  unfolding encoded
  encoded_is body key f =
      let i = integrity_is 0 body key in
      let g = fingerprint_is i.0 (body ++ integrity typ id body key) f in
      let o : with_fingerprint f (with_integrity key (header typ 0 id ++ body)) ≡ header typ g.0 id ++ sealed_body typ id body key f =
      ap (with_fingerprint f) i.1 ∙ g.1 in
      ap (λ (l : List ℕ). set_length (length l - 20) l) o
      ∙ ap (λ (k : ℕ). header typ k id ++ sealed_body typ id body key f) (behind_header g.0 (sealed_body typ id body key f))

  pub encoded_head : (body : List ℕ) (key : Key) (f : Bool) → take 20 (encoded typ id body key f) ≡ header typ (length (sealed_body typ id body key f)) id
  encoded_head body key f =
      let n : ℕ = length (sealed_body typ id body key f) in
      ap (take 20) (encoded_is body key f) ∙ take_at (header typ n id) (sealed_body typ id body key f) 20 (length-header typ n id ided)

  pub encoded_rest : (body : List ℕ) (key : Key) (f : Bool) → drop 20 (encoded typ id body key f) ≡ sealed_body typ id body key f
  encoded_rest body key f =
      let n : ℕ = length (sealed_body typ id body key f) in
      ap (drop 20) (encoded_is body key f) ∙ drop_at (header typ n id) (sealed_body typ id body key f) 20 (length-header typ n id ided)

  -- header and body, and what follows them
  abbrev additions : List ℕ → Key → Bool → List ℕ
  additions body key f = integrity typ id body key ++ fingerprint typ id (body ++ integrity typ id body key) f

  abbrev plain : List ℕ → Key → Bool → List ℕ
  plain body key f = header typ (length (sealed_body typ id body key f)) id ++ body

  length-plain : (body : List ℕ) (key : Key) (f : Bool) → length (plain body key f) ≡ 20 + length body
  length-plain body key f =
      let n : ℕ = length (sealed_body typ id body key f) in
      length-append (header typ n id) body ∙ ap (λ (k : ℕ). k + length body) (length-header typ n id ided)

  apart : (body : List ℕ) (key : Key) (f : Bool) → encoded typ id body key f ≡ plain body key f ++ additions body key f
  apart body key f =
      let h : List ℕ = header typ (length (sealed_body typ id body key f)) id in
      encoded_is body key f ∙ ap (λ (l : List ℕ). h ++ l) (append_assoc body (integrity typ id body key) _) ∙ sym (append_assoc h body (additions body key f))

  pub encoded_front : (body : List ℕ) (key : Key) (f : Bool)
      → take (20 + length body) (encoded typ id body key f) ≡ header typ (length (sealed_body typ id body key f)) id ++ body
  encoded_front body key f =
      ap (take (20 + length body)) (apart body key f) ∙ take_at (plain body key f) (additions body key f) (20 + length body) (length-plain body key f)

  pub encoded_behind : (body : List ℕ) (key : Key) (f : Bool) (k : ℕ)
      → drop (20 + length body + k) (encoded typ id body key f) ≡ drop k (integrity typ id body key ++ fingerprint typ id (body ++ integrity typ id body key) f)
  encoded_behind body key f k =
      ap (drop (20 + length body + k)) (apart body key f) ∙ ap (λ (n : ℕ). drop (n + k) (plain body key f ++ additions body key f)) (sym (length-plain body key f))
      ∙ drop-append-add (plain body key f) (additions body key f) k

  module _ (body key : List ℕ) (f : Bool) (fits : length body + 24 < 2 ^ 16) where
    -- what the check covers is what was signed
    pub covered_is : covered (encoded typ id body (signed key) f) (20 + length body) ≡ header typ (length body + 24) id ++ body
    covered_is =
        let b : List ℕ = encoded typ id body (signed key) f in
        let n : (20 + length body + 4) % 2 ^ 16 ≡ length body + 24 = omega arith in
        let hi : (length body + 24) / 256 % 256 ≡ (length body + 24) / 256 = omega arith in
        let t : take 2 b ≡ typ / 256 ∷ typ % 256 ∷ [] = ap (take 2) (encoded_is body (signed key) f) in
        let d : drop 4 (take (20 + length body) b) ≡ (0x21 ∷ 0x12 ∷ 0xA4 ∷ 0x42 ∷ []) ++ id ++ body = ap (drop 4) (encoded_front body (signed key) f) in
        ap₂ (λ (x y : List ℕ). x ++ (bytes big 2 ((20 + length body + 4) % 2 ^ 16) ++ y)) t d ∙ rw (n, hi)

    -- the 20 bytes that it compares are the code of that
    pub signed_value : take 20 (drop (20 + length body + 4) (encoded typ id body (signed key) f)) ≡ hmac sha1 key (covered (encoded typ id body (signed key) f) (20 + length body))
    signed_value =
        let mac : List ℕ = hmac sha1 key (header typ (length body + 24) id ++ body) in
        ap (take 20) (encoded_behind body (signed key) f 4) ∙ push_value 0x0008 mac _ 20 (length-hmac key (header typ (length body + 24) id ++ body))
        ∙ ap (hmac sha1 key) (sym covered_is)
