-- What is signed is found to be signed: every message that `encode` writes under a key is signed under it by RFC 8489 (`written_signed`), so
-- the check of `verify` passes on it under the same key (`passes`), when none of its own attributes is a MESSAGE-INTEGRITY.
use mathlib.Core.Path.{◌≡◌, refl, sym, ap, ap₂, subst, ◌∙◌}
use Prim.Native.Nat.{ℕ, ◌+◌}
use mathlib.Core.List.{List, [], ◌∷◌, ◌++◌, map, map-append, append_assoc, append-nil}
use mathlib.Core.Bool.{Bool, true}
use lib.ListN.{length, length-append}
use Rattle.digest.specs.Hmac.{hmac}
use Rattle.sha1_digest.specs.Rfc3174.{sha1}
use Rattle.stun_walk.specs.Rfc.{Part, body, value_of}
use Rattle.std.specs.Prelude.{None}
use Rattle.stun_check.specs.Source.{verified}
use Rattle.stun_write.specs.Source.{Attribute, signed, attributes, header, encoded, integrity}
use Rattle.stun_write.specs.Rfc.{up_to}
use Rattle.stun_write.proofs.Lengths.{length-hmac, length-integrity}
use Rattle.stun.specs.Rfc.{WellFormed}
use Rattle.stun.specs.Signed.{Signed}
use Rattle.stun.proofs.Trip.{Writable, written, marked, sent, sent_body, well_formed}
use Rattle.stun.proofs.Signed.{signed_passes}

module _ (typ : ℕ) (id : List ℕ) (attrs : List Attribute) (key : List ℕ) (f : Bool) (w : Writable typ id attrs (signed key) f)
    (u : value_of 0x0008 (map sent attrs) ≡ None) where
  abbrev message : List ℕ
  message = encoded typ id (attributes attrs) (signed key) f

  abbrev code : List ℕ
  code = hmac sha1 key (header typ (length (attributes attrs) + 24) id ++ attributes attrs)

  -- the attributes given, MESSAGE-INTEGRITY, and what may follow it
  abbrev mine : Attribute
  mine = record { typ = 0x0008; value = code }

  abbrev later : List Attribute
  later = marked typ id (attributes attrs ++ integrity typ id (attributes attrs) (signed key)) f

  shape : map sent (written typ id attrs (signed key) f) ≡ map sent attrs ++ (sent mine ∷ map sent later)
  shape = ap (map sent) (append_assoc attrs (mine ∷ []) later) ∙ map-append sent attrs (mine ∷ later)

  covers : header typ (length (attributes attrs) + 24) id ++ attributes attrs ≡ up_to typ id (body (map sent attrs)) (body (sent mine ∷ []))
  covers =
      let own : length (body (sent mine ∷ [])) ≡ 24 = ap length (sym (sent_body (mine ∷ [])) ∙ append-nil (integrity typ id (attributes attrs) (signed key))) ∙ length-integrity typ id true key (attributes attrs) in
      let n : length (body (map sent attrs) ++ body (sent mine ∷ [])) ≡ length (attributes attrs) + 24 =
      length-append (body (map sent attrs)) _ ∙ ap₂ (λ (x y : ℕ). x + y) (ap length (sym (sent_body attrs))) own in
      ap₂ (λ (k : ℕ) (l : List ℕ). header typ k id ++ l) (sym n) (sent_body attrs)

  pub written_signed : Signed key message
  written_signed =
      record {
        typ = typ;
        id = id;
        before = map sent attrs;
        mine = sent mine;
        after = map sent later;
        message = subst (λ (l : List Part). WellFormed message typ id l) shape (well_formed typ id attrs (signed key) f w);
        first = u;
        typed = refl;
        twenty = length-hmac key (header typ (length (attributes attrs) + 24) id ++ attributes attrs);
        code = ap (hmac sha1 key) covers;
      }

  pub passes : verified message key ≡ true
  passes = ap (λ (l : List ℕ). verified l key) (sym (append-nil message)) ∙ signed_passes written_signed []
