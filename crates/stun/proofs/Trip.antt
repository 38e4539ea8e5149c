-- What is written is read: the bytes of `encoded` are a message well-formed by RFC 8489 (`written_is`), so reading gives back
-- type, id and every attribute in order, integrity and FINGERPRINT behind them (`trip`).
use mathlib.Core.Path.{◌≡◌, refl, sym, ap, ap₂, subst, ◌∙◌}
use Prim.Native.Nat.{ℕ, ◌+◌, ◌%◌, ◌^◌, ◌<◌}
use native.Mathlib.Omega.{arith}
use mathlib.Core.List.{List, [], ◌∷◌, ◌++◌, map, append_assoc, append-nil}
use mathlib.Core.Bool.{Bool, true, false}
use lib.ListN.{length, replicate, length-append, length-replicate}
use Rattle.digest.specs.Hmac.{hmac}
use Rattle.sha1_digest.specs.Rfc3174.{sha1}
use Rattle.stun_frame.specs.Source.{padding}
use Rattle.stun_frame.specs.Rfc.{two, stun_message, StunParts}
use Rattle.stun_walk.specs.Rfc.{Part, AllFormed, body}
use Rattle.stun_walk.proofs.Message.{Reads, reads}
use Rattle.stun_write.specs.Source.{Attribute, Key, unsigned, signed, push_attr, attributes, header, encoded, sealed_body, integrity, fingerprint, fingerprint_of}
use Rattle.stun_write.proofs.Lengths.{length-hmac}
use Rattle.stun_write.proofs.Parts.{attributes_append, encoded_is}
use Rattle.stun.specs.Rfc.{WellFormed}

-- an attribute as it is sent: zeros pad it
abbrev pub sent : Attribute → Part
sent a = record { typ = a.typ; value = a.value; pad = replicate (padding (length a.value)) 0 }

-- a type and a value that their fields hold
pub record Fits (a : Attribute) : Type 0 where
  pub typed : a.typ < 2 ^ 16
  pub short : length a.value < 2 ^ 16

abbrev pub AllFit : List Attribute → Type 0
AllFit [] = Unit {0}
AllFit (a ∷ more) = Fits a × AllFit more

sent_formed : (l : List Attribute) → AllFit l → AllFormed (map sent l)
sent_formed [] f = tt
sent_formed (a ∷ more) f =
    let n : length (replicate {A = ℕ} (padding (length a.value)) 0) ≡ padding (length a.value) = length-replicate _ 0 in
    (record { typed = f.0.typed; short = f.0.short; least = omega arith; whole = omega arith }, sent_formed more f.1)

pub sent_body : (l : List Attribute) → attributes l ≡ body (map sent l)
unfolding push_attr
sent_body [] = refl
sent_body (a ∷ more) =
    ap (λ (x : List ℕ). two a.typ ++ (two (length a.value) ++ x))
    (append_assoc a.value (sent a).pad (attributes more) ∙ ap (λ (x : List ℕ). a.value ++ ((sent a).pad ++ x)) (sent_body more))

-- a body of formed attributes ends on a 32-bit boundary
body_whole : (parts : List Part) → AllFormed parts → length (body parts) % 4 ≡ 0
body_whole [] f = refl
body_whole (a ∷ more) f =
    let r = body_whole more f.1 in
    let n : length (body (a ∷ more)) ≡ 4 + (length a.value + (length a.pad + length (body more))) = simp length-append (omega arith) in
    omega (arith, f.0)

-- what `encode` adds, as attributes: MESSAGE-INTEGRITY under a key, then FINGERPRINT
abbrev pub signature : ℕ → List ℕ → List ℕ → Key → List Attribute
signature typ id b unsigned = []
signature typ id b (signed key) = record { typ = 0x0008; value = hmac sha1 key (header typ (length b + 24) id ++ b) } ∷ []

abbrev pub marked : ℕ → List ℕ → List ℕ → Bool → List Attribute
marked typ id b false = []
marked typ id b true = record { typ = 0x8028; value = fingerprint_of typ id b } ∷ []

-- all the attributes of a written message
abbrev pub written : ℕ → List ℕ → List Attribute → Key → Bool → List Attribute
written typ id attrs key f =
    (attrs ++ signature typ id (attributes attrs) key) ++ marked typ id (attributes attrs ++ integrity typ id (attributes attrs) key) f

module _ (typ : ℕ) (id : List ℕ) where
  signature_is : (b : List ℕ) (key : Key) → attributes (signature typ id b key) ≡ integrity typ id b key
  signature_is b unsigned = refl
  signature_is b (signed key) = append-nil _

  marked_is : (b : List ℕ) (f : Bool) → attributes (marked typ id b f) ≡ fingerprint typ id b f
  marked_is b false = refl
  marked_is b true = append-nil _

  sealed_is : (attrs : List Attribute) (key : Key) (f : Bool) → sealed_body typ id (attributes attrs) key f ≡ attributes (written typ id attrs key f)
  sealed_is attrs key f =
      let b : List ℕ = attributes attrs in
      sym
      (attributes_append (attrs ++ signature typ id b key) (marked typ id (b ++ integrity typ id b key) f)
      ∙ ap₂ (λ (x y : List ℕ). x ++ y)
      (attributes_append attrs (signature typ id b key) ∙ ap (λ (x : List ℕ). b ++ x) (signature_is b key))
      (marked_is (b ++ integrity typ id b key) f))

  fit_append : (a b : List Attribute) → AllFit a → AllFit b → AllFit (a ++ b)
  fit_append [] b f g = g
  fit_append (x ∷ a) b f g = (f.0, fit_append a b f.1 g)

  signature_fits : (b : List ℕ) (key : Key) → AllFit (signature typ id b key)
  signature_fits b unsigned = tt
  signature_fits b (signed key) =
      (record { typed = omega arith; short = omega (arith, length-hmac key (header typ (length b + 24) id ++ b)) }, tt)

  marked_fits : (b : List ℕ) (f : Bool) → AllFit (marked typ id b f)
  marked_fits b false = tt
  marked_fits b true = (record { typed = omega arith; short = omega arith }, tt)

  all_fit : (attrs : List Attribute) (key : Key) (f : Bool) → AllFit attrs → AllFit (written typ id attrs key f)
  all_fit attrs key f h =
      fit_append (attrs ++ signature typ id (attributes attrs) key) _ (fit_append attrs _ h (signature_fits (attributes attrs) key))
      (marked_fits (attributes attrs ++ integrity typ id (attributes attrs) key) f)

-- a message that can be written: a type without top bits, an id of 12 bytes, attributes and additions that the length field holds
pub record Writable (typ : ℕ) (id : List ℕ) (attrs : List Attribute) (key : Key) (f : Bool) : Type 0 where
  pub top : typ < 2 ^ 14
  pub ided : length id ≡ 12
  pub fit : AllFit attrs
  pub room : length (sealed_body typ id (attributes attrs) key f) < 2 ^ 16

module _ (typ : ℕ) (id : List ℕ) (attrs : List Attribute) (key : Key) (f : Bool) (w : Writable typ id attrs key f) where
  abbrev pub parts : List Part
  parts = map sent (written typ id attrs key f)

  pub formed : AllFormed parts
  formed = sent_formed (written typ id attrs key f) (all_fit typ id attrs key f w.fit)

  pub body_is : sealed_body typ id (attributes attrs) key f ≡ body parts
  body_is = sealed_is typ id attrs key f ∙ sent_body (written typ id attrs key f)

  good : StunParts typ id (body parts)
  good = record { top = w.top; ided = w.ided; fits = rw body_is at w.room; whole = body_whole parts formed }

  -- it is the message that RFC 8489 writes from its attributes
  pub written_is : encoded typ id (attributes attrs) key f ≡ stun_message typ id (body parts)
  written_is = encoded_is typ id w.ided (attributes attrs) key f ∙ ap (stun_message typ id) body_is

  pub well_formed : WellFormed (encoded typ id (attributes attrs) key f) typ id parts
  well_formed = record { header = good; attributes = formed; whole = written_is }

  -- with anything after it, reading gives back type, id and every attribute in order
  pub trip : (after : List ℕ) → Reads (encoded typ id (attributes attrs) key f ++ after) typ id parts
  trip after = subst (λ (m : List ℕ). Reads (m ++ after) typ id parts) (sym written_is) (reads typ id after parts good formed)
