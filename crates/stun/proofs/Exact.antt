-- What the lookups read, and nothing else, whatever the bytes: each answer exactly where the first attribute of the type has a value that
-- says so (`code_exact`, `seconds_exact`, `address_exact`, `text_exact`).
use mathlib.Core.Path.{◌≡◌, refl, sym, ap, subst, ◌∙◌}
use mathlib.Core.Logic.{◌↔◌, ◌⊎◌, inl, inr}
use Prim.Native.Nat.{ℕ, zero, suc, ◌+◌, ◌*◌, ◌≤◌, ◌<◌}
use native.Mathlib.Omega.{arith}
use mathlib.Core.List.{List, [], ◌∷◌}
use lib.Dec.{leb}
use lib.ListN.{length, take, drop, length-drop}
use lib.Seq.{length-take-le}
use Rattle.stun_frame.specs.Source.{field_at}
use Rattle.stun_frame.proofs.Reading.{compared}
use Rattle.stun_address.specs.declared.Address.{Address}
use Rattle.std.specs.Prelude.{Option, Some, None, Result, Ok, Err, is_ok, IfOk}
use Rattle.std.specs.Option.{option_transpose}
use Rattle.stun_address.specs.Rfc.{number}
use Rattle.stun_address.specs.Source.{decode_xor_addr}
use Rattle.stun_address.proofs.Network.{Bytes}
use Rattle.stun_address.proofs.Values.{value_read}
use Rattle.stun_address.proofs.Exact.{Formed, value_only}
use Rattle.stun_text.specs.declared.Text.{Text}
use Rattle.stun_text.specs.declared.TooLong.{TooLong}
use Rattle.stun_text.specs.Utf8.{replaced}
use Rattle.stun_text.specs.Lossy.{lossy_of}
use Rattle.stun_text.proofs.Laws.{lossy_fits, lossy_bytes}
use Rattle.stun_walk.specs.declared.Value.{Value}
use Rattle.stun_walk.specs.Source.{get_of, value_in, xor_addr_of, get_str_of, error_code_of, lifetime_of}
use Rattle.stun_walk.proofs.First.{get_inside}
use Rattle.stun_walk.proofs.Message.{looked, code_reads, lifetime_reads}
use Rattle.stun_walk.proofs.Values.{code_none, code_short, lifetime_none, lifetime_short}
use Rattle.stun.specs.Reading.{CodeIs, SecondsAre}
use Rattle.stun.proofs.Lookups.{address_by, text_by, meant_address, meant_text}

-- there is an attribute of type t, and P is true of the first one's value
pub record First (b : List ℕ) (t : ℕ) (P : List ℕ → Type 0) : Type 0 where
  pub value : List ℕ
  pub found : looked b (get_of b t) ≡ Some value
  pub says : P value

-- what a lookup can come to
data Case (b : List ℕ) (t : ℕ) : Type 0 where
  none : get_of b t ≡ None → Case b t
  short : (v : Value) → get_of b t ≡ Some v → v.len < 4 → Case b t
  some : (v : List ℕ) → looked b (get_of b t) ≡ Some v → 4 ≤ length v → Case b t

-- a value that was found lies in the message, behind its header
lies : (b : List ℕ) (t : ℕ) (v : Value) → get_of b t ≡ Some v → (24 ≤ length b) × (length (value_in b v) ≡ v.len)
lies b t v e =
    let l = get_inside b t v e in
    (omega (arith, l.0, l.1), length-take-le v.len (drop v.start b) (omega (arith, length-drop v.start b, l.1)))

case_of : (b : List ℕ) (t : ℕ) → Case b t
case_of b t = go (get_of b t) refl
  where
    go : (f : Option Value) → get_of b t ≡ f → Case b t
    go None e = none e
    go (Some v) e = by (compared v.len 4)
      where
        by : (v.len < 4) ⊎ (4 ≤ v.len) → Case b t
        by (inl h) = short v e h
        by (inr h) = some (value_in b v) (ap (looked b) e) (omega (arith, (lies b t v e).1))

-- RFC 8489 section 14.8
pub code_exact : (b : List ℕ) (n : ℕ) → (error_code_of b ≡ Some n) ↔ First b 0x0009 (CodeIs n)
code_exact b n = (only (case_of b 0x0009), λ f. code_reads b f.value f.found f.says.0 ∙ ap Some (sym f.says.1))
  where
    only : Case b 0x0009 → error_code_of b ≡ Some n → First b 0x0009 (CodeIs n)
    only (none g) e = absurd (let c = code_none b g in let z : ◌≡◌ {A = ℕ} 0 1 = cc in omega arith)
    only (short v g h) e = absurd (let c = code_short b v g h in let z : ◌≡◌ {A = ℕ} 0 1 = cc in omega arith)
    only (some v f h) e = let c = code_reads b v f h in record { value = v; found = f; says = (h, cc) }

pub code_otherwise : (b : List ℕ) → ((n : ℕ) → First b 0x0009 (CodeIs n) → ⊥) → error_code_of b ≡ None
code_otherwise b h = go (case_of b 0x0009)
  where
    go : Case b 0x0009 → error_code_of b ≡ None
    go (none g) = sym (code_none b g)
    go (short v g l) = sym (code_short b v g l)
    go (some v f l) = absurd (h _ (record { value = v; found = f; says = (l, refl) }))

first_four : (v : List ℕ) → 4 ≤ length v → field_at v 0 * 65536 + field_at v 2 ≡ number (take 4 v)
first_four [] h = absurd (omega arith)
first_four (x ∷ []) h = absurd (omega arith)
first_four (x ∷ y ∷ []) h = absurd (omega arith)
first_four (x ∷ y ∷ z ∷ []) h = absurd (omega arith)
first_four (x ∷ y ∷ z ∷ w ∷ v) h = omega arith

-- RFC 8656 section 18.2
pub seconds_exact : (b : List ℕ) (n : ℕ) → (lifetime_of b ≡ Some n) ↔ First b 0x000D (SecondsAre n)
seconds_exact b n = (
  only (case_of b 0x000D),
  λ f. lifetime_reads b f.value f.found f.says.0 ∙ ap Some (first_four f.value f.says.0 ∙ sym f.says.1),
)
  where
    only : Case b 0x000D → lifetime_of b ≡ Some n → First b 0x000D (SecondsAre n)
    only (none g) e = absurd (let c = lifetime_none b g in let z : ◌≡◌ {A = ℕ} 0 1 = cc in omega arith)
    only (short v g h) e = absurd (let c = lifetime_short b v g h in let z : ◌≡◌ {A = ℕ} 0 1 = cc in omega arith)
    only (some v f h) e =
        let c = lifetime_reads b v f h in
        let n' : n ≡ field_at v 0 * 65536 + field_at v 2 = cc in
        record { value = v; found = f; says = (h, n' ∙ first_four v h) }

pub seconds_otherwise : (b : List ℕ) → ((n : ℕ) → First b 0x000D (SecondsAre n) → ⊥) → lifetime_of b ≡ None
seconds_otherwise b h = go (case_of b 0x000D)
  where
    go : Case b 0x000D → lifetime_of b ≡ None
    go (none g) = sym (lifetime_none b g)
    go (short v g l) = sym (lifetime_short b v g l)
    go (some v f l) = absurd (h _ (record { value = v; found = f; says = (l, refl) }))

bytes_drop : (n : ℕ) (l : List ℕ) → Bytes l → Bytes (drop n l)
bytes_drop zero l h = h
bytes_drop (suc n) [] h = tt
bytes_drop (suc n) (x ∷ l) h = bytes_drop n l h.1

bytes_take : (n : ℕ) (l : List ℕ) → Bytes l → Bytes (take n l)
bytes_take zero l h = tt
bytes_take (suc n) [] h = tt
bytes_take (suc n) (x ∷ l) h = (h.0, bytes_take n l h.1)

module _ (b : List ℕ) (t : ℕ) (v : List ℕ) where
  found_bytes : Bytes b → looked b (get_of b t) ≡ Some v → Bytes v
  found_bytes bytes e = go (get_of b t) e
    where
      go : (f : Option Value) → looked b f ≡ Some v → Bytes v
      go None q = absurd (let z : ◌≡◌ {A = ℕ} 0 1 = cc in omega arith)
      go (Some w) q =
          let is : value_in b w ≡ v = cc in
          subst Bytes is (bytes_take w.len (drop w.start b) (bytes_drop w.start b bytes))

  found_long : looked b (get_of b t) ≡ Some v → 24 ≤ length b
  found_long e = go (get_of b t) refl e
    where
      go : (f : Option Value) → get_of b t ≡ f → looked b f ≡ Some v → 24 ≤ length b
      go None g q = absurd (let z : ◌≡◌ {A = ℕ} 0 1 = cc in omega arith)
      go (Some w) g q = (lies b t w g).0

abbrev pub id_of : List ℕ → List ℕ
id_of b = take 12 (drop 8 b)

-- RFC 8489 section 14.2: an address of either family under the message's id, with some first byte and anything after it (`Formed`)
pub address_exact : (b : List ℕ) → Bytes b → (t : ℕ) (addr : Address) → (xor_addr_of b t ≡ Some addr) ↔ First b t (λ v. Formed v (id_of b) addr)
unfolding xor_addr_of
address_exact b bytes t addr = (
  λ a. only (looked b (get_of b t)) refl (sym (address_by b (get_of b t)) ∙ a),
  λ f.
      address_by b (get_of b t) ∙ ap (meant_address (id_of b)) f.found ∙ ap (λ (x : List ℕ). decode_xor_addr x (id_of b)) f.says.whole
      ∙ value_read _ addr (id_of b) _ (twelve f.found) id_bytes f.says.held,
)
  where
    id_bytes : Bytes (id_of b)
    id_bytes = bytes_take 12 (drop 8 b) (bytes_drop 8 b bytes)

    twelve : {v : List ℕ} → looked b (get_of b t) ≡ Some v → length (id_of b) ≡ 12
    twelve {v} e = length-take-le 12 (drop 8 b) (omega (arith, length-drop 8 b, found_long b t v e))

    only : (m : Option (List ℕ)) → looked b (get_of b t) ≡ m → meant_address (id_of b) m ≡ Some addr → First b t (λ v. Formed v (id_of b) addr)
    only None e a = absurd (let z : ◌≡◌ {A = ℕ} 0 1 = cc in omega arith)
    only (Some v) e a =
        record { value = v; found = e; says = value_only v (id_of b) addr (found_bytes b t v bytes e) (twelve e) id_bytes a }

-- two refusals or texts that are answered alike
answered : (r s : Result Text TooLong) → option_transpose (Some r) ≡ option_transpose (Some s) → r ≡ s
answered (Ok x) (Ok y) e = cc
answered (Ok x) (Err y) e = absurd (let z : ◌≡◌ {A = ℕ} 0 1 = cc in omega arith)
answered (Err x) (Ok y) e = absurd (let z : ◌≡◌ {A = ℕ} 0 1 = cc in omega arith)
answered (Err x) (Err y) e = cc

not_none : (r : Result Text TooLong) → Ok None ≡ option_transpose (Some r) → ⊥
not_none (Ok x) e = let z : ◌≡◌ {A = ℕ} 0 1 = cc in omega arith
not_none (Err x) e = let z : ◌≡◌ {A = ℕ} 0 1 = cc in omega arith

-- a text, or that it is too long: what `lossy_of` makes of the value
pub text_exact : (b : List ℕ) (t : ℕ) (r : Result Text TooLong) → (get_str_of b t ≡ option_transpose (Some r)) ↔ First b t (λ v. r ≡ lossy_of v)
unfolding get_str_of
text_exact b t r = (
  λ a. only (looked b (get_of b t)) refl (sym (text_by b (get_of b t)) ∙ a),
  λ f. text_by b (get_of b t) ∙ ap meant_text f.found ∙ ap (λ (x : Result Text TooLong). option_transpose (Some x)) (sym f.says),
)
  where
    only : (m : Option (List ℕ)) → looked b (get_of b t) ≡ m → meant_text m ≡ option_transpose (Some r) → First b t (λ v. r ≡ lossy_of v)
    only None e a = absurd (not_none r a)
    only (Some v) e a = record { value = v; found = e; says = sym (answered (lossy_of v) r a) }

-- that is the value with U+FFFD for each maximal ill-formed subpart (the Unicode Standard, section 3.9), where that has at most 763 bytes
pub text_replaced : (b : List ℕ) (t : ℕ) (r : Result Text TooLong) → get_str_of b t ≡ option_transpose (Some r)
    → First b t (λ v. (is_ok r ≡ leb (length (replaced v)) 763) × IfOk r (λ (x : Text). take x.len x.bytes ≡ replaced v))
text_replaced b t r e =
    let f = (text_exact b t r).0 e in
    let v : List ℕ = f.value in
    record {
      value = v;
      found = f.found;
      says = (ap is_ok f.says ∙ lossy_fits v, subst (λ (x : Result Text TooLong). IfOk x (λ (y : Text). take y.len y.bytes ≡ replaced v)) (sym f.says) (lossy_bytes v));
    }
