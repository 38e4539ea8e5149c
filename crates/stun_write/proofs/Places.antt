-- What each step of the writers leaves in the room, over lists: a part put where the last one ended, a part put over what stands,
-- the header, an attribute, MESSAGE-INTEGRITY and FINGERPRINT at their place.
use mathlib.Core.Path.{◌≡◌, refl, sym, ap, ap₂, ◌∙◌}
use mathlib.Core.Bool.{Bool, true, false, cond}
use mathlib.Core.List.{List, ◌++◌, append_assoc}
use Prim.Native.Nat.{ℕ, ◌+◌, ◌-◌, ◌^◌, ◌≤◌, ◌<◌}
use native.Mathlib.Nat.{add-sub_of_le, sub-zero, add-zero}
use native.Mathlib.Omega.{arith}
use lib.ListN.{length, take, drop, replicate, length-append, take-append-drop, length-drop}
use lib.Bits.{bit_xor}
use borrow.Rule.Slice.PartMut.{put_mid}
use Rattle.std.specs.Int.{w16, to_be_bytes}
use Rattle.stun_frame.proofs.Writing.{next, two_bytes}
use lib.Seq.{paste, take_at, drop_at, drop-append-add, take-append-add, take-append-le, drop-append-le, drop-drop, take-take, take-add, length-take-le, length_paste_head}
use Rattle.digest.specs.Bytes.{bytes, big}
use Rattle.digest.specs.Hmac.{hmac}
use Rattle.sha1_digest.specs.Rfc3174.{sha1}
use Rattle.crc32.specs.Crc.{crc32}
use Rattle.stun_frame.specs.Source.{to_be, padding}
use Rattle.stun_write.specs.Source.{push_attr, attr_size, header, set_length, key_of, with_integrity, with_fingerprint, encoded, integrity_size, fingerprint_size}
use Rattle.stun_write.proofs.Lengths.{length-hmac, length-with_integrity, length-with_fingerprint, length-header}

-- the size of an addition that is asked for
pub asked : {b : Bool} (k : ℕ) → b ≡ true → cond b k 0 ≡ k
asked k e = rw e

-- what lies behind a part that was put over the front
pub behind : (m o : List ℕ) (a k : ℕ) → length m ≡ a → drop (a + k) (m ++ drop a o) ≡ drop (a + k) o
behind m o a k e = ap (λ (n : ℕ). drop (n + k) (m ++ drop a o)) (sym e) ∙ drop-append-add m (drop a o) k ∙ drop-drop k a o

drop_take : (j m : ℕ) (d : List ℕ) → j ≤ length d → drop j (take (j + m) d) ≡ take m (drop j d)
drop_take j m d h = rw take-add (drop_at (take j d) (take m (drop j d)) j (length-take-le j d h))

-- a part put over what stands before k
module _ (d : List ℕ) (at : ℕ) (s : List ℕ) (k : ℕ) (within : at + length s ≤ k) (fits : k ≤ length d) where
  abbrev front : List ℕ
  front = take at d ++ take (length s) s

  front_length : length front ≡ at + length s
  front_length = length_paste_head d at s (length s) (omega arith) (omega arith)

  abbrev rest : ℕ
  rest = k - (at + length s)

  sum : at + length s + rest ≡ k
  sum = add-sub_of_le within

  pub take_past : take k (paste d at s (length s)) ≡ paste (take k d) at s (length s)
  take_past =
      ap (λ (n : ℕ). take n (paste d at s (length s))) (sym (ap (λ (n : ℕ). n + rest) front_length ∙ sum))
      ∙ take-append-add front (drop (at + length s) d) rest
      ∙ ap₂ (λ (a b : List ℕ). a ++ take (length s) s ++ b) (sym (take-take at k d (omega arith)))
      (sym (drop_take (at + length s) rest d (omega arith)) ∙ ap (λ (n : ℕ). drop (at + length s) (take n d)) sum)

  pub drop_past : drop k (paste d at s (length s)) ≡ drop k d
  drop_past =
      ap (λ (n : ℕ). drop n (paste d at s (length s))) (sym sum) ∙ behind front d (at + length s) rest front_length ∙ ap (λ (n : ℕ). drop n d) sum

-- the four parts of an attribute
pub attr_put : (t : ℕ) (v out h l d z : List ℕ) (at j₁ j₂ k m r : ℕ) → t < 2 ^ 16 → length v ≤ 65535 → at ≤ length out
    → h ≡ to_be_bytes w16 t → l ≡ to_be_bytes w16 (length v) → d ≡ v → z ≡ replicate r 0 → j₁ ≡ 2 → j₂ ≡ 2 → k ≡ length v → m ≡ padding (length v) → r ≡ m
    → put_mid (at + 4 + length v) m (put_mid (at + 4) k (put_mid (at + 2) j₂ (put_mid at j₁ out h) l) d) z
    ≡ take at out ++ push_attr t v ++ drop (at + attr_size (length v)) out
unfolding push_attr
attr_put t v out h l d z at j₁ j₂ k m r f g le eh el ed ez e₁ e₂ ek em er =
    let s : List ℕ = take at out in
    let n : length s ≡ at = length-take-le at out le in
    let eh' : h ≡ to_be t = eh ∙ two_bytes t f in
    let el' : l ≡ to_be (length v) = el ∙ two_bytes (length v) (omega arith) in
    let nh : length h ≡ 2 = ap length eh' in
    let nl : length l ≡ 2 = ap length el' in
    let nd : length d ≡ length v = ap length ed in
    let ez' : z ≡ replicate (padding (length v)) 0 = ez ∙ ap (λ (i : ℕ). replicate i 0) (er ∙ em) in
    let p : put_mid (at + 4 + length v) m (put_mid (at + 4) k (put_mid (at + 2) j₂ (put_mid at j₁ out h) l) d) z
    ≡ (s ++ h ++ l ++ d ++ z) ++ drop m (drop k (drop j₂ (drop j₁ (drop at out)))) =
    next (s ++ h ++ l ++ d) _ z _ (at + 4 + length v) m
    (next (s ++ h ++ l) _ d _ (at + 4) k
    (next (s ++ h) _ l _ (at + 2) j₂ (next s (drop at out) h out at j₁ (sym (take-append-drop at out)) n) (rw (length-append, n, nh)))
    (rw (length-append, length-append, n, nh, nl) (omega arith)))
    (rw (length-append, length-append, length-append, n, nh, nl, nd) (omega arith)) in
    let q : drop m (drop k (drop j₂ (drop j₁ (drop at out)))) ≡ drop (at + attr_size (length v)) out =
    rw (drop-drop, drop-drop, drop-drop, drop-drop) (ap (λ (i : ℕ). drop i out) (omega arith)) in
    let w : s ++ h ++ l ++ d ++ z ≡ s ++ (h ++ l ++ d ++ z) = simp append_assoc in
    p ∙ ap₂ {C = List ℕ} (λ x y. x ++ y) w q ∙ rw (eh', el', ed, ez')

-- the length field is set in front of what stands at `at`, and a part follows
appended : (n at k : ℕ) (a out o₁ o₂ : List ℕ) → 4 ≤ at → at ≤ length out → o₁ ≡ set_length n out → o₂ ≡ take at o₁ ++ a ++ drop (at + k) o₁ → at + k ≤ length out
    → o₂ ≡ set_length n (take at out) ++ a ++ drop (at + k) out
appended n at k a out o₁ o₂ h g p q w =
    q ∙ ap₂ (λ (x y : List ℕ). x ++ a ++ y) (ap (take at) p ∙ take_past out 2 (to_be n) at h g)
    (ap (drop (at + k)) p ∙ drop_past out 2 (to_be n) (at + k) (omega arith) w)

front_is : (n at : ℕ) (out o₁ : List ℕ) → 4 ≤ at → at ≤ length out → o₁ ≡ set_length n out → take (at - 0) (drop 0 o₁) ≡ set_length n (take at out)
front_is n at out o₁ h g p = ap (λ (k : ℕ). take k o₁) (sub-zero at) ∙ ap (take at) p ∙ take_past out 2 (to_be n) at h g

-- nothing is added where it is not asked for
pub integrity_left : (key out : List ℕ) (at : ℕ) → out ≡ with_integrity (key_of false key) (take at out) ++ drop (at + integrity_size false) out
unfolding with_integrity
integrity_left key out at = sym (rw add-zero (take-append-drop at out))

pub fingerprint_left : (out : List ℕ) (at : ℕ) → out ≡ with_fingerprint false (take at out) ++ drop (at + fingerprint_size false) out
unfolding with_fingerprint
fingerprint_left out at = sym (rw add-zero (take-append-drop at out))

-- the length field counts the attribute, the code is taken of all before it, and the attribute follows
module _ (at : ℕ) (out o₁ o₂ : List ℕ) (from : 20 ≤ at) where
  added_put : (k t : ℕ) (f : List ℕ → List ℕ) (value : List ℕ) → ((m : List ℕ) → attr_size (length (f m)) ≡ k) → at + k ≤ length out
      → o₁ ≡ set_length (at - 20 + k) out → value ≡ f (take (at - 0) (drop 0 o₁)) → o₂ ≡ take at o₁ ++ push_attr t value ++ drop (at + attr_size (length value)) o₁
      → o₂ ≡ set_length (length (take at out) - 20 + k) (take at out) ++ push_attr t (f (set_length (length (take at out) - 20 + k) (take at out))) ++ drop (at + k) out
  added_put k t f value lf w p q r =
      let l : length (take at out) ≡ at = length-take-le at out (omega arith) in
      let m : take (at - 0) (drop 0 o₁) ≡ set_length (at - 20 + k) (take at out) = front_is (at - 20 + k) at out o₁ (omega arith) (omega arith) p in
      let c : value ≡ f (set_length (at - 20 + k) (take at out)) = q ∙ ap f m in
      let s : attr_size (length value) ≡ k = ap (λ (x : List ℕ). attr_size (length x)) c ∙ lf _ in
      appended (at - 20 + k) at k (push_attr t value) out o₁ o₂ (omega arith) (omega arith) p (r ∙ ap (λ (n : ℕ). take at o₁ ++ push_attr t value ++ drop (at + n) o₁) s) w
      ∙ rw (c, l)

  pub integrity_put : (key mac : List ℕ) → at + 24 ≤ length out → o₁ ≡ set_length (at - 20 + 24) out → mac ≡ hmac sha1 key (take (at - 0) (drop 0 o₁))
      → o₂ ≡ take at o₁ ++ push_attr 0x0008 mac ++ drop (at + attr_size (length mac)) o₁
      → o₂ ≡ with_integrity (key_of true key) (take at out) ++ drop (at + 24) out
  unfolding with_integrity
  integrity_put key mac w p q r = added_put 24 0x0008 (hmac sha1 key) mac (λ m. ap attr_size (length-hmac key m)) w p q r

  pub fingerprint_put : (value : List ℕ) (crc : ℕ) → at + 8 ≤ length out → o₁ ≡ set_length (at - 20 + 8) out → crc ≡ crc32 (take (at - 0) (drop 0 o₁))
      → value ≡ bytes big 4 (bit_xor crc 0x5354554E) → o₂ ≡ take at o₁ ++ push_attr 0x8028 value ++ drop (at + attr_size (length value)) o₁
      → o₂ ≡ with_fingerprint true (take at out) ++ drop (at + 8) out
  unfolding with_fingerprint
  fingerprint_put value crc w p q v r =
      let masked : ℕ → List ℕ = λ (x : ℕ). bytes big 4 (bit_xor x 0x5354554E) in
      added_put 8 0x8028 (λ m. masked (crc32 m)) value (λ m. refl) w p (v ∙ ap masked q) r

-- the length field of a message in front of the rest
set_front : (n : ℕ) (m r : List ℕ) → 4 ≤ length m → set_length n (m ++ r) ≡ set_length n m ++ r
set_front n m r h =
    ap₂ (λ (x y : List ℕ). x ++ to_be n ++ y) (take-append-le 2 m r (omega arith)) (drop-append-le 4 m r h) ∙ sym (append_assoc (take 2 m ++ to_be n) (drop 4 m) r)

-- header, integrity, FINGERPRINT and length around n bytes of attributes
pub sealed : (typ n at a b : ℕ) (id key out o₁ o₂ o₃ o₄ : List ℕ) (sign fingerprint : Bool) → length id ≡ 12 → at ≡ 20 + n → a ≡ at + integrity_size sign
    → b ≡ a + fingerprint_size fingerprint → b ≤ length out → o₁ ≡ header typ 0 id ++ drop 20 out
    → o₂ ≡ with_integrity (key_of sign key) (take at o₁) ++ drop (at + integrity_size sign) o₁
    → o₃ ≡ with_fingerprint fingerprint (take a o₂) ++ drop (a + fingerprint_size fingerprint) o₂
    → o₄ ≡ set_length (b - 20) o₃ → o₄ ≡ encoded typ id (take n (drop 20 out)) (key_of sign key) fingerprint ++ drop b out
unfolding encoded
sealed typ n at a b id key out o₁ o₂ o₃ o₄ sign fingerprint e en ea eb w p q r s =
    let h : List ℕ = header typ 0 id in
    let body : List ℕ = take n (drop 20 out) in
    let m₁ : List ℕ = with_integrity (key_of sign key) (h ++ body) in
    let m₂ : List ℕ = with_fingerprint fingerprint m₁ in
    let lh : length h ≡ 20 = length-header typ 0 id e in
    let lb : length (h ++ body) ≡ 20 + n =
    length-append h body ∙ ap₂ (λ (x y : ℕ). x + y) lh (length-take-le n (drop 20 out) (rw length-drop (omega arith))) in
    let l₁ : length m₁ ≡ a = length-with_integrity sign key (h ++ body) (omega arith) ∙ omega arith in
    let l₂ : length m₂ ≡ b = length-with_fingerprint fingerprint m₁ (omega arith) ∙ omega arith in
    let p₀ : take at o₁ ≡ h ++ body =
    ap (take at) p ∙ ap (λ (k : ℕ). take k (h ++ drop 20 out)) en ∙ ap (λ (k : ℕ). take (k + n) (h ++ drop 20 out)) (sym lh) ∙ take-append-add h (drop 20 out) n in
    let after : (j k : ℕ) → j ≡ 20 + k → drop j o₁ ≡ drop j out =
    λ j k ej. rw ej (ap (drop (20 + k)) p ∙ behind h out 20 k lh) in
    let q₀ : o₂ ≡ m₁ ++ drop a o₁ = q ∙ ap₂ (λ (l : List ℕ) (k : ℕ). with_integrity (key_of sign key) l ++ drop k o₁) p₀ (sym ea) in
    let q₁ : take a o₂ ≡ m₁ = ap (take a) q₀ ∙ take_at m₁ (drop a o₁) a l₁ in
    let q₂ : drop (a + fingerprint_size fingerprint) o₂ ≡ drop b out =
    ap (drop (a + fingerprint_size fingerprint)) q₀ ∙ behind m₁ o₁ a (fingerprint_size fingerprint) l₁ ∙ ap (λ (k : ℕ). drop k o₁) (sym eb)
    ∙ after b (b - 20) (omega arith) in
    let r₀ : o₃ ≡ m₂ ++ drop b out = r ∙ ap₂ (λ (x y : List ℕ). with_fingerprint fingerprint x ++ y) q₁ q₂ in
    s ∙ ap (set_length (b - 20)) r₀ ∙ set_front (b - 20) m₂ (drop b out) (omega arith)
    ∙ ap (λ (k : ℕ). set_length (k - 20) m₂ ++ drop b out) (sym l₂)
