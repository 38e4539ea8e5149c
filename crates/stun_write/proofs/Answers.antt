-- The answers of the writers: the two refusals, and the message with what stands behind it.
use mathlib.Core.Path.{◌≡◌, refl, sym, ap, ap₂, ◌∙◌}
use mathlib.Core.Bool.{Bool}
use mathlib.Core.Logic.{◌⊎◌, inl, inr}
use mathlib.Core.List.{List, ◌++◌, append_assoc}
use Prim.Native.Nat.{ℕ, ◌+◌, ◌-◌, ◌≤◌, ◌<◌}
use native.Mathlib.Omega.{arith}
use borrow.Author.Tests.{lt-ltb, le-ltb}
use lib.ListN.{length, take, drop}
use lib.Seq.{paste, take_at, drop_at, length-paste, take-length, length-take-le}
use Rattle.std.specs.Prelude.{Ok, Err}
use Rattle.stun_frame.specs.declared.Unwritten.TheVariants.{TooLong, NoRoom}
use Rattle.stun_frame.specs.Source.{Written, room_after}
use Rattle.stun_frame.proofs.Reading.{compared}
use Rattle.stun_write.specs.Source.{push_attr, attr_size, key_of, encoded, sealed_size, fitted, fitted_attr, Left, Pushed, Sealed, Encoded}
use Rattle.stun_write.proofs.Places.{drop_past}

is_long : (size room : ℕ) → 65555 < size → fitted size room ≡ Err TooLong
unfolding fitted
is_long size room h = rw (lt-ltb 65555 size h)

is_narrow : (size room : ℕ) → size ≤ 65555 → room < size → fitted size room ≡ Err NoRoom
unfolding fitted
is_narrow size room h g = rw (le-ltb 65555 size h, lt-ltb room size g)

pub is_bytes : (size room : ℕ) → size ≤ 65555 → size ≤ room → fitted size room ≡ Ok size
unfolding fitted
is_bytes size room h g = rw (le-ltb 65555 size h, le-ltb room size g)

attr_short : (v : List ℕ) (size room : ℕ) → length v ≤ 65535 → fitted_attr v size room ≡ fitted size room
unfolding fitted_attr
attr_short v size room h = rw (le-ltb 65535 (length v) h)

attr_long : (v : List ℕ) (size room : ℕ) → 65535 < length v → fitted_attr v size room ≡ Err TooLong
unfolding fitted_attr
attr_long v size room h = rw (lt-ltb 65535 (length v) h)

-- one answer for each of the three that can be due
-- a contract's two equations, and `Left`
pub equations : {due a : Written} {m out after : List ℕ} → Left due m out a after → (a ≡ due) × (after ≡ room_after a m out)
equations {due} {a} {m} {out} l = (l.answered, l.left ∙ ap (λ (d : Written). room_after d m out) (sym l.answered))

pub from_equations : {due a : Written} {m out after : List ℕ} → (a ≡ due) × (after ≡ room_after a m out) → Left due m out a after
from_equations {due} {a} {m} {out} e = record { answered = e.0; left = e.1 ∙ ap (λ (d : Written). room_after d m out) e.0 }

left_long : {due : Written} (m out : List ℕ) → due ≡ Err TooLong → Left due m out (Err TooLong) out
left_long m out e = record { answered = sym e; left = rw e }

left_narrow : {due : Written} (m out : List ℕ) → due ≡ Err NoRoom → Left due m out (Err NoRoom) out
left_narrow m out e = record { answered = sym e; left = rw e }

left_bytes : {due : Written} (m out after : List ℕ) (n : ℕ) → due ≡ Ok n → after ≡ m ++ drop n out → Left due m out (Ok n) after
left_bytes m out after n e f = record { answered = sym e; left = f ∙ rw e }

module _ (out m : List ℕ) (size : ℕ) where
  pub too_long : 65555 < size → Left (fitted size (length out)) m out (Err TooLong) out
  too_long h = left_long m out (is_long size (length out) h)

  pub no_room : size ≤ 65555 → length out < size → Left (fitted size (length out)) m out (Err NoRoom) out
  no_room h g = left_narrow m out (is_narrow size (length out) h g)

  pub written : (n : ℕ) (after : List ℕ) → n ≡ size → size ≤ 65555 → size ≤ length out → after ≡ m ++ drop n out → Left (fitted size (length out)) m out (Ok n) after
  written n after e h g f = left_bytes m out after n (is_bytes size (length out) h g ∙ ap Ok (sym e)) f

module _ (out : List ℕ) (at t : ℕ) (v : List ℕ) where
  pub value_too_long : 65535 < length v → Pushed out at t v (Err TooLong) out
  value_too_long h = left_long _ out (attr_long v _ _ h)

  pub attr_too_long : length v ≤ 65535 → 65555 < at + attr_size (length v) → Pushed out at t v (Err TooLong) out
  attr_too_long h g = left_long _ out (attr_short v _ _ h ∙ is_long _ _ g)

  pub attr_no_room : length v ≤ 65535 → at + attr_size (length v) ≤ 65555 → length out < at + attr_size (length v) → Pushed out at t v (Err NoRoom) out
  attr_no_room h g w = left_narrow _ out (attr_short v _ _ h ∙ is_narrow _ _ g w)

  pub attr_written : (after : List ℕ) → length v ≤ 65535 → at + attr_size (length v) ≤ 65555 → at + attr_size (length v) ≤ length out
      → after ≡ take at out ++ push_attr t v ++ drop (at + attr_size (length v)) out → Pushed out at t v (Ok (at + attr_size (length v))) after
  attr_written after h g w e = left_bytes _ out after _ (attr_short v _ _ h ∙ is_bytes _ _ g w) e

-- a body that was put behind the header's place, and then sealed
pub copied : (out o body id key after : List ℕ) (typ : ℕ) (sign fingerprint : Bool) (answer : Written) → o ≡ paste out 20 body (length body)
    → sealed_size (length body) sign fingerprint ≤ 65555 → sealed_size (length body) sign fingerprint ≤ length out
    → Sealed o (20 + length body) typ id key sign fingerprint answer after → Encoded out typ id body key sign fingerprint answer after
copied out o body id key after typ sign fingerprint answer p g w r =
    let size : ℕ = sealed_size (length body) sign fingerprint in
    let m : List ℕ = encoded typ id body (key_of sign key) fingerprint in
    let n : 20 + length body - 20 ≡ length body = omega arith in
    let lo : length o ≡ length out = ap length p ∙ length-paste out 20 body (length body) (omega arith) (omega arith) in
    let b₀ : drop 20 o ≡ body ++ drop (20 + length body) out =
    ap (drop 20) p ∙ ap (λ (l : List ℕ). drop 20 l) (append_assoc (take 20 out) (take (length body) body) (drop (20 + length body) out))
    ∙ drop_at (take 20 out) _ 20 (length-take-le 20 out (omega arith)) ∙ ap (λ (l : List ℕ). l ++ drop (20 + length body) out) (take-length body) in
    let b₁ : take (20 + length body - 20) (drop 20 o) ≡ body = ap (λ (k : ℕ). take k (drop 20 o)) n ∙ ap (take (length body)) b₀ ∙ take_at body _ (length body) refl in
    let d₀ : fitted (sealed_size (20 + length body - 20) sign fingerprint) (length o) ≡ Ok size =
    ap₂ (λ (k l : ℕ). fitted (sealed_size k sign fingerprint) l) n lo ∙ is_bytes size (length out) g w in
    let d₁ : drop size o ≡ drop size out = ap (drop size) p ∙ drop_past out 20 body size (omega arith) w in
    let due : fitted size (length out) ≡ Ok size = is_bytes size (length out) g w in
    record {
      answered = r.answered ∙ d₀ ∙ sym due;
      left =
          r.left
          ∙ ap (λ (d : Written). room_after d (encoded typ id (take (20 + length body - 20) (drop 20 o)) (key_of sign key) fingerprint) o) d₀
          ∙ ap₂ (λ (x y : List ℕ). encoded typ id x (key_of sign key) fingerprint ++ y) b₁ d₁
          ∙ ap (λ (d : Written). room_after d m out) (sym due);
    }

-- attributes that stand in the room are a body
pub sealed_as : (out body id key after : List ℕ) (end typ : ℕ) (sign fingerprint : Bool) (answer : Written) → take (end - 20) (drop 20 out) ≡ body → end - 20 ≡ length body
    → Sealed out end typ id key sign fingerprint answer after → Encoded out typ id body key sign fingerprint answer after
sealed_as out body id key after end typ sign fingerprint answer e n r = rw (← n, ← e) r

-- an answer `Ok`: its length fits, and all of the message stands in front
not_long : (n : ℕ) → ◌≡◌ {A = Written} (Ok n) (Err TooLong) → ⊥
not_long n e = let z : ◌≡◌ {A = ℕ} 0 1 = cc in omega arith

not_narrow : (n : ℕ) → ◌≡◌ {A = Written} (Ok n) (Err NoRoom) → ⊥
not_narrow n e = let z : ◌≡◌ {A = ℕ} 0 1 = cc in omega arith

pub was_written : {size n : ℕ} {m out after : List ℕ} → Left (fitted size (length out)) m out (Ok n) after
    → (size ≤ 65555) × (n ≡ size) × (after ≡ m ++ drop n out)
was_written {size} {n} {m} {out} {after} w = go (compared 65555 size) (compared (length out) size)
  where
    go : (65555 < size) ⊎ (size ≤ 65555) → (length out < size) ⊎ (size ≤ length out) → (size ≤ 65555) × (n ≡ size) × (after ≡ m ++ drop n out)
    go (inl h) g = absurd (not_long n (w.answered ∙ is_long size (length out) h))
    go (inr h) (inl g) = absurd (not_narrow n (w.answered ∙ is_narrow size (length out) h g))
    go (inr h) (inr g) =
        let f : ◌≡◌ {A = Written} (Ok n) (Ok size) = w.answered ∙ is_bytes size (length out) h g in
        (h, cc, w.left ∙ ap (λ (d : Written). room_after d m out) (sym w.answered))

pub was_pushed : (out : List ℕ) (at t : ℕ) (v : List ℕ) {n : ℕ} {after : List ℕ} → Pushed out at t v (Ok n) after
    → (length v ≤ 65535) × (n ≡ at + attr_size (length v)) × (after ≡ take at out ++ push_attr t v ++ drop n out)
was_pushed out at t v {n} {after} w = go (compared 65535 (length v))
  where
    go : (65535 < length v) ⊎ (length v ≤ 65535) → (length v ≤ 65535) × (n ≡ at + attr_size (length v)) × (after ≡ take at out ++ push_attr t v ++ drop n out)
    go (inl h) = absurd (not_long n (w.answered ∙ attr_long v _ _ h))
    go (inr h) =
        let l : Left (fitted (at + attr_size (length v)) (length out)) (take at out ++ push_attr t v) out (Ok n) after = rw (attr_short v (at + attr_size (length v)) (length out) h) at w in
        (h, (was_written l).1, (was_written l).2)

-- a contract leaves one answer and one room
pub once : {due a b : Written} {m out o p : List ℕ} → Left due m out a o → Left due m out b p → (a ≡ b) × (o ≡ p)
once l r = (l.answered ∙ sym r.answered, l.left ∙ sym r.left)
