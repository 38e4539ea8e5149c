-- What each step leaves in the room, over lists: one part behind another, the seal around them, the three bytes before the message.
use Rattle.std.specs.Prelude.{Ok, Err}
use Rattle.stun_frame.specs.declared.Unwritten.{Unwritten}
use mathlib.Core.Path.{◌≡◌, sym, ap, ap₂, ◌∙◌}
use mathlib.Core.Bool.{Bool, true}
use mathlib.Core.List.{List, [], ◌∷◌, ◌++◌, append_assoc, append-nil}
use Prim.Native.Nat.{ℕ, suc, ◌+◌, ◌-◌, ◌/◌, ◌%◌, ◌≤◌}
use native.Mathlib.Nat.{add-zero}
use native.Mathlib.Omega.{arith}
use lib.ListN.{length, take, drop, set, length-append, length-drop, take-append-drop}
use lib.Seq.{take_all, drop-length, take_at, drop_at, take-append-le, take-take, drop-drop, length-take-le, sets-eq}
use borrow.Author.Tests.{le-ltb}
use borrow.Rule.Slice.PartMut.{mid_of, post_of, put_mid, Post-is}
use Rattle.stun_frame.specs.Source.{to_be, room_after, Written}
use Rattle.stun_write.specs.Source.{push_attr, attr_size, key_of, encoded, sealed_size, fitted, fitted_attr}
use Rattle.stun_write.proofs.Answers.{is_bytes, from_equations, sealed_as}
use Rattle.stun_write.proofs.Places.{behind}
use Rattle.turn_state.specs.Number.{framed}

-- an attribute that fits
pub fits : (out after v : List ℕ) (at typ : ℕ) (r : Written) → length v ≤ 65535 → at + attr_size (length v) ≤ 65555 → at + attr_size (length v) ≤ length out
    → r ≡ fitted_attr v (at + attr_size (length v)) (length out) → after ≡ room_after r (take at out ++ push_attr typ v) out
    → (r ≡ Ok (at + attr_size (length v))) × (after ≡ take at out ++ push_attr typ v ++ drop (at + attr_size (length v)) out)
unfolding fitted_attr
fits out after v at typ r h g w e f =
    let d : r ≡ Ok (at + attr_size (length v)) = e ∙ rw (le-ltb 65535 (length v) h) (is_bytes _ _ g w) in
    (d, f ∙ ap (λ (x : Written). room_after x (take at out ++ push_attr typ v) out) d)

pub same_place : {r : Written} {n m : ℕ} → r ≡ Ok n → r ≡ Ok m → n ≡ m
same_place e f = cc

pub never : {r : Written} {n : ℕ} {why : Unwritten} → r ≡ Ok n → r ≡ Err why → ⊥
never e f = cc

-- `b`, of n bytes, put at `at`: r is the place after it
abbrev pub Put : List ℕ → ℕ → List ℕ → ℕ → ℕ → List ℕ → Type 0
Put out at b n r after = (r ≡ at + n) × (after ≡ take at out ++ b ++ drop (at + n) out)

-- an attribute by another name of its value and of its size
pub put_as : (out after : List ℕ) (at r typ : ℕ) {v w : List ℕ} {k : ℕ} → v ≡ w → attr_size (length w) ≡ k
    → Put out at (push_attr typ v) (attr_size (length v)) r after → Put out at (push_attr typ w) k r after
put_as out after at r typ {v} {w} {k} e f p =
    let s : attr_size (length v) ≡ k = ap (λ (x : List ℕ). attr_size (length x)) e ∙ f in (
      p.0 ∙ ap (λ (n : ℕ). at + n) s,
      p.1 ∙ ap₂ (λ (x : List ℕ) (n : ℕ). take at out ++ push_attr typ x ++ drop (at + n) out) e s,
    )

pub put_eq : (out after : List ℕ) (at r : ℕ) {b b' : List ℕ} {n n' : ℕ} → b ≡ b' → n ≡ n' → Put out at b n r after → Put out at b' n' r after
put_eq out after at r e f p = rw (← e, ← f) p

-- nothing, put anywhere
pub put_none : (out : List ℕ) (at : ℕ) → Put out at [] 0 at out
put_none out at =
    (omega arith, sym (ap₂ (λ (l : List ℕ) (k : ℕ). l ++ drop k out) (append-nil (take at out)) (add-zero at) ∙ take-append-drop at out))

module _ (out b : List ℕ) (at n : ℕ) (sized : length b ≡ n) (room : at ≤ length out) where
  front_length : length (take at out ++ b) ≡ at + n
  front_length = length-append (take at out) b ∙ ap₂ (λ (x y : ℕ). x + y) (length-take-le at out room) sized

  -- a part behind this one
  pub then : (o₁ o₂ b₂ : List ℕ) (m r₁ r₂ : ℕ) → Put out at b n r₁ o₁ → Put o₁ r₁ b₂ m r₂ o₂ → Put out at (b ++ b₂) (n + m) r₂ o₂
  then o₁ o₂ b₂ m r₁ r₂ p q =
      let t : take r₁ o₁ ≡ take at out ++ b =
      ap₂ (λ (k : ℕ) (l : List ℕ). take k l) p.0 p.1 ∙ take_at (take at out ++ b) _ (at + n) front_length in
      let s : r₁ + m ≡ at + (n + m) = omega (arith, p.0) in
      let s' : r₁ + m ≡ at + n + m = omega (arith, p.0) in
      let d : drop (r₁ + m) o₁ ≡ drop (at + (n + m)) out =
      ap₂ (λ (k : ℕ) (l : List ℕ). drop k l) s' p.1 ∙ behind (take at out ++ b) out (at + n) m front_length
      ∙ ap (λ (k : ℕ). drop k out) (sym s' ∙ s) in (
        q.0 ∙ s,
        q.1 ∙ ap₂ (λ (x y : List ℕ). x ++ b₂ ++ y) t d
            ∙ ap (λ (x : List ℕ). x ++ drop (at + (n + m)) out) (append_assoc (take at out) b b₂),
      )

  pub length-after : (o : List ℕ) → at + n ≤ length out → o ≡ take at out ++ b ++ drop (at + n) out → length o ≡ length out
  length-after o h p =
      ap length p ∙ length-append (take at out ++ b) (drop (at + n) out)
      ∙ ap₂ (λ (x y : ℕ). x + y) front_length (length-drop (at + n) out) ∙ omega arith

-- attributes one after the other, as `attributes` has them
pub one : (out o b : List ℕ) (at n r : ℕ) → Put out at b n r o → Put out at (b ++ []) n r o
one out o b at n r p = rw append-nil p

pub two : (out o₁ o₂ b₁ b₂ : List ℕ) (at n₁ n₂ r₁ r₂ : ℕ) → length b₁ ≡ n₁ → at ≤ length out
    → Put out at b₁ n₁ r₁ o₁ → Put o₁ r₁ b₂ n₂ r₂ o₂ → Put out at (b₁ ++ (b₂ ++ [])) (n₁ + n₂) r₂ o₂
two out o₁ o₂ b₁ b₂ at n₁ n₂ r₁ r₂ l h p q = then out b₁ at n₁ l h o₁ o₂ (b₂ ++ []) n₂ r₁ r₂ p (one o₁ o₂ b₂ r₁ n₂ r₂ q)

pub three : (out o₁ o₂ o₃ b₁ b₂ b₃ : List ℕ) (at n₁ n₂ n₃ r₁ r₂ r₃ : ℕ) → length b₁ ≡ n₁ → length b₂ ≡ n₂ → at ≤ length out → r₁ ≤ length o₁
    → Put out at b₁ n₁ r₁ o₁ → Put o₁ r₁ b₂ n₂ r₂ o₂ → Put o₂ r₂ b₃ n₃ r₃ o₃ → Put out at (b₁ ++ (b₂ ++ (b₃ ++ []))) (n₁ + (n₂ + n₃)) r₃ o₃
three out o₁ o₂ o₃ b₁ b₂ b₃ at n₁ n₂ n₃ r₁ r₂ r₃ l₁ l₂ h₁ h₂ p q s =
    then out b₁ at n₁ l₁ h₁ o₁ o₃ (b₂ ++ (b₃ ++ [])) (n₂ + n₃) r₁ r₃ p (two o₁ o₂ o₃ b₂ b₃ r₁ n₂ n₃ r₂ r₃ l₂ h₂ q s)

-- the seal around attributes that stand behind the header's place
pub sealed : (out o after body id key : List ℕ) (n end typ : ℕ) (sign : Bool) (r : Written) → length body ≡ n → end ≡ 20 + n
    → sealed_size n sign true ≤ length out → sealed_size n sign true ≤ 65555 → o ≡ take 20 out ++ body ++ drop (20 + n) out
    → (r ≡ fitted (sealed_size (end - 20) sign true) (length o))
    × (after ≡ room_after r (encoded typ id (take (end - 20) (drop 20 o)) (key_of sign key) true) o)
    → (r ≡ Ok (sealed_size n sign true)) × (after ≡ encoded typ id body (key_of sign key) true ++ drop (sealed_size n sign true) out)
sealed out o after body id key n end typ sign r lb le w g p e =
    let lo : length o ≡ length out = length-after out body 20 n lb (omega arith) o (omega arith) p in
    let m : List ℕ = encoded typ id body (key_of sign key) true in
    let en : end - 20 ≡ n = omega arith in
    let b : take (end - 20) (drop 20 o) ≡ body =
    ap₂ (λ (k : ℕ) (l : List ℕ). take k (drop 20 l)) en (p ∙ append_assoc (take 20 out) body (drop (20 + n) out))
    ∙ ap (take n) (drop_at (take 20 out) (body ++ drop (20 + n) out) 20 (length-take-le 20 out (omega arith))) ∙ take_at body _ n lb in
    let s = sealed_as o body id key after end typ sign true r b (omega arith) (from_equations e) in
    let z : sealed_size (length body) sign true ≡ sealed_size n sign true = ap (λ (k : ℕ). sealed_size k sign true) lb in
    let due : fitted (sealed_size (length body) sign true) (length o) ≡ Ok (sealed_size n sign true) =
    ap₂ (λ (x y : ℕ). fitted x y) z lo ∙ is_bytes _ _ g w in
    let k : ℕ = sealed_size n sign true - (20 + n) in
    let ek : sealed_size n sign true ≡ 20 + n + k = omega arith in
    let d : drop (sealed_size n sign true) o ≡ drop (sealed_size n sign true) out =
    ap (λ (i : ℕ). drop i o) ek
    ∙ ap (drop (20 + n + k)) p ∙ behind (take 20 out ++ body) out (20 + n) k (front_length out body 20 n lb (omega arith))
    ∙ ap (λ (i : ℕ). drop i out) (sym ek) in
    (s.answered ∙ due, s.left ∙ ap (λ (x : Written). room_after x m o) due ∙ ap (λ (l : List ℕ). m ++ l) d)

regroup : (t v p d f : List ℕ) → f ≡ v ++ p → t ++ v ++ (p ++ d) ≡ t ++ f ++ d
regroup t v p d f e =
    sym (append_assoc (t ++ v) p d) ∙ ap (λ (l : List ℕ). l ++ d) (append_assoc t v p ∙ ap (λ (l : List ℕ). t ++ l) (sym e))

-- the head of a packet, in front of its message
pub headed : (out o p : List ℕ) (at size : ℕ) → at + 3 + size ≤ length out → length p ≡ size
    → o ≡ take (at + 3) out ++ (p ++ drop size (drop (at + 3) out))
    → set (set (set o at 1) (at + 1) (size / 256)) (at + 2) (size % 256) ≡ take at out ++ framed (p ∷ []) ++ drop (at + 3 + size) out
headed out o p at size w lp e =
    let v : List ℕ = 1 ∷ size / 256 ∷ size % 256 ∷ [] in
    let lt : length (take (at + 3) out) ≡ at + 3 = length-take-le (at + 3) out (omega arith) in
    let lo : length o ≡ at + 3 + length (p ++ drop size (drop (at + 3) out)) =
    ap length e ∙ length-append (take (at + 3) out) _ ∙ ap (λ (k : ℕ). k + length (p ++ drop size (drop (at + 3) out))) lt in
    let one : at + 1 ≡ suc at = omega arith in
    let two : at + 2 ≡ suc (suc at) = omega arith in
    let s : set (set (set o at 1) (at + 1) (size / 256)) (at + 2) (size % 256) ≡ take at o ++ v ++ drop (at + 3) o =
    ap₂ (λ (x y : ℕ). set (set (set o at 1) x (size / 256)) y (size % 256)) one two ∙ sets-eq v o at (omega arith) in
    let t : take at o ≡ take at out =
    ap (take at) e ∙ take-append-le at (take (at + 3) out) _ (omega arith) ∙ take-take at (at + 3) out (omega arith) in
    let d : drop (at + 3) o ≡ p ++ drop (at + 3 + size) out =
    ap (drop (at + 3)) e ∙ drop_at (take (at + 3) out) _ (at + 3) lt ∙ ap (λ (l : List ℕ). p ++ l) (drop-drop size (at + 3) out) in
    let f : framed (p ∷ []) ≡ v ++ p = append-nil _ ∙ ap (λ (k : ℕ). 1 ∷ to_be k ++ p) lp in
    s ∙ ap₂ (λ (x y : List ℕ). x ++ v ++ y) t d ∙ regroup (take at out) v p (drop (at + 3 + size) out) (framed (p ∷ [])) f

-- the same where the message was written into the rest of the room, from at + 3 on
pub packet_put : (out y p : List ℕ) (at size k : ℕ) → size ≡ k → at + 3 + size ≤ length out → length p ≡ size
    → y ≡ p ++ drop k (mid_of (at + 3) (length out - (at + 3)) out)
    → set (set (set (put_mid (at + 3) (length out - (at + 3)) out y) at 1) (at + 1) (size / 256)) (at + 2) (size % 256)
    ≡ take at out ++ framed (p ∷ []) ++ drop (at + 3 + size) out
packet_put out y p at size k s w lp e =
    let m : mid_of (at + 3) (length out - (at + 3)) out ≡ drop (at + 3) out = take_all (length out - (at + 3)) (drop (at + 3) out) (omega (arith, length-drop (at + 3) out)) in
    let n : post_of (at + 3) (length out - (at + 3)) out ≡ [] = Post-is (at + 3) (length out) out (omega arith) ∙ drop-length out in
    let f : y ++ post_of (at + 3) (length out - (at + 3)) out ≡ p ++ drop size (drop (at + 3) out) =
    ap₂ (λ (a b : List ℕ). a ++ b) e n ∙ append-nil _ ∙ ap₂ (λ (i : ℕ) (l : List ℕ). p ++ drop i l) (sym s) m in
    headed out (put_mid (at + 3) (length out - (at + 3)) out y) p at size w lp (ap (λ (l : List ℕ). take (at + 3) out ++ l) f)
