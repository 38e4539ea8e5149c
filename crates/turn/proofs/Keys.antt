-- The definition's lists are maps: no key stands twice in them. An insert under a record's own key keeps that, and so does a removal.
use Rattle.std.specs.Prelude.{Some}
use mathlib.Core.Path.{◌≡◌, refl, ap, sym, subst, ◌∙◌}
use mathlib.Core.Bool.{Bool, true, false, cond, ◌&&◌}
use mathlib.Core.List.{List, [], ◌∷◌}
use Prim.Native.Nat.{ℕ}
use native.Mathlib.Omega.{arith}
use lib.Dec.{eqb}
use borrow.Author.Tests.{eqb-true, eq-eqb}
use Rattle.stun_address.specs.declared.Ip.{Ip}
use Rattle.stun_address.specs.declared.Ip.TheVariants.{V4, V6}
use Rattle.stun_address.specs.declared.Address.{Address}
use Rattle.stun_check.specs.Source.{same}
use Rattle.turn_state.specs.Maps.{get, contains, insert, remove}
use Rattle.turn_state.specs.Source.{same_ip, same_address}
use Rattle.turn.proofs.Steps.{never, both}

module _ {R K : Type 0} (key : R → K) (eq : K → K → Bool) where
  -- no two records have keys that are equal
  pub data Unique : List R → Type 0 where
    none_yet : Unique []
    one_more : (r : R) {l : List R} → contains (λ x. eq (key x) (key r)) l ≡ false → Unique l → Unique (r ∷ l)

  module _ (sound : (a b : K) → eq a b ≡ true → a ≡ b) (whole : (a : K) → eq a a ≡ true) where
    other_way : (a b : K) → eq a b ≡ false → eq b a ≡ false
    other_way a b e = by (eq b a) refl
      where
        by : (t : Bool) → eq b a ≡ t → eq b a ≡ false
        by true q = let k : b ≡ a = sound b a q in never (sym (whole a) ∙ subst (λ (x : K). eq a x ≡ false) k e)
        by false q = q

    contains_insert : (k : K) (new : R) (is : R → Bool) (l : List R) → eq (key new) k ≡ false → contains (λ x. eq (key x) k) l ≡ false → contains (λ x. eq (key x) k) (insert is new l) ≡ false
    contains_insert k new is [] e h = rw e
    contains_insert k new is (r ∷ l) e h = by (is r) (eq (key r) k) refl h (contains_insert k new is l e)
      where
        by : (b n : Bool) → eq (key r) k ≡ n → cond n true (contains (λ x. eq (key x) k) l) ≡ false
            → (contains (λ x. eq (key x) k) l ≡ false → contains (λ x. eq (key x) k) (insert is new l) ≡ false)
            → contains (λ x. eq (key x) k) (cond b (new ∷ l) (r ∷ insert is new l)) ≡ false
        by b true q h rest = never h
        by true false q h rest = rw e h
        by false false q h rest = rw q (rest h)

    contains_remove : (k : K) (is : R → Bool) (l : List R) → contains (λ x. eq (key x) k) l ≡ false → contains (λ x. eq (key x) k) (remove is l) ≡ false
    contains_remove k is [] h = refl
    contains_remove k is (r ∷ l) h = by (is r) (eq (key r) k) refl h (contains_remove k is l)
      where
        by : (b n : Bool) → eq (key r) k ≡ n → cond n true (contains (λ x. eq (key x) k) l) ≡ false
            → (contains (λ x. eq (key x) k) l ≡ false → contains (λ x. eq (key x) k) (remove is l) ≡ false)
            → contains (λ x. eq (key x) k) (cond b l (r ∷ remove is l)) ≡ false
        by b true q h rest = never h
        by true false q h rest = h
        by false false q h rest = rw q (rest h)

    pub unique_insert : (new : R) {l : List R} → Unique l → Unique (insert (λ x. eq (key x) (key new)) new l)
    unique_insert new none_yet = one_more new refl none_yet
    unique_insert new (one_more r {l = l} h u) = by (eq (key r) (key new)) refl (unique_insert new u)
      where
        by : (b : Bool) → eq (key r) (key new) ≡ b → Unique (insert (λ x. eq (key x) (key new)) new l)
            → Unique (cond b (new ∷ l) (r ∷ insert (λ x. eq (key x) (key new)) new l))
        by true q rest = let k : key r ≡ key new = sound (key r) (key new) q in one_more new (subst (λ (z : K). contains (λ x. eq (key x) z) l ≡ false) k h) u
        by false q rest = one_more r (contains_insert (key r) new (λ x. eq (key x) (key new)) l (other_way (key r) (key new) q) h) rest

    pub unique_remove : (is : R → Bool) {l : List R} → Unique l → Unique (remove is l)
    unique_remove is none_yet = none_yet
    unique_remove is (one_more r {l = l} h u) = by (is r) (unique_remove is u)
      where
        by : (b : Bool) → Unique (remove is l) → Unique (cond b l (r ∷ remove is l))
        by true rest = u
        by false rest = one_more r (contains_remove (key r) is l h) rest

    -- what is found has the key, so one written where it stands is an insert under its own
    pub found_key : (k : K) (r : R) (l : List R) → get (λ x. eq (key x) k) l ≡ Some r → key r ≡ k
    found_key k r [] e = let z : ◌≡◌ {A = ℕ} 0 1 = cc in let f : ⊥ = omega arith in absurd f
    found_key k r (d ∷ l) e = by (eq (key d) k) refl e (found_key k r l)
      where
        by : (b : Bool) → eq (key d) k ≡ b → cond b (Some d) (get (λ x. eq (key x) k) l) ≡ Some r → (get (λ x. eq (key x) k) l ≡ Some r → key r ≡ k) → key r ≡ k
        by true q e rest = let i : d ≡ r = cc in ap key (sym i) ∙ sound (key d) k q
        by false q e rest = rest e

    pub unique_written : (k : K) (r new : R) {l : List R} → get (λ x. eq (key x) k) l ≡ Some r → key new ≡ key r → Unique l → Unique (insert (λ x. eq (key x) k) new l)
    unique_written k r new {l = l} e n u =
        subst (λ (z : K). Unique (insert (λ x. eq (key x) z) new l)) (n ∙ found_key k r l e) (unique_insert new u)

-- the tests of the three keys are equality
pub same_sound : (a b : List ℕ) → same a b ≡ true → a ≡ b
same_sound [] [] e = refl
same_sound [] (y ∷ ys) e = never (sym e)
same_sound (x ∷ xs) [] e = never (sym e)
same_sound (x ∷ xs) (y ∷ ys) e = by (eqb x y) refl e (same_sound xs ys)
  where
    by : (b : Bool) → eqb x y ≡ b → (b && same xs ys) ≡ true → (same xs ys ≡ true → xs ≡ ys) → x ∷ xs ≡ y ∷ ys
    by true q e rest = let h : x ≡ y = eqb-true x y q in let t : xs ≡ ys = rest e in cc
    by false q e rest = never (sym e)

pub same_whole : (a : List ℕ) → same a a ≡ true
same_whole [] = refl
same_whole (x ∷ xs) = let rest = same_whole xs in rw (eq-eqb x x refl) rest

pub ip_sound : (a b : Ip) → same_ip a b ≡ true → a ≡ b
ip_sound (V4 x) (V4 y) e = ap V4 (eqb-true x y e)
ip_sound (V4 x) (V6 h l) e = never (sym e)
ip_sound (V6 h l) (V4 y) e = never (sym e)
ip_sound (V6 h l) (V6 k m) e =
    let z = both (eqb h k) (eqb l m) e in
    let p : h ≡ k = eqb-true h k z.0 in
    let q : l ≡ m = eqb-true l m z.1 in cc

pub ip_whole : (a : Ip) → same_ip a a ≡ true
ip_whole (V4 x) = eq-eqb x x refl
ip_whole (V6 h l) = rw (eq-eqb h h refl, eq-eqb l l refl)

abbrev place : Ip → ℕ → Address
place ip port = record { ip = ip; port = port }

pub address_sound : (a b : Address) → same_address a b ≡ true → a ≡ b
address_sound a b e =
    let z = both (same_ip a.ip b.ip) (eqb a.port b.port) e in
    let i : a.ip ≡ b.ip = ip_sound a.ip b.ip z.0 in
    let p : a.port ≡ b.port = eqb-true a.port b.port z.1 in
    ap (λ (x : Ip). place x a.port) i ∙ ap (λ (x : ℕ). place b.ip x) p

pub address_whole : (a : Address) → same_address a a ≡ true
address_whole a = rw (ip_whole a.ip, eq-eqb a.port a.port refl)
