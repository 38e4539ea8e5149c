-- Laws of the maps: what is found is under its key, what is put is found, and a key stays once it is there.
use Rattle.std.specs.Prelude.{Some}
use Rattle.std.proofs.lemmas.Bool.{and_parts}
use mathlib.Core.Path.{◌≡◌, refl, ap, sym, ◌∙◌}
use mathlib.Core.Bool.{Bool, true, false, cond}
use mathlib.Core.List.{List, [], ◌∷◌, map}
use Prim.Native.Nat.{ℕ, suc, ◌≤◌}
use native.Mathlib.Omega.{arith}
use lib.ListN.{length}
use lib.Dec.{eqb}
use borrow.Author.Tests.{eqb-true, eq-eqb}
use Rattle.stun_address.specs.declared.Ip.{Ip}
use Rattle.stun_address.specs.declared.Ip.TheVariants.{V4, V6}
use Rattle.turn_state.specs.Maps.{get, contains, insert, remove, filter}
use Rattle.turn_state.specs.State.{Perm}
use Rattle.turn_state.specs.Source.{same_ip, for_ip, is_due}

module _ {R : Type 0} (is : R → Bool) where
  -- what is found is under its key
  found_step : (x r : R) (l : List R) (b : Bool) → is x ≡ b → (get is l ≡ Some r → is r ≡ true) → cond b (Some x) (get is l) ≡ Some r → is r ≡ true
  found_step x r l true h rest k = let same : x ≡ r = cc in cc
  found_step x r l false h rest k = rest k

  pub found_is : (l : List R) (r : R) → get is l ≡ Some r → is r ≡ true
  found_is [] r e = let z : ◌≡◌ {A = Bool} true false = cc in cc
  found_is (x ∷ l) r e = found_step x r l (is x) refl (found_is l r) e

  -- what is put is found
  get_step : (x y : R) (l : List R) (b : Bool) → is x ≡ true → is y ≡ b → get is (insert is x l) ≡ Some x → get is (cond b (x ∷ l) (y ∷ insert is x l)) ≡ Some x
  get_step x y l true h k rest = rw h
  get_step x y l false h k rest = rw k rest

  pub get_insert : (x : R) (l : List R) → is x ≡ true → get is (insert is x l) ≡ Some x
  get_insert x [] h = rw h
  get_insert x (y ∷ l) h = get_step x y l (is y) h refl (get_insert x l h)

  -- sizes
  insert_step : (x y : R) (l : List R) (b : Bool) → length (insert is x l) ≤ suc (length l) → length (cond b (x ∷ l) (y ∷ insert is x l)) ≤ suc (suc (length l))
  insert_step x y l true rest = omega arith
  insert_step x y l false rest = omega arith

  pub length-insert : (x : R) (l : List R) → length (insert is x l) ≤ suc (length l)
  length-insert x [] = omega arith
  length-insert x (y ∷ l) = insert_step x y l (is y) (length-insert x l)

  remove_step : (x r : R) (l : List R) (b : Bool) → (get is l ≡ Some r → suc (length (remove is l)) ≡ length l) → cond b (Some x) (get is l) ≡ Some r
      → suc (length (cond b l (x ∷ remove is l))) ≡ suc (length l)
  remove_step x r l true rest k = refl
  remove_step x r l false rest k = ap suc (rest k)

  shorter_step : (x : R) (l : List R) (b : Bool) → length (remove is l) ≤ length l → length (cond b l (x ∷ remove is l)) ≤ suc (length l)
  shorter_step x l true rest = omega arith
  shorter_step x l false rest = omega arith

  pub remove_short : (l : List R) → length (remove is l) ≤ length l
  remove_short [] = omega arith
  remove_short (x ∷ l) = shorter_step x l (is x) (remove_short l)

  pub length-remove : (r : R) (l : List R) → get is l ≡ Some r → suc (length (remove is l)) ≡ length l
  length-remove r [] e = let z : ◌≡◌ {A = Bool} true false = cc in let q : ◌≡◌ {A = ℕ} 0 1 = cc in omega arith
  length-remove r (x ∷ l) e = remove_step x r l (is x) (length-remove r l) e

-- two addresses that are the same are equal
pub same_ip_eq : (a b : Ip) → same_ip a b ≡ true → a ≡ b
same_ip_eq (V4 x) (V4 y) e = ap V4 (eqb-true x y e)
same_ip_eq (V4 x) (V6 h l) e = let q : ◌≡◌ {A = ℕ} 0 1 = cc in cc
same_ip_eq (V6 h l) (V4 y) e = let q : ◌≡◌ {A = ℕ} 0 1 = cc in cc
same_ip_eq (V6 h l) (V6 k m) e =
    let parts = and_parts (eqb h k) (eqb l m) e in rw (eqb-true h k parts.0, eqb-true l m parts.1)

pub same_ip_refl : (a : Ip) → same_ip a a ≡ true
same_ip_refl (V4 x) = eq-eqb x x refl
same_ip_refl (V6 h l) = rw (eq-eqb h h refl, eq-eqb l l refl)

-- each address of a list has a permission
abbrev pub Held : List Ip → List Perm → Type 0
Held [] l = Unit {0}
Held (ip ∷ more) l = (contains (for_ip ip) l ≡ true) × Held more l

choose_true : (b d : Bool) → d ≡ true → cond b true d ≡ true
choose_true true d e = refl
choose_true false d e = e

-- a permission that is asked for again keeps every key
keep_step : (ip : Ip) (x y : Perm) (l : List Perm) (b d : Bool) → for_ip x.ip y ≡ b → for_ip ip y ≡ d
    → (contains (for_ip ip) l ≡ true → contains (for_ip ip) (insert (for_ip x.ip) x l) ≡ true) → cond d true (contains (for_ip ip) l) ≡ true
    → contains (for_ip ip) (cond b (x ∷ l) (y ∷ insert (for_ip x.ip) x l)) ≡ true
keep_step ip x y l true true h k rest e =
    let p = same_ip_eq y.ip x.ip h in
    let q = same_ip_eq y.ip ip k in rw (sym p ∙ q, same_ip_refl ip)
keep_step ip x y l true false h k rest e = choose_true (same_ip x.ip ip) (contains (for_ip ip) l) e
keep_step ip x y l false true h k rest e = rw k
keep_step ip x y l false false h k rest e = rw k (rest e)

contains_insert : (ip : Ip) (x : Perm) (l : List Perm) → contains (for_ip ip) l ≡ true → contains (for_ip ip) (insert (for_ip x.ip) x l) ≡ true
contains_insert ip x [] e = let z : ◌≡◌ {A = ℕ} 0 1 = cc in cc
contains_insert ip x (y ∷ l) e = keep_step ip x y l (for_ip x.ip y) (for_ip ip y) refl refl (contains_insert ip x l) e

pub held_insert : (ips : List Ip) (x : Perm) (l : List Perm) → Held ips l → Held ips (insert (for_ip x.ip) x l)
held_insert [] x l h = tt
held_insert (ip ∷ ips) x l h = (contains_insert ip x l h.0, held_insert ips x l h.1)

held_cons : (ips : List Ip) (y : Perm) (l : List Perm) → Held ips l → Held ips (y ∷ l)
held_cons [] y l h = tt
held_cons (ip ∷ ips) y l h = (choose_true (for_ip ip y) (contains (for_ip ip) l) h.0, held_cons ips y l h.1)

-- the permissions that fall due are there
due_step : (now : ℕ) (y : Perm) (l : List Perm) (b : Bool) → Held (map (λ p. p.ip) (filter (λ p. is_due now p.refresh) l)) (y ∷ l)
    → Held (map (λ p. p.ip) (cond b (y ∷ filter (λ p. is_due now p.refresh) l) (filter (λ p. is_due now p.refresh) l))) (y ∷ l)
due_step now y l true h = (rw (same_ip_refl y.ip), h)
due_step now y l false h = h

pub held_due : (now : ℕ) (l : List Perm) → Held (map (λ p. p.ip) (filter (λ p. is_due now p.refresh) l)) l
held_due now [] = tt
held_due now (y ∷ l) = due_step now y l (is_due now y.refresh) (held_cons (map (λ p. p.ip) (filter (λ p. is_due now p.refresh) l)) y l (held_due now l))
