-- What a first byte says (Table 3-7): the rows begin with ranges apart from one another, so the row that a byte begins is the
-- only one that counts in `sequence` and `subpart`, and a byte between the rows begins none.
use mathlib.Core.Path.{◌≡◌, refl, sym, ap, ap₂, ◌∙◌}
use mathlib.Core.Bool.{Bool, true, false, cond, ◌&&◌, ◌||◌, and-false, false≢true}
use mathlib.Core.List.{List, [], ◌∷◌, ◌++◌, map}
use mathlib.Core.Logic.{◌⊎◌, inl, inr, ⊎_elim}
use Prim.Native.Nat.{ℕ, zero, suc, ◌+◌, ◌-◌, max, ◌≤◌, ◌<◌}
use native.Mathlib.Nat.{zero-max}
use native.Mathlib.Decide.{dec_le}
use native.Mathlib.Numerals.{add-one}
use native.Mathlib.Omega.{arith}
use lib.ListN.{length, take, drop, get_or, length-drop}
use lib.Seq.{drop-cons, take_all}
use lib.Dec.{T, leb, ltb, eqb, ltb→lt, eqb-zero-suc, eqb-suc-suc}
use borrow.Author.Tests.{leb-true, lt-leb, le-leb, eqb-true, lt-ltb}
use Rattle.stun_text.specs.Utf8.{Range, ◌‥◌, within, table, agree, full, greatest, sequence, subpart, whole, size}
use Rattle.std.specs.Prelude.{Result, Ok, Err}
use Rattle.stun_text.specs.Following.{following, followed, cut, Leads}

-- the row begins with no byte from lo to hi
abbrev pub misses : ℕ → ℕ → List Range → Bool
misses lo hi [] = false
misses lo hi ((a ‥ z) ∷ row) = ltb z lo || ltb hi a

abbrev pub every : (List Range → Bool) → List (List Range) → Bool
every f [] = true
every f (row ∷ rows) = f row && every f rows

or_cases : (x y : Bool) → T (x || y) → T x ⊎ T y
or_cases true y t = inl tt
or_cases false y t = inr t

and_left : (x y : Bool) → T (x && y) → T x
and_left true y t = tt
and_left false y t = t

and_right : (x y : Bool) → T (x && y) → T y
and_right true y t = t
and_right false y t = absurd t

outside : (lo hi a z b : ℕ) → lo ≤ b → b ≤ hi → T (ltb z lo || ltb hi a) → within (a ‥ z) b ≡ false
outside lo hi a z b h k t =
    ⊎_elim
    (λ x. let e : z < b = omega (arith, ltb→lt z lo x) in ap (λ (q : Bool). leb a b && q) (lt-leb b z e) ∙ and-false (leb a b))
    (λ y. let e : b < a = omega (arith, ltb→lt hi a y) in ap (λ (q : Bool). q && leb b z) (lt-leb a b e))
    (or_cases (ltb z lo) (ltb hi a) t)

-- f is 0 at each row that the byte b does not begin
abbrev pub Vanishes : ℕ → (List Range → ℕ) → Type 0
Vanishes b f = (r : Range) (row : List Range) → within r b ≡ false → f (r ∷ row) ≡ 0

module _ (b : ℕ) (f : List Range → ℕ) (none : Vanishes b f) (lo hi : ℕ) (h : lo ≤ b) (k : b ≤ hi) where
  missed : (row : List Range) → T (misses lo hi row) → f row ≡ 0
  missed [] t = absurd t
  missed ((a ‥ z) ∷ row) t = none (a ‥ z) row (outside lo hi a z b h k t)

  vanish : (rows : List (List Range)) → T (every (misses lo hi) rows) → greatest (map f rows) ≡ 0
  vanish [] t = refl
  vanish (row ∷ rows) t =
      let e : f row ≡ 0 = missed row (and_left (misses lo hi row) _ t) in
      let g : greatest (map f rows) ≡ 0 = vanish rows (and_right (misses lo hi row) _ t) in
      omega arith

  only : (before after : List (List Range)) (row : List Range) → T (every (misses lo hi) before) → T (every (misses lo hi) after)
      → greatest (map f (before ++ row ∷ after)) ≡ f row
  only [] after row t u =
      let g : greatest (map f after) ≡ 0 = vanish after u in
      omega arith
  only (p ∷ before) after row t u =
      let e : f p ≡ 0 = missed p (and_left (misses lo hi p) _ t) in
      let g : greatest (map f (before ++ row ∷ after)) ≡ f row = only before after row (and_right (misses lo hi p) _ t) u in
      omega arith

agree_none : (b : ℕ) (l : List ℕ) (r : Range) (row : List Range) → within r b ≡ false → agree (r ∷ row) (b ∷ l) ≡ 0
agree_none b l r row e = ap (λ (t : Bool). cond t (suc (agree row l)) 0) e

full_none : (b : ℕ) (l : List ℕ) (r : Range) (row : List Range) → within r b ≡ false → full (r ∷ row) (b ∷ l) ≡ 0
full_none b l r row e =
    ap (λ (n : ℕ). cond (eqb n (suc (length row))) (suc (length row)) 0) (agree_none b l r row e)
    ∙ ap (λ (t : Bool). cond t (suc (length row)) 0) (eqb-zero-suc (length row))

-- from what counts in a text to what its first part is
found : (l : List ℕ) (n m : ℕ) → sequence l ≡ cond (eqb n m) (suc m) 0 → subpart l ≡ suc n → (size l ≡ suc n) × (whole l ≡ eqb n m)
found l n m e g = go (eqb n m) refl e
  where
    go : (t : Bool) → eqb n m ≡ t → sequence l ≡ cond (eqb n m) (suc m) 0 → (size l ≡ suc n) × (whole l ≡ eqb n m)
    go true q p =
        let s : sequence l ≡ suc m = p ∙ ap (λ (t : Bool). cond t (suc m) 0) q in
        let w : whole l ≡ true = lt-ltb 0 (sequence l) (omega arith) in
        (ap (λ (t : Bool). cond t (sequence l) (subpart l)) w ∙ s ∙ ap suc (sym (eqb-true n m q)), w ∙ sym q)
    go false q p =
        let s : sequence l ≡ 0 = p ∙ ap (λ (t : Bool). cond t (suc m) 0) q in
        let w : whole l ≡ false = ap (λ (k : ℕ). ltb 0 k) s in
        (ap (λ (t : Bool). cond t (sequence l) (subpart l)) w ∙ g, w ∙ sym q)

length-following : (n low high : ℕ) → length (following n low high) ≡ n
length-following zero low high = refl
length-following (suc n) low high = ap suc (length-following n 0x80 0xBF)

one_max : (n : ℕ) → max 1 (suc n) ≡ suc n
one_max n = omega arith

-- a row that b begins, and it alone
picked : (b : ℕ) (r : Range) (row : List Range) → within r b ≡ true → ((f : List Range → ℕ) → Vanishes b f → greatest (map f table) ≡ f (r ∷ row))
    → (l : List ℕ) → (size (b ∷ l) ≡ suc (agree row l)) × (whole (b ∷ l) ≡ eqb (agree row l) (length row))
unfolding sequence subpart
picked b r row w only-it l =
    let a : agree (r ∷ row) (b ∷ l) ≡ suc (agree row l) = ap (λ (q : Bool). cond q (suc (agree row l)) 0) w in
    let f : full (r ∷ row) (b ∷ l) ≡ cond (eqb (agree row l) (length row)) (suc (length row)) 0 =
    ap (λ (n : ℕ). cond (eqb n (suc (length row))) (suc (length row)) 0) a ∙ ap (λ (q : Bool). cond q (suc (length row)) 0) (eqb-suc-suc (agree row l) (length row)) in
    found (b ∷ l) (agree row l) (length row)
    (only-it (λ r. full r (b ∷ l)) (full_none b l) ∙ f)
    (ap (max 1) (only-it (λ r. agree r (b ∷ l)) (agree_none b l) ∙ a) ∙ one_max (agree row l))

-- no row that b begins
unpicked : (b : ℕ) → ((f : List Range → ℕ) → Vanishes b f → greatest (map f table) ≡ 0) → (l : List ℕ) → (size (b ∷ l) ≡ 1) × (whole (b ∷ l) ≡ false)
unfolding sequence subpart
unpicked b none l = found (b ∷ l) 0 1 (none (λ r. full r (b ∷ l)) (full_none b l)) (ap (max 1) (none (λ r. agree r (b ∷ l)) (agree_none b l)))

inside_range : (lo hi b : ℕ) → lo ≤ b → b ≤ hi → within (lo ‥ hi) b ≡ true
inside_range lo hi b h k = ap₂ (λ (p q : Bool). p && q) (le-leb lo b h) (le-leb b hi k)

-- a byte of the first range of a row, which stands in the table between others that it does not begin
pub begins : (before after : List (List Range)) (lo hi more low high b : ℕ) → table ≡ before ++ ((lo ‥ hi) ∷ following more low high) ∷ after
    → T (every (misses lo hi) before) → T (every (misses lo hi) after) → lo ≤ b → b ≤ hi → Leads b more low high
begins before after lo hi more low high b e t u h k =
    record {
      long = λ l. (both l).0;
      good = λ l. (both l).1 ∙ ap (λ (n : ℕ). eqb (agree (following more low high) l) n) (length-following more low high);
    }
  where
    both : (l : List ℕ) → (size (b ∷ l) ≡ suc (agree (following more low high) l)) × (whole (b ∷ l) ≡ eqb (agree (following more low high) l) (length (following more low high)))
    both =
        picked b (lo ‥ hi) (following more low high) (inside_range lo hi b h k)
        (λ f v. ap (λ (rows : List (List Range)). greatest (map f rows)) e ∙ only b f v lo hi h k before after ((lo ‥ hi) ∷ following more low high) t u)

-- no byte is in an empty range
empty : (l : List ℕ) → agree ((1 ‥ 0) ∷ []) l ≡ 0
empty [] = refl
empty (zero ∷ l) = refl
empty (suc b ∷ l) = agree_none (suc b) l (1 ‥ 0) [] (ap (λ (q : Bool). leb 1 (suc b) && q) (lt-leb (suc b) 0 (omega arith)) ∙ and-false (leb 1 (suc b)))

-- a byte that begins no row
pub begins_none : (lo hi b : ℕ) → T (every (misses lo hi) table) → lo ≤ b → b ≤ hi → Leads b 1 1 0
begins_none lo hi b t h k =
    record {
      long = λ l. (unpicked b (λ f v. vanish b f v lo hi h k table t) l).0 ∙ ap suc (sym (empty l));
      good = λ l. (unpicked b (λ f v. vanish b f v lo hi h k table t) l).1 ∙ ap (λ (n : ℕ). eqb n 1) (sym (empty l));
    }

-- the bytes between the first two rows
pub begins_gap : (b : ℕ) → 0x80 ≤ b → b ≤ 0xC1 → Leads b 1 1 0
begins_gap b h k = begins_none 0x80 0xC1 b tt h k

-- the two rows that ask the same, on both sides of ED
pub begins_either : (b : ℕ) → 0xE1 ≤ b → b ≤ 0xEF → (b ≡ 0xED → ⊥) → Leads b 2 0x80 0xBF
begins_either b h k n = go (dec_le b 0xEC)
  where
    go : Dec (b ≤ 0xEC) → Leads b 2 0x80 0xBF
    go (yes m) = begins (take 3 table) (drop 4 table) 0xE1 0xEC 2 0x80 0xBF b refl tt tt h m
    go (no m) = begins (take 5 table) (drop 6 table) 0xEE 0xEF 2 0x80 0xBF b refl tt tt (omega arith) k

-- the part at i, from its first byte and the bytes after it
pub led : (s : List ℕ) (i more low high : ℕ) (part : Result ℕ ℕ) → i < length s → Leads (get_or s i 0) more low high
    → part ≡ followed more (agree (following more low high) (take (length s - (i + 1)) (drop (i + 1) s))) → part ≡ cut (drop i s)
led s i more low high part h r e =
    let d : drop i s ≡ get_or s i 0 ∷ drop (i + 1) s = rw add-one (drop-cons s i 0 h) in
    let t : take (length s - (i + 1)) (drop (i + 1) s) ≡ drop (i + 1) s = take_all (length s - (i + 1)) (drop (i + 1) s) (omega (arith, length-drop (i + 1) s)) in
    e ∙ ap (λ (l : List ℕ). followed more (agree (following more low high) l)) t
    ∙ sym (ap₂ (λ (t : Bool) (n : ℕ). cond {A = Result ℕ ℕ} t (Ok n) (Err n)) (r.good (drop (i + 1) s)) (r.long (drop (i + 1) s))) ∙ ap cut (sym d)

-- no byte begins two rows
abbrev apart : List (List Range) → Bool
apart [] = true
apart ([] ∷ rows) = false
apart (((a ‥ z) ∷ row) ∷ rows) = every (misses a z) rows && apart rows

-- one row of these is picked, or none is
abbrev Pick : ℕ → List (List Range) → Type 0
Pick b rows =
    ((r : Range) × (row : List Range) × (within r b ≡ true) × ((f : List Range → ℕ) → Vanishes b f → greatest (map f rows) ≡ f (r ∷ row)))
    ⊎ ((f : List Range → ℕ) → Vanishes b f → greatest (map f rows) ≡ 0)

within_both : (a z b : ℕ) → within (a ‥ z) b ≡ true → (a ≤ b) × (b ≤ z)
within_both a z b e = go (leb a b) (leb b z) refl refl e
  where
    go : (p q : Bool) → leb a b ≡ p → leb b z ≡ q → (p && q) ≡ true → (a ≤ b) × (b ≤ z)
    go true true h k t = (leb-true a b h, leb-true b z k)
    go true false h k t = absurd (false≢true t)
    go false q h k t = absurd (false≢true t)

pick : (b : ℕ) (rows : List (List Range)) → T (apart rows) → Pick b rows
pick b [] t = inr (λ f v. refl)
pick b ([] ∷ rows) t = absurd t
pick b (((a ‥ z) ∷ row) ∷ rows) t = go (within (a ‥ z) b) refl (pick b rows (and_right (every (misses a z) rows) _ t))
  where
    go : (q : Bool) → within (a ‥ z) b ≡ q → Pick b rows → Pick b (((a ‥ z) ∷ row) ∷ rows)
    go true e p = inl (a ‥ z, row, e, λ f v. only b f v a z (within_both a z b e).0 (within_both a z b e).1 [] rows ((a ‥ z) ∷ row) tt (and_left (every (misses a z) rows) _ t))
    go false e (inl p) = inl (p.0, p.1, p.2, λ f v. ap₂ max (v (a ‥ z) row e) (p.3 f v) ∙ zero-max (f (p.0 ∷ p.1)))
    go false e (inr p) = inr (λ f v. ap₂ max (v (a ‥ z) row e) (p f v))

-- what a first byte says, whatever it is
pub first_byte : (b : ℕ) → ((row : List Range) × ((l : List ℕ) → (size (b ∷ l) ≡ suc (agree row l)) × (whole (b ∷ l) ≡ eqb (agree row l) (length row)))) ⊎ ((l : List ℕ) → whole (b ∷ l) ≡ false)
first_byte b = ⊎_elim (λ p. inl (p.1, picked b p.0 p.1 p.2 p.3)) (λ p. inr (λ l. (unpicked b p l).1)) (pick b table tt)
