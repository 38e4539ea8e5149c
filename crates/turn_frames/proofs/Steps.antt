-- A loop over rows, one packet at a time. Invariant (`Running`): the packets of the first i rows stand behind `at`, and what is after them
-- is as it was; there is room for all.
use Rattle.std.specs.Prelude.{Ok, Err}
use Rattle.stun_frame.specs.declared.Unwritten.TheVariants.{NoRoom}
use Rattle.std.specs.List.{sum_by, fold}
use Rattle.std.proofs.lemmas.List.{take_min}
use mathlib.Core.Path.{◌≡◌, refl, sym, ap, ap₂, ◌∙◌}
use mathlib.Core.Bool.{cond}
use mathlib.Core.List.{List, [], ◌∷◌, ◌++◌, map}
use Prim.Native.Nat.{ℕ, zero, suc, ◌+◌, ◌*◌, ◌≤◌, ◌<◌, min}
use native.Mathlib.Nat.{not-suc-le-zero, le_of_suc-le-suc, add-zero}
use native.Mathlib.Numerals.{add-one}
use native.Mathlib.Omega.{arith}
use borrow.Author.Tests.{le-leb}
use lib.ListN.{length, take, drop, get_or, length-append, length-take, length-drop}
use lib.Seq.{length-take-le}
use lib.Dec.{leb}
use Rattle.stun_frame.specs.Source.{room_after, Written}
use Rattle.turn_state.specs.Number.{framed}
use Rattle.turn_packet.proofs.Frames.{framed_append}
use Rattle.turn_packet.proofs.Places.{Put, put_eq, put_none, then, same_place}
use Rattle.turn_frames.specs.Frames.{numbered, sum_of}

-- the first `len` of `room` rows
pub in_use : {R : Type 0} (rows : List R) (len room n : ℕ) → length rows ≡ room → n ≡ min len room → take n rows ≡ take len rows
in_use rows len room n full e = rw (e, ← full) (take_min len rows)

pub numbered_map : {R : Type 0} (g : R → List ℕ) (k : ℕ) (rows : List R) → numbered (λ k r. g r) k rows ≡ map g rows
numbered_map g k [] = refl
numbered_map g k (r ∷ rows) = ap (λ (l : List (List ℕ)). g r ∷ l) (numbered_map g (suc k) rows)

module _ {R : Type 0} (size : R → ℕ) where
  -- one row more
  pub sum_next : (rows : List R) (i : ℕ) (d : R) → i < length rows → sum_of size (take (suc i) rows) ≡ sum_of size (take i rows) + (3 + size (get_or rows i d))
  sum_next [] i d h = absurd (not-suc-le-zero h)
  sum_next (x ∷ xs) zero d h = omega arith
  sum_next (x ∷ xs) (suc i) d h = let e = sum_next xs i d (le_of_suc-le-suc h) in omega arith

  -- no row less
  pub sum_le : (rows : List R) (i j : ℕ) → i ≤ j → sum_of size (take i rows) ≤ sum_of size (take j rows)
  sum_le rows zero j h = omega arith
  sum_le rows (suc i) zero h = absurd (not-suc-le-zero h)
  sum_le [] (suc i) (suc j) h = omega arith
  sum_le (x ∷ xs) (suc i) (suc j) h = let e = sum_le xs i j (le_of_suc-le-suc h) in omega arith

  pub sum_bound : ((r : R) → size r ≤ 3000) → (rows : List R) → sum_of size rows ≤ 3003 * length rows
  sum_bound b [] = omega arith
  sum_bound b (x ∷ xs) = let e = sum_bound b xs in omega (arith, b x)

  -- the sum of all
  folded : (a : ℕ) (rows : List R) → fold (λ b x. b + (3 + size x)) a rows ≡ a + sum_of size rows
  folded a [] = omega arith
  folded a (x ∷ xs) = folded (a + (3 + size x)) xs ∙ omega arith

  summed_is : (rows : List R) → sum_by (λ r. 3 + size r) rows ≡ sum_of size rows
  summed_is rows = folded 0 rows ∙ omega arith

  module _ (b : (r : R) → size r ≤ 3000) (rows : List R) (len room n : ℕ) where
    pub summed_bound : length rows ≡ room → n ≡ min len room → sum_by (λ r. 3 + size r) (take n rows) ≤ 3003 * room
    summed_bound full e = omega (arith, summed_is (take n rows), sum_bound b (take n rows), length-take n rows)

    pub summed : (s : ℕ) → length rows ≡ room → n ≡ min len room → room ≤ 65 → s ≡ sum_by (λ r. 3 + size r) (take n rows)
        → (s ≡ sum_of size (take len rows)) × (s ≤ 200000)
    summed s full e small is = (is ∙ summed_is (take n rows) ∙ ap (sum_of size) (in_use rows len room n full e), omega (arith, is, summed_bound full e))

-- what is written is as long as what stood there
length-after : (out b o : List ℕ) (at n r : ℕ) → length b ≡ n → at + n ≤ length out → Put out at b n r o → length o ≡ length out
length-after out b o at n r l h p =
    ap length p.1 ∙ length-append (take at out ++ b) (drop (at + n) out)
    ∙ ap₂ (λ (x y : ℕ). x + y) (length-append (take at out) b ∙ ap₂ (λ (x y : ℕ). x + y) (length-take-le at out (omega arith)) l) (length-drop (at + n) out)
    ∙ omega arith

numbered_next : {R : Type 0} (f : ℕ → R → List ℕ) (rows : List R) (k i : ℕ) (d : R) → i < length rows
    → numbered f k (take (suc i) rows) ≡ numbered f k (take i rows) ++ (f (k + i) (get_or rows i d) ∷ [])
numbered_next f [] k i d h = absurd (not-suc-le-zero h)
numbered_next f (x ∷ xs) k zero d h = ap (λ (j : ℕ). f j x ∷ []) (sym (add-zero k))
numbered_next f (x ∷ xs) k (suc i) d h =
    let s : suc k + i ≡ k + suc i = omega arith in
    ap (λ (l : List (List ℕ)). f k x ∷ l)
    (numbered_next f xs (suc k) i d (le_of_suc-le-suc h)
    ∙ ap (λ (j : ℕ). numbered f (suc k) (take i xs) ++ (f j (get_or xs i d) ∷ [])) s)

-- the packets of the first i rows
abbrev pub front : {R : Type 0} → (ℕ → R → List ℕ) → List R → ℕ → List ℕ
front f rows i = framed (numbered f 0 (take i rows))

-- the invariant: of n rows, `total` bytes, for which there is room, the first i are written
pub record Running {R : Type 0} (f : ℕ → R → List ℕ) (size : R → ℕ) (rows : List R) (len n total : ℕ) (out : List ℕ) (at i place : ℕ) (o : List ℕ) : Type 0 where
  pub rows_in : n ≤ length rows
  pub all : take n rows ≡ take len rows
  pub total_is : total ≡ sum_of size (take n rows)
  pub fits : at + total ≤ length out
  pub sized : (k : ℕ) → length (front f rows k) ≡ sum_of size (take k rows)
  pub reached : i ≤ n
  pub put : Put out at (front f rows i) (sum_of size (take i rows)) place o

pub running_start : {R : Type 0} (f : ℕ → R → List ℕ) (size : R → ℕ) (rows : List R) (len room n total : ℕ) (out : List ℕ) (at : ℕ) → length rows ≡ room
    → n ≡ min len room → total ≡ sum_of size (take len rows) → at + total ≤ length out
    → ((k : ℕ) → length (front f rows k) ≡ sum_of size (take k rows)) → Running f size rows len n total out at 0 at out
running_start f size rows len room n total out at full is e fits sized =
    let a : take n rows ≡ take len rows = in_use rows len room n full is in
    record {
      rows_in = omega arith;
      all = a;
      total_is = e ∙ ap (sum_of size) (sym a);
      fits = fits;
      sized = sized;
      reached = omega arith;
      put = put_none out at;
    }

module _ {R : Type 0} {f : ℕ → R → List ℕ} {size : R → ℕ} {rows : List R} {len n total : ℕ} {out : List ℕ} {at i place : ℕ} {o : List ℕ}
    (g : Running f size rows len n total out at i place o) where
  some_fit : at + sum_of size (take i rows) ≤ length out
  some_fit = omega (arith, g.fits, g.total_is, sum_le size rows i n g.reached)

  pub running_length : length o ≡ length out
  running_length = length-after out (front f rows i) o at (sum_of size (take i rows)) place (g.sized i) some_fit g.put

  -- there is room for the next one
  pub running_room : (d : R) → i < n → place + (3 + size (get_or rows i d)) ≤ length o
  running_room d below =
      omega (arith, running_length, g.fits, g.total_is, g.put.0, sum_next size rows i d (omega (arith, g.rows_in)), sum_le size rows (suc i) n below)

  -- and it stands behind the others
  pub running_more : (d : R) → i < n → (o₂ : List ℕ) (next : ℕ) → Put o place (framed (f i (get_or rows i d) ∷ [])) (3 + size (get_or rows i d)) next o₂
      → Running f size rows len n total out at (i + 1) next o₂
  running_more d below o₂ next p =
      let inside : i < length rows = omega (arith, g.rows_in) in
      let j : i + 1 ≡ suc i = add-one i in
      let z : i ≡ 0 + i = omega arith in
      let q = then out (front f rows i) at (sum_of size (take i rows)) (g.sized i) (omega (arith, some_fit)) o o₂ _ _ place next g.put p in
      let e : front f rows i ++ framed (f i (get_or rows i d) ∷ []) ≡ front f rows (i + 1) =
      sym (framed_append (numbered f 0 (take i rows)) (f i (get_or rows i d) ∷ []))
      ∙ ap (λ (k : ℕ). framed (numbered f 0 (take i rows) ++ (f k (get_or rows i d) ∷ []))) z
      ∙ ap framed (sym (numbered_next f rows 0 i d inside)) ∙ ap (front f rows) (sym j) in
      let s : sum_of size (take i rows) + (3 + size (get_or rows i d)) ≡ sum_of size (take (i + 1) rows) =
      sym (sum_next size rows i d inside) ∙ ap (λ (k : ℕ). sum_of size (take k rows)) (sym j) in
      record {
        rows_in = g.rows_in;
        all = g.all;
        total_is = g.total_is;
        fits = g.fits;
        sized = g.sized;
        reached = omega arith;
        put = put_eq out o₂ at next e s q;
      }

  -- the answer once all are written
  pub running_end : (ps : List (List ℕ)) (k : ℕ) → n ≤ i → numbered f 0 (take len rows) ≡ ps → total ≡ k
      → (Ok (at + total) ≡ cond (leb (at + k) (length out)) (Ok (at + k)) (Err NoRoom)) × (o ≡ room_after (Ok (at + total)) (take at out ++ framed ps) out)
  running_end ps k past e t =
      let j : i ≡ n = omega (arith, g.reached) in
      let w : at + k ≤ length out = omega (arith, g.fits) in
      let m : front f rows i ≡ framed ps = ap (front f rows) j ∙ ap (λ (l : List R). framed (numbered f 0 l)) g.all ∙ ap framed e in
      let s : sum_of size (take i rows) ≡ total = ap (λ (k : ℕ). sum_of size (take k rows)) j ∙ sym g.total_is in (
        rw (le-leb (at + k) (length out) w) (ap (λ (x : ℕ). Ok (at + x)) t),
        (put_eq out o at place m s g.put).1,
      )

  -- the next one is written
  pub running_written : (d : R) → i < n → {r : Written} → let k = place + 3 + size (get_or rows i d) in r ≡ cond (leb k (length o)) (Ok k) (Err NoRoom) → r ≡ Ok k
  running_written d below {r} is =
      let h = running_room d below in
      is ∙ rw (le-leb (place + 3 + size (get_or rows i d)) (length o) (omega arith))

  pub running_put : (d : R) → i < n → {r : Written} {o₂ : List ℕ} (p : List ℕ) {next : ℕ}
      → (r ≡ cond (leb (place + 3 + size (get_or rows i d)) (length o)) (Ok (place + 3 + size (get_or rows i d))) (Err NoRoom))
      × (o₂ ≡ room_after r (take place o ++ framed (p ∷ [])) o)
      → r ≡ Ok next → Put o place (framed (p ∷ [])) (3 + size (get_or rows i d)) next o₂
  running_put d below {r} {o₂} p {next} w e =
      let z = running_written d below w.0 in
      let k : place + 3 + size (get_or rows i d) ≡ place + (3 + size (get_or rows i d)) = omega arith in
      (same_place e z ∙ k, w.1 ∙ ap (λ (x : Written). room_after x (take place o ++ framed (p ∷ [])) o) z ∙ ap (λ (m : ℕ). take place o ++ framed (p ∷ []) ++ drop m o) k)
