-- Channel numbers: 0x4000 to 0x7FFF, rising in the order of the table, never reused (`Climb`), kept by every call. So the source's second
-- map `by_num`, from a number to its peer, is told by the channels: what it does to that map is what happens to `peer_of`.
use Rattle.std.specs.Prelude.{None, Some}
use mathlib.Core.Path.{◌≡◌, refl, ap}
use mathlib.Core.Bool.{Bool, true, false, cond}
use mathlib.Core.List.{List, [], ◌∷◌}
use Prim.Native.Nat.{ℕ, suc, ◌≤◌, ◌<◌}
use native.Mathlib.Omega.{arith}
use lib.Dec.{eqb}
use borrow.Author.Tests.{eqb-true, ne_eqb}
use Rattle.turn_state.specs.Maps.{get, contains, insert, remove, if_let}
use Rattle.turn_state.specs.State.{Chan}
use Rattle.turn_state.specs.Source.{for_peer, peer_of}
use Rattle.turn.proofs.Steps.{never}

-- numbers from `low` on, rising, below `next`
pub data Climb (next : ℕ) : ℕ → List Chan → Type 0 where
  top : {low : ℕ} → low ≤ next → Climb next low []
  up : {low : ℕ} (c : Chan) {l : List Chan} → low ≤ c.num → Climb next (suc c.num) l → Climb next low (c ∷ l)

climb_below : {next low : ℕ} {l : List Chan} → Climb next low l → low ≤ next
climb_below (top h) = h
climb_below (up c h r) = let z = climb_below r in omega arith

climb_from : {next low down : ℕ} {l : List Chan} → down ≤ low → Climb next low l → Climb next down l
climb_from {down = down} d (top h) = top {low = down} (omega arith)
climb_from {down = down} d (up c h r) = up {low = down} c (omega arith) r

-- a new channel, under the next number
pub climb_new : (is : Chan → Bool) (c : Chan) {low : ℕ} {l : List Chan} → contains is l ≡ false → Climb c.num low l → Climb (suc c.num) low (insert is c l)
climb_new is c e (top h) = up c h (top {low = suc c.num} (omega arith))
climb_new is c {low = low} e (up d {l = l} h r) = by (is d) e (λ k. climb_new is c k r)
  where
    by : (b : Bool) → cond b true (contains is l) ≡ false → (contains is l ≡ false → Climb (suc c.num) (suc d.num) (insert is c l))
        → Climb (suc c.num) low (cond b (c ∷ l) (d ∷ insert is c l))
    by true e rest = never e
    by false e rest = up d h (rest e)

-- a channel that is written where it stands, under its number
pub climb_put : (is : Chan → Bool) (c x : Chan) {next low : ℕ} {l : List Chan} → get is l ≡ Some c → x.num ≡ c.num → Climb next low l → Climb next low (insert is x l)
climb_put is c x e n (top h) = let z : ◌≡◌ {A = ℕ} 0 1 = cc in let f : ⊥ = omega arith in absurd f
climb_put is c x {next = next} {low = low} e n (up d {l = l} h r) = by (is d) e (λ k. climb_put is c x k n r)
  where
    by : (b : Bool) → cond b (Some d) (get is l) ≡ Some c → (get is l ≡ Some c → Climb next (suc d.num) (insert is x l)) → Climb next low (cond b (x ∷ l) (d ∷ insert is x l))
    by true e rest = let k : d ≡ c = cc in let m : x.num ≡ d.num = cc in up {low = low} x {l = l} (rw m h) (rw m r)
    by false e rest = up d h (rest e)

pub climb_remove : (is : Chan → Bool) {next low : ℕ} {l : List Chan} → Climb next low l → Climb next low (remove is l)
climb_remove is (top h) = top h
climb_remove is {next = next} {low = low} (up d {l = l} h r) = by (is d) (climb_remove is r)
  where
    by : (b : Bool) → Climb next (suc d.num) (remove is l) → Climb next low (cond b l (d ∷ remove is l))
    by true rest = climb_from (omega arith) r
    by false rest = up d h rest

-- a channel that is found is one of them, and no number below them is found
climb_found : (is : Chan → Bool) (c : Chan) {next low : ℕ} {l : List Chan} → Climb next low l → get is l ≡ Some c → low ≤ c.num
climb_found is c (top h) e = let z : ◌≡◌ {A = ℕ} 0 1 = cc in let f : ⊥ = omega arith in absurd f
climb_found is c {low = low} (up d {l = l} h r) e = by (is d) e (λ k. climb_found is c r k)
  where
    by : (b : Bool) → cond b (Some d) (get is l) ≡ Some c → (get is l ≡ Some c → suc d.num ≤ c.num) → low ≤ c.num
    by true e rest = let k : d ≡ c = cc in rw (← k) h
    by false e rest = let z = rest e in omega arith

peer_below : (num : ℕ) {next low : ℕ} {l : List Chan} → num < low → Climb next low l → peer_of num l ≡ None
peer_below num h (top k) = refl
peer_below num h (up c k r) = let rest = peer_below num (omega arith) r in rw (ne_eqb c.num num (omega arith)) rest

-- `by_num.insert(num, peer)`, with the channel
pub by_num_insert : (c : Chan) (num : ℕ) {low : ℕ} {l : List Chan} → contains (for_peer c.peer) l ≡ false → Climb c.num low l
    → peer_of num (insert (for_peer c.peer) c l) ≡ cond (eqb c.num num) (Some c.peer) (peer_of num l)
by_num_insert c num e (top h) = by (eqb c.num num)
  where
    by : (b : Bool) → if_let (cond b (Some c) None) (λ c. Some c.peer) None ≡ cond b (Some c.peer) None
    by true = refl
    by false = refl
by_num_insert c num e (up d {l = l} h r) = by (for_peer c.peer d) e (eqb d.num num) refl (climb_below r) (λ k. by_num_insert c num k r)
  where
    by : (b : Bool) → cond b true (contains (for_peer c.peer) l) ≡ false → (n : Bool) → eqb d.num num ≡ n → suc d.num ≤ c.num
        → (contains (for_peer c.peer) l ≡ false → peer_of num (insert (for_peer c.peer) c l) ≡ cond (eqb c.num num) (Some c.peer) (peer_of num l))
        → peer_of num (cond b (c ∷ l) (d ∷ insert (for_peer c.peer) c l)) ≡ cond (eqb c.num num) (Some c.peer) (peer_of num (d ∷ l))
    by true e n q m rest = never e
    by false e true q m rest = let z = eqb-true d.num num q in rw (q, ne_eqb c.num num (omega arith))
    by false e false q m rest = rw q (rest e)

-- `by_num.remove(&c.num)`, with the channel of the peer, where there is one
pub by_num_remove : (is : Chan → Bool) (c : Chan) (num : ℕ) {next low : ℕ} {l : List Chan} → Climb next low l → get is l ≡ Some c
    → peer_of num (remove is l) ≡ cond (eqb c.num num) None (peer_of num l)
by_num_remove is c num (top h) e = let z : ◌≡◌ {A = ℕ} 0 1 = cc in let f : ⊥ = omega arith in absurd f
by_num_remove is c num {next = next} (up d {l = l} h r) e = by (is d) e (eqb d.num num) refl (λ k. by_num_remove is c num r k)
  where
    by : (b : Bool) → cond b (Some d) (get is l) ≡ Some c → (n : Bool) → eqb d.num num ≡ n
        → (get is l ≡ Some c → peer_of num (remove is l) ≡ cond (eqb c.num num) None (peer_of num l))
        → peer_of num (cond b l (d ∷ remove is l)) ≡ cond (eqb c.num num) None (peer_of num (d ∷ l))
    by true e true q rest =
        let k : d ≡ c = cc in let z = eqb-true d.num num q in rw (← k, q) (peer_below num (omega arith) r)
    by true e false q rest = let k : d ≡ c = cc in rw (← k, q)
    by false e true q rest = let z = eqb-true d.num num q in let m = climb_found is c r e in rw (q, ne_eqb c.num num (omega arith))
    by false e false q rest = rw q (rest e)

pub by_num_missing : (is : Chan → Bool) (l : List Chan) → get is l ≡ None → remove is l ≡ l
by_num_missing is [] e = refl
by_num_missing is (d ∷ l) e = by (is d) e (by_num_missing is l)
  where
    by : (b : Bool) → cond b (Some d) (get is l) ≡ None → (get is l ≡ None → remove is l ≡ l) → cond b l (d ∷ remove is l) ≡ d ∷ l
    by true e rest = let z : ◌≡◌ {A = ℕ} 0 1 = cc in let f : ⊥ = omega arith in absurd f
    by false e rest = ap (λ (m : List Chan). d ∷ m) (rest e)

-- a channel that is written where it stands leaves it
pub by_num_kept : (is : Chan → Bool) (c x : Chan) (num : ℕ) (l : List Chan) → get is l ≡ Some c → x.num ≡ c.num → x.peer ≡ c.peer
    → peer_of num (insert is x l) ≡ peer_of num l
by_num_kept is c x num [] e n p = let z : ◌≡◌ {A = ℕ} 0 1 = cc in let f : ⊥ = omega arith in absurd f
by_num_kept is c x num (d ∷ l) e n p = by (is d) e (eqb d.num num) refl (λ k. by_num_kept is c x num l k n p)
  where
    same : (m : Bool) → eqb d.num num ≡ m → x.num ≡ d.num → x.peer ≡ d.peer → peer_of num (x ∷ l) ≡ peer_of num (d ∷ l)
    same true q nd pd = rw (nd, q) (ap Some pd)
    same false q nd pd = rw (nd, q)

    by : (b : Bool) → cond b (Some d) (get is l) ≡ Some c → (m : Bool) → eqb d.num num ≡ m → (get is l ≡ Some c → peer_of num (insert is x l) ≡ peer_of num l)
        → peer_of num (cond b (x ∷ l) (d ∷ insert is x l)) ≡ peer_of num (d ∷ l)
    by true e m q rest = let k : d ≡ c = cc in let nd : x.num ≡ d.num = cc in let pd : x.peer ≡ d.peer = cc in same m q nd pd
    by false e true q rest = rw q
    by false e false q rest = rw q (rest e)
