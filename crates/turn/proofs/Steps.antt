-- Steps that the methods share: what a request that is put in leaves as it is, and what a loop keeps.
use Rattle.std.specs.Prelude.{Option, None, Some}
use mathlib.Core.Path.{◌≡◌, refl, ap, sym}
use mathlib.Core.Bool.{Bool, true, false, cond, ◌&&◌, ◌||◌}
use mathlib.Core.List.{List, [], ◌∷◌}
use Prim.Native.Nat.{ℕ}
use native.Mathlib.Omega.{arith}
use lib.ListN.{length}
use lib.Dec.{leb}
use Rattle.turn_state.specs.declared.Kind.{Kind}
use Rattle.turn_state.specs.declared.Reason.TheVariants.{Timeout}
use Rattle.turn_state.specs.Maps.{get, contains, insert, remove, each, if_let}
use Rattle.turn_state.specs.State.{Txn, Run, set_txns, on_self}
use Rattle.turn_state.specs.Source.{under_id, under_drawn, add, insert_txn, encode, push_message, on_failure, repeated, poll_due}

-- tests
pub never : {A : Type 0} → ◌≡◌ {A = Bool} true false → A
never e = let z : ◌≡◌ {A = ℕ} 0 1 = cc in let f : ⊥ = omega arith in absurd f

pub both : (a b : Bool) → (a && b) ≡ true → (a ≡ true) × (b ≡ true)
both true b e = (refl, e)
both false b e = never (sym e)

-- where both ways agree
pub either_way : {S A : Type 0} (p : S → A) (b : Bool) (x y : S) (v : A) → p x ≡ v → p y ≡ v → p (cond b x y) ≡ v
either_way p true x y v l r = l
either_way p false x y v l r = r

pub if_there : {X A : Type 0} (p : Run → A) (o : Option X) (f : X → Run) (s : Run) (v : A) → ((x : X) → p (f x) ≡ v) → p s ≡ v → p (if_let o f s) ≡ v
if_there p None f s v l r = r
if_there p (Some x) f s v l r = l x

-- the report of a record touches only the records added
module _ (room held : ℕ) (s : Run) where
  pub add_self : (b : Bool) → (add b room held s).self ≡ s.self
  add_self true = refl
  add_self false = refl

  pub add_out : (b : Bool) → (add b room held s).out ≡ s.out
  add_out true = refl
  add_out false = refl

  pub add_ev : (b : Bool) → (add b room held s).ev ≡ s.ev
  add_ev true = refl
  add_ev false = refl

  pub add_used : (b : Bool) → (add b room held s).report.used ≡ s.report.used
  add_used true = refl
  add_used false = refl

-- so a request that is put in changes the requests, and nothing else but that report
module _ (t : Txn) (s : Run) where
  abbrev inside : Bool
  inside = contains (under_drawn t.msg.tid) s.self.txns

  pub inserted : (insert_txn t s).self ≡ set_txns (insert (under_drawn t.msg.tid) t s.self.txns) s.self
  unfolding insert_txn
  inserted = ap (set_txns (insert (under_drawn t.msg.tid) t s.self.txns)) (add_self 64 (length s.self.txns) s inside)

  pub inserted_out : (insert_txn t s).out ≡ s.out
  unfolding insert_txn
  inserted_out = add_out 64 (length s.self.txns) s inside

  pub inserted_ev : (insert_txn t s).ev ≡ s.ev
  unfolding insert_txn
  inserted_ev = add_ev 64 (length s.self.txns) s inside

  pub inserted_used : (insert_txn t s).report.used ≡ s.report.used
  unfolding insert_txn
  inserted_used = add_used 64 (length s.self.txns) s inside

-- a loop keeps what each turn of it keeps
pub each_keeps : {X : Type 0} (P : Run → Type 0) (body : X → Run → Run) → ((x : X) (s : Run) → P s → P (body x s)) → (xs : List X) (s : Run) → P s → P (each body xs s)
each_keeps P body k [] s h = h
each_keeps P body k (x ∷ xs) s h = each_keeps P body k xs (body x s) (k x s h)

-- so does a turn over what is due, where a failure keeps it, and a repeat
pub due_keeps : (P : Run → Type 0) (now : ℕ) → ((s : Run) (l : List Txn) → P s → P (on_self (set_txns l) s)) → ((kind : Kind) (s : Run) → P s → P (on_failure kind Timeout s))
    → ((t : Txn) (bytes : List ℕ) (s : Run) → P s → P (insert_txn t (push_message bytes s))) → (tid : List ℕ) (s : Run) → P s → P (poll_due now tid s)
unfolding poll_due
due_keeps P now out fail put tid s h = found (get (under_id tid) s.self.txns)
  where
    without : Run
    without = on_self (set_txns (remove (under_id tid) s.self.txns)) s

    found : (o : Option Txn)
        → P (if_let o (λ t. cond (without.self.reliable || leb 6 t.tries) (on_failure t.kind Timeout without) (insert_txn (repeated now t) (push_message (encode without.self t.msg) without))) s)
    found None = h
    found (Some t) = chosen (without.self.reliable || leb 6 t.tries)
      where
        chosen : (b : Bool) → P (cond b (on_failure t.kind Timeout without) (insert_txn (repeated now t) (push_message (encode without.self t.msg) without)))
        chosen true = fail t.kind without (out s _ h)
        chosen false = put (repeated now t) (encode without.self t.msg) without (out s _ h)
