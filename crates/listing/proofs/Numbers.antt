-- The digits of a number, from its last one to its first, and how many there are.
use mathlib.Core.Path.{◌≡◌, refl, sym, ap, ◌∙◌}
use mathlib.Core.Bool.{Bool, true, false, cond}
use mathlib.Core.List.{List, [], ◌∷◌, ◌++◌, append_assoc}
use Prim.Native.Nat.{ℕ, zero, suc, ◌-◌, ◌*◌, ◌/◌, ◌%◌, ◌^◌, ◌≤◌, ◌<◌}
use native.Mathlib.Nat.{not-suc-le-zero, le_of_suc-le-suc}
use native.Mathlib.Omega.{arith}
use lib.ListN.{length, drop, set, replicate, length-set}
use lib.Dec.{ltb}
use borrow.Author.Tests.{ltb-false, lt-ltb, le-ltb}
use Rattle.std.proofs.Common.{rules}
use Rattle.std.specs.Fmt.{decimal as printed}
use Rattle.std.proofs.lemmas.Fmt.{decimal_from_appends, length-decimal-le_succ}
use Rattle.listing.specs.Listing.{digit, digits_in, decimal}
use Rattle.listing.specs.Held.{Shows}

-- more room than there are digits makes no difference
enough : (j k n : ℕ) → n < j → n < k → digits_in j n ≡ digits_in k n
enough zero k n h g = absurd (not-suc-le-zero h)
enough (suc j) zero n h g = absurd (not-suc-le-zero g)
enough (suc j) (suc k) n h g = go (ltb n 10) refl (λ big. enough j k (n / 10) (omega arith) (omega arith))
  where
    go : (t : Bool) → ltb n 10 ≡ t → (10 ≤ n → digits_in j (n / 10) ≡ digits_in k (n / 10))
        → cond t (digit n ∷ []) (digits_in j (n / 10) ++ (digit (n % 10) ∷ [])) ≡ cond t (digit n ∷ []) (digits_in k (n / 10) ++ (digit (n % 10) ∷ []))
    go true e rest = refl
    go false e rest = ap (λ (l : List ℕ). l ++ (digit (n % 10) ∷ [])) (rest (ltb-false n 10 e))

-- one digit
pub decimal_one : (n : ℕ) → n < 10 → decimal n ≡ digit n ∷ []
unfolding decimal
decimal_one n h = ap (λ (t : Bool). cond t (digit n ∷ []) (digits_in n (n / 10) ++ (digit (n % 10) ∷ []))) (lt-ltb n 10 h)

-- the last of several
pub decimal_more : (n : ℕ) → 9 < n → decimal n ≡ decimal (n / 10) ++ (digit (n % 10) ∷ [])
unfolding decimal
decimal_more n h =
    ap (λ (t : Bool). cond t (digit n ∷ []) (digits_in n (n / 10) ++ (digit (n % 10) ∷ []))) (le-ltb n 10 h)
    ∙ ap (λ (l : List ℕ). l ++ (digit (n % 10) ∷ [])) (enough n (suc (n / 10)) (n / 10) (omega arith) (omega arith))

-- what the library prints of a number
pub decimal_is : (n : ℕ) → n < 2 ^ 64 → decimal n ≡ printed n
unfolding decimal
decimal_is n h = decimal_from_appends digits_in (search rules) (suc n) n h (omega (arith, length-decimal-le_succ n h))

-- 10 multiplied k times
pub tens : ℕ → ℕ
tens zero = 1
tens (suc k) = 10 * tens k

pub tens_twenty : (n : ℕ) → n < 18446744073709551616 → n < tens 20
unfolding tens
tens_twenty n h = omega arith

-- a number of more than one digit has two places or more, and a tenth of it needs one place less
pub tens_two : (n k : ℕ) → n < tens k → 9 < n → 2 ≤ k
unfolding tens
tens_two n zero h g = omega arith
tens_two n (suc zero) h g = omega arith
tens_two n (suc (suc k)) h g = omega arith

pub tens_less : (n k : ℕ) → n < tens k → 1 ≤ k → n / 10 < tens (k - 1)
unfolding tens
tens_less n zero h g = omega arith
tens_less n (suc k) h g = let e : suc k - 1 ≡ k = omega arith in rw e (omega arith)

-- what stands from a place on, after the byte before it has been set
drop_set : (bytes : List ℕ) (at b : ℕ) → 1 ≤ at → at ≤ length bytes → drop (at - 1) (set bytes (at - 1) b) ≡ b ∷ drop at bytes
drop_set bytes zero b h g = absurd (not-suc-le-zero h)
drop_set bytes (suc k) b h g = let e : suc k - 1 ≡ k = omega arith in rw e (go bytes k g)
  where
    go : (l : List ℕ) (k : ℕ) → suc k ≤ length l → drop k (set l k b) ≡ b ∷ drop (suc k) l
    go [] k g = absurd (not-suc-le-zero g)
    go (x ∷ l) zero g = refl
    go (x ∷ l) (suc k) g = go l k (le_of_suc-le-suc g)

-- what has been written of n, from a place on, when rest is left
pub record Left (n after rest from : ℕ) (bytes : List ℕ) : Type 0 where
  pub room : length bytes ≡ 21
  pub low : 1 ≤ from
  pub high : from ≤ 20
  pub small : rest < tens from
  pub text : decimal rest ++ drop from bytes ≡ decimal n ++ (after ∷ [])

pub left_all : (n after : ℕ) → n < 18446744073709551616 → Left n after n 20 (set (replicate 21 0) 20 after)
left_all n after h = record { room = refl; low = omega arith; high = omega arith; small = tens_twenty n h; text = refl }

module _ {n after rest from : ℕ} {bytes : List ℕ} (l : Left n after rest from bytes) where
  -- the last digit is written, and a tenth is left
  pub left_next : 9 < rest → (b : ℕ) → b ≡ digit (rest % 10) → Left n after (rest / 10) (from - 1) (set bytes (from - 1) b)
  left_next h b e =
      let two : 2 ≤ from = tens_two rest from l.small h in
      record {
        room = length-set bytes (from - 1) b ∙ l.room;
        low = omega arith;
        high = omega (arith, l.high);
        small = tens_less rest from l.small l.low;
        text =
            ap (λ (t : List ℕ). decimal (rest / 10) ++ t) (drop_set bytes from b l.low (omega (arith, l.room, l.high)) ∙ ap (λ (x : ℕ). x ∷ drop from bytes) e)
            ∙ sym (append_assoc (decimal (rest / 10)) (digit (rest % 10) ∷ []) (drop from bytes))
            ∙ ap (λ (t : List ℕ). t ++ drop from bytes) (sym (decimal_more rest h))
            ∙ l.text;
      }

  -- the first digit is written
  pub left_none : rest ≤ 9 → (b : ℕ) → b ≡ digit rest → Shows n after (record { bytes = set bytes (from - 1) b; from = from - 1 })
  left_none h b e =
      record {
        room = length-set bytes (from - 1) b ∙ l.room;
        from = omega (arith, l.high);
        digits =
            drop_set bytes from b l.low (omega (arith, l.room, l.high))
            ∙ ap (λ (x : ℕ). x ∷ drop from bytes) e
            ∙ ap (λ (t : List ℕ). t ++ drop from bytes) (sym (decimal_one rest (omega arith)))
            ∙ l.text;
      }
