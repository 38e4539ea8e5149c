-- What a line says is read back from it: a number from its digits, and a call's seven parts from its line. No number but 0 begins with `0`.
use mathlib.Core.Path.{◌≡◌, refl, sym, ap, ap₂, subst, ◌∙◌}
use mathlib.Core.Bool.{Bool, true, false, cond}
use mathlib.Core.List.{List, [], ◌∷◌, ◌++◌}
use Prim.Native.Nat.{ℕ, zero, suc, ◌+◌, ◌-◌, ◌*◌, ◌/◌, ◌%◌, ◌≤◌, ◌<◌}
use native.Mathlib.Nat.{not-suc-le-zero}
use native.Mathlib.Omega.{arith}
use lib.ListN.{get_or}
use lib.Dec.{ltb, eqb}
use borrow.Author.Tests.{ltb-true, ltb-false, ne_eqb}
use Rattle.std.specs.Prelude.{Option, Some, None}
use Rattle.listing.specs.declared.Call.{Call}
use Rattle.listing.specs.declared.Call.TheVariants.{Start, Data, Send, Poll, Lost, Close}
use Rattle.listing.specs.declared.held.Held.{Held}
use Rattle.listing.specs.Listing.{digit, decimal, blank, newline, name, due, call_text}
use Rattle.listing.specs.Held.{Holds}
use Rattle.listing.proofs.Numbers.{decimal_one, decimal_more}

-- two lines that hold one text are one
pub same_line : {text : List ℕ} {a b : Held} → Holds text a → Holds text b → a ≡ b
same_line h k = h.whole ∙ sym k.whole

-- an induction over the digits of a number, from the first on
by_digits : (P : ℕ → Type 0) → ((n : ℕ) → n < 10 → P n) → ((n : ℕ) → 9 < n → P (n / 10) → P n) → (k n : ℕ) → n < k → P n
by_digits P one more zero n h = absurd (not-suc-le-zero h)
by_digits P one more (suc k) n h = go (ltb n 10) refl (λ big. by_digits P one more k (n / 10) (omega arith))
  where
    go : (t : Bool) → ltb n 10 ≡ t → (9 < n → P (n / 10)) → P n
    go true e rest = one n (ltb-true n 10 e)
    go false e rest = more n (ltb-false n 10 e) (rest (ltb-false n 10 e))

-- the number that digits say, after those that say v
pub value_after : ℕ → List ℕ → ℕ
value_after v [] = v
value_after v (d ∷ l) = value_after (10 * v + (d - 48)) l

value_snoc : (v : ℕ) (l : List ℕ) (d : ℕ) → value_after v (l ++ (d ∷ [])) ≡ 10 * value_after v l + (d - 48)
unfolding value_after
value_snoc v [] d = refl
value_snoc v (x ∷ l) d = value_snoc (10 * v + (x - 48)) l d

pub decimal_value : (n : ℕ) → value_after 0 (decimal n) ≡ n
unfolding value_after
decimal_value n =
    by_digits
    (λ m. value_after 0 (decimal m) ≡ m)
    (λ m h. ap (value_after 0) (decimal_one m h) ∙ omega arith)
    (λ m h rest.
    ap (value_after 0) (decimal_more m h)
    ∙ value_snoc 0 (decimal (m / 10)) (digit (m % 10))
    ∙ ap (λ (v : ℕ). 10 * v + (digit (m % 10) - 48)) rest
    ∙ omega arith)
    (suc n)
    n
    (omega arith)

-- the first digit
front : (l : List ℕ) (d : ℕ) → 48 < get_or l 0 0 → 48 < get_or (l ++ (d ∷ [])) 0 0
front [] d h = omega arith
front (x ∷ l) d h = h

pub decimal_front : (n : ℕ) → 0 < n → 48 < get_or (decimal n) 0 0
decimal_front n =
    by_digits
    (λ m. 0 < m → 48 < get_or (decimal m) 0 0)
    (λ m h pos. rw (decimal_one m h) (omega arith))
    (λ m h rest pos. rw (decimal_more m h) (front (decimal (m / 10)) (digit (m % 10)) (rest (omega arith))))
    (suc n)
    n
    (omega arith)

-- bytes above the blank
abbrev Clear : List ℕ → Type 0
Clear [] = Unit {0}
Clear (x ∷ l) = (32 < x) × Clear l

clear_snoc : (l : List ℕ) (d : ℕ) → Clear l → 32 < d → Clear (l ++ (d ∷ []))
clear_snoc [] d c h = (h, tt)
clear_snoc (x ∷ l) d c h = (c.0, clear_snoc l d c.1 h)

clear_decimal : (n : ℕ) → Clear (decimal n)
clear_decimal n =
    by_digits
    (λ m. Clear (decimal m))
    (λ m h. subst Clear (sym (decimal_one m h)) (omega arith, tt))
    (λ m h rest. subst Clear (sym (decimal_more m h)) (clear_snoc (decimal (m / 10)) (digit (m % 10)) rest (omega arith)))
    (suc n)
    n
    (omega arith)

clear_name : (call : Call) → Clear (name call)
clear_name Start = omega arith
clear_name Data = omega arith
clear_name Send = omega arith
clear_name Poll = omega arith
clear_name Lost = omega arith
clear_name Close = omega arith

clear_due : (deadline : Option ℕ) → Clear (due deadline)
clear_due (Some t) = clear_decimal t
clear_due None = (omega arith, tt)

-- two words before a blank or a newline, and what follows
cut : (s : ℕ) → s ≤ 32 → (u v x y : List ℕ) → Clear u → Clear v → u ++ (s ∷ x) ≡ v ++ (s ∷ y) → (u ≡ v) × (x ≡ y)
cut s low [] [] x y c d e = (refl, cc)
cut s low [] (b ∷ v) x y c d e = let f : s ≡ b = cc in absurd (omega (arith, d.0))
cut s low (a ∷ u) [] x y c d e = let f : a ≡ s = cc in absurd (omega (arith, c.0))
cut s low (a ∷ u) (b ∷ v) x y c d e =
    let f : a ≡ b = cc in
    let g = cut s low u v x y c.1 d.1 (cc) in
    (ap₂ {C = List ℕ} (λ (h : ℕ) (t : List ℕ). h ∷ t) f g.0, g.1)

-- the name and the deadline that a word says; the third letters of the six names differ
named : List ℕ → Call
named l =
    let x = get_or l 2 0 in
    cond (eqb x 97) Start (cond (eqb x 116) Data (cond (eqb x 110) Send (cond (eqb x 108) Poll (cond (eqb x 115) Lost Close))))

named_name : (call : Call) → named (name call) ≡ call
unfolding named
named_name Start = refl
named_name Data = refl
named_name Send = refl
named_name Poll = refl
named_name Lost = refl
named_name Close = refl

timed : List ℕ → Option ℕ
timed l = cond (eqb (get_or l 0 0) 45) None (Some (value_after 0 l))

first_digit : (n : ℕ) → 48 ≤ get_or (decimal n) 0 0
first_digit zero = rw (decimal_one 0 (omega arith)) (omega arith)
first_digit (suc n) = omega (arith, decimal_front (suc n) (omega arith))

timed_due : (deadline : Option ℕ) → timed (due deadline) ≡ deadline
unfolding timed
timed_due (Some t) =
    ap (λ (b : Bool). cond b None (Some (value_after 0 (decimal t)))) (ne_eqb (get_or (decimal t) 0 0) 45 (λ e. omega (arith, first_digit t)))
    ∙ ap Some (decimal_value t)
timed_due None = refl

pub record SameParts (number number' : ℕ) (call call' : Call) (refusal refusal' events events' packets packets' bytes bytes' : ℕ)
    (deadline deadline' : Option ℕ) : Type 0 where
  pub numbers : number ≡ number'
  pub calls : call ≡ call'
  pub refusals : refusal ≡ refusal'
  pub event_counts : events ≡ events'
  pub packet_counts : packets ≡ packets'
  pub byte_counts : bytes ≡ bytes'
  pub deadlines : deadline ≡ deadline'

decimal_same : (m n : ℕ) → decimal m ≡ decimal n → m ≡ n
decimal_same m n e = sym (decimal_value m) ∙ ap (value_after 0) e ∙ decimal_value n

-- two calls' lines are equal only where all their parts are
pub line_says : (n n' : ℕ) (c c' : Call) (r r' e e' p p' b b' : ℕ) (d d' : Option ℕ)
    → call_text n c r e p b d ≡ call_text n' c' r' e' p' b' d' → SameParts n n' c c' r r' e e' p p' b b' d d'
line_says n n' c c' r r' e e' p p' b b' d d' same =
    let one = cut blank (omega arith) (decimal n) (decimal n') _ _ (clear_decimal n) (clear_decimal n') same in
    let two = cut blank (omega arith) (name c) (name c') _ _ (clear_name c) (clear_name c') one.1 in
    let three = cut blank (omega arith) (decimal r) (decimal r') _ _ (clear_decimal r) (clear_decimal r') two.1 in
    let four = cut blank (omega arith) (decimal e) (decimal e') _ _ (clear_decimal e) (clear_decimal e') three.1 in
    let five = cut blank (omega arith) (decimal p) (decimal p') _ _ (clear_decimal p) (clear_decimal p') four.1 in
    let six = cut blank (omega arith) (decimal b) (decimal b') _ _ (clear_decimal b) (clear_decimal b') five.1 in
    let seven = cut newline (omega arith) (due d) (due d') [] [] (clear_due d) (clear_due d') six.1 in
    record {
      numbers = decimal_same n n' one.0;
      calls = sym (named_name c) ∙ ap named two.0 ∙ named_name c';
      refusals = decimal_same r r' three.0;
      event_counts = decimal_same e e' four.0;
      packet_counts = decimal_same p p' five.0;
      byte_counts = decimal_same b b' six.0;
      deadlines = sym (timed_due d) ∙ ap timed seven.0 ∙ timed_due d';
    }
