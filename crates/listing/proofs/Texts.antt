-- A line that holds a text: what adding a part to it makes of it.
use mathlib.Core.Path.{◌≡◌, refl, sym, ap, ap₂, subst, ◌∙◌}
use mathlib.Core.List.{List, [], ◌∷◌, ◌++◌, append_assoc}
use Prim.Native.Nat.{ℕ, ◌+◌, ◌-◌, ◌≤◌}
use native.Mathlib.Omega.{arith}
use lib.ListN.{length, take, drop, replicate, length-append, length-drop, length-replicate, replicate-append-replicate}
use lib.Seq.{paste, take-append_seam, drop-append-add, drop_at, take-length, take_all, append_snoc}
use Rattle.std.specs.Prelude.{Option}
use Rattle.listing.specs.declared.held.Held.{Held}
use Rattle.listing.specs.declared.held.Digits.{Digits}
use Rattle.listing.specs.declared.Call.{Call}
use Rattle.listing.specs.Listing.{decimal, name, blank, newline, due}
use Rattle.listing.specs.Held.{held, Holds, Adds, Shows}

drop-zeros : (k m : ℕ) → drop {A = ℕ} k (replicate (k + m) 0) ≡ replicate m 0
drop-zeros k m =
    ap (drop {A = ℕ} k) (sym (replicate-append-replicate k m 0)) ∙ drop_at (replicate k 0) (replicate m 0) k (length-replicate k 0)

-- a part that is laid right after the text
paste_after : (text part z : List ℕ) → paste (text ++ z) (length text) part (length part) ≡ (text ++ part) ++ drop (length part) z
paste_after text part z =
    ap₂ (λ (a b : List ℕ). a ++ b ++ drop (length text + length part) (text ++ z)) (take-append_seam text z) (take-length part)
    ∙ ap (λ (t : List ℕ). (text ++ part) ++ t) (drop-append-add text z (length part))

paste_zeros : (n : ℕ) (text part : List ℕ) → length text + length part ≤ n
    → paste (text ++ replicate (n - length text) 0) (length text) part (length part)
    ≡ (text ++ part) ++ replicate (n - length (text ++ part)) 0
paste_zeros n text part h =
    let l : length (text ++ part) ≡ length text + length part = length-append text part in
    let r : n - length text ≡ length part + (n - length (text ++ part)) = omega arith in
    paste_after text part (replicate (n - length text) 0)
    ∙ ap (λ (m : ℕ). (text ++ part) ++ drop (length part) (replicate m 0)) r
    ∙ ap (λ (t : List ℕ). (text ++ part) ++ t) (drop-zeros (length part) (n - length (text ++ part)))

pub pasted : (before : Held) (part bytes : List ℕ) → bytes ≡ paste before.bytes before.len part (length part)
    → before.len + length part ≤ 160 → Adds part before (record { bytes = bytes; len = before.len + length part })
pasted before part bytes e h =
    record {
      long = refl;
      laid =
          λ text held-before.
          let n : before.len ≡ length text = λ i. (held-before i).len in
          let b : bytes ≡ (text ++ part) ++ replicate (160 - length (text ++ part)) 0 =
          e ∙ ap (λ (x : Held). paste x.bytes x.len part (length part)) held-before ∙ paste_zeros 160 text part (omega arith) in
          let m : before.len + length part ≡ length (text ++ part) = ap (λ (k : ℕ). k + length part) n ∙ sym (length-append text part) in
          λ i. record { bytes = b i; len = m i };
    }

-- a word and a blank, and what is added after them
pub adds_word : (word rest : List ℕ) {a b c : Held} → Adds (word ++ (blank ∷ [])) a b → Adds rest b c → Adds (word ++ (blank ∷ rest)) a c
adds_word word rest {a} {b} {c} f g =
    let e : (word ++ (blank ∷ [])) ++ rest ≡ word ++ (blank ∷ rest) = append_snoc word blank rest in
    record {
      long = omega (arith, f.long, g.long, length-append (word ++ (blank ∷ [])) rest, ap length e);
      laid =
          λ text h.
          g.laid (text ++ (word ++ (blank ∷ []))) (f.laid text h)
          ∙ ap held (append_assoc text (word ++ (blank ∷ [])) rest ∙ ap (λ (l : List ℕ). text ++ l) e);
    }

-- the digits of a number, lent from their first on
pub adds_number : (n after : ℕ) (d : Digits) {a b : Held} → Shows n after d → Adds (take (21 - d.from) (drop d.from d.bytes)) a b
    → Adds (decimal n ++ (after ∷ [])) a b × (b.len ≤ a.len + 21)
adds_number n after d {a} {b} s f =
    let k : length (drop d.from d.bytes) ≡ 21 - d.from = length-drop d.from d.bytes ∙ ap (λ (m : ℕ). m - d.from) s.room in
    let e : take (21 - d.from) (drop d.from d.bytes) ≡ drop d.from d.bytes =
    take_all (21 - d.from) (drop d.from d.bytes) (omega arith) in
    (subst (λ (l : List ℕ). Adds l a b) (e ∙ s.digits) f, omega (arith, f.long, ap length e))

-- a name, as one of six
pub adds_name : (call which : Call) {a b : Held} → call ≡ which → Adds (name which ++ (blank ∷ [])) a b → length (name which) ≤ 5
    → Adds (name call ++ (blank ∷ [])) a b × (b.len ≤ a.len + 6)
adds_name call which {a} {b} e f h =
    (subst (λ (k : Call). Adds (name k ++ (blank ∷ [])) a b) (sym e) f, omega (arith, f.long, length-append (name which) (blank ∷ [])))

-- a deadline, as a time or none
pub adds_due : (deadline which : Option ℕ) {a b : Held} → deadline ≡ which → Adds (due which ++ (newline ∷ [])) a b
    → Adds (due deadline ++ (newline ∷ [])) a b
adds_due deadline which {a} {b} e f = subst (λ (d : Option ℕ). Adds (due d ++ (newline ∷ [])) a b) (sym e) f

-- a line that was empty before
pub holds : (text : List ℕ) {a r : Held} → a ≡ held [] → Adds text a r → r.len ≤ 160 → Holds text r
holds text {a} {r} e f h =
    let w : r ≡ held text = f.laid [] e in
    record {
      whole = w;
      fits = h;
      text = ap (λ (x : Held). take x.len x.bytes) w ∙ take-append_seam text (replicate (160 - length text) 0);
    }
