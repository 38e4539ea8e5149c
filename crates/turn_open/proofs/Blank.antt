-- The client that holds nothing: its view is the definition's new client, and it is tidy. The numbers of an opening.
use Rattle.std.specs.Prelude.{Result, Ok, Err}
use mathlib.Core.Path.{◌≡◌, refl, sym, ap, ap₂, ◌∙◌}
use mathlib.Core.Bool.{Bool, true, false, cond, ◌||◌}
use mathlib.Core.List.{List, []}
use Prim.Native.Nat.{ℕ, ◌≤◌}
use native.Mathlib.Nat.{sub-zero}
use native.Mathlib.Omega.{arith}
use lib.ListN.{length, replicate}
use lib.Dec.{ltb}
use borrow.Author.Tests.{ltb-false, eq-eqb, ne_eqb}
use Rattle.stun_text.specs.declared.Text.{Text}
use Rattle.stun_text.specs.Lossy.{text_of}
use Rattle.stun_text.proofs.Laws.{text_bytes}
use Rattle.turn_state.specs.declared.Client.{Client}
use Rattle.turn_state.specs.State.{Turn}
use Rattle.turn_state.specs.Source.{new}
use Rattle.turn_state.specs.declared.Refusal.{Refusal}
use Rattle.turn_state.specs.declared.Refusal.TheVariants.{Late, LongText, IllFormed, LongBody, Full, FewIds, TakenId, SmallOutput}
use Rattle.turn_state.specs.Number.{number_of, open_number}
use Rattle.turn_state.specs.View.{view, TidyText, TidyTable, Tidy, no_rows, no_text}
use Rattle.turn_open.specs.Fresh.{fresh_client}
use Rattle.turn_open.specs.Opening.{Opening, opened_of}
use Rattle.turn_open.proofs.Zeros.{text_tidy}

-- a table of blank rows is tidy
pub blank_tidy : {R : Type 0} (tidy : R → Type 0) (blank : R) (room : ℕ) → TidyTable tidy blank room 0 (replicate room blank)
blank_tidy tidy blank room = record { fits = omega arith; each = no_rows; blanks = ap (λ (m : ℕ). replicate m blank) (sym (sub-zero room)) }

pub no_text_tidy : TidyText no_text
no_text_tidy = record { fits = omega arith; zeros = refl }

pub fresh_tidy : (username password : Text) (reliable : Bool) → TidyText username → TidyText password
    → Tidy (fresh_client username password reliable)
fresh_tidy username password reliable u p =
    record {
      password = p;
      credentials =
          record {
            username = u;
            realm = no_text_tidy;
            nonce = no_text_tidy;
            no_realm = refl;
            no_nonce = refl;
            no_key = refl;
          };
      requests = blank_tidy _ _ 64;
      permissions = blank_tidy _ _ 32;
      channels = blank_tidy _ _ 32;
      relay = refl;
      no_refresh = refl;
    }

pub fresh_view : (username password : List ℕ) (reliable : Bool) → length username ≤ 763 → length password ≤ 763
    → view (fresh_client (text_of username) (text_of password) reliable) ≡ new username password reliable
fresh_view username password reliable u p =
    ap₂ (λ (x y : List ℕ). new x y reliable) (text_bytes username u) (text_bytes password p)

-- an opening that is not refused: the lengths are within their limits
neither : (a b : Bool) (n : ℕ) → cond (a || b) 2 n ≡ 0 → (a ≡ false) × (b ≡ false)
neither false false n e = (refl, refl)
neither false true n e = absurd (omega arith)
neither true b n e = absurd (omega arith)

pub accepted_lengths : (username password : List ℕ) (n : ℕ) → n ≡ open_number username password → n ≡ 0
    → (length username ≤ 508) × (length password ≤ 256)
accepted_lengths username password n e z =
    let f = neither (ltb 508 (length username)) (ltb 256 (length password)) _ (sym e ∙ z) in
    (ltb-false _ _ f.0, ltb-false _ _ f.1)

module _ (username password : List ℕ) (reliable : Bool) where
  chosen : Bool → Turn
  chosen b = cond b (new username password reliable) (new [] [] false)

  number_nonzero : (r : Refusal) → number_of r ≡ 0 → ⊥
  number_nonzero Late e = omega arith
  number_nonzero LongText e = omega arith
  number_nonzero IllFormed e = omega arith
  number_nonzero LongBody e = omega arith
  number_nonzero Full e = omega arith
  number_nonzero FewIds e = omega arith
  number_nonzero TakenId e = omega arith
  number_nonzero SmallOutput e = omega arith

  pub refused : (result : Result Client Refusal) (r : Refusal) → result ≡ Err r → number_of r ≡ open_number username password
      → Opening username password reliable (opened_of result)
  unfolding chosen
  refused result r is e =
      rw is
      (record {
        refusal = e;
        client = sym (ap chosen (ne_eqb (open_number username password) 0 (λ z. number_nonzero r (e ∙ z))));
        tidy = fresh_tidy no_text no_text false no_text_tidy no_text_tidy;
      })

  pub accepted : (client : Client) → 0 ≡ open_number username password → client ≡ fresh_client (text_of username) (text_of password) reliable
      → Opening username password reliable (opened_of (Ok client))
  unfolding chosen
  accepted client e c =
      let l = accepted_lengths username password 0 e refl in
      let u : length username ≤ 763 = omega (arith, l.0) in
      let p : length password ≤ 763 = omega (arith, l.1) in
      record {
        refusal = e;
        client = ap view c ∙ fresh_view username password reliable u p ∙ sym (ap chosen (eq-eqb (open_number username password) 0 (sym e)));
        tidy = rw c (fresh_tidy (text_of username) (text_of password) reliable (text_tidy username u) (text_tidy password p));
      }
