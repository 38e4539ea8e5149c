-- The texts that an answer gives, as the code reads them; and the credentials with them: what they mean, and that they stay tidy.
use Rattle.std.specs.Prelude.{Option, None, Some, Result, Ok, Err, option_map}
use Rattle.std.specs.Option.{option_transpose}
use Rattle.std.specs.Result.{result_or}
use mathlib.Core.Path.{◌≡◌, refl, ap, sym}
use mathlib.Core.Bool.{Bool, true, false, cond}
use mathlib.Core.List.{List, [], ◌∷◌}
use Prim.Native.Nat.{ℕ}
use lib.ListN.{length}
use lib.Dec.{leb}
use borrow.Author.Tests.{lt-ltb, le-ltb, leb-true, leb-false}
use Rattle.stun_text.specs.declared.Text.{Text}
use Rattle.stun_text.specs.declared.TooLong.{TooLong}
use Rattle.stun_text.specs.Utf8.{replaced}
use Rattle.stun_text.specs.Lossy.{lossy_of, text_of}
use Rattle.stun_text.proofs.Laws.{text_bytes}
use Rattle.stun_check.specs.Source.{long_term}
use Rattle.stun_walk.specs.declared.Value.{Value}
use Rattle.stun_walk.specs.Source.{value_in, get_of, get_str_of, text_in as read_in}
use Rattle.turn_state.specs.declared.Client.{Client}
use Rattle.turn_state.specs.declared.Credentials.{Credentials}
use Rattle.turn_state.specs.declared.Refusal.{Refusal}
use Rattle.turn_state.specs.declared.Refusal.TheVariants.{LongText}
use Rattle.turn_state.specs.declared.Requests.{Requests}
use Rattle.turn_state.specs.State.{Turn, set_txns, set_realm, set_nonce, set_key}
use Rattle.turn_state.specs.Source.{text_found, get_str}
use Rattle.turn_state.specs.Number.{above}
use Rattle.turn_state.specs.View.{view, text_in, txns_in, TidyText, TidyCredentials}
use Rattle.turn_open.proofs.Zeros.{text_tidy}
use Rattle.turn_retry.specs.Learning.{with_realm, with_nonce, client_with}

-- the length of a text that is given, as the report has it
abbrev pub lengths : Option (List ℕ) → List ℕ
lengths None = []
lengths (Some l) = length l ∷ []

-- a text, if there is one, with zeros after it
abbrev pub Neat : Option Text → Type 0
Neat None = Unit {0}
Neat (Some t) = TidyText t

-- what the code reads of a type: a text in its room, if one is given; or else one that is too long
pub record Reads (found : Option (List ℕ)) (o : Option Text) : Type 0 where
  pub short : above 763 (lengths found) ≡ false
  pub text : found ≡ option_map text_in o
  pub tidy : Neat o

abbrev read : List ℕ → Bool → Result (Option Text) TooLong
read l fits = option_transpose (Some (cond fits (Ok (text_of l)) (Err (record {}))))

read_by : (l : List ℕ) (b : Bool) → leb (length l) 763 ≡ b → (o : Option Text) → read l b ≡ Ok o → Reads (Some l) o
read_by l true e o is =
    let fits = leb-true (length l) 763 e in
    let same : o ≡ Some (text_of l) = cc in
    rw same (record { short = rw (le-ltb 763 (length l) fits); text = ap (λ (x : List ℕ). Some x) (sym (text_bytes l fits)); tidy = text_tidy l fits })
read_by l false e o is = cc

long_by : (l : List ℕ) (b : Bool) → leb (length l) 763 ≡ b → (why : TooLong) → read l b ≡ Err why → above 763 (lengths (Some l)) ≡ true
long_by l true e why is = cc
long_by l false e why is = rw (lt-ltb 763 (length l) (leb-false (length l) 763 e))

reads_of : (buf : List ℕ) (f : Option Value) (o : Option Text) → read_in buf f ≡ Ok o → Reads (text_found buf f) o
unfolding lossy_of
reads_of buf None o is = let same : o ≡ None = cc in rw same (record { short = refl; text = refl; tidy = tt })
reads_of buf (Some v) o is = let l = replaced (value_in buf v) in read_by l (leb (length l) 763) refl o is

long_of : (buf : List ℕ) (f : Option Value) (why : TooLong) → read_in buf f ≡ Err why → above 763 (lengths (text_found buf f)) ≡ true
unfolding lossy_of
long_of buf None why is = cc
long_of buf (Some v) why is = let l = replaced (value_in buf v) in long_by l (leb (length l) 763) refl why is

pub reads_str : (buf : List ℕ) (t : ℕ) (o : Option Text) → get_str_of buf t ≡ Ok o → Reads (get_str buf t) o
unfolding get_str_of
reads_str buf t o is = reads_of buf (get_of buf t) o is

long_str : (buf : List ℕ) (t : ℕ) (why : TooLong) → get_str_of buf t ≡ Err why → above 763 (lengths (get_str buf t)) ≡ true
unfolding get_str_of
long_str buf t why is = long_of buf (get_of buf t) why is

-- what the definition's client learns
abbrev pub got_realm : Option (List ℕ) → Turn → Turn
got_realm None c = c
got_realm (Some realm) c = set_realm (Some realm) (set_key (Some (long_term c.username realm c.password)) c)

abbrev pub got_nonce : Option (List ℕ) → Turn → Turn
got_nonce None c = c
got_nonce (Some nonce) c = set_nonce (Some nonce) c

pub learnt_view : (client : Client) (less : Requests) (realm nonce : Option Text)
    → got_nonce (option_map text_in nonce) (got_realm (option_map text_in realm) (set_txns (txns_in less) (view client)))
    ≡ view (client_with (with_nonce nonce (with_realm realm client.password client.credentials)) less client)
learnt_view client less None None = refl
learnt_view client less None (Some nonce) = refl
learnt_view client less (Some realm) None = refl
learnt_view client less (Some realm) (Some nonce) = refl

pub realm_tidy : (realm : Option Text) (password : Text) (c : Credentials) → Neat realm → TidyCredentials c → TidyCredentials (with_realm realm password c)
realm_tidy None password c t n = n
realm_tidy (Some realm) password c t n =
    record { username = n.username; realm = t; nonce = n.nonce; no_realm = tt; no_nonce = n.no_nonce; no_key = tt }

pub nonce_tidy : (nonce : Option Text) (c : Credentials) → Neat nonce → TidyCredentials c → TidyCredentials (with_nonce nonce c)
nonce_tidy None c t n = n
nonce_tidy (Some nonce) c t n =
    record { username = n.username; realm = n.realm; nonce = t; no_realm = n.no_realm; no_nonce = tt; no_key = n.no_key }

-- a text that is refused is too long
abbrev pub given : Result (Option Text) TooLong → Result (Option Text) Refusal
given read = result_or read (Err LongText)

pub given_read : (read : Result (Option Text) TooLong) (o : Option Text) → given read ≡ Ok o → read ≡ Ok o
given_read (Ok x) o e = cc
given_read (Err why) o e = cc

pub refused_two : (read : Result (Option Text) TooLong) (e : Refusal) → given read ≡ Err e → e ≡ LongText
refused_two (Ok x) e is = cc
refused_two (Err why) e is = cc

pub long_given : (buf : List ℕ) (t : ℕ) (read : Result (Option Text) TooLong) (e : Refusal) → read ≡ get_str_of buf t → given read ≡ Err e → above 763 (lengths (get_str buf t)) ≡ true
long_given buf t (Ok x) e er is = cc
long_given buf t (Err why) e er is = long_str buf t why (sym er)
