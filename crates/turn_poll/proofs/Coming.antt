-- One request that is asked for comes into the code's table as into the definition's: over the one of its id, last where there is room,
-- or it meets a full table.
use Rattle.std.specs.Prelude.{Some, None, Ok, Err}
use Rattle.std.proofs.lemmas.List.{take_all, take-append-drop}
use Rattle.turn_state.specs.declared.Refusal.{Refusal}
use Rattle.turn_state.specs.declared.Refusal.TheVariants.{Full}
use mathlib.Core.Path.{◌≡◌, refl, ap, sym, subst, ◌∙◌}
use mathlib.Core.Bool.{Bool, true, false, ◌&&◌, not}
use mathlib.Core.List.{List, [], ◌∷◌, ◌++◌, map, map-append, reverse, reverse-append}
use Prim.Native.Nat.{ℕ, suc, ◌+◌, ◌≤◌, ◌<◌, min}
use native.Mathlib.Omega.{arith}
use lib.ListN.{length, take, drop, get_or, length-reverse, length-map}
use lib.Seq.{take-suc, length-take-le}
use native.Mathlib.Numerals.{add-one}
use Rattle.turn_tables.proofs.Search.{take-least}
use lib.Dec.{leb}
use borrow.Author.Tests.{lt-ltb, le-leb, lt-leb}
use Rattle.turn_state.specs.declared.Kind.{Kind}
use Rattle.turn_state.specs.declared.Asked.{Asked}
use Rattle.turn_state.specs.declared.Request.{Request}
use Rattle.turn_state.specs.declared.Requests.{Requests}
use Rattle.turn_state.specs.Maps.{contains, insert}
use Rattle.turn_state.specs.State.{Txn, ids_in, id_at}
use Rattle.turn_state.specs.Source.{under_id, under_drawn}
use Rattle.turn_state.specs.View.{kind_in, asked_of, txn_in, txns_in, either, shows_under, TidyRequest, TidyRequests}
use Rattle.turn_tables.specs.Rows.{position}
use Rattle.turn_tables.specs.Tables.{pushed_request, put_request}
use Rattle.turn_tables.proofs.Keys.{at_contains, nowhere_contains}
use Rattle.turn_tables.proofs.Laws.{txns_length, found_txn, add_txn, replace_txn, tidy_pushed_request, tidy_put_request}
use Rattle.turn_ids.specs.Ids.{lent_id}
use Rattle.turn_ids.proofs.Verdicts.{contains_none, contains_drawn, id_missing}
use Rattle.turn_plan.proofs.Drafting.{insert_drawn}
use Rattle.turn_plan.specs.Follows.{txn_at, requested, met_full}
use Rattle.turn_state.proofs.Rows.{kind_back}
use Rattle.turn_poll.specs.declared.Taken.{Taken}
use Rattle.turn_poll.specs.Taking.{Takes, TookOne, Met, Took, TookAll, kinds_of}

length_none : (x : Txn) (l : List Txn) → length (insert (under_drawn []) x l) ≡ suc (length l)
length_none x [] = refl
length_none x (t ∷ l) = ap suc (length_none x l)

length_missing : (id : List ℕ) (x : Txn) (l : List Txn) → id ≡ [] → length (insert (under_drawn id) x l) ≡ suc (length l)
length_missing id x l e = ap (λ (i : List ℕ). length (insert (under_drawn i) x l)) e ∙ length_none x l

-- no id is lent for it
module _ (s : Taken) (a : Asked) (lent : List ℕ) (k next : ℕ) (small : s.table.len ≤ 64) (rows : length s.table.rows ≡ 64) (missing : ids_in lent ≤ k) where
  no_id : (ks : List Kind) → length ks ≡ k → id_at lent (length ks) ≡ []
  no_id ks n = id_missing lent (length ks) (omega arith)

  met_none : (ks : List Kind) (txns : List Txn) → length ks ≡ k → Takes next lent ks txns s → met_full next lent (kind_in a ∷ ks) txns ≡ leb 64 (s.table.len + s.extra)
  met_none ks txns n t =
      let size : length (requested next lent ks txns) ≡ s.table.len + s.extra = t.held ∙ rw (txns_length s.table rows) (omega arith) in
      rw (no_id ks n, contains_none (requested next lent ks txns), t.free, size)

  pub none_full : 64 ≤ s.table.len + s.extra → Took s a lent k next (Err Full)
  none_full h = record { five = refl; met = λ ks txns n t. met_none ks txns n t ∙ le-leb 64 (s.table.len + s.extra) h }

  pub none_more : s.table.len + s.extra < 64 → Took s a lent k next (Ok (record { table = s.table; extra = s.extra + 1 }))
  none_more h =
      record {
        takes = λ ks txns n t. record {
          free = met_none ks txns n t ∙ lt-leb 64 (s.table.len + s.extra) h;
          short = λ m. absurd (let z : ⊥ = omega arith in z);
          held =
              length_missing (id_at lent (length ks)) (txn_at next lent (length ks) (kind_in a)) (requested next lent ks txns) (no_id ks n) ∙ rw t.held (omega arith);
          exact = λ m. absurd (let z : ⊥ = omega arith in z);
        };
        tidy = λ n. n;
        small = small;
        few = omega arith;
      }

-- a fact that holds whatever the flag
always : {A : Type 0} (b : Bool) (x : A) → either b (Unit {0}) (x ≡ x)
always true x = tt
always false x = refl

-- an id is lent for it
module _ (s : Taken) (a own : Asked) (lent id : List ℕ) (k next : ℕ) (small : s.table.len ≤ 64) (rows : length s.table.rows ≡ 64)
    (there : k < ids_in lent) (eid : id ≡ lent_id lent k) (eown : own ≡ asked_of (kind_in a)) (twelve : length id ≡ 12) where
  abbrev row : Request
  row = record { id = id; under = id; asked = own; tries = 1; next = next; retried = false }

  id_is : (ks : List Kind) → length ks ≡ k → id_at lent (length ks) ≡ id
  id_is ks n = sym (eid ∙ rw (lt-ltb k (ids_in lent) there, n, lt-ltb k (ids_in lent) there))

  row_is : (ks : List Kind) → length ks ≡ k → txn_in row ≡ txn_at next lent (length ks) (kind_in a)
  row_is ks n =
      let same_kind : kind_in own ≡ kind_in a = ap kind_in eown ∙ kind_back a in
      rw (same_kind, id_is ks n)

  neat : TidyRequest row
  neat = (rw eown (ap asked_of (kind_back a)), always (shows_under (kind_in own)) id)

  -- the table that `r` has is the definition's
  lands : (ks : List Kind) (txns : List Txn) (n : length ks ≡ k) → Takes next lent ks txns s → (t : Requests) → txns_in t ≡ insert (under_id id) (txn_in row) (txns_in s.table)
      → txns_in t ≡ requested next lent (kind_in a ∷ ks) txns
  lands ks txns n t table e =
      let same_rows : txns_in s.table ≡ requested next lent ks txns = t.exact (omega arith) in
      e ∙ insert_drawn id (txn_in row) (txns_in s.table) twelve
      ∙ ap (λ (l : List Txn). insert (under_drawn id) (txn_in row) l) same_rows
      ∙ ap (λ (x : Txn). insert (under_drawn id) x (requested next lent ks txns)) (row_is ks n)
      ∙ ap (λ (i : List ℕ). insert (under_drawn i) (txn_at next lent (length ks) (kind_in a)) (requested next lent ks txns)) (sym (id_is ks n))

  found_or_not : (ks : List Kind) (txns : List Txn) → length ks ≡ k → Takes next lent ks txns s → (b : Bool) → contains (under_id id) (txns_in s.table) ≡ b
      → met_full next lent (kind_in a ∷ ks) txns ≡ (not b && leb 64 s.table.len)
  found_or_not ks txns n t b e =
      let same_rows : txns_in s.table ≡ requested next lent ks txns = t.exact (omega arith) in
      let there-is : contains (under_drawn (id_at lent (length ks))) (requested next lent ks txns) ≡ b =
      ap (λ (i : List ℕ). contains (under_drawn i) (requested next lent ks txns)) (id_is ks n)
      ∙ ap (λ (l : List Txn). contains (under_drawn id) l) (sym same_rows) ∙ sym (contains_drawn id (txns_in s.table) twelve) ∙ e in
      let size : length (requested next lent ks txns) ≡ s.table.len = ap length (sym same_rows) ∙ rw (txns_length s.table rows) (omega arith) in
      rw (there-is, t.free, size)

  -- the state with that table
  abbrev with : Requests → Taken
  with t = record { table = t; extra = s.extra }

  taken_in : (r : Requests) → (b : Bool) → contains (under_id id) (txns_in s.table) ≡ b → (not b && leb 64 s.table.len) ≡ false
      → txns_in r ≡ insert (under_id id) (txn_in row) (txns_in s.table)
      → (ks : List Kind) (txns : List Txn) → length ks ≡ k → Takes next lent ks txns s → Takes next lent (kind_in a ∷ ks) txns (with r)
  taken_in r b e fits et ks txns n t =
      let none-extra : s.extra ≡ 0 = t.short (omega arith) in
      let is = lands ks txns n t r et in
      record {
        free = found_or_not ks txns n t b e ∙ fits;
        short = λ m. none-extra;
        held = rw (is, none-extra) (omega arith);
        exact = λ m. is;
      }

  pub put_over : (r : Requests) (i : ℕ) → position (under_id id) (txns_in s.table) ≡ Some i → r ≡ put_request s.table i row → Took s a lent k next (Ok (with r))
  put_over r i found et =
      let h = found_txn s.table rows (under_id id) i found in
      record {
        takes = taken_in r true (at_contains (under_id id) (txns_in s.table) i found) refl (ap txns_in et ∙ replace_txn s.table rows (under_id id) i row found);
        tidy = λ n. rw et (tidy_put_request s.table n i row neat);
        small = rw (et, lt-ltb i (min s.table.len 64) h) small;
        few = omega arith;
      }

  pub put_last : (r : Requests) → position (under_id id) (txns_in s.table) ≡ None → s.table.len < 64 → r ≡ pushed_request s.table row → Took s a lent k next (Ok (with r))
  put_last r missing room et =
      record {
        takes = taken_in r false (nowhere_contains (under_id id) (txns_in s.table) missing) (lt-leb 64 s.table.len room) (ap txns_in et ∙ add_txn s.table rows (under_id id) row missing room);
        tidy = λ n. rw et (tidy_pushed_request s.table n row neat);
        small = rw (et, lt-ltb s.table.len 64 room) (omega arith);
        few = omega arith;
      }

  pub put_nowhere : position (under_id id) (txns_in s.table) ≡ None → 64 ≤ s.table.len + s.extra → Took s a lent k next (Err Full)
  put_nowhere missing h =
      record {
        five = refl;
        met = λ ks txns n t.
            found_or_not ks txns n t false (nowhere_contains (under_id id) (txns_in s.table) missing) ∙ le-leb 64 s.table.len (omega (arith, h, t.short (omega arith)));
      }

-- from none to all of them
-- the state at the start, where a length above the room is the room's
module _ (t : Requests) (len : ℕ) (is : len ≡ min t.len 64) where
  abbrev begun : Taken
  begun = record { table = record { rows = t.rows; len = len }; extra = 0 }

  pub begins : (lent : List ℕ) (next : ℕ) → length t.rows ≡ 64 → Takes next lent [] (txns_in t) begun
  begins lent next rows =
      let same : txns_in begun.table ≡ txns_in t = rw is (ap (map txn_in) (take-least t.rows t.len 64 rows)) in
      record { free = refl; short = λ m. refl; held = rw same (omega arith); exact = λ m. same }

  pub begins_tidy : TidyRequests t → TidyRequests begun.table
  begins_tidy n =
      let h : len ≡ t.len = omega (arith, n.fits) in
      record { fits = rw h n.fits; each = rw h n.each; blanks = rw h n.blanks }

pub next_kinds : (rows : List Asked) (k : ℕ) (z : Asked) → k < length rows → kinds_of (take (k + 1) rows) ≡ kind_in (get_or rows k z) ∷ kinds_of (take k rows)
next_kinds rows k z h =
    rw (add-one, take-suc rows k z h, map-append kind_in (take k rows) (get_or rows k z ∷ [])) (reverse-append (map kind_in (take k rows)) (kind_in (get_or rows k z) ∷ []))

pub length_kinds : (rows : List Asked) (k : ℕ) → k ≤ length rows → length (kinds_of (take k rows)) ≡ k
length_kinds rows k h = rw (length-reverse, length-map, length-take-le k rows h)

-- one more of them
pub comes : (rows : List Asked) (z : Asked) (lent : List ℕ) (k next : ℕ) (txns : List Txn) (s r : Taken) → k < length rows → Takes next lent (kinds_of (take k rows)) txns s
    → TookOne s (get_or rows k z) lent k next r → Takes next lent (kinds_of (take (k + 1) rows)) txns r
comes rows z lent k next txns s r h t q =
    rw (next_kinds rows k z h) (q.takes (kinds_of (take k rows)) txns (length_kinds rows k (omega arith)) t)

-- a table that is met full stays so
still_met : (next : ℕ) (lent : List ℕ) (more ks : List Kind) (txns : List Txn) → met_full next lent ks txns ≡ true → met_full next lent (more ++ ks) txns ≡ true
still_met next lent [] ks txns e = e
still_met next lent (k ∷ more) ks txns e = let rest = still_met next lent more ks txns e in rw rest

pub meets : (rows : List Asked) (z : Asked) (lent : List ℕ) (k next : ℕ) (txns : List Txn) (s : Taken) (refusal : Refusal) → k < length rows → Takes next lent (kinds_of (take k rows)) txns s
    → Met s (get_or rows k z) lent k next refusal → met_full next lent (kinds_of rows) txns ≡ true
meets rows z lent k next txns s refusal h t q =
    let one : met_full next lent (kinds_of (take (k + 1) rows)) txns ≡ true =
    rw (next_kinds rows k z h) (q.met (kinds_of (take k rows)) txns (length_kinds rows k (omega arith)) t) in
    let parts : kinds_of rows ≡ kinds_of (drop (k + 1) rows) ++ kinds_of (take (k + 1) rows) =
    ap kinds_of (sym (take-append-drop (k + 1) rows)) ∙ ap reverse (map-append kind_in (take (k + 1) rows) (drop (k + 1) rows))
    ∙ reverse-append (map kind_in (take (k + 1) rows)) (map kind_in (drop (k + 1) rows)) in
    rw parts (still_met next lent (kinds_of (drop (k + 1) rows)) (kinds_of (take (k + 1) rows)) txns one)

-- all of them
pub took_all : (t : Requests) (rows : List Asked) (lent : List ℕ) (k next : ℕ) (s : Taken) → length rows ≤ k → Takes next lent (kinds_of (take k rows)) (txns_in t) s
    → (TidyRequests t → TidyRequests s.table) → TookAll t rows lent next (Ok s.table)
took_all t rows lent k next s h f tidy =
    let g : Takes next lent (kinds_of rows) (txns_in t) s =
    subst (λ (l : List Asked). Takes next lent (kinds_of l) (txns_in t) s) (take_all k rows h) f in
    record { free = g.free; exact = g.exact; tidy = tidy }
