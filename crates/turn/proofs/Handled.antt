-- "What the client does", of `handle` and `send`: what the check lets through, data on any channel's number, binds and their numbers,
-- and the end of the numbers.
use Rattle.std.specs.Prelude.{Option, None, Some}
use mathlib.Core.Path.{◌≡◌, refl, ap, ◌∙◌, sym, subst}
use mathlib.Core.Bool.{Bool, true, false, cond, ◌&&◌, ◌||◌, not, and-false}
use mathlib.Core.List.{List, [], ◌∷◌, map}
use Prim.Native.Nat.{◌+◌, ℕ, ◌<◌}
use native.Mathlib.Omega.{arith}
use lib.ListN.{length, length-append, length-map}
use lib.Dec.{leb, eqb}
use borrow.Author.Tests.{eq-eqb, ne_eqb, lt-leb}
use Rattle.stun_frame.specs.declared.classes.Class.{Class}
use Rattle.stun_frame.specs.declared.classes.Class.TheVariants.{Success, Error}
use Rattle.stun_frame.specs.Source.{class, field_at, decode_channel_data}
use Rattle.stun_address.specs.declared.Ip.{Ip}
use Rattle.stun_address.specs.declared.Address.{Address}
use Rattle.stun_walk.specs.Source.{readable, get_of, error_code_of, xor_addr_of}
use Rattle.stun_check.specs.Source.{verified}
use Rattle.turn_state.specs.declared.Kind.TheVariants.{Permission, ChannelBind}
use Rattle.turn_state.specs.declared.Reason.{Reason}
use Rattle.turn_state.specs.declared.Reason.TheVariants.{Code as ErrorCode}
use Rattle.turn_state.specs.declared.Event.TheVariants.{Data}
use Rattle.turn_state.specs.Maps.{filter, each, get, contains, insert, remove, is_some}
use Rattle.turn_state.specs.State.{Perm, drew, new_tid, Txn, Chan, Run, set_txns, on_self, tell, Turn}
use Rattle.turn_state.specs.Source.{bind_channel, request, insert_perm, waiting, under_id, for_ip, for_peer, of_number, tid_of, code_or_0, exempt, passed, is_answer, answered, answer, handle, on_success, on_failure, send_indication, send}
use Rattle.turn_state.specs.View.{Each, no_rows, row}
use Rattle.turn.proofs.Steps.{never, add_self, add_used, inserted_used}
use Rattle.turn.proofs.Keys.{address_whole}
use Rattle.turn.proofs.Numbers.{bind_chans}

-- a message that answers a pending request
module _ (now : ℕ) (buf : List ℕ) (s : Run) (t : Txn) (message : decode_channel_data buf ≡ None) (reads : readable buf ≡ true)
    (no-data : ¬ (field_at buf 0 ≡ 0x0017)) (pending : get (under_id (tid_of buf)) s.self.txns ≡ Some t) where
  handled : handle now buf s ≡ answer now buf t s
  unfolding handle
  handled = rw (message, reads, ne_eqb (field_at buf 0) 0x0017 no-data, pending)

  abbrev without : Run
  without = on_self (set_txns (remove (under_id (tid_of buf)) s.self.txns)) s

  -- with a key held, one that fails the check does nothing: a success, or an error other than 400, 401 and 438
  pub forged_success : (key : List ℕ) → s.self.key ≡ Some key → verified buf key ≡ false → class (field_at buf 0) ≡ Success → handle now buf s ≡ s
  forged_success key ek ev ec = handled ∙ rw (ec, ek, ev)

  pub forged_error : (key : List ℕ) → s.self.key ≡ Some key → verified buf key ≡ false → class (field_at buf 0) ≡ Error → exempt (error_code_of buf) ≡ false → handle now buf s ≡ s
  forged_error key ek ev ec ee = handled ∙ rw (ec, ek, ee, ev)

  taken : (cls : Class) → class (field_at buf 0) ≡ cls → is_answer cls ≡ true → passed s.self.key buf cls ≡ true → handle now buf s ≡ answered now buf cls t without
  taken cls ec ea ep = let goes : (is_answer cls && passed s.self.key buf cls) ≡ true = rw (ea, ep) in handled ∙ rw (ec, goes)

  unchecked : (key : Option (List ℕ)) → exempt (error_code_of buf) ≡ true → passed key buf Error ≡ true
  unchecked None e = refl
  unchecked (Some key) e = rw e

  -- these three are taken unchecked, with any key or none
  pub exempt_error : class (field_at buf 0) ≡ Error → exempt (error_code_of buf) ≡ true → handle now buf s ≡ answered now buf Error t without
  exempt_error ec ee = taken Error ec refl (unchecked s.self.key ee)

  -- what passes the check is taken, and without a key every answer
  pub checked_success : (key : List ℕ) → s.self.key ≡ Some key → verified buf key ≡ true → class (field_at buf 0) ≡ Success → handle now buf s ≡ on_success now t.kind buf without
  checked_success key ek ev ec = taken Success ec refl (rw (ek, ev))

  pub keyless_success : s.self.key ≡ None → class (field_at buf 0) ≡ Success → handle now buf s ≡ on_success now t.kind buf without
  keyless_success ek ec = taken Success ec refl (rw ek)

  -- a request or an indication under a pending id does nothing
  pub no_answer : is_answer (class (field_at buf 0)) ≡ false → handle now buf s ≡ s
  no_answer e = handled ∙ rw e

pub exempt_400 : exempt (Some 400) ≡ true
exempt_400 = refl

pub exempt_401 : exempt (Some 401) ≡ true
exempt_401 = refl

pub exempt_438 : exempt (Some 438) ≡ true
exempt_438 = refl

pub exempt_only : (n : ℕ) → ¬ (n ≡ 400) → ¬ (n ≡ 401) → ¬ (n ≡ 438) → exempt (Some n) ≡ false
exempt_only n a b c = rw (ne_eqb n 400 a, ne_eqb n 401 b, ne_eqb n 438 c)

-- Data indications and ChannelData are data whatever key is held; on the number of an unbound channel too
pub indication : (now : ℕ) (buf : List ℕ) (s : Run) (peer : Address) (start len : ℕ) → decode_channel_data buf ≡ None → readable buf ≡ true
    → field_at buf 0 ≡ 0x0017 → xor_addr_of buf 0x0012 ≡ Some peer → get_of buf 0x0013 ≡ Some (record { start = start; len = len }) → handle now buf s ≡ tell (Data peer start len) s
unfolding handle
indication now buf s peer start len ec er et ep ed = let is : eqb (field_at buf 0) 0x0017 ≡ true = eq-eqb (field_at buf 0) 0x0017 et in rw (ec, er, is, ep, ed)

pub channel_data : (now : ℕ) (buf : List ℕ) (s : Run) (num start len : ℕ) (c : Chan) → decode_channel_data buf ≡ Some (record { number = num; start = start; len = len })
    → get (of_number num) s.self.chans ≡ Some c → handle now buf s ≡ tell (Data c.peer start len) s
unfolding handle
channel_data now buf s num start len c ed ec = rw (ed, ec)

-- a second 401 or 438 fails the request
pub second_refusal : (now : ℕ) (buf : List ℕ) (t : Txn) (s : Run) → t.auth_retried ≡ true
    → answered now buf Error t s ≡ on_failure t.kind (ErrorCode (code_or_0 (error_code_of buf))) s
second_refusal now buf t s e =
    let code : ℕ = code_or_0 (error_code_of buf) in
    let stays : ((eqb code 401 || eqb code 438) && not t.auth_retried) ≡ false = rw e (and-false (eqb code 401 || eqb code 438)) in
    rw stays

-- what is put where it stands is what stood there
put_same : (is : Chan → Bool) (c : Chan) (l : List Chan) → get is l ≡ Some c → insert is c l ≡ l
put_same is c [] e = let z : ◌≡◌ {A = ℕ} 0 1 = cc in let f : ⊥ = omega arith in absurd f
put_same is c (d ∷ l) e = by (is d) e (put_same is c l)
  where
    by : (b : Bool) → cond b (Some d) (get is l) ≡ Some c → (get is l ≡ Some c → insert is c l ≡ l) → cond b (c ∷ l) (d ∷ insert is c l) ≡ d ∷ l
    by true e rest = let k : d ≡ c = cc in rw (← k)
    by false e rest = ap (λ (m : List Chan). d ∷ m) (rest e)

-- a bind success counts only for the number it asked
pub other_number : (now : ℕ) (peer : Address) (num : ℕ) (buf : List ℕ) (s : Run) (c : Chan) → get (for_peer peer) s.self.chans ≡ Some c → ¬ (c.num ≡ num)
    → (on_success now (ChannelBind peer num) buf s).self.chans ≡ s.self.chans
unfolding on_success
other_number now peer num buf s c e n = rw (e, ne_eqb c.num num n) (put_same (for_peer peer) c s.self.chans e)

-- a bind failure removes the peer's channel whatever its number
pub bind_failed : (peer : Address) (num other : ℕ) (why : Reason) (s : Run) → on_failure (ChannelBind peer num) why s ≡ on_failure (ChannelBind peer other) why s
unfolding on_failure
bind_failed peer num other why s = refl

-- after 0x7FFF a new peer gets Send indications
pub no_number : (now : ℕ) (peer : Address) (body : List ℕ) (s : Run) (relay : Address) → s.self.relay ≡ Some relay → s.self.closing ≡ false
    → contains (for_ip peer.ip) s.self.perms ≡ true → get (for_peer peer) s.self.chans ≡ None → 0x7FFF < s.self.next_num
    → send now peer body s ≡ send_indication peer body s
unfolding send
no_number now peer body s relay er ec ep eg h =
    let goes : (not (is_some s.self.relay) || s.self.closing) ≡ false = rw (er, ec) in
    let full : (not (contains (for_peer peer) s.self.chans) && leb s.self.next_num 0x7FFF) ≡ false =
    rw (lt-leb s.self.next_num 0x7FFF h) (and-false (not (contains (for_peer peer) s.self.chans))) in
    rw (goes, ep, full, eg)

-- a permission's success binds every unbound channel of its IP, even one with a bind pending: each draws an id
abbrev Has : List Chan → Address → Type 0
Has l p = contains (for_peer p) l ≡ true

got : (is : Chan → Bool) (l : List Chan) → contains is l ≡ true → (c : Chan) × (get is l ≡ Some c)
got is [] h = never (sym h)
got is (d ∷ l) h = by (is d) h (got is l)
  where
    by : (b : Bool) → cond b true (contains is l) ≡ true → (contains is l ≡ true → (c : Chan) × (get is l ≡ Some c)) → (c : Chan) × (cond b (Some d) (get is l) ≡ Some c)
    by true h rest = (d, refl)
    by false h rest = rest h

one_id : (now : ℕ) (peer : Address) (s : Run) → Has s.self.chans peer → length (bind_channel now peer s).report.used ≡ length s.report.used + 1
unfolding bind_channel request
one_id now peer s h =
    let g = got (for_peer peer) s.self.chans h in
    rw g.1 (ap length (inserted_used _ (drew s)) ∙ length-append s.report.used (new_tid s ∷ []))

an_id_each : (now : ℕ) (peers : List Address) (s : Run) → Each (Has s.self.chans) peers
    → length (each (bind_channel now) peers s).report.used ≡ length s.report.used + length peers
an_id_each now [] s no_rows = omega arith
an_id_each now (p ∷ peers) s (row h e) =
    let rest = an_id_each now peers (bind_channel now p s) (subst (λ (l : List Chan). Each (Has l) peers) (sym (bind_chans now p s)) e) in
    let one = one_id now p s h in
    omega arith

has_more : (c : Chan) (l : List Chan) {peers : List Address} → Each (Has l) peers → Each (Has (c ∷ l)) peers
has_more c l no_rows = no_rows
has_more c l (row {r = p} h e) = row (by (for_peer p c)) (has_more c l e)
  where
    by : (b : Bool) → cond b true (contains (for_peer p) l) ≡ true
    by true = refl
    by false = h

has_own : (test : Chan → Bool) (l : List Chan) → Each (Has l) (map (λ c. c.peer) (filter test l))
has_own test [] = no_rows
has_own test (c ∷ l) = by (test c) (has_more c l (has_own test l))
  where
    by : (b : Bool) → Each (Has (c ∷ l)) (map (λ c. c.peer) (filter test l)) → Each (Has (c ∷ l)) (map (λ c. c.peer) (cond b (c ∷ filter test l) (filter test l)))
    by true rest = let own : Has (c ∷ l) c.peer = rw (address_whole c.peer) in row own rest
    by false rest = rest

permitted_chans : (p : Perm) (s : Run) → (insert_perm p s).self.chans ≡ s.self.chans
unfolding insert_perm
permitted_chans p s = ap (λ (c : Turn). c.chans) (add_self 32 (length s.self.perms) s (contains (for_ip p.ip) s.self.perms))

permitted_used : (p : Perm) (s : Run) → (insert_perm p s).report.used ≡ s.report.used
unfolding insert_perm
permitted_used p s = add_used 32 (length s.self.perms) s (contains (for_ip p.ip) s.self.perms)

pub binds_waiting : (now : ℕ) (ip : Ip) (buf : List ℕ) (s : Run)
    → length (on_success now (Permission ip) buf s).report.used ≡ length s.report.used + length (filter (waiting ip) s.self.chans)
unfolding on_success
binds_waiting now ip buf s =
    let p : Perm = record { ip = ip; refresh = Some (now + 240000) } in
    let l : List Chan = (insert_perm p s).self.chans in
    let all = an_id_each now (map (λ c. c.peer) (filter (waiting ip) l)) (insert_perm p s) (has_own (waiting ip) l) in
    let used : length (insert_perm p s).report.used ≡ length s.report.used = ap length (permitted_used p s) in
    let many : length (map (λ c. c.peer) (filter (waiting ip) l)) ≡ length (filter (waiting ip) s.self.chans) =
    length-map (filter (waiting ip) l) (λ c. c.peer) ∙ ap (λ (m : List Chan). length (filter (waiting ip) m)) (permitted_chans p s) in
    all ∙ omega arith
