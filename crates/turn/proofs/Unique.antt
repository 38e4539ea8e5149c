-- In every client that calls lead to, the lists are maps: no permission has the IP, no channel the peer and no request the id of another,
-- and no request has an id that was not lent.
use mathlib.Core.Path.{◌≡◌, refl, ap, sym, subst, ◌∙◌}
use mathlib.Core.Bool.{Bool}
use mathlib.Core.List.{List, [], ◌∷◌, ◌++◌}
use Prim.Native.Nat.{ℕ, ◌+◌, ◌-◌, ◌*◌, ◌≤◌, ◌<◌, min}
use native.Mathlib.Omega.{arith}
use lib.ListN.{length, take, drop, length-append, length-take, length-drop}
use borrow.Author.Tests.{lt-ltb, ltb-false}
use Rattle.stun_check.specs.Source.{same}
use Rattle.turn_state.specs.Maps.{insert}
use Rattle.turn_state.specs.State.{Txn, Perm, Chan, Turn, Run, begin, ids_in, id_at}
use Rattle.turn_state.specs.Source.{same_ip, same_address, under_id, under_drawn, for_ip, for_peer, repeated}
use Rattle.turn_state.specs.Number.{opened}
use Rattle.turn_state.specs.View.{Each, no_rows}
use Rattle.turn_state.specs.Sequence.{Call, outcome, after}
use Rattle.turn.proofs.Keys.{Unique, none_yet, unique_insert, unique_remove, unique_written, same_sound, same_whole, ip_sound, ip_whole, address_sound, address_whole}
use Rattle.turn.proofs.Rows.{each_insert, each_remove, each_get}
use Rattle.turn.proofs.Calls.{call_keeps, sequence_keeps, opening_keeps}
use Rattle.turn.proofs.Kept.{Fact, Anything, Keeps, time_of, datagram_of, method_kept}
use Rattle.turn.proofs.Refused.{given_of, run_of, no_condition, here, there}

abbrev pub UniquePerms : List Perm → Type 0
UniquePerms = Unique (λ p. p.ip) same_ip

abbrev pub UniqueChans : List Chan → Type 0
UniqueChans = Unique (λ c. c.peer) same_address

abbrev pub UniqueTxns : List Txn → Type 0
UniqueTxns = Unique (λ t. t.msg.tid) same

-- a request whose id was lent
abbrev pub Lent : Txn → Type 0
Lent t = ¬ (t.msg.tid ≡ [])

-- the lists of a client are maps
pub record AreMaps (c : Turn) : Type 0 where
  pub perms : UniquePerms c.perms
  pub chans : UniqueChans c.chans
  pub txns : UniqueTxns c.txns
  pub lent : Each Lent c.txns

-- while a call runs: as long as the ids lent are enough
abbrev Running : List ℕ → Fact
Running ids c us l = (l ≡ ids) × UniquePerms c.perms × UniqueChans c.chans × (length us ≤ ids_in ids → UniqueTxns c.txns × Each Lent c.txns)

-- an id that was lent is not empty
part_some : (n m : ℕ) (l : List ℕ) → 0 < n → m < length l → ¬ (take n (drop m l) ≡ [])
part_some n m l hn hm e =
    let len : length (take n (drop m l)) ≡ 0 = ap length e in
    let it : length (take n (drop m l)) ≡ min n (length l - m) = length-take n (drop m l) ∙ ap (min n) (length-drop m l) in
    omega arith

lent_some : (l : List ℕ) (k : ℕ) → k < ids_in l → ¬ (id_at l k ≡ [])
lent_some l k h = rw (lt-ltb k (ids_in l) h) (part_some 12 (12 * k) l (omega arith) (omega arith))

drawn_is : (id : List ℕ) → ¬ (id ≡ []) → under_drawn id ≡ under_id id
drawn_is [] h = absurd (h refl)
drawn_is (b ∷ bs) h = refl

put : (t : Txn) {ts : List Txn} → Lent t → UniqueTxns ts → UniqueTxns (insert (under_drawn t.msg.tid) t ts)
put t {ts = ts} h u =
    subst (λ (is : Txn → Bool). UniqueTxns (insert is t ts)) (sym (drawn_is t.msg.tid h)) (unique_insert (λ t. t.msg.tid) same same_sound same_whole t u)

steps : (ids : List ℕ) (now : ℕ) (buf : List ℕ) → Keeps now buf Anything (Running ids)
steps ids now buf =
    record {
      allocate = tt;
      refresh = tt;
      permission = λ ip. tt;
      bind = λ peer x c us l e h. tt;
      known = λ tid t c us l e h. tt;
      drawn = λ c us l h. (h.0, h.1, h.2, λ m. h.3 (fewer us (id_at l (length us)) m));
      asked = λ t c us l q e n w h. (h.0, h.1, h.2, λ m. new_one t c.txns us l e h.0 m (h.3 (fewer us (id_at l (length us)) m)));
      again = λ tid t c us l e n h. (
        h.0,
        h.1,
        h.2,
        λ m. (
          put (repeated now t) (each_get Lent (under_id tid) t (h.3 m).1 e) (unique_remove (λ t. t.msg.tid) same same_sound same_whole (under_id tid) (h.3 m).0),
          each_insert Lent (under_drawn t.msg.tid) (repeated now t) (each_get Lent (under_id tid) t (h.3 m).1 e) (each_remove Lent (under_id tid) (h.3 m).1),
        ),
      );
      dropped = λ tid c us l h.
          (h.0, h.1, h.2, λ m. (unique_remove (λ t. t.msg.tid) same same_sound same_whole (under_id tid) (h.3 m).0, each_remove Lent (under_id tid) (h.3 m).1));
      cleared = λ c us l h. (h.0, h.1, h.2, λ m. (none_yet, no_rows));
      permitted = λ p c us l at h. (h.0, unique_insert (λ p. p.ip) same_ip ip_sound ip_whole p h.1, h.2, h.3);
      forbidden = λ ip c us l h. (h.0, unique_remove (λ p. p.ip) same_ip ip_sound ip_whole (for_ip ip) h.1, h.2, h.3);
      numbered = λ x c us l e n m at h. (h.0, h.1, unique_insert (λ c. c.peer) same_address address_sound address_whole x h.2, h.3);
      written = λ peer x y c us l e yn yp at h.
          (h.0, h.1, unique_written (λ c. c.peer) same_address address_sound address_whole peer x y e yp h.2, h.3);
      unbound = λ peer c us l h. (h.0, h.1, unique_remove (λ c. c.peer) same_address address_sound address_whole (for_peer peer) h.2, h.3);
      keyed = λ realm key c us l h. h;
      nonced = λ nonce c us l h. h;
      relayed = λ relay c us l h. h;
      renewed = λ lifetime c us l q h. h;
      renewing = λ c us l h. h;
      closed = λ c us l h. h;
      over = λ c us l h. h;
    }
  where
    fewer : (us : List (List ℕ)) (x : List ℕ) → length (us ++ (x ∷ [])) ≤ ids_in ids → length us ≤ ids_in ids
    fewer us x m = let z : length (us ++ (x ∷ [])) ≡ length us + 1 = length-append us (x ∷ []) in omega arith

    new_one : (t : Txn) (ts : List Txn) (us : List (List ℕ)) (l : List ℕ) → t.msg.tid ≡ id_at l (length us) → l ≡ ids
        → length (us ++ (id_at l (length us) ∷ [])) ≤ ids_in ids → UniqueTxns ts × Each Lent ts
        → UniqueTxns (insert (under_drawn t.msg.tid) t ts) × Each Lent (insert (under_drawn t.msg.tid) t ts)
    new_one t ts us l e el m h =
        let z : length (us ++ (id_at l (length us) ∷ [])) ≡ length us + 1 = length-append us (id_at l (length us) ∷ []) in
        let k : length us < ids_in l = rw el (omega arith) in
        let lent : Lent t = rw e (lent_some l (length us) k) in
        (put t lent h.0, each_insert Lent (under_drawn t.msg.tid) t lent h.1)

pub call_maps : (c : Turn) (call : Call) → AreMaps c → AreMaps (outcome c call).client
call_maps c call h =
    let ids : List ℕ = (given_of call).ids in
    let s : Run = run_of c call in
    let start : Running ids c [] ids = (refl, h.perms, h.chans, λ m. (h.txns, h.lent)) in
    let end : Running ids s.self s.report.used s.lent = method_kept Anything (Running ids) call (begin c ids) (steps ids (time_of call) (datagram_of call)) start in
    call_keeps AreMaps c call h
    (λ z. let enough : length s.report.used ≤ ids_in ids =
    ltb-false (ids_in ids) (length s.report.used) (no_condition (given_of call) c s z 6 _ (there (there (there (there here))))) in
    record { perms = end.1; chans = end.2; txns = (end.3 enough).0; lent = (end.3 enough).1 })

-- from any opening on
pub are_maps : (username password : List ℕ) (reliable : Bool) (calls : List Call) → AreMaps (after (opened username password reliable) calls)
are_maps username password reliable calls =
    sequence_keeps AreMaps call_maps (opened username password reliable) calls
    (opening_keeps AreMaps (λ u p r. record { perms = none_yet; chans = none_yet; txns = none_yet; lent = no_rows }) username password reliable)
