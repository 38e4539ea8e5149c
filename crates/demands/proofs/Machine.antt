-- Machine numbers: the steps of a call keep `Fits` (Kept), so every accepted call does, and a refused one hands the client back.
use Rattle.std.specs.Prelude.{Option, None, Some}
use mathlib.Core.Path.{◌≡◌, refl, sym, subst}
use mathlib.Core.Logic.{◌⊎◌, inl, inr}
use mathlib.Core.Bool.{Bool, true, false, cond}
use mathlib.Core.List.{List, []}
use Prim.Native.Nat.{ℕ, zero, suc, ◌+◌, ◌*◌, ◌%◌, ◌^◌, ◌≤◌, ◌<◌}
use native.Mathlib.Omega.{arith}
use lib.ListN.{get_or}
use lib.Dec.{leb, ltb}
use borrow.Author.Tests.{leb-false, ltb-false}
use Rattle.stun_frame.specs.Source.{field_at}
use Rattle.stun_walk.specs.Source.{get_of, code_in, error_code_of, lifetime_in, lifetime_of}
use Rattle.turn_state.specs.declared.Client.{Client}
use Rattle.turn_state.specs.State.{Txn, Perm, Chan, Turn, begin, set_txns, set_perms, set_chans, set_refresh_at}
use Rattle.turn_state.specs.Source.{under_id, under_drawn, for_ip, for_peer, first_wait, repeated, granted_or, refresh_time, RELIABLE_TIMEOUT, PERMISSION_REFRESH, CHANNEL_REFRESH, MAX_TRIES}
use Rattle.turn_state.specs.Sequence.{Call, Start, Handle, Send, Poll, TransportFailed, Close, outcome}
use Rattle.turn_state.specs.View.{view, Each, no_rows, row}
use Rattle.turn.proofs.Refused.{given_of, run_of, no_condition, here}
use Rattle.turn.proofs.Rows.{each_insert, each_remove, each_get}
use Rattle.turn.proofs.Calls.{call_keeps, opening_keeps}
use Rattle.turn.proofs.Kept.{Renewal, not_yet, later, Fact, Keeps, time_of, datagram_of, method_kept}
use Rattle.demands.specs.History.{Bytes, Typed, Step, Allowed, Along, end, next}
use Rattle.demands.specs.Machine.{LAST_TIME, Within, WithinIf, KindFits, TxnFits, ChanFits, LONGEST, Fits, CodeFits, LifetimeFits, ReadFits, LongestFits, MachineNumbers}
use Rattle.stun_walk.specs.declared.Value.{Value}

-- a byte of a list of bytes, or the 0 that stands for none
byte_at : {l : List ℕ} → Bytes l → (i : ℕ) → get_or l i 0 < 2 ^ 8
byte_at no_rows i = omega arith
byte_at (row h more) zero = h
byte_at (row h more) (suc i) = byte_at more i

-- what is read of a datagram
module _ (buf : List ℕ) (b : Bytes buf) where
  code_fits : CodeFits (error_code_of buf)
  unfolding error_code_of
  code_fits = found (get_of buf 0x0009)
    where
      chosen : (start len : ℕ) (short : Bool) → CodeFits (cond short None (Some (get_or buf (start + 2) 0 % 8 * 100 + get_or buf (start + 3) 0)))
      chosen start len true = tt
      chosen start len false = omega (arith, byte_at b (start + 3))

      found : (f : Option Value) → CodeFits (code_in buf f)
      found None = tt
      found (Some v) = chosen v.start v.len (ltb v.len 4)

  lifetime_fits : LifetimeFits (lifetime_of buf)
  unfolding lifetime_of
  lifetime_fits = found (get_of buf 0x000D)
    where
      chosen : (start len : ℕ) (short : Bool) → LifetimeFits (cond short None (Some (field_at buf start * 65536 + field_at buf (start + 2))))
      chosen start len true = tt
      chosen start len false = omega (arith, byte_at b start, byte_at b (start + 1), byte_at b (start + 2), byte_at b (start + 2 + 1))

      found : (f : Option Value) → LifetimeFits (lifetime_in buf f)
      found None = tt
      found (Some v) = chosen v.start v.len (ltb v.len 4)

  -- a lifetime that is granted, or else the one that was asked for
  granted_fits : (asked : ℕ) → asked ≤ 600 → granted_or asked (lifetime_of buf) < 2 ^ 32
  granted_fits asked h = by (lifetime_of buf) lifetime_fits
    where
      by : (g : Option ℕ) → LifetimeFits g → granted_or asked g < 2 ^ 32
      by (Some n) f = f
      by None f = omega arith

wait_fits : (reliable : Bool) → cond reliable RELIABLE_TIMEOUT 500 ≤ RELIABLE_TIMEOUT
wait_fits true = omega arith
wait_fits false = omega arith

abbrev FitsFact : Fact
FitsFact c us l = Fits c

-- the steps of a call that is not late
module _ (now : ℕ) (buf : List ℕ) (early : now ≤ LAST_TIME) (b : Bytes buf) where
  with_txns : (c : Turn) (ts : List Txn) → Each TxnFits ts → Fits c → Fits (set_txns ts c)
  with_txns c ts e h = record { next_num = h.next_num; txns = e; perms = h.perms; chans = h.chans; refresh_at = h.refresh_at }

  with_perms : (c : Turn) (ps : List Perm) → Each (λ p. WithinIf PERMISSION_REFRESH p.refresh) ps → Fits c → Fits (set_perms ps c)
  with_perms c ps e h = record { next_num = h.next_num; txns = h.txns; perms = e; chans = h.chans; refresh_at = h.refresh_at }

  with_chans : (c : Turn) (cs : List Chan) → Each ChanFits cs → Fits c → Fits (set_chans cs c)
  with_chans c cs e h = record { next_num = h.next_num; txns = h.txns; perms = h.perms; chans = e; refresh_at = h.refresh_at }

  with_refresh : (c : Turn) (at : Option ℕ) → WithinIf LONGEST at → Fits c → Fits (set_refresh_at at c)
  with_refresh c at e h = record { next_num = h.next_num; txns = h.txns; perms = h.perms; chans = h.chans; refresh_at = e }

  asked_fits : (t : Txn) (c : Turn) → KindFits t.kind → t.tries ≡ 1 → t.next ≡ now + first_wait c → TxnFits t
  asked_fits t c q n w = record { kind = q; tries = omega arith; next = omega (arith, wait_fits c.reliable) }

  again_fits : (t : Txn) → leb MAX_TRIES t.tries ≡ false → TxnFits t → TxnFits (repeated now t)
  again_fits t e h =
      let m : t.tries < MAX_TRIES = leb-false MAX_TRIES t.tries e in
      record { kind = h.kind; tries = omega arith; next = omega arith }

  renewal_fits : {at : Option ℕ} → Renewal now at → WithinIf PERMISSION_REFRESH at
  renewal_fits not_yet = tt
  renewal_fits later = omega arith

  chan_fits : (x y : Chan) → y.num ≡ x.num → (y.refresh_at ≡ x.refresh_at) ⊎ (y.refresh_at ≡ now + CHANNEL_REFRESH) → ChanFits x → ChanFits y
  chan_fits x y n (inl e) h = record { num = rw n h.num; refresh_at = rw e h.refresh_at }
  chan_fits x y n (inr e) h = record { num = rw n h.num; refresh_at = omega arith }

  refresh_fits : (asked : ℕ) → asked ≤ 600 → Within LONGEST (refresh_time now (granted_or asked (lifetime_of buf)))
  refresh_fits asked h = let g = granted_fits buf b asked h in omega arith

  steps : Keeps now buf KindFits FitsFact
  steps =
      record {
        allocate = tt;
        refresh = omega arith;
        permission = λ ip. tt;
        bind = λ peer x c us l e h. (each_get ChanFits (for_peer peer) x h.chans e).num;
        known = λ tid t c us l e h. (each_get TxnFits (under_id tid) t h.txns e).kind;
        drawn = λ c us l h. h;
        asked = λ t c us l q e n w h. with_txns c _ (each_insert TxnFits (under_drawn t.msg.tid) t (asked_fits t c q n w) h.txns) h;
        again = λ tid t c us l e n h.
            with_txns c _
            (each_insert TxnFits (under_drawn t.msg.tid) (repeated now t) (again_fits t n (each_get TxnFits (under_id tid) t h.txns e)) (each_remove TxnFits (under_id tid) h.txns)) h;
        dropped = λ tid c us l h. with_txns c _ (each_remove TxnFits (under_id tid) h.txns) h;
        cleared = λ c us l h. with_txns c [] no_rows h;
        permitted = λ p c us l at h. with_perms c _ (each_insert (λ p. WithinIf PERMISSION_REFRESH p.refresh) (for_ip p.ip) p (renewal_fits at) h.perms) h;
        forbidden = λ ip c us l h. with_perms c _ (each_remove (λ p. WithinIf PERMISSION_REFRESH p.refresh) (for_ip ip) h.perms) h;
        numbered = λ x c us l e n m at h.
            record {
              next_num = omega arith;
              txns = h.txns;
              perms = h.perms;
              chans = each_insert ChanFits (for_peer x.peer) x (record { num = m; refresh_at = omega arith }) h.chans;
              refresh_at = h.refresh_at;
            };
        written = λ peer x y c us l e yn yp at h. with_chans c _ (each_insert ChanFits (for_peer peer) y (chan_fits x y yn at (each_get ChanFits (for_peer peer) x h.chans e)) h.chans) h;
        unbound = λ peer c us l h. with_chans c _ (each_remove ChanFits (for_peer peer) h.chans) h;
        keyed = λ realm key c us l h. record { next_num = h.next_num; txns = h.txns; perms = h.perms; chans = h.chans; refresh_at = h.refresh_at };
        nonced = λ nonce c us l h. record { next_num = h.next_num; txns = h.txns; perms = h.perms; chans = h.chans; refresh_at = h.refresh_at };
        relayed = λ relay c us l h. record { next_num = h.next_num; txns = h.txns; perms = h.perms; chans = h.chans; refresh_at = refresh_fits 600 (omega arith) };
        renewed = λ lifetime c us l q h. with_refresh c _ (refresh_fits lifetime q) h;
        renewing = λ c us l h. with_refresh c None tt h;
        closed = λ c us l h. record { next_num = h.next_num; txns = h.txns; perms = h.perms; chans = h.chans; refresh_at = h.refresh_at };
        over = λ c us l h. record { next_num = h.next_num; txns = h.txns; perms = h.perms; chans = h.chans; refresh_at = h.refresh_at };
      }

-- the bytes of a call's datagram, and its time where it is accepted
datagram_bytes : (call : Call) → Typed call → Bytes (datagram_of call)
datagram_bytes (Start now ids room) t = no_rows
datagram_bytes (Handle now buf ids room) t = t.1
datagram_bytes (Send now peer body ids room) t = no_rows
datagram_bytes (Poll now ids room) t = no_rows
datagram_bytes TransportFailed t = no_rows
datagram_bytes (Close ids room) t = no_rows

same_time : (call : Call) → (given_of call).time ≡ time_of call
same_time (Start now ids room) = refl
same_time (Handle now buf ids room) = refl
same_time (Send now peer body ids room) = refl
same_time (Poll now ids room) = refl
same_time TransportFailed = refl
same_time (Close ids room) = refl

call_fits : (c : Turn) (call : Call) → Typed call → Fits c → Fits (outcome c call).client
call_fits c call t h =
    call_keeps Fits c call h
    (λ z. let early : (given_of call).time ≤ LAST_TIME = ltb-false LAST_TIME (given_of call).time (no_condition (given_of call) c (run_of c call) z 1 _ here) in
    method_kept KindFits FitsFact call (begin c (given_of call).ids) (steps (time_of call) (datagram_of call) (rw (same_time call) at early) (datagram_bytes call t)) h)

read_fits : (call : Call) → Typed call → ReadFits call
read_fits (Start now ids room) t = tt
read_fits (Handle now buf ids room) t = (code_fits buf t.1, lifetime_fits buf t.1)
read_fits (Send now peer body ids room) t = tt
read_fits (Poll now ids room) t = tt
read_fits TransportFailed t = tt
read_fits (Close ids room) t = tt

fits_along : {c : Client} {steps : List Step} → Fits (view c) → Along Allowed c steps → Along (λ b s. ReadFits s.call × Fits (view s.answer.client)) c steps
fits_along h end = end
fits_along h (next {c = c} {s = s} a more) =
    let later = subst Fits (sym a.contract.client) (call_fits (view c) s.call a.typed h) in next (read_fits s.call a.typed, later) (fits_along later more)

pub machine_numbers : MachineNumbers
machine_numbers username password reliable o steps h =
    let first : Fits (view o.client) =
    subst Fits (sym h.opening.client)
    (opening_keeps Fits (λ u p r. record { next_num = omega arith; txns = no_rows; perms = no_rows; chans = no_rows; refresh_at = tt }) username password reliable) in
    (first, fits_along first h.made)

pub longest_fits : LongestFits
longest_fits = omega arith
