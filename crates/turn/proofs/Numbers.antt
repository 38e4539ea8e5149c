-- Every call keeps the channels' numbers: from 0x4000 to 0x7FFF, rising, and all below the next one, which never falls. So none is
-- reused, and `by_num` (Channels) is told by the channels in every client that calls lead to.
use Rattle.std.specs.Prelude.{Option, None, Some}
use mathlib.Core.Path.{◌≡◌, refl, ap, sym, subst, ◌∙◌}
use mathlib.Core.Bool.{Bool, false, cond}
use mathlib.Core.List.{List}
use Prim.Native.Nat.{ℕ, suc, ◌+◌, ◌≤◌}
use native.Mathlib.Omega.{arith}
use native.Mathlib.Numerals.{add-one}
use lib.ListN.{length}
use lib.Dec.{eqb}
use Rattle.stun_address.specs.declared.Address.{Address}
use Rattle.turn_state.specs.declared.Kind.TheVariants.{ChannelBind}
use Rattle.turn_state.specs.declared.Reason.{Reason}
use Rattle.turn_state.specs.Maps.{get, contains, insert, if_let}
use Rattle.turn_state.specs.State.{Chan, Turn, Run, begin, set_chans, set_next_num, on_self, drew}
use Rattle.turn_state.specs.Source.{for_ip, for_peer, peer_of, insert_chan, request, bind_channel, on_failure, update_chan, new_channel}
use Rattle.turn_state.specs.Number.{opened}
use Rattle.turn_state.specs.Sequence.{Call, outcome, after}
use Rattle.turn.proofs.Steps.{if_there, inserted, add_self}
use Rattle.turn.proofs.Channels.{Climb, top, climb_new, climb_put, climb_remove, by_num_insert, by_num_remove, by_num_missing, by_num_kept}
use Rattle.turn.proofs.Calls.{call_keeps, sequence_keeps, opening_keeps}
use Rattle.turn.proofs.Kept.{Fact, Anything, Keeps, time_of, datagram_of, method_kept}
use Rattle.turn.proofs.Refused.{given_of}

-- the numbers of a client whose next one is not below `floor`
abbrev pub Numbered : ℕ → Turn → Type 0
Numbered floor c = (floor ≤ c.next_num) × (c.next_num ≤ 0x8000) × Climb c.next_num 0x4000 c.chans

inserted_chan : (c : Chan) (s : Run) → (insert_chan c s).self ≡ set_chans (insert (for_peer c.peer) c s.self.chans) s.self
unfolding insert_chan
inserted_chan c s = ap (set_chans (insert (for_peer c.peer) c s.self.chans)) (add_self 32 (length s.self.chans) s (contains (for_peer c.peer) s.self.chans))

-- the steps keep them
abbrev FactOf : ℕ → Fact
FactOf floor c us l = Numbered floor c

steps : (floor now : ℕ) (buf : List ℕ) → Keeps now buf Anything (FactOf floor)
steps floor now buf =
    record {
      allocate = tt;
      refresh = tt;
      permission = λ ip. tt;
      bind = λ peer x c us l e h. tt;
      known = λ tid t c us l e h. tt;
      drawn = λ c us l h. h;
      asked = λ t c us l q e n w h. h;
      again = λ tid t c us l e n h. h;
      dropped = λ tid c us l h. h;
      cleared = λ c us l h. h;
      permitted = λ p c us l at h. h;
      forbidden = λ ip c us l h. h;
      numbered = λ x c us l e n m at h. given x c.chans c.next_num e n m h;
      written = λ peer x y c us l e yn yp at h. (h.0, h.1, climb_put (for_peer peer) x y e yn h.2);
      unbound = λ peer c us l h. (h.0, h.1, climb_remove (for_peer peer) h.2);
      keyed = λ realm key c us l h. h;
      nonced = λ nonce c us l h. h;
      relayed = λ relay c us l h. h;
      renewed = λ lifetime c us l q h. h;
      renewing = λ c us l h. h;
      closed = λ c us l h. h;
      over = λ c us l h. h;
    }
  where
    given : (x : Chan) (cs : List Chan) (n : ℕ) → contains (for_peer x.peer) cs ≡ false → x.num ≡ n → x.num ≤ 0x7FFF → (floor ≤ n) × (n ≤ 0x8000) × Climb n 0x4000 cs
        → (floor ≤ n + 1) × (n + 1 ≤ 0x8000) × Climb (n + 1) 0x4000 (insert (for_peer x.peer) x cs)
    given x cs n e i m h = (
      omega (arith, h.0),
      omega arith,
      subst (λ (k : ℕ). Climb k 0x4000 (insert (for_peer x.peer) x cs)) (ap suc i ∙ sym (add-one n))
          (climb_new (for_peer x.peer) x e (subst (λ (k : ℕ). Climb k 0x4000 cs) (sym i) h.2)),
    )

module _ (floor : ℕ) where
  pub call_kept : (c : Turn) (call : Call) → Numbered floor c → Numbered floor (outcome c call).client
  call_kept c call h =
      call_keeps (Numbered floor) c call h
      (λ z. method_kept Anything (FactOf floor) call (begin c (given_of call).ids) (steps floor (time_of call) (datagram_of call)) h)

  pub sequence_kept : (c : Turn) (calls : List Call) → Numbered floor c → Numbered floor (after c calls)
  sequence_kept = sequence_keeps (Numbered floor) call_kept

-- so it is from any opening on
pub opened_numbered : (username password : List ℕ) (reliable : Bool) → Numbered 0x4000 (opened username password reliable)
opened_numbered = opening_keeps (Numbered 0x4000) (λ username password reliable. (omega arith, omega arith, top {low = 0x4000} (omega arith)))

pub numbered : (username password : List ℕ) (reliable : Bool) (calls : List Call) → Numbered 0x4000 (after (opened username password reliable) calls)
numbered username password reliable calls = sequence_kept 0x4000 (opened username password reliable) calls (opened_numbered username password reliable)

-- and the next number never falls
pub never_falls : (username password : List ℕ) (reliable : Bool) (calls more : List Call)
    → (after (opened username password reliable) calls).next_num ≤ (after (after (opened username password reliable) calls) more).next_num
never_falls username password reliable calls more =
    let c : Turn = after (opened username password reliable) calls in
    let h = numbered username password reliable calls in
    (sequence_kept c.next_num c more (omega arith, h.1, h.2)).0

-- what becomes of `by_num` where the source changes it, and where a channel is written in its place
pub bind_chans : (now : ℕ) (peer : Address) (s : Run) → (bind_channel now peer s).self.chans ≡ s.self.chans
unfolding bind_channel request
bind_chans now peer s =
    if_there (λ r. r.self.chans) (get (for_peer peer) s.self.chans) _ s s.self.chans (λ c. ap (λ (d : Turn). d.chans) (inserted _ (drew s))) refl

module _ (floor : ℕ) (s : Run) (h : Numbered floor s.self) (peer : Address) (num : ℕ) where
  pub new_by_num : (now : ℕ) → contains (for_peer peer) s.self.chans ≡ false
      → peer_of num (new_channel now peer s).self.chans ≡ cond (eqb s.self.next_num num) (Some peer) (peer_of num s.self.chans)
  new_by_num now e =
      let c : Chan = record { peer = peer; num = s.self.next_num; bound = false; refresh_at = now } in
      let s₁ : Run = insert_chan c (on_self (set_next_num (s.self.next_num + 1)) s) in
      let same : (new_channel now peer s).self.chans ≡ s₁.self.chans =
      if_there (λ r. r.self.chans) (get (for_ip peer.ip) s₁.self.perms) _ s₁ s₁.self.chans
      (λ p. if_there (λ r. r.self.chans) p.refresh _ s₁ s₁.self.chans (λ at. bind_chans now peer s₁) refl) refl in
      let one : s₁.self.chans ≡ insert (for_peer peer) c s.self.chans = ap (λ (d : Turn). d.chans) (inserted_chan c (on_self (set_next_num (s.self.next_num + 1)) s)) in
      ap (peer_of num) (same ∙ one) ∙ by_num_insert c num e h.2

  pub failure_by_num : (asked : ℕ) (why : Reason) (c : Chan) → get (for_peer peer) s.self.chans ≡ Some c
      → peer_of num (on_failure (ChannelBind peer asked) why s).self.chans ≡ cond (eqb c.num num) None (peer_of num s.self.chans)
  unfolding on_failure
  failure_by_num asked why c e = by_num_remove (for_peer peer) c num h.2 e

  pub no_failure_by_num : (asked : ℕ) (why : Reason) → get (for_peer peer) s.self.chans ≡ None → (on_failure (ChannelBind peer asked) why s).self.chans ≡ s.self.chans
  unfolding on_failure
  no_failure_by_num asked why e = by_num_missing (for_peer peer) s.self.chans e

  pub update_by_num : (f : Chan → Chan) → ((c : Chan) → (f c).num ≡ c.num) → ((c : Chan) → (f c).peer ≡ c.peer) → peer_of num (update_chan peer f s).self.chans ≡ peer_of num s.self.chans
  update_by_num f n p = by (get (for_peer peer) s.self.chans) refl
    where
      by : (o : Option Chan) → get (for_peer peer) s.self.chans ≡ o
          → peer_of num (if_let o (λ c. on_self (set_chans (insert (for_peer peer) (f c) s.self.chans)) s) s).self.chans ≡ peer_of num s.self.chans
      by None e = refl
      by (Some c) e = by_num_kept (for_peer peer) c (f c) num s.self.chans e (n c) (p c)
