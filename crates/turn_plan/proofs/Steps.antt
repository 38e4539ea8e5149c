-- Step by step, the run that a plan stands for is the run of the definition.
use Rattle.std.specs.Prelude.{Option, None, Some}
use mathlib.Core.Path.{◌≡◌, refl, ap, sym, subst, ◌∙◌}
use mathlib.Core.Bool.{Bool, true, false, cond, ◌&&◌, ◌||◌, not, or-false, or_assoc, and-false}
use mathlib.Core.List.{List, [], ◌∷◌, ◌++◌, map-append, append_assoc, append-nil}
use Prim.Native.Nat.{ℕ, ◌≤◌}
use native.Mathlib.Omega.{arith}
use lib.ListN.{length, length-append, replicate-append-replicate}
use borrow.Author.Tests.{lt-leb}
use lib.Dec.{leb}
use Rattle.turn_state.specs.declared.Kind.{Kind}
use Rattle.turn_state.specs.declared.Kind.TheVariants.{Allocate, Refresh, Permission, ChannelBind}
use Rattle.turn_state.specs.Maps.{get, contains, insert, remove, each, if_let}
use Rattle.stun_address.specs.declared.Ip.{Ip}
use Rattle.stun_address.specs.declared.Address.{Address}
use Rattle.turn_state.specs.declared.Reason.TheVariants.{Timeout}
use Rattle.turn_state.specs.declared.Event.TheVariants.{Failed}
use Rattle.turn_state.specs.State.{Txn, Perm, Chan, Turn, Added, Run, id_at, new_tid, drew, on_self, set_refresh_at, set_perms, set_chans, set_txns, begin}
use Rattle.turn_state.specs.Source
use Rattle.turn_state.specs.Number.{full}
use Rattle.turn_state.specs.View.{message_of}
use Rattle.turn_plan.specs.Plan
use Rattle.turn_plan.specs.Follows
use Rattle.turn_plan.proofs.Keys.{found_is, get_insert, length-insert, length-remove, remove_short, Held, held_insert, held_due}

-- full of one more
pub full_snoc : (a : List Added) (x : Added) → full (a ++ (x ∷ [])) ≡ (full a || leb x.room x.held)
full_snoc [] x = or-false _
full_snoc (y ∷ a) x = let rest = full_snoc a x in rw rest (sym (or_assoc (leb y.room y.held) (full a) (leb x.room x.held)))

pub length-drawn : (lent : List ℕ) (ks : List Kind) → length (Follows.drawn lent ks) ≡ length ks
length-drawn lent [] = refl
length-drawn lent (k ∷ ks) = let rest = length-drawn lent ks in rw length-append (omega arith)

-- the run with other additions reported
abbrev pub with_added : List Added → Run → Run
with_added a s =
    record {
      self = s.self;
      out = s.out;
      ev = s.ev;
      lent = s.lent;
      report = record { used = s.report.used; added = a; texts = s.report.texts; bodies = s.report.bodies };
    }

-- what an insertion adds to the report
abbrev pub grown : Bool → ℕ → ℕ → List Added → List Added
grown b room held a = cond b a (a ++ (record { room = room; held = held } ∷ []))

pub add_is : (b : Bool) (room held : ℕ) (s : Run) → Source.add b room held s ≡ with_added (grown b room held s.report.added) s
add_is true room held s = refl
add_is false room held s = refl

-- a request is made
ask_run : (c : Turn) (now : ℕ) (lent : List ℕ) (p : Plan.Plan) (added : List Added) (kind : Kind)
    → Source.request now kind (message_of kind (new_tid (Follows.run_of c now lent p added)) (new_tid (Follows.run_of c now lent p added))) (drew (Follows.run_of c now lent p added))
    ≡ Follows.run_of c now lent (Plan.asking kind p) (grown (contains (Source.under_drawn (id_at lent (length p.kinds))) (Follows.requested (Follows.first_next c now) lent p.kinds p.txns)) 64 (length (Follows.requested (Follows.first_next c now) lent p.kinds p.txns)) added)
unfolding Source.request Source.insert_txn
ask_run c now lent p added kind = rw (length-drawn lent p.kinds, add_is, ← append_assoc) (simp map-append)

pub grown_full : (b : Bool) (room n : ℕ) (a : List Added) → full (grown b room n a) ≡ (full a || (not b && leb room n))
grown_full true room n a = sym (or-false (full a))
grown_full false room n a = full_snoc a (record { room = room; held = n })

-- whatever another record met
module _ (other : Bool) (c : Turn) (now : ℕ) (lent : List ℕ) where
  abbrev RunsFull : Plan.Plan → Run → Type 0
  RunsFull p s = Follows.FollowsFull other c now lent p s

  ask_full : (p : Plan.Plan) (s : Run) (kind : Kind) → RunsFull p s
      → RunsFull (Plan.asking kind p) (Source.request now kind (message_of kind (new_tid s) (new_tid s)) (drew s))
  ask_full p s kind f =
      let before = Follows.requested (Follows.first_next c now) lent p.kinds p.txns in
      let there = contains (Source.under_drawn (id_at lent (length p.kinds))) before in
      record {
        added = grown there 64 (length before) f.added;
        run = rw f.run (ask_run c now lent p f.added kind);
        met = rw (grown_full there 64 (length before) f.added, f.met) (or_assoc other (Follows.met_full (Follows.first_next c now) lent p.kinds p.txns) (not there && leb 64 (length before)));
        small = f.small;
      }

  -- channels that wait are bound, one after the other
  bind_step : (peer : Address) (p : Plan.Plan) (s : Run) (o : Option Chan) → get (Source.for_peer peer) p.chans ≡ o → RunsFull p s
      → RunsFull (if_let o (λ ch. Plan.asking (ChannelBind peer ch.num) p) p) (Source.bind_channel now peer s)
  unfolding Source.bind_channel
  bind_step peer p s None e f =
      let k : get (Source.for_peer peer) s.self.chans ≡ None = ap (λ (r : Run). get (Source.for_peer peer) r.self.chans) f.run ∙ e in rw k f
  bind_step peer p s (Some ch) e f =
      let k : get (Source.for_peer peer) s.self.chans ≡ Some ch = ap (λ (r : Run). get (Source.for_peer peer) r.self.chans) f.run ∙ e in
      rw k (ask_full p s (ChannelBind peer ch.num) f)

  binds_follow : (peers : List Address) (p : Plan.Plan) (s : Run) → RunsFull p s → RunsFull (each Plan.plan_bind peers p) (each (Source.bind_channel now) peers s)
  unfolding Plan.plan_bind
  binds_follow [] p s f = f
  binds_follow (peer ∷ peers) p s f =
      binds_follow peers (Plan.plan_bind peer p) (Source.bind_channel now peer s) (bind_step peer p s (get (Source.for_peer peer) p.chans) refl f)

module _ (c : Turn) (now : ℕ) (lent : List ℕ) where
  abbrev Runs : Plan.Plan → Run → Type 0
  Runs p s = Follows.Follows c now lent p s

  ask_follows : (p : Plan.Plan) (s : Run) (kind : Kind) → Runs p s
      → Runs (Plan.asking kind p) (Source.request now kind (message_of kind (new_tid s) (new_tid s)) (drew s))
  ask_follows = ask_full false c now lent

  -- one way or the other, by a test that both sides make
  choose_follows : (b : Bool) (p q : Plan.Plan) (s t : Run) → Runs p s → Runs q t → Runs (cond b p q) (cond b s t)
  choose_follows true p q s t f g = f
  choose_follows false p q s t f g = g

  -- the allocation's Refresh
  refresh_follows : (p : Plan.Plan) (s : Run) → Runs p s → Runs (Plan.plan_refresh now p) (Source.poll_refresh now s)
  unfolding Plan.plan_refresh Source.poll_refresh
  refresh_follows p s f =
      let q = Plan.no_refresh p in
      let g : Runs q (on_self (set_refresh_at None) s) = record { added = f.added; run = rw f.run; met = f.met; small = f.small } in
      let e : Source.is_due now s.self.refresh_at ≡ Source.is_due now p.refresh_at = ap (λ (r : Run). Source.is_due now r.self.refresh_at) f.run in
      rw e (choose_follows (Source.is_due now p.refresh_at) (Plan.asking (Refresh 600) q) p
      (Source.request now (Refresh 600) (Source.refresh_message 600 (new_tid s)) (drew (on_self (set_refresh_at None) s))) s
      (ask_follows q (on_self (set_refresh_at None) s) (Refresh 600) g) f)

  -- a permission that is there is asked for again
  perm_follows : (ip : Ip) (p : Plan.Plan) (s : Run) → contains (Source.for_ip ip) p.perms ≡ true → Runs p s → Runs (Plan.plan_perm ip p) (Source.create_permission now ip s)
  unfolding Plan.plan_perm Source.create_permission Source.insert_perm
  perm_follows ip p s there f =
      let x : Perm = record { ip = ip; refresh = None } in
      let q = Plan.with_perms (insert (Source.for_ip ip) x p.perms) p in
      let g : Runs q (Source.insert_perm x s) = record { added = f.added; run = rw (f.run, there); met = f.met; small = f.small } in
      rw there (ask_follows q (Source.insert_perm x s) (Permission ip) g)

  perms_follow : (ips : List Ip) (p : Plan.Plan) (s : Run) → Held ips p.perms → Runs p s
      → Runs (each Plan.plan_perm ips p) (each (Source.create_permission now) ips s)
  unfolding Plan.plan_perm
  perms_follow [] p s h f = f
  perms_follow (ip ∷ ips) p s h f =
      let there = h.0 in
      perms_follow ips (Plan.plan_perm ip p) (Source.create_permission now ip s)
      (rw there (held_insert ips (record { ip = ip; refresh = None }) p.perms h.1)) (perm_follows ip p s there f)

  poll_perms_follow : (p : Plan.Plan) (s : Run) → Runs p s → Runs (Plan.plan_perms now p) (Source.poll_perms now s)
  unfolding Source.poll_perms
  poll_perms_follow p s f =
      let e : s.self.perms ≡ p.perms = ap (λ (r : Run). r.self.perms) f.run in
      subst (λ (l : List Perm). Runs (Plan.plan_perms now p) (each (Source.create_permission now) (Plan.due_ips now l) s)) (sym e)
      (perms_follow (Plan.due_ips now p.perms) p s (held_due now p.perms) f)

  -- a channel is renewed
  chan_step : (peer : Address) (p : Plan.Plan) (s : Run) (o : Option Chan) → get (Source.for_peer peer) p.chans ≡ o → Runs p s
      → Runs (if_let o (λ ch. Plan.renewing now peer ch p) p) (Source.renew_channel now peer s)
  unfolding Source.bind_channel
  chan_step peer p s None e f =
      let k : get (Source.for_peer peer) s.self.chans ≡ None = ap (λ (r : Run). get (Source.for_peer peer) r.self.chans) f.run ∙ e in rw (k, k) f
  chan_step peer p s (Some ch) e f =
      let is = Source.for_peer peer in
      let k : get is s.self.chans ≡ Some ch = ap (λ (r : Run). get is r.self.chans) f.run ∙ e in
      let new = Source.renewed_at now ch in
      let q = Plan.with_chans (insert is new p.chans) p in
      let s₁ = on_self (set_chans (insert is new s.self.chans)) s in
      let g : Runs q s₁ = record { added = f.added; run = rw f.run; met = f.met; small = f.small } in
      rw (k, get_insert is new s.self.chans (found_is is s.self.chans ch k)) (ask_follows q s₁ (ChannelBind peer ch.num) g)

  chans_follow : (peers : List Address) (p : Plan.Plan) (s : Run) → Runs p s → Runs (each (Plan.plan_chan now) peers p) (each (Source.renew_channel now) peers s)
  unfolding Plan.plan_chan
  chans_follow [] p s f = f
  chans_follow (peer ∷ peers) p s f =
      chans_follow peers (Plan.plan_chan now peer p) (Source.renew_channel now peer s) (chan_step peer p s (get (Source.for_peer peer) p.chans) refl f)

  poll_chans_follow : (p : Plan.Plan) (s : Run) → Runs p s → Runs (Plan.plan_chans now p) (Source.poll_chans now s)
  unfolding Source.poll_chans
  poll_chans_follow p s f =
      let e : s.self.chans ≡ p.chans = ap (λ (r : Run). r.self.chans) f.run in
      subst (λ (l : List Chan). Runs (Plan.plan_chans now p) (each (Source.renew_channel now) (Plan.due_peers now l) s)) (sym e)
      (chans_follow (Plan.due_peers now p.chans) p s f)

  -- a due request fails, or is sent again; nothing is to be asked for yet
  abbrev none_yet : Plan.Plan → Plan.Plan
  none_yet p = record { txns = p.txns; perms = p.perms; chans = p.chans; done = p.done; refresh_at = p.refresh_at; sends = p.sends; kinds = []; timeouts = p.timeouts }

  fail_follows : (kind : Kind) (p : Plan.Plan) (s : Run) → Runs (none_yet p) s → Runs (none_yet (Plan.failed kind p)) (Source.on_failure kind Timeout s)
  unfolding Source.on_failure
  fail_follows Allocate p s f =
      record { added = f.added; run = rw (f.run, ← replicate-append-replicate p.timeouts 1 (Failed Timeout)); met = f.met; small = f.small }
  fail_follows (Refresh lifetime) p s f = f
  fail_follows (Permission ip) p s f = record { added = f.added; run = rw f.run; met = f.met; small = f.small }
  fail_follows (ChannelBind peer num) p s f = record { added = f.added; run = rw f.run; met = f.met; small = f.small }

  again_follows : (t : Txn) (p : Plan.Plan) (s : Run) → length p.txns ≤ 63 → Runs (none_yet p) s
      → Runs (none_yet (Plan.sent_again now t p)) (Source.insert_txn (Source.repeated now t) (Source.push_message (Source.encode s.self t.msg) s))
  unfolding Source.insert_txn
  again_follows t p s few f =
      let there = contains (Source.under_drawn t.msg.tid) p.txns in
      record {
        added = grown there 64 (length p.txns) f.added;
        run = rw (f.run, add_is) (simp (append-nil, map-append));
        met = rw (grown_full there 64 (length p.txns) f.added, f.met, lt-leb 64 (length p.txns) (omega arith)) (and-false (not there));
        small = omega (arith, length-insert (Source.under_drawn t.msg.tid) (Source.repeated now t) p.txns);
      }

  choose_none : (b : Bool) (p q : Plan.Plan) (s t : Run) → Runs (none_yet p) s → Runs (none_yet q) t → Runs (none_yet (cond b p q)) (cond b s t)
  choose_none true p q s t f g = f
  choose_none false p q s t f g = g

  due_step : (tid : List ℕ) (p : Plan.Plan) (s : Run) (o : Option Txn) → get (Source.under_id tid) p.txns ≡ o → Runs (none_yet p) s
      → Runs (none_yet (if_let o (λ t. Plan.settle_due now c.reliable t (Plan.with_txns (remove (Source.under_id tid) p.txns) p)) p)) (Source.poll_due now tid s)
  unfolding Source.poll_due
  due_step tid p s None e f =
      let k : get (Source.under_id tid) s.self.txns ≡ None = ap (λ (r : Run). get (Source.under_id tid) r.self.txns) f.run ∙ e in rw k f
  due_step tid p s (Some t) e f =
      let is = Source.under_id tid in
      let k : get is s.self.txns ≡ Some t = ap (λ (r : Run). get is r.self.txns) f.run ∙ e in
      let r : s.self.reliable ≡ c.reliable = ap (λ (r : Run). r.self.reliable) f.run in
      let shorter = length-remove is t p.txns e in
      let q = Plan.with_txns (remove is p.txns) p in
      let s₁ = on_self (set_txns (remove is s.self.txns)) s in
      let g : Runs (none_yet q) s₁ = record { added = f.added; run = rw f.run; met = f.met; small = omega (arith, f.small, shorter) } in
      let failed = Source.on_failure t.kind Timeout s₁ in
      let again = Source.insert_txn (Source.repeated now t) (Source.push_message (Source.encode s₁.self t.msg) s₁) in
      rw k
      (subst (λ (b : Bool). Runs (none_yet (Plan.settle_due now c.reliable t q)) (cond (b || leb Source.MAX_TRIES t.tries) failed again)) (sym r)
      (choose_none (c.reliable || leb Source.MAX_TRIES t.tries) (Plan.failed t.kind q) (Plan.sent_again now t q) failed again (fail_follows t.kind q s₁ g)
      (again_follows t q s₁ (omega (arith, f.small, shorter)) g)))

  dues_follow : (tids : List (List ℕ)) (p : Plan.Plan) (s : Run) → Runs (none_yet p) s
      → Runs (none_yet (each (Plan.plan_due now c.reliable) tids p)) (each (Source.poll_due now) tids s)
  unfolding Plan.plan_due
  dues_follow [] p s f = f
  dues_follow (tid ∷ tids) p s f =
      dues_follow tids (Plan.plan_due now c.reliable tid p) (Source.poll_due now tid s) (due_step tid p s (get (Source.under_id tid) p.txns) refl f)

-- due requests ask for nothing
failed_kinds : (kind : Kind) (p : Plan.Plan) → (Plan.failed kind p).kinds ≡ p.kinds
failed_kinds Allocate p = refl
failed_kinds (Refresh lifetime) p = refl
failed_kinds (Permission ip) p = refl
failed_kinds (ChannelBind peer num) p = refl

settled_kinds : (b : Bool) (kind : Kind) (p q : Plan.Plan) → q.kinds ≡ p.kinds → (cond b (Plan.failed kind p) q).kinds ≡ p.kinds
settled_kinds true kind p q e = failed_kinds kind p
settled_kinds false kind p q e = e

step_kinds : (now : ℕ) (reliable : Bool) (tid : List ℕ) (p : Plan.Plan) (o : Option Txn)
    → (if_let o (λ t. Plan.settle_due now reliable t (Plan.with_txns (remove (Source.under_id tid) p.txns) p)) p).kinds ≡ p.kinds
step_kinds now reliable tid p None = refl
step_kinds now reliable tid p (Some t) =
    let q = Plan.with_txns (remove (Source.under_id tid) p.txns) p in
    settled_kinds (reliable || leb Source.MAX_TRIES t.tries) t.kind q (Plan.sent_again now t q) refl

due_kinds : (now : ℕ) (reliable : Bool) (tids : List (List ℕ)) (p : Plan.Plan) → (each (Plan.plan_due now reliable) tids p).kinds ≡ p.kinds
unfolding Plan.plan_due
due_kinds now reliable [] p = refl
due_kinds now reliable (tid ∷ tids) p =
    due_kinds now reliable tids (Plan.plan_due now reliable tid p) ∙ step_kinds now reliable tid p (get (Source.under_id tid) p.txns)

-- the plan of a poll stands for the definition's poll
pub poll_follows : (c : Turn) (now : ℕ) (lent : List ℕ) → length c.txns ≤ 64 → Follows.Follows c now lent (Plan.planned now c) (Source.poll now (begin c lent))
unfolding Plan.planned_from Source.poll
poll_follows c now lent few =
    let p = each (Plan.plan_due now c.reliable) (Source.due_of now c) (Plan.entry c) in
    let s = each (Source.poll_due now) (Source.due_of now c) (begin c lent) in
    let f : Follows.Follows c now lent (Plan.entry c) (begin c lent) = record { added = []; run = refl; met = refl; small = few } in
    let g = dues_follow c now lent (Source.due_of now c) (Plan.entry c) (begin c lent) f in
    let e : p.kinds ≡ [] = due_kinds now c.reliable (Source.due_of now c) (Plan.entry c) in
    let h : Follows.Follows c now lent p s =
    subst
    (λ (ks : List Kind). Follows.Follows c now lent
    (record { txns = p.txns; perms = p.perms; chans = p.chans; done = p.done; refresh_at = p.refresh_at; sends = p.sends; kinds = ks; timeouts = p.timeouts }) s)
    (sym e) g in
    let renewed = Source.poll_chans now (Source.poll_perms now (Source.poll_refresh now s)) in
    let r : s.self.closing ≡ c.closing = ap (λ (x : Run). x.self.closing) h.run in
    subst (λ (b : Bool). Follows.Follows c now lent (cond c.closing p (Plan.plan_renewals now p)) (cond b s renewed)) (sym r)
    (choose_follows c now lent c.closing p (Plan.plan_renewals now p) s renewed h
    (poll_chans_follow c now lent (Plan.plan_perms now (Plan.plan_refresh now p)) (Source.poll_perms now (Source.poll_refresh now s))
    (poll_perms_follow c now lent (Plan.plan_refresh now p) (Source.poll_refresh now s) (refresh_follows c now lent p s h))))

-- and that of a start for its start
pub start_follows : (c : Turn) (now : ℕ) (lent : List ℕ) → length c.txns ≤ 64 → Follows.Follows c now lent (Plan.asking Allocate (Plan.entry c)) (Source.start now (begin c lent))
unfolding Source.start
start_follows c now lent few = ask_follows c now lent (Plan.entry c) (begin c lent) Allocate (record { added = []; run = refl; met = refl; small = few })

-- and that of a permission's success for its success, also where the permission meets a full table
pub success_follows : (c : Turn) (now : ℕ) (lent id buf : List ℕ) (ip : Ip) → length c.txns ≤ 64
    → Follows.FollowsFull (Follows.perm_full c.perms ip) c now lent (Plan.plan_success now id ip c)
    (Source.on_success now (Permission ip) buf (on_self (set_txns (remove (Source.under_id id) c.txns)) (begin c lent)))
unfolding Source.on_success Source.insert_perm
success_follows c now lent id buf ip few =
    let other = Follows.perm_full c.perms ip in
    let there = contains (Source.for_ip ip) c.perms in
    let q = Plan.with_perms (Plan.granting now ip c.perms) (Plan.with_txns (remove (Source.under_id id) c.txns) (Plan.entry c)) in
    let s₀ = on_self (set_txns (remove (Source.under_id id) c.txns)) (begin c lent) in
    let s = on_self (set_perms (Plan.granting now ip c.perms)) (Source.add there 32 (length c.perms) s₀) in
    let f : Follows.FollowsFull other c now lent q s =
    record {
      added = grown there 32 (length c.perms) [];
      run = rw (add_is there 32 (length c.perms) s₀);
      met = grown_full there 32 (length c.perms) [] ∙ sym (or-false other);
      small = omega (arith, few, remove_short (Source.under_id id) c.txns);
    } in
    let e : s.self.chans ≡ c.chans = ap (λ (r : Run). r.self.chans) f.run in
    subst (λ (l : List Chan). Follows.FollowsFull other c now lent (Plan.plan_success now id ip c) (each (Source.bind_channel now) (Plan.waiting_peers ip l) s)) (sym e)
    (binds_follow other c now lent (Plan.waiting_peers ip c.chans) q s f)
