-- The second map, `by_num`, along the Rust's own methods: it names the peers of the channels, and the methods come to what Source's come to.
-- First an example: a failed bind, whose number names no peer afterwards.
use Rattle.std.specs.Prelude.{Option, None, Some}
use mathlib.Core.Path.{◌≡◌, refl, ap, sym, subst, ◌∙◌}
use mathlib.Core.Bool.{Bool, true, false, cond, ◌&&◌, ◌||◌, not}
use mathlib.Core.List.{List, [], ◌∷◌, map}
use Prim.Native.Nat.{ℕ, ◌+◌, ◌≤◌}
use native.Mathlib.Omega.{arith}
use lib.ListN.{length}
use lib.Dec.{leb, ltb, eqb}
use borrow.Author.Tests.{leb-true, not-true, eqb-true, eq-eqb}
use Rattle.stun_frame.specs.declared.classes.Class.{Class}
use Rattle.stun_frame.specs.declared.classes.Class.TheVariants.{Request, Indication, Success, Error}
use Rattle.stun_frame.specs.Source.{class, field_at, decode_channel_data}
use Rattle.stun_address.specs.declared.Ip.{Ip}
use Rattle.stun_address.specs.declared.Ip.TheVariants.{V4}
use Rattle.stun_address.specs.declared.Address.{Address}
use Rattle.stun_walk.specs.Source.{readable, get_of, error_code_of, xor_addr_of}
use Rattle.turn_state.specs.declared.Kind.{Kind}
use Rattle.turn_state.specs.declared.Kind.TheVariants.{Allocate, Refresh, Permission, ChannelBind}
use Rattle.turn_state.specs.declared.Reason.{Reason}
use Rattle.turn_state.specs.declared.Reason.TheVariants.{Code as ErrorCode, Timeout, NoRelayedAddress}
use Rattle.turn_state.specs.declared.Event.TheVariants.{Data}
use Rattle.turn_state.specs.Maps.{get, contains, insert, remove, filter, each, if_let, is_some}
use Rattle.turn_state.specs.State.{Message, Txn, Perm, Chan, Turn, Run, begin, set_txns, set_perms, set_chans, set_next_num, on_self, tell}
use Rattle.turn_state.specs.Source.{new, under_id, for_ip, for_peer, of_number, peer_of, insert_txn, insert_perm, insert_chan, push_message, encode, request, start, bind_channel, create_permission, on_failure, update_chan, bound_at, renewed_at, waiting, allocated, on_success, code_or_0, get_str, take_realm, retry, answered, is_answer, passed, tid_of, answer, indicated, handle_message, handle_channel, handle, new_channel, send_indication, send_data, send, is_due, repeated, MAX_TRIES, poll_due, poll_refresh, poll_perms, renew_channel, poll_chans, due_of, poll, transport_failed, close}
use Rattle.turn_state.specs.Sequence.{Call, Start, Handle, Send, Poll, TransportFailed, Close}
use Rattle.turn.proofs.Steps.{never, both, each_keeps, due_keeps, if_there, either_way, add_self, inserted}
use Rattle.turn.proofs.Keys.{Unique, none_yet, one_more, unique_insert, unique_remove}
use Rattle.turn.proofs.Channels.{Climb, climb_remove, by_num_remove, by_num_missing, by_num_kept}
use Rattle.turn.proofs.Kept.{bound_num, bound_peer}
use Rattle.turn.proofs.Numbers.{bind_chans, new_by_num}
use Rattle.turn.proofs.Refused.{method_of}
use Rattle.demands.specs.Rust.{Named, under_num, named, Whole, on_run, rust_on_failure, rust_answered, rust_answer, rust_handle_message, rust_handle_channel, rust_handle, rust_new_channel, rust_send, rust_poll_due, rust_poll, rust_method}
use Rattle.stun_frame.specs.declared.ChannelData.{ChannelData}
use Rattle.stun_walk.specs.declared.Value.{Value}

-- a peer's bind of the number 0x4000, that fails
abbrev peer : Address
peer = record { ip = V4 0xC0000201; port = 32853 }

abbrev numbered : Whole
numbered =
    record {
      run = begin (set_chans (record { peer = peer; num = 0x4000; bound = false; refresh_at = 0 } ∷ []) (new [] [] false)) [];
      by_num = record { num = 0x4000; peer = peer } ∷ [];
    }

pub forgotten : named 0x4000 (rust_on_failure (ChannelBind peer 0x4000) Timeout numbered).by_num ≡ None
forgotten = refl

-- the map itself
abbrev pub UniqueNames : List Named → Type 0
UniqueNames = Unique (λ x. x.num) eqb

eqb_sound : (a b : ℕ) → eqb a b ≡ true → a ≡ b
eqb_sound a b e = eqb-true a b e

eqb_whole : (a : ℕ) → eqb a a ≡ true
eqb_whole a = eq-eqb a a refl

named_insert : (n num : ℕ) (peer : Address) (m : List Named) → named num (insert (under_num n) (record { num = n; peer = peer }) m) ≡ cond (eqb n num) (Some peer) (named num m)
named_insert n num peer [] = by (eqb n num)
  where
    by : (b : Bool) → if_let (cond b (Some (record { num = n; peer = peer })) None) (λ (x : Named). Some x.peer) None ≡ cond b (Some peer) None
    by true = refl
    by false = refl
named_insert n num peer (r ∷ m) = by (eqb r.num n) refl (eqb n num) refl (eqb r.num num) refl (named_insert n num peer m)
  where
    by : (b : Bool) → eqb r.num n ≡ b → (d : Bool) → eqb n num ≡ d → (e : Bool) → eqb r.num num ≡ e → named num (insert (under_num n) (record { num = n; peer = peer }) m) ≡ cond (eqb n num) (Some peer) (named num m)
        → named num (cond b (record { num = n; peer = peer } ∷ m) (r ∷ insert (under_num n) (record { num = n; peer = peer }) m)) ≡ cond (eqb n num) (Some peer) (named num (r ∷ m))
    by true q true p e o rest = rw p
    by true q false p true o rest = let z : r.num ≡ n = eqb-true r.num n q in never (sym o ∙ ap (λ (k : ℕ). eqb k num) z ∙ p)
    by true q false p false o rest = rw (p, o)
    by false q true p true o rest = let z : n ≡ num = eqb-true n num p in let y : r.num ≡ num = eqb-true r.num num o in never (sym (eq-eqb r.num n (y ∙ sym z)) ∙ q)
    by false q true p false o rest = rw (o, p) (rw p at rest)
    by false q false p true o rest = rw (o, p)
    by false q false p false o rest = rw (o, p) (rw p at rest)

named_missing : (n : ℕ) (m : List Named) → contains (λ x. eqb x.num n) m ≡ false → named n m ≡ None
named_missing n [] h = refl
named_missing n (r ∷ m) h = by (eqb r.num n) refl h (named_missing n m)
  where
    by : (b : Bool) → eqb r.num n ≡ b → cond b true (contains (λ x. eqb x.num n) m) ≡ false → (contains (λ x. eqb x.num n) m ≡ false → named n m ≡ None) → named n (r ∷ m) ≡ None
    by true q h rest = never h
    by false q h rest = rw q (rest h)

named_remove : (n num : ℕ) {m : List Named} → UniqueNames m → named num (remove (under_num n) m) ≡ cond (eqb n num) None (named num m)
named_remove n num none_yet = by (eqb n num)
  where
    by : (b : Bool) → None ≡ cond {A = Option Address} b None None
    by true = refl
    by false = refl
named_remove n num (one_more r {l = m} h u) = by (eqb r.num n) refl (eqb n num) refl (eqb r.num num) refl (named_remove n num u)
  where
    by : (b : Bool) → eqb r.num n ≡ b → (d : Bool) → eqb n num ≡ d → (e : Bool) → eqb r.num num ≡ e → named num (remove (under_num n) m) ≡ cond (eqb n num) None (named num m)
        → named num (cond b m (r ∷ remove (under_num n) m)) ≡ cond (eqb n num) None (named num (r ∷ m))
    by true q true p e o rest =
        let z : r.num ≡ num = eqb-true r.num n q ∙ eqb-true n num p in rw p (named_missing num m (subst (λ (k : ℕ). contains (λ x. eqb x.num k) m ≡ false) z h))
    by true q false p true o rest = let z : r.num ≡ n = eqb-true r.num n q in never (sym o ∙ ap (λ (k : ℕ). eqb k num) z ∙ p)
    by true q false p false o rest = rw (p, o)
    by false q true p true o rest = let z : n ≡ num = eqb-true n num p in let y : r.num ≡ num = eqb-true r.num num o in never (sym (eq-eqb r.num n (y ∙ sym z)) ∙ q)
    by false q true p false o rest = rw (o, p) (rw p at rest)
    by false q false p true o rest = rw (o, p)
    by false q false p false o rest = rw (o, p) (rw p at rest)

-- it names the peers of a run's channels, and no number twice
abbrev pub Tie : List Named → Run → Type 0
Tie m s = ((num : ℕ) → named num m ≡ peer_of num s.self.chans) × UniqueNames m

-- the Rust's run is Source's, and the map is right in it
abbrev pub Tied : Whole → Run → Type 0
Tied w s = (w.run ≡ s) × Tie w.by_num s

abbrev pub with_names : Run → List Named → Whole
with_names s m = record { run = s; by_num = m }

abbrev pub Climbs : Run → Type 0
Climbs s = Climb s.self.next_num 0x4000 s.self.chans

abbrev SamePeers : Run → Run → Type 0
SamePeers a b = (num : ℕ) → peer_of num a.self.chans ≡ peer_of num b.self.chans

same_chans : (a b : Run) → a.self.chans ≡ b.self.chans → SamePeers a b
same_chans a b e num = ap (peer_of num) e

plain : (f : Run → Run) (w : Whole) (s : Run) → SamePeers (f s) s → Tied w s → Tied (on_run f w) (f s)
plain f w s h t = (ap f t.0, (λ num. t.1.0 num ∙ sym (h num), t.1.1))

-- from a run with its map to whatever is tied to it
lit : (F : Whole → Whole) (f : Run → Run) (w : Whole) (s : Run) → ((m : List Named) → Tie m s → Tied (F (with_names s m)) (f s)) → Tied w s → Tied (F w) (f s)
lit F f w s k t = subst (λ (r : Run). Tied (F (with_names r w.by_num)) (f s)) (sym t.0) (k w.by_num t.1)

tied_cond : (b : Bool) (x y : Whole) (s r : Run) → (b ≡ true → Tied x s) → (b ≡ false → Tied y r) → Tied (cond b x y) (cond b s r)
tied_cond true x y s r h k = h refl
tied_cond false x y s r h k = k refl

tied_if : {X : Type 0} (o : Option X) (f : X → Whole) (g : X → Run) (w : Whole) (s : Run) → ((x : X) → o ≡ Some x → Tied (f x) (g x)) → Tied w s → Tied (if_let o f w) (if_let o g s)
tied_if None f g w s h k = k
tied_if (Some x) f g w s h k = h x refl

-- what leaves the channels, or only writes one where it stands
request_chans : (now : ℕ) (kind : Kind) (msg : Message) (s : Run) → (request now kind msg s).self.chans ≡ s.self.chans
unfolding request
request_chans now kind msg s = ap (λ (d : Turn). d.chans) (inserted _ s)

perm_self : (p : Perm) (s : Run) → (insert_perm p s).self ≡ set_perms (insert (for_ip p.ip) p s.self.perms) s.self
unfolding insert_perm
perm_self p s = ap (set_perms (insert (for_ip p.ip) p s.self.perms)) (add_self 32 (length s.self.perms) s (contains (for_ip p.ip) s.self.perms))

permission_chans : (now : ℕ) (ip : Ip) (s : Run) → (create_permission now ip s).self.chans ≡ s.self.chans
unfolding create_permission
permission_chans now ip s =
    request_chans now (Permission ip) _ _ ∙ ap (λ (d : Turn). d.chans) (perm_self (record { ip = ip; refresh = None }) s)

permission_next : (now : ℕ) (ip : Ip) (s : Run) → (create_permission now ip s).self.next_num ≡ s.self.next_num
unfolding create_permission request
permission_next now ip s =
    ap (λ (d : Turn). d.next_num) (inserted _ _) ∙ ap (λ (d : Turn). d.next_num) (perm_self (record { ip = ip; refresh = None }) s)

update_peers : (peer : Address) (f : Chan → Chan) (s : Run) → ((c : Chan) → (f c).num ≡ c.num) → ((c : Chan) → (f c).peer ≡ c.peer) → SamePeers (update_chan peer f s) s
update_peers peer f s n p num = by (get (for_peer peer) s.self.chans) refl
  where
    by : (o : Option Chan) → get (for_peer peer) s.self.chans ≡ o
        → peer_of num (if_let o (λ c. on_self (set_chans (insert (for_peer peer) (f c) s.self.chans)) s) s).self.chans ≡ peer_of num s.self.chans
    by None e = refl
    by (Some c) e = by_num_kept (for_peer peer) c (f c) num s.self.chans e (n c) (p c)

failure_allocate : (why : Reason) (s : Run) → (on_failure Allocate why s).self.chans ≡ s.self.chans
unfolding on_failure
failure_allocate why s = refl

success_peers : (now : ℕ) (kind : Kind) (buf : List ℕ) (s : Run) → SamePeers (on_success now kind buf s) s
unfolding on_success
success_peers now Allocate buf s num = by (xor_addr_of buf 0x0016)
  where
    by : (p : Option Address) → peer_of num (allocated now buf p s).self.chans ≡ peer_of num s.self.chans
    by None = ap (peer_of num) (failure_allocate NoRelayedAddress s)
    by (Some relay) = refl
success_peers now (Refresh lifetime) buf s num = ap (peer_of num) (either_way (λ r. r.self.chans) (ltb 0 lifetime) _ s s.self.chans refl refl)
success_peers now (Permission ip) buf s num =
    let p : Perm = record { ip = ip; refresh = Some (now + 240000) } in
    each_keeps (λ r. peer_of num r.self.chans ≡ peer_of num s.self.chans) (bind_channel now) (λ peer r h. ap (peer_of num) (bind_chans now peer r) ∙ h)
    (map (λ c. c.peer) (filter (waiting ip) (insert_perm p s).self.chans)) (insert_perm p s) (ap (λ (d : Turn). peer_of num d.chans) (perm_self p s))
success_peers now (ChannelBind peer n) buf s num = update_peers peer (bound_at now n) s (bound_num now n) (bound_peer now n) num

retry_chans : (now : ℕ) (buf : List ℕ) (t : Txn) (s : Run) → (retry now buf t s).self.chans ≡ s.self.chans
unfolding retry
retry_chans now buf t s =
    ap (λ (d : Turn). d.chans) (inserted _ _)
    ∙ if_there (λ r. r.self.chans) (get_str buf 0x0015) _ (take_realm buf s) s.self.chans
    (λ x. if_there (λ r. r.self.chans) (get_str buf 0x0014) _ s s.self.chans (λ y. refl) refl)
    (if_there (λ r. r.self.chans) (get_str buf 0x0014) _ s s.self.chans (λ y. refl) refl)

indicated_chans : (p : Option Address) (f : Option Value) (s : Run) → (indicated p f s).self.chans ≡ s.self.chans
indicated_chans (Some peer) (Some v) s = refl
indicated_chans (Some peer) None s = refl
indicated_chans None f s = refl

data_chans : (peer : Address) (body : List ℕ) (s : Run) → (send_data peer body s).self.chans ≡ s.self.chans
data_chans peer body s =
    if_there (λ r. r.self.chans) (get (for_peer peer) s.self.chans) _ (send_indication peer body s) s.self.chans
    (λ c. either_way (λ r. r.self.chans) c.bound _ (send_indication peer body s) s.self.chans refl refl) refl

refresh_chans : (now : ℕ) (s : Run) → (poll_refresh now s).self.chans ≡ s.self.chans
unfolding poll_refresh
refresh_chans now s = either_way (λ r. r.self.chans) (is_due now s.self.refresh_at) _ s s.self.chans (request_chans now (Refresh 600) _ _) refl

perms_chans : (now : ℕ) (s : Run) → (poll_perms now s).self.chans ≡ s.self.chans
unfolding poll_perms
perms_chans now s =
    each_keeps (λ r. r.self.chans ≡ s.self.chans) (create_permission now) (λ ip r h. permission_chans now ip r ∙ h)
    (map (λ p. p.ip) (filter (λ p. is_due now p.refresh) s.self.perms)) s refl

chans_peers : (now : ℕ) (s : Run) → SamePeers (poll_chans now s) s
unfolding poll_chans
chans_peers now s num =
    each_keeps (λ r. peer_of num r.self.chans ≡ peer_of num s.self.chans) (renew_channel now)
    (λ peer r h. ap (peer_of num) (bind_chans now peer (update_chan peer (renewed_at now) r)) ∙ update_peers peer (renewed_at now) r (λ c. refl) (λ c. refl) num ∙ h)
    (map (λ c. c.peer) (filter (λ c. c.bound && leb c.refresh_at now) s.self.chans)) s refl

-- what is due keeps the numbers rising
failure_climbs : (kind : Kind) (s : Run) → Climbs s → Climbs (on_failure kind Timeout s)
unfolding on_failure
failure_climbs Allocate s h = h
failure_climbs (Refresh lifetime) s h = h
failure_climbs (Permission ip) s h = h
failure_climbs (ChannelBind peer num) s h = climb_remove (for_peer peer) h

due_climbs : (now : ℕ) (tid : List ℕ) (s : Run) → Climbs s → Climbs (poll_due now tid s)
due_climbs now =
    due_keeps Climbs now (λ s l h. h) failure_climbs
    (λ t bytes s h. subst (λ (d : Turn). Climb d.next_num 0x4000 d.chans) (sym (inserted t (push_message bytes s))) h)

-- the methods that touch the map
failure_tied : (kind : Kind) (why : Reason) (s : Run) (m : List Named) → Climbs s → Tie m s → Tied (rust_on_failure kind why (with_names s m)) (on_failure kind why s)
unfolding on_failure
failure_tied Allocate why s m h t = (refl, t)
failure_tied (Permission ip) why s m h t = (refl, t)
failure_tied (Refresh lifetime) why s m h t = (refl, t)
failure_tied (ChannelBind peer n) why s m h t = by (get (for_peer peer) s.self.chans) refl
  where
    by : (o : Option Chan) → get (for_peer peer) s.self.chans ≡ o
        → Tied (if_let o (λ c. with_names (on_self (set_chans (remove (for_peer peer) s.self.chans)) s) (remove (under_num c.num) m)) (with_names s m)) (on_self (set_chans (remove (for_peer peer) s.self.chans)) s)
    by None e =
        let gone : remove (for_peer peer) s.self.chans ≡ s.self.chans = by_num_missing (for_peer peer) s.self.chans e in
        (ap (λ (l : List Chan). on_self (set_chans l) s) (sym gone), (λ num. t.0 num ∙ ap (peer_of num) (sym gone), t.1))
    by (Some c) e = (
      refl,
      (
        λ num. named_remove c.num num t.1 ∙ ap (cond (eqb c.num num) None) (t.0 num) ∙ sym (by_num_remove (for_peer peer) c num h e),
        unique_remove (λ x. x.num) eqb eqb_sound eqb_whole (under_num c.num) t.1,
      ),
    )

answered_tied : (now : ℕ) (buf : List ℕ) (cls : Class) (t : Txn) (s : Run) (m : List Named) → Climbs s → Tie m s → Tied (rust_answered now buf cls t (with_names s m)) (answered now buf cls t s)
answered_tied now buf Success t s m h k = plain (on_success now t.kind buf) (with_names s m) s (success_peers now t.kind buf s) (refl, k)
answered_tied now buf Error t s m h k =
    let code : ℕ = code_or_0 (error_code_of buf) in
    tied_cond ((eqb code 401 || eqb code 438) && not t.auth_retried) _ _ (retry now buf t s) (on_failure t.kind (ErrorCode code) s)
    (λ e. plain (retry now buf t) (with_names s m) s (same_chans (retry now buf t s) s (retry_chans now buf t s)) (refl, k))
    (λ e. failure_tied t.kind (ErrorCode code) s m h k)
answered_tied now buf Request t s m h k = (refl, k)
answered_tied now buf Indication t s m h k = (refl, k)

answer_tied : (now : ℕ) (buf : List ℕ) (t : Txn) (s : Run) (m : List Named) → Climbs s → Tie m s → Tied (rust_answer now buf t (with_names s m)) (answer now buf t s)
answer_tied now buf t s m h k =
    let cls : Class = class (field_at buf 0) in
    let without : Run = on_self (set_txns (remove (under_id (tid_of buf)) s.self.txns)) s in
    tied_cond (is_answer cls && passed s.self.key buf cls) _ (with_names s m) (answered now buf cls t without) s (λ e. answered_tied now buf cls t without m h k) (λ e. (refl, k))

message_tied : (now : ℕ) (buf : List ℕ) (s : Run) (m : List Named) → Climbs s → Tie m s → Tied (rust_handle_message now buf (with_names s m)) (handle_message now buf s)
message_tied now buf s m h k =
    tied_cond (eqb (field_at buf 0) 0x0017) _ _ (indicated (xor_addr_of buf 0x0012) (get_of buf 0x0013) s) _
    (λ e. plain (indicated (xor_addr_of buf 0x0012) (get_of buf 0x0013)) (with_names s m) s
    (same_chans (indicated (xor_addr_of buf 0x0012) (get_of buf 0x0013) s) s (indicated_chans (xor_addr_of buf 0x0012) (get_of buf 0x0013) s)) (refl, k))
    (λ e. tied_if (get (under_id (tid_of buf)) s.self.txns) (λ t. rust_answer now buf t (with_names s m)) (λ t. answer now buf t s) (with_names s m) s (λ t q. answer_tied now buf t s m h k) (refl, k))

-- ChannelData: the map names the peer of the channel with that number
heard_tied : (num start len : ℕ) (s : Run) (m : List Named) → Tie m s
    → Tied (if_let (named num m) (λ peer. on_run (tell (Data peer start len)) (with_names s m)) (with_names s m)) (if_let (get (of_number num) s.self.chans) (λ c. tell (Data c.peer start len) s) s)
heard_tied num start len s m k =
    subst (λ (o : Option Address). Tied (if_let o (λ peer. on_run (tell (Data peer start len)) (with_names s m)) (with_names s m)) (if_let (get (of_number num) s.self.chans) (λ c. tell (Data c.peer start len) s) s))
    (sym (k.0 num)) (by (get (of_number num) s.self.chans))
  where
    by : (o : Option Chan)
        → Tied (if_let (if_let o (λ c. Some c.peer) None) (λ peer. on_run (tell (Data peer start len)) (with_names s m)) (with_names s m)) (if_let o (λ c. tell (Data c.peer start len) s) s)
    by None = (refl, k)
    by (Some c) = (refl, k)

handle_tied : (now : ℕ) (buf : List ℕ) (s : Run) (m : List Named) → Climbs s → Tie m s → Tied (rust_handle now buf (with_names s m)) (handle now buf s)
unfolding handle
handle_tied now buf s m h k = by (decode_channel_data buf)
  where
    by : (c : Option ChannelData) → Tied (rust_handle_channel now buf c (with_names s m)) (handle_channel now buf c s)
    by (Some d) = heard_tied d.number d.start d.len s m k
    by None = tied_cond (readable buf) (rust_handle_message now buf (with_names s m)) (with_names s m) (handle_message now buf s) s (λ e. message_tied now buf s m h k) (λ e. (refl, k))

new_tied : (now : ℕ) (peer : Address) (s : Run) (m : List Named) → contains (for_peer peer) s.self.chans ≡ false → s.self.next_num ≤ 0x7FFF → Climbs s → Tie m s
    → Tied (rust_new_channel now peer (with_names s m)) (new_channel now peer s)
new_tied now peer s m e b h k =
    let num : ℕ = s.self.next_num in
    let c : Chan = record { peer = peer; num = num; bound = false; refresh_at = now } in
    let s₁ : Run = insert_chan c (on_self (set_next_num (num + 1)) s) in
    let new : Named = record { num = num; peer = peer } in
    let w₂ : Whole = with_names s₁ (insert (under_num num) new m) in
    let whole : (rust_new_channel now peer (with_names s m)).run ≡ new_channel now peer s = runs (get (for_ip peer.ip) s₁.self.perms) w₂ in
    let names : (rust_new_channel now peer (with_names s m)).by_num ≡ insert (under_num num) new m = kept (get (for_ip peer.ip) s₁.self.perms) w₂ in (
      whole,
      subst (λ (l : List Named). Tie l (new_channel now peer s)) (sym names) (
        λ n. named_insert num n peer m ∙ ap (cond (eqb num n) (Some peer)) (k.0 n) ∙ sym (new_by_num 0 s (omega arith, omega arith, h) peer n now e),
        unique_insert (λ x. x.num) eqb eqb_sound eqb_whole new k.1,
      ),
    )
  where
    runs : (o : Option Perm) (w : Whole)
        → (if_let o (λ p. if_let p.refresh (λ at. on_run (bind_channel now peer) w) w) w).run ≡ if_let o (λ p. if_let p.refresh (λ at. bind_channel now peer w.run) w.run) w.run
    runs None w = refl
    runs (Some p) w = inner p.refresh
      where
        inner : (o : Option ℕ) → (if_let o (λ at. on_run (bind_channel now peer) w) w).run ≡ if_let o (λ at. bind_channel now peer w.run) w.run
        inner None = refl
        inner (Some at) = refl

    kept : (o : Option Perm) (w : Whole) → (if_let o (λ p. if_let p.refresh (λ at. on_run (bind_channel now peer) w) w) w).by_num ≡ w.by_num
    kept None w = refl
    kept (Some p) w = inner p.refresh
      where
        inner : (o : Option ℕ) → (if_let o (λ at. on_run (bind_channel now peer) w) w).by_num ≡ w.by_num
        inner None = refl
        inner (Some at) = refl

send_tied : (now : ℕ) (peer : Address) (body : List ℕ) (s : Run) (m : List Named) → Climbs s → Tie m s → Tied (rust_send now peer body (with_names s m)) (send now peer body s)
unfolding send
send_tied now peer body s m h k =
    let has : Bool = contains (for_ip peer.ip) s.self.perms in
    let asked : Run = create_permission now peer.ip s in
    let s₁ : Run = cond has s asked in
    let w₁ : Whole = cond has (with_names s m) (on_run (create_permission now peer.ip) (with_names s m)) in
    let one : Tied w₁ s₁ =
    tied_cond has (with_names s m) (on_run (create_permission now peer.ip) (with_names s m)) s asked (λ e. (refl, k))
    (λ e. plain (create_permission now peer.ip) (with_names s m) s (same_chans asked s (permission_chans now peer.ip s)) (refl, k)) in
    let climbs : Climbs s₁ = choose has in
    let two : Tied (grown w₁) (grows s₁) = lit grown grows w₁ s₁ (λ n t. grow s₁ n climbs t) one in
    tied_cond (not (is_some s.self.relay) || s.self.closing) (with_names s m) (on_run (send_data peer body) (grown w₁)) s (send_data peer body (grows s₁)) (λ e. (refl, k))
    (λ e. plain (send_data peer body) (grown w₁) (grows s₁) (same_chans (send_data peer body (grows s₁)) (grows s₁) (data_chans peer body (grows s₁))) two)
  where
    grown : Whole → Whole
    grown w = cond (not (contains (for_peer peer) w.run.self.chans) && leb w.run.self.next_num 0x7FFF) (rust_new_channel now peer w) w

    grows : Run → Run
    grows r = cond (not (contains (for_peer peer) r.self.chans) && leb r.self.next_num 0x7FFF) (new_channel now peer r) r

    choose : (b : Bool) → Climbs (cond b s (create_permission now peer.ip s))
    choose true = h
    choose false =
        subst (λ (n : ℕ). Climb n 0x4000 (create_permission now peer.ip s).self.chans) (sym (permission_next now peer.ip s))
        (subst (λ (l : List Chan). Climb s.self.next_num 0x4000 l) (sym (permission_chans now peer.ip s)) h)

    grow : (r : Run) (n : List Named) → Climbs r → Tie n r → Tied (grown (with_names r n)) (grows r)
    grow r n climbs t =
        tied_cond (not (contains (for_peer peer) r.self.chans) && leb r.self.next_num 0x7FFF) (rust_new_channel now peer (with_names r n)) (with_names r n) (new_channel now peer r) r
        (λ e. let b = both (not (contains (for_peer peer) r.self.chans)) (leb r.self.next_num 0x7FFF) e in
        new_tied now peer r n (not-true (contains (for_peer peer) r.self.chans) b.0) (leb-true r.self.next_num 0x7FFF b.1) climbs t)
        (λ e. (refl, t))

due_tied : (now : ℕ) (tid : List ℕ) (s : Run) (m : List Named) → Climbs s → Tie m s → Tied (rust_poll_due now tid (with_names s m)) (poll_due now tid s)
unfolding poll_due
due_tied now tid s m h k =
    let without : Run = on_self (set_txns (remove (under_id tid) s.self.txns)) s in
    tied_if (get (under_id tid) s.self.txns) _ _ (with_names s m) s
    (λ t e. tied_cond (s.self.reliable || leb MAX_TRIES t.tries) (rust_on_failure t.kind Timeout (with_names without m)) _ (on_failure t.kind Timeout without)
    (insert_txn (repeated now t) (push_message (encode without.self t.msg) without))
    (λ q. failure_tied t.kind Timeout without m h k)
    (λ q. plain (λ r. insert_txn (repeated now t) (push_message (encode r.self t.msg) r)) (with_names without m) without
    (same_chans (insert_txn (repeated now t) (push_message (encode without.self t.msg) without)) without
    (ap (λ (d : Turn). d.chans) (inserted (repeated now t) (push_message (encode without.self t.msg) without)))) (refl, k)))
    (refl, k)

each_tied : (now : ℕ) (tids : List (List ℕ)) (w : Whole) (s : Run) → Climbs s → Tied w s → Tied (each (rust_poll_due now) tids w) (each (poll_due now) tids s)
each_tied now [] w s h t = t
each_tied now (tid ∷ tids) w s h t =
    each_tied now tids (rust_poll_due now tid w) (poll_due now tid s) (due_climbs now tid s h) (lit (rust_poll_due now tid) (poll_due now tid) w s (λ m k. due_tied now tid s m h k) t)

poll_tied : (now : ℕ) (s : Run) (m : List Named) → Climbs s → Tie m s → Tied (rust_poll now (with_names s m)) (poll now s)
unfolding poll
poll_tied now s m h k =
    let tids : List (List ℕ) = due_of now s.self in
    lit ends ended (each (rust_poll_due now) tids (with_names s m)) (each (poll_due now) tids s) (λ n t. finish (each (poll_due now) tids s) n t)
    (each_tied now tids (with_names s m) s h (refl, k))
  where
    ends : Whole → Whole
    ends w = cond w.run.self.closing w (on_run (λ r. poll_chans now (poll_perms now (poll_refresh now r))) w)

    ended : Run → Run
    ended r = cond r.self.closing r (poll_chans now (poll_perms now (poll_refresh now r)))

    finish : (r : Run) (n : List Named) → Tie n r → Tied (ends (with_names r n)) (ended r)
    finish r n t =
        tied_cond r.self.closing (with_names r n) _ r _ (λ e. (refl, t))
        (λ e. plain (λ x. poll_chans now (poll_perms now (poll_refresh now x))) (with_names r n) r
        (λ num. chans_peers now (poll_perms now (poll_refresh now r)) num ∙ ap (peer_of num) (perms_chans now (poll_refresh now r) ∙ refresh_chans now r)) (refl, t))

lost_chans : (s : Run) → (transport_failed s).self.chans ≡ s.self.chans
unfolding transport_failed
lost_chans s = either_way (λ (r : Run). r.self.chans) (s.self.done && is_some s.self.relay) _ _ s.self.chans refl refl

close_chans : (s : Run) → (close s).self.chans ≡ s.self.chans
unfolding close
close_chans s = either_way (λ (r : Run). r.self.chans) (not (is_some s.self.relay) || s.self.closing) s _ s.self.chans refl refl

start_chans : (now : ℕ) (s : Run) → (start now s).self.chans ≡ s.self.chans
unfolding start
start_chans now s = request_chans now Allocate _ _

pub method_tied : (call : Call) (s : Run) (m : List Named) → Climbs s → Tie m s → Tied (rust_method call (with_names s m)) (method_of call s)
method_tied (Start now ids room) s m h k = plain (start now) (with_names s m) s (same_chans (start now s) s (start_chans now s)) (refl, k)
method_tied (Handle now buf ids room) s m h k = handle_tied now buf s m h k
method_tied (Send now peer body ids room) s m h k = send_tied now peer body s m h k
method_tied (Poll now ids room) s m h k = poll_tied now s m h k
method_tied TransportFailed s m h k = plain transport_failed (with_names s m) s (same_chans (transport_failed s) s (lost_chans s)) (refl, k)
method_tied (Close ids room) s m h k = plain close (with_names s m) s (same_chans (close s) s (close_chans s)) (refl, k)
