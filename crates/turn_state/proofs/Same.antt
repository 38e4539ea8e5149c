-- Two tidy clients that mean the same are one client, so that an answer's meaning and its tidiness fix the client that it holds. Texts
-- and tables are equal as the parts before the length and after it are; a row is the numbers of its meaning; the id under which an IPv6
-- peer is encoded comes out of the encoded address, since XOR cancels. Others cite `same_client`, `same_answer` and, for what the types
-- give, `sized`.
use mathlib.Core.Path.{◌≡◌, refl, sym, ap, ap₂, subst, ◌∙◌}
use mathlib.Core.Bool.{Bool, true, false}
use mathlib.Core.List.{List, [], ◌∷◌, ◌++◌, map}
use Prim.Native.Nat.{ℕ, zero, suc, ◌-◌, ◌≤◌}
use native.Mathlib.Omega.{arith}
use lib.ListN.{length, take, drop, replicate, take-append-drop}
use lib.Seq.{length-take-le}
use lib.Bits.{bit_xor, xor_comm}
use mir.Val.{Val}
use denote.Array.{each}
use denote.Laws.{Is}
use denote.Shadow.{shadow}
use denote.Struct.Declared.{row as typed_row}
use Rattle.stun_address.specs.declared.Ip.{Ip}
use Rattle.stun_address.specs.declared.Ip.TheVariants.{V4, V6}
use Rattle.stun_address.specs.Source.{key, xored, octets, encode_xor_addr}
use Rattle.stun_address.proofs.Cancel.{cancel}
use Rattle.stun_text.specs.declared.Text.{Text}
use Rattle.stun_write.specs.Source.{Attribute}
use Rattle.turn_state.specs.declared.Kind.{Kind}
use Rattle.turn_state.specs.declared.Kind.TheVariants.{Allocate, Refresh, Permission as Permit, ChannelBind}
use Rattle.turn_state.specs.declared.Host.{Host}
use Rattle.turn_state.specs.declared.Place.{Place}
use Rattle.turn_state.specs.declared.Request.{Request}
use Rattle.turn_state.specs.declared.Permission.{Permission}
use Rattle.turn_state.specs.declared.Channel.{Channel}
use Rattle.turn_state.specs.declared.Requests.{Requests}
use Rattle.turn_state.specs.declared.Permissions.{Permissions}
use Rattle.turn_state.specs.declared.Channels.{Channels}
use Rattle.turn_state.specs.declared.Credentials.{Credentials}
use Rattle.turn_state.specs.declared.Client.{Client}
use Rattle.turn_state.specs.contracts.Client.{the_type as the_client}
use Rattle.turn_state.specs.contracts.Request.{the_type as the_request, the_row as the_request_row}
use Rattle.turn_state.specs.State.{Perm, Chan}
use Rattle.turn_state.specs.Number.{Outcome}
use Rattle.turn_state.specs.View.{host_of, ip_in, place_of, address_in, nowhere, asked_of, kind_in, text_in, attrs_of, txn_in, perm_in, chan_in, txns_in, perms_in, chans_in, held, either, absent, view, no_text, shows_under, is_v6, Each, no_rows, row, TidyText, TidyRequest, TidyPermission, TidyChannel, TidyRequests, TidyPermissions, TidyChannels, TidyCredentials, Tidy, Reply, Meets, Twelve, Sized}

-- lists of a room, blank after a length
module _ {A : Type 0} (room n m : ℕ) (l k : List A) (fl : length l ≡ room) (fk : length k ≡ room) (hn : n ≤ room) (hm : m ≤ room) (e : take n l ≡ take m k) where
  same_length : n ≡ m
  same_length = sym (length-take-le n l (omega arith)) ∙ ap length e ∙ length-take-le m k (omega arith)

  same_list : (blank : A) → drop n l ≡ replicate (room - n) blank → drop m k ≡ replicate (room - m) blank → l ≡ k
  same_list blank dl dk =
      let rest : drop n l ≡ drop m k = dl ∙ ap (λ (i : ℕ). replicate (room - i) blank) same_length ∙ sym dk in
      sym (take-append-drop n l) ∙ ap₂ {C = List A} (λ a b. a ++ b) e rest ∙ take-append-drop m k

same_text : (t u : Text) → length t.bytes ≡ 763 → length u.bytes ≡ 763 → TidyText t → TidyText u → text_in t ≡ text_in u → t ≡ u
same_text t u lt lu ht hu e =
    ap₂ (λ (b : List ℕ) (n : ℕ). record { bytes = b; len = n })
    (same_list 763 t.len u.len t.bytes u.bytes lt lu ht.fits hu.fits e 0 ht.zeros hu.zeros)
    (same_length 763 t.len u.len t.bytes u.bytes lt lu ht.fits hu.fits e)

-- what is held by a flag, and blank where it is not
module _ {A B : Type 0} (f : A → B) (blank : A) where
  same_held : (p q : Bool) (a b : A) → (f a ≡ f b → a ≡ b) → absent p blank a → absent q blank b → held p (f a) ≡ held q (f b) → (p ≡ q) × (a ≡ b)
  same_held false false a b inj x y e = (refl, x ∙ sym y)
  same_held false true a b inj x y e = absurd (let z : ◌≡◌ {A = ℕ} 0 1 = cc in omega arith)
  same_held true false a b inj x y e = absurd (let z : ◌≡◌ {A = ℕ} 0 1 = cc in omega arith)
  same_held true true a b inj x y e = (refl, inj (cc))

-- tables of rows that are equal where they mean the same
module _ {R M : Type 0} {tidy : R → Type 0} (f : R → M) (same : (r s : R) → tidy r → tidy s → f r ≡ f s → r ≡ s) where
  same_rows : (l k : List R) → Each tidy l → Each tidy k → map f l ≡ map f k → l ≡ k
  same_rows [] [] x y e = refl
  same_rows [] (s ∷ k) x y e = absurd (let z : length (map f []) ≡ length (map f (s ∷ k)) = ap length e in omega arith)
  same_rows (r ∷ l) [] x y e = absurd (let z : length (map f (r ∷ l)) ≡ length (map f []) = ap length e in omega arith)
  same_rows (r ∷ l) (s ∷ k) (row x xs) (row y ys) e = ap₂ {C = List R} (λ a b. a ∷ b) (same r s x y (cc)) (same_rows l k xs ys (cc))

module _ {R : Type 0} where
  each_take : {p : R → Type 0} (n : ℕ) {l : List R} → Each p l → Each p (take n l)
  each_take zero x = no_rows
  each_take (suc n) no_rows = no_rows
  each_take (suc n) (row t x) = row t (each_take n x)

  each_both : {p q : R → Type 0} {l : List R} → Each p l → Each q l → Each (λ r. p r × q r) l
  each_both no_rows no_rows = no_rows
  each_both (row t x) (row u y) = row (t, u) (each_both x y)

-- addresses
same_host : (h k : Host) → host_of (ip_in h) ≡ h → host_of (ip_in k) ≡ k → ip_in h ≡ ip_in k → h ≡ k
same_host h k x y e = sym x ∙ ap host_of e ∙ y

same_place : (p q : Place) → place_of (address_in p) ≡ p → place_of (address_in q) ≡ q → address_in p ≡ address_in q → p ≡ q
same_place p q x y e = sym x ∙ ap place_of e ∙ y

same_relay : (p q : Bool) (a b : Place) → either p (place_of (address_in a) ≡ a) (a ≡ nowhere) → either q (place_of (address_in b) ≡ b) (b ≡ nowhere)
    → held p (address_in a) ≡ held q (address_in b) → (p ≡ q) × (a ≡ b)
same_relay false false a b x y e = (refl, x ∙ sym y)
same_relay false true a b x y e = absurd (let z : ◌≡◌ {A = ℕ} 0 1 = cc in omega arith)
same_relay true false a b x y e = absurd (let z : ◌≡◌ {A = ℕ} 0 1 = cc in omega arith)
same_relay true true a b x y e = (refl, same_place a b x y (cc))

-- rows
same_permission : (p q : Permission) → TidyPermission p → TidyPermission q → perm_in p ≡ perm_in q → p ≡ q
same_permission p q x y e =
    let h : p.host ≡ q.host = same_host p.host q.host x.host y.host (ap (λ (r : Perm). r.ip) e) in
    let g : (p.granted ≡ q.granted) × (p.at ≡ q.at) =
    same_held (λ (n : ℕ). n) 0 p.granted q.granted p.at q.at (λ z. z) x.asked y.asked (ap (λ (r : Perm). r.refresh) e) in
    λ i. record { host = h i; granted = g.0 i; at = g.1 i }

same_channel : (c d : Channel) → TidyChannel c → TidyChannel d → chan_in c ≡ chan_in d → c ≡ d
same_channel c d x y e =
    let p : c.peer ≡ d.peer = same_place c.peer d.peer x y (ap (λ (r : Chan). r.peer) e) in
    λ i. record { peer = p i; number = (e i).num; bound = (e i).bound; at = (e i).refresh_at }

-- the key of an XOR
same_mask : (a k m : ℕ) → bit_xor a k ≡ bit_xor a m → k ≡ m
same_mask a k m e = sym (cancel k a) ∙ ap (λ (x : ℕ). bit_xor x a) (xor_comm k a ∙ e ∙ xor_comm a m) ∙ cancel m a

same_key : (l k m : List ℕ) → length k ≡ length l → length m ≡ length l → xored l k ≡ xored l m → k ≡ m
same_key [] [] [] x y e = refl
same_key [] (a ∷ k) m x y e = absurd (omega arith)
same_key [] [] (b ∷ m) x y e = absurd (omega arith)
same_key (c ∷ l) [] m x y e = absurd (omega arith)
same_key (c ∷ l) (a ∷ k) [] x y e = absurd (omega arith)
same_key (c ∷ l) (a ∷ k) (b ∷ m) x y e = ap₂ {C = List ℕ} (λ i r. i ∷ r) (same_mask c a b (cc)) (same_key l k m (omega arith) (omega arith) (cc))

-- the id under which an IPv6 address is encoded, out of the attribute
first_value : List Attribute → List ℕ
first_value [] = []
first_value (a ∷ l) = a.value

same_id : (u v : List ℕ) → key u ≡ key v → u ≡ v
same_id u v e = ap (drop 4) e

module _ (id u v : List ℕ) (lu : length u ≡ 12) (lv : length v ≡ 12) where
  under_ip : (ip : Ip) (port : ℕ) → either (is_v6 ip) (Unit {0}) (u ≡ id) → either (is_v6 ip) (Unit {0}) (v ≡ id)
      → encode_xor_addr (record { ip = ip; port = port }) u ≡ encode_xor_addr (record { ip = ip; port = port }) v → u ≡ v
  unfolding encode_xor_addr
  under_ip (V4 x) port p q e = p ∙ sym q
  under_ip (V6 h l) port p q e = same_id u v (same_key (octets h l) (key u) (key v) (omega arith) (omega arith) (ap (drop 4) e))

  same_under : (k : Kind) → either (shows_under k) (Unit {0}) (u ≡ id) → either (shows_under k) (Unit {0}) (v ≡ id) → attrs_of k u ≡ attrs_of k v → u ≡ v
  unfolding first_value
  same_under Allocate p q e = p ∙ sym q
  same_under (Refresh lifetime) p q e = p ∙ sym q
  same_under (Permit ip) p q e = under_ip ip 0 p q (ap first_value e)
  same_under (ChannelBind peer number) p q e = under_ip peer.ip peer.port p q (ap (λ (l : List Attribute). first_value (drop 1 l)) e)

same_request : (r s : Request) → TidyRequest r × Twelve r → TidyRequest s × Twelve s → txn_in r ≡ txn_in s → r ≡ s
same_request r s (x, lr) (y, ls) e =
    let id : s.id ≡ r.id = λ i. (sym e i).msg.tid in
    let kind : kind_in s.asked ≡ kind_in r.asked = λ i. (sym e i).kind in
    let asked : r.asked ≡ s.asked = sym x.0 ∙ ap asked_of (sym kind) ∙ y.0 in
    let tidy : either (shows_under (kind_in r.asked)) (Unit {0}) (s.under ≡ r.id) =
    subst (λ (k : Kind). either (shows_under k) (Unit {0}) (s.under ≡ r.id)) kind
    (subst (λ (l : List ℕ). either (shows_under (kind_in s.asked)) (Unit {0}) (s.under ≡ l)) id y.1) in
    let attrs : attrs_of (kind_in r.asked) r.under ≡ attrs_of (kind_in r.asked) s.under =
    (λ i. (e i).msg.attrs) ∙ ap (λ (k : Kind). attrs_of k s.under) kind in
    let under : r.under ≡ s.under = same_under r.id r.under s.under lr ls (kind_in r.asked) x.1 tidy attrs in
    λ i. record { id = (e i).msg.tid; under = under i; asked = asked i; tries = (e i).tries; next = (e i).next; retried = (e i).auth_retried }

-- tables
module _ {R M : Type 0} {tidy : R → Type 0} (f : R → M) (same : (r s : R) → tidy r → tidy s → f r ≡ f s → r ≡ s) (blank : R) (room n m : ℕ) (l k : List R)
    (fl : length l ≡ room) (fk : length k ≡ room) (hn : n ≤ room) (hm : m ≤ room) (dl : drop n l ≡ replicate (room - n) blank) (dk : drop m k ≡ replicate (room - m) blank)
    (tl : Each tidy (take n l)) (tk : Each tidy (take m k)) (e : map f (take n l) ≡ map f (take m k)) where
  front : take n l ≡ take m k
  front = same_rows f same (take n l) (take m k) tl tk e

  same_table : (l ≡ k) × (n ≡ m)
  same_table = (same_list room n m l k fl fk hn hm front blank dl dk, same_length room n m l k fl fk hn hm front)

same_permissions : (t u : Permissions) → length t.rows ≡ 32 → length u.rows ≡ 32 → TidyPermissions t → TidyPermissions u → perms_in t ≡ perms_in u → t ≡ u
same_permissions t u lt lu x y e =
    let s : (t.rows ≡ u.rows) × (t.len ≡ u.len) =
    same_table perm_in same_permission _ 32 t.len u.len t.rows u.rows lt lu x.fits y.fits x.blanks y.blanks x.each y.each e in
    λ i. record { rows = s.0 i; len = s.1 i }

same_channels : (t u : Channels) → length t.rows ≡ 32 → length u.rows ≡ 32 → TidyChannels t → TidyChannels u → chans_in t ≡ chans_in u → t ≡ u
same_channels t u lt lu x y e =
    let s : (t.rows ≡ u.rows) × (t.len ≡ u.len) =
    same_table chan_in same_channel _ 32 t.len u.len t.rows u.rows lt lu x.fits y.fits x.blanks y.blanks x.each y.each e in
    λ i. record { rows = s.0 i; len = s.1 i }

same_requests : (t u : Requests) → length t.rows ≡ 64 → length u.rows ≡ 64 → Each Twelve t.rows → Each Twelve u.rows → TidyRequests t → TidyRequests u
    → txns_in t ≡ txns_in u → t ≡ u
same_requests t u lt lu it iu x y e =
    let s : (t.rows ≡ u.rows) × (t.len ≡ u.len) =
    same_table txn_in same_request _ 64 t.len u.len t.rows u.rows lt lu x.fits y.fits x.blanks y.blanks
    (each_both x.each (each_take t.len it)) (each_both y.each (each_take u.len iu)) e in
    λ i. record { rows = s.0 i; len = s.1 i }

row_twelve : (r : Request) (vs : List Val) → Is (typed_row the_request) r vs → Twelve r
row_twelve r vs g = g.1.1.1.0.1.0.1

each_twelve : (rows : List Request) (us : List Val) → shadow (each the_request_row.Denot the_request_row.own_val rows us) → Each Twelve rows
each_twelve [] us g = no_rows
each_twelve (r ∷ rows) [] g = absurd g
each_twelve (r ∷ rows) (u ∷ us) g = row (row_twelve r (u ∷ []) g.0) (each_twelve rows us g.1)

-- every client of the type has them
pub sized : (c : Client) (vs : List Val) → Is (typed_row the_client) c vs → Sized c
sized c vs g =
    record {
      username = g.1.1.1.0.1.1.0.1.1.0.1.0.1;
      realm = g.1.1.1.0.1.1.1.0.1.1.0.1.0.1;
      nonce = g.1.1.1.0.1.1.1.1.0.1.1.0.1.0.1;
      password = g.1.1.0.1.1.0.1.0.1;
      requests = g.1.1.1.1.0.1.1.0.1.0.1;
      permissions = g.1.1.1.1.1.0.1.1.0.1.0.1;
      channels = g.1.1.1.1.1.1.0.1.1.0.1.0.1;
      unders = each_twelve c.requests.rows _ g.1.1.1.1.0.1.1.0.1.1;
    }

same_credentials : (c d : Credentials) → TidyCredentials c → TidyCredentials d
    → length c.username.bytes ≡ 763 → length d.username.bytes ≡ 763 → length c.realm.bytes ≡ 763 → length d.realm.bytes ≡ 763
    → length c.nonce.bytes ≡ 763 → length d.nonce.bytes ≡ 763
    → text_in c.username ≡ text_in d.username → held c.has_realm (text_in c.realm) ≡ held d.has_realm (text_in d.realm)
    → held c.has_nonce (text_in c.nonce) ≡ held d.has_nonce (text_in d.nonce) → held c.has_key c.key ≡ held d.has_key d.key → c ≡ d
same_credentials c d x y uc ud rc rd nc nd eu er en ek =
    let username : c.username ≡ d.username = same_text c.username d.username uc ud x.username y.username eu in
    let realm : (c.has_realm ≡ d.has_realm) × (c.realm ≡ d.realm) =
    same_held text_in no_text c.has_realm d.has_realm c.realm d.realm (same_text c.realm d.realm rc rd x.realm y.realm) x.no_realm y.no_realm er in
    let nonce : (c.has_nonce ≡ d.has_nonce) × (c.nonce ≡ d.nonce) =
    same_held text_in no_text c.has_nonce d.has_nonce c.nonce d.nonce (same_text c.nonce d.nonce nc nd x.nonce y.nonce) x.no_nonce y.no_nonce en in
    let key : (c.has_key ≡ d.has_key) × (c.key ≡ d.key) =
    same_held (λ (k : List ℕ). k) (replicate 16 0) c.has_key d.has_key c.key d.key (λ z. z) x.no_key y.no_key ek in
    λ i. record { username = username i; realm = realm.1 i; nonce = nonce.1 i; key = key.1 i; has_realm = realm.0 i; has_nonce = nonce.0 i; has_key = key.0 i }

pub same_client : (a b : Client) → Sized a → Sized b → Tidy a → Tidy b → view a ≡ view b → a ≡ b
same_client a b m n x y e =
    let password : a.password ≡ b.password = same_text a.password b.password m.password n.password x.password y.password (λ i. (e i).password) in
    let credentials : a.credentials ≡ b.credentials =
    same_credentials a.credentials b.credentials x.credentials y.credentials m.username n.username m.realm n.realm m.nonce n.nonce
    (λ i. (e i).username) (λ i. (e i).realm) (λ i. (e i).nonce) (λ i. (e i).key) in
    let requests : a.requests ≡ b.requests = same_requests a.requests b.requests m.requests n.requests m.unders n.unders x.requests y.requests (λ i. (e i).txns) in
    let permissions : a.permissions ≡ b.permissions = same_permissions a.permissions b.permissions m.permissions n.permissions x.permissions y.permissions (λ i. (e i).perms) in
    let channels : a.channels ≡ b.channels = same_channels a.channels b.channels m.channels n.channels x.channels y.channels (λ i. (e i).chans) in
    let relay : (a.has_relay ≡ b.has_relay) × (a.relay ≡ b.relay) =
    same_relay a.has_relay b.has_relay a.relay b.relay x.relay y.relay (λ i. (e i).relay) in
    let refresh : (a.has_refresh ≡ b.has_refresh) × (a.refresh_at ≡ b.refresh_at) =
    same_held (λ (k : ℕ). k) 0 a.has_refresh b.has_refresh a.refresh_at b.refresh_at (λ z. z) x.no_refresh y.no_refresh (λ i. (e i).refresh_at) in
    λ i.
    record {
      password = password i;
      credentials = credentials i;
      requests = requests i;
      permissions = permissions i;
      channels = channels i;
      relay = relay.1 i;
      refresh_at = refresh.1 i;
      next_num = (e i).next_num;
      has_relay = relay.0 i;
      has_refresh = refresh.0 i;
      done = (e i).done;
      closing = (e i).closing;
      reliable = (e i).reliable;
    }

-- so two answers that meet the definition for a tidy client are one, and what they leave in the output is one
pub same_answer : (before : Client) (due : Outcome) (out : List ℕ) (r s : Reply) (after later : List ℕ) → Meets before due out r after → Meets before due out s later
    → Tidy before → Sized r.client → Sized s.client → (r ≡ s) × (after ≡ later)
same_answer before due out r s after later x y tidy m n =
    let client : r.client ≡ s.client = same_client r.client s.client m n (x.tidy tidy) (y.tidy tidy) (x.client ∙ sym y.client) in
    let refusal : r.refusal ≡ s.refusal = x.refusal ∙ sym y.refusal in
    let event : r.event ≡ s.event = x.event ∙ sym y.event in
    let events : r.events ≡ s.events = x.events ∙ sym y.events in
    let packets : r.packets ≡ s.packets = x.packets ∙ sym y.packets in
    let len : r.len ≡ s.len = x.len ∙ sym y.len in
    (λ i. record { client = client i; refusal = refusal i; event = event i; events = events i; packets = packets i; len = len i }, x.output ∙ sym y.output)
