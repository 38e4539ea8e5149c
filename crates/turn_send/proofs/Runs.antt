-- The run of the definition's send is that of the route that the tables give.
use Rattle.std.specs.Prelude.{Option, None, Some, is_some, option_map}
use mathlib.Core.Path.{◌≡◌, refl, ap, sym, ◌∙◌}
use mathlib.Core.Bool.{Bool, true, false, cond, ◌&&◌, ◌||◌, not, or-false}
use mathlib.Core.List.{List, [], ◌∷◌, ◌++◌}
use Prim.Native.Nat.{ℕ, ◌+◌}
use borrow.Author.Tests.{eq-eqb}
use lib.ListN.{length}
use lib.Dec.{leb}
use Rattle.stun_frame.specs.Source.{encode_channel_data}
use Rattle.stun_address.specs.declared.Ip.{Ip}
use Rattle.stun_address.specs.declared.Address.{Address}
use Rattle.turn_state.specs.declared.Kind.{Kind}
use Rattle.turn_state.specs.declared.Kind.TheVariants.{Permission, ChannelBind}
use Rattle.turn_state.specs.Maps.{get, contains, insert, if_let}
use Rattle.turn_state.specs.Maps
use Rattle.turn_state.specs.State.{Perm, Chan, Turn, Added, Run, begin, id_at, new_tid, drew, on_self, push_frame, set_next_num}
use Rattle.turn_state.specs.Source
use Rattle.turn_state.specs.Number.{full}
use Rattle.turn_state.specs.View.{message_of, asked_of, kind_in}
use Rattle.turn_data.proofs.Laws.{indication_sent, resized_same}
use Rattle.turn_ids.specs.Ids.{request_full}
use Rattle.turn_plan.proofs.Keys.{get_insert, same_ip_refl}
use Rattle.turn_plan.proofs.Steps.{grown, full_snoc, grown_full}
use Rattle.turn_send.specs.declared.Route.{Route}
use Rattle.turn_send.specs.Sending
use Rattle.turn_send.proofs.Ranges.{Kept}

-- whether a key is there, by what is found under it
there_step : {R : Type 0} (r : R) (o : Option R) (b x : Bool) → x ≡ is_some o → cond b true x ≡ is_some (cond b (Some r) o)
there_step r o true x e = refl
there_step r o false x e = e

contains_get : {R : Type 0} (is : R → Bool) (l : List R) → contains is l ≡ is_some (get is l)
contains_get is [] = refl
contains_get is (r ∷ l) = there_step r (get is l) (is r) (contains is l) (contains_get is l)

-- a channel is bound at once where its permission is granted
abbrev granted : Option Perm → Bool
granted None = false
granted (Some p) = is_some p.refresh

bind_at : (o : Option ℕ) (s t : Run) (b : Bool) → is_some o ≡ b → if_let o (λ at. t) s ≡ cond b t s
bind_at None s t b e = rw (← e)
bind_at (Some at) s t b e = rw (← e)

bind_where : (o : Option Perm) (s t : Run) (b : Bool) → granted o ≡ b → if_let o (λ p. if_let p.refresh (λ at. t) s) s ≡ cond b t s
bind_where None s t b e = rw (← e)
bind_where (Some p) s t b e = bind_at p.refresh s t b e

-- 5, of what is added
turned : (p r c : Bool) → (((p || false) || r) || c) ≡ ((p || c) || r)
turned true r c = refl
turned false true true = refl
turned false true false = refl
turned false false c = sym (or-false c)

module _ (c : Turn) (now : ℕ) (lent : List ℕ) (peer : Address) where
  abbrev there : Bool
  there = contains (Source.under_drawn (id_at lent 0)) c.txns

  abbrev perm_added : Added
  perm_added = record { room = 32; held = length c.perms }

  abbrev chan_added : Added
  chan_added = record { room = 32; held = length c.chans }

  abbrev asking : List Added → List Added
  asking a = grown there 64 (length c.txns) a

  asking_full : (a : List Added) → full (asking a) ≡ (full a || request_full c.txns lent 0)
  unfolding request_full
  asking_full a = grown_full there 64 (length c.txns) a

  -- a request is made
  abbrev before_ask : Bool → Bool → List Added → Run
  before_ask permits opens a = Sending.ask_run c now lent peer permits opens None a

  request_by : (permits opens : Bool) (k : Kind) (a : List Added) (b : Bool) → there ≡ b
      → Source.request now k (message_of k (new_tid (before_ask permits opens a)) (new_tid (before_ask permits opens a))) (drew (before_ask permits opens a))
      ≡ Sending.ask_run c now lent peer permits opens (Some k) (asking a)
  unfolding Source.request Source.insert_txn
  request_by permits opens k a true e = rw e
  request_by permits opens k a false e = rw e

  request_is : (permits opens : Bool) (k : Kind) (a : List Added)
      → Source.request now k (message_of k (new_tid (before_ask permits opens a)) (new_tid (before_ask permits opens a))) (drew (before_ask permits opens a))
      ≡ Sending.ask_run c now lent peer permits opens (Some k) (asking a)
  request_is permits opens k a = request_by permits opens k a there refl

  -- the permission
  permission_is : contains (Source.for_ip peer.ip) c.perms ≡ false
      → Source.create_permission now peer.ip (begin c lent) ≡ Sending.ask_run c now lent peer true false (Some (Permission peer.ip)) (asking (perm_added ∷ []))
  unfolding Source.create_permission Source.insert_perm
  permission_is absent = rw absent (request_is true false (Permission peer.ip) (perm_added ∷ []))

  -- the channel
  abbrev new_chan : Chan
  new_chan = record { peer = peer; num = c.next_num; bound = false; refresh_at = now }

  new_here : Source.for_peer peer new_chan ≡ true
  new_here = rw (same_ip_refl peer.ip, eq-eqb peer.port peer.port refl)

  channel_is : (permits : Bool) (ask : Option Kind) (a : List Added) → contains (Source.for_peer peer) c.chans ≡ false
      → Source.insert_chan new_chan (on_self (set_next_num (c.next_num + 1)) (Sending.ask_run c now lent peer permits false ask a))
      ≡ Sending.ask_run c now lent peer permits true ask (a ++ (chan_added ∷ []))
  unfolding Source.insert_chan
  channel_is permits ask a absent = rw absent

  bind_is : (permits : Bool) (a : List Added) → Source.bind_channel now peer (before_ask permits true a)
      ≡ Sending.ask_run c now lent peer permits true (Some (ChannelBind peer c.next_num)) (asking a)
  unfolding Source.bind_channel
  bind_is permits a = rw (get_insert (Source.for_peer peer) new_chan c.chans new_here) (request_is permits true (ChannelBind peer c.next_num) a)

  new_is : (permits : Bool) (ask : Option Kind) (a : List Added) (b : Bool) → contains (Source.for_peer peer) c.chans ≡ false
      → granted (get (Source.for_ip peer.ip) (Sending.ask_run c now lent peer permits false ask a).self.perms) ≡ b
      → Source.new_channel now peer (Sending.ask_run c now lent peer permits false ask a)
      ≡ cond b (Source.bind_channel now peer (Sending.ask_run c now lent peer permits true ask (a ++ (chan_added ∷ []))))
      (Sending.ask_run c now lent peer permits true ask (a ++ (chan_added ∷ [])))
  new_is permits ask a b absent e =
      let s = Sending.ask_run c now lent peer permits true ask (a ++ (chan_added ∷ [])) in
      ap (λ (t : Run). if_let (get (Source.for_ip peer.ip) t.self.perms) (λ p. if_let p.refresh (λ at. Source.bind_channel now peer t) t) t) (channel_is permits ask a absent)
      ∙ bind_where (get (Source.for_ip peer.ip) s.self.perms) s (Source.bind_channel now peer s) b e

  -- both requests' places: the permission first, then the channel
  abbrev first_run : Bool → Run
  first_run held = cond held (begin c lent) (Source.create_permission now peer.ip (begin c lent))

  abbrev second_run : Run → Run
  second_run s = cond (not (contains (Source.for_peer peer) s.self.chans) && leb s.self.next_num 0x7FFF) (Source.new_channel now peer s) s

  pub record Ran (p : Option Perm) (opens : Bool) : Type 0 where
    pub added : List Added
    pub run : second_run (first_run (is_some p)) ≡ Sending.ask_run c now lent peer (not (is_some p)) opens (Sending.ask_of p opens c.next_num peer) added
    pub met : full added
        ≡ (Sending.crowded p opens (length c.perms) (length c.chans) || (is_some (Sending.ask_of p opens c.next_num peer) && request_full c.txns lent 0))

  absent : (x y : Bool) → (not x && y) ≡ true → x ≡ false
  absent true y e = sym e
  absent false y e = refl

  ran_there : (x : Perm) (b : Bool) → get (Source.for_ip peer.ip) c.perms ≡ Some x → (not (contains (Source.for_peer peer) c.chans) && leb c.next_num 0x7FFF) ≡ true
      → is_some x.refresh ≡ b → Ran (Some x) true
  ran_there x false eg eo eb =
      record {
        added = chan_added ∷ [];
        run = rw (eo, eb) (new_is false None [] false (absent _ _ eo) (ap granted eg ∙ eb));
        met = rw eb refl;
      }
  ran_there x true eg eo eb =
      record {
        added = asking (chan_added ∷ []);
        run = rw (eo, eb) (new_is false None [] true (absent _ _ eo) (ap granted eg ∙ eb) ∙ bind_is false (chan_added ∷ []));
        met = asking_full (chan_added ∷ []) ∙ rw (eb, or-false (leb 32 (length c.chans)));
      }

  ran : (p : Option Perm) (opens : Bool) → get (Source.for_ip peer.ip) c.perms ≡ p → (not (contains (Source.for_peer peer) c.chans) && leb c.next_num 0x7FFF) ≡ opens → Ran p opens
  ran None false eg eo =
      let eh : contains (Source.for_ip peer.ip) c.perms ≡ false = contains_get (Source.for_ip peer.ip) c.perms ∙ ap is_some eg in
      record {
        added = asking (perm_added ∷ []);
        run = ap second_run (permission_is eh) ∙ rw eo;
        met = asking_full (perm_added ∷ []);
      }
  ran None true eg eo =
      let eh : contains (Source.for_ip peer.ip) c.perms ≡ false = contains_get (Source.for_ip peer.ip) c.perms ∙ ap is_some eg in
      let ip = peer.ip in
      let x : Perm = record { ip = ip; refresh = None } in
      let none_yet : granted (get (Source.for_ip ip) (insert (Source.for_ip ip) x c.perms)) ≡ false = ap granted (get_insert (Source.for_ip ip) x c.perms (same_ip_refl ip)) in
      record {
        added = asking (perm_added ∷ []) ++ (chan_added ∷ []);
        run = ap second_run (permission_is eh) ∙ rw eo (new_is true (Some (Permission ip)) (asking (perm_added ∷ [])) false (absent _ _ eo) none_yet);
        met = full_snoc (asking (perm_added ∷ [])) chan_added ∙ rw (asking_full (perm_added ∷ [])) (turned (leb 32 (length c.perms)) (request_full c.txns lent 0) (leb 32 (length c.chans)));
      }
  ran (Some x) false eg eo = record { added = []; run = rw eo; met = refl }
  ran (Some x) true eg eo = ran_there x (is_some x.refresh) eg eo refl

  -- the data
  module _ (body : List ℕ) where
    indication_is : (permits opens : Bool) (ask : Option Kind) (a : List Added)
        → Source.send_indication peer body (Sending.ask_run c now lent peer permits opens ask a) ≡ Sending.sent_run c now lent peer body permits opens ask None a
    indication_is permits opens (Some k) a = indication_sent peer body (Sending.ask_run c now lent peer permits opens (Some k) a)
    indication_is permits opens None a = indication_sent peer body (before_ask permits opens a)

    chosen_is : (permits opens : Bool) (ask : Option Kind) (bound : Bool) (n : ℕ) (a : List Added)
        → cond bound (push_frame (Source.resized c.reliable (encode_channel_data n body)) (Sending.ask_run c now lent peer permits opens ask a))
        (Source.send_indication peer body (Sending.ask_run c now lent peer permits opens ask a))
        ≡ Sending.sent_run c now lent peer body permits opens ask (cond bound (Some n) None) a
    chosen_is permits opens (Some k) true n a = rw (resized_same c.reliable n body)
    chosen_is permits opens None true n a = rw (resized_same c.reliable n body)
    chosen_is permits opens ask false n a = indication_is permits opens ask a

    data_is : (permits opens : Bool) (ask : Option Kind) (a : List Added) (q : Option Chan) → get (Source.for_peer peer) (Sending.ask_run c now lent peer permits opens ask a).self.chans ≡ q
        → Source.send_data peer body (Sending.ask_run c now lent peer permits opens ask a) ≡ Sending.sent_run c now lent peer body permits opens ask (Sending.line_of q) a
    data_is permits opens ask a None e = rw e (indication_is permits opens ask a)
    data_is permits opens ask a (Some ch) e = rw e (chosen_is permits opens ask ch.bound ch.num a)

    nothing : {R : Type 0} (o : Option R) → is_some o ≡ false → o ≡ None
    nothing None e = refl
    nothing (Some r) e = cc

    sent_is : (permits opens : Bool) (ask : Option Kind) (a : List Added) → (not (contains (Source.for_peer peer) c.chans) && leb c.next_num 0x7FFF) ≡ opens
        → Source.send_data peer body (Sending.ask_run c now lent peer permits opens ask a)
        ≡ Sending.sent_run c now lent peer body permits opens ask (Sending.line_of (get (Source.for_peer peer) c.chans)) a
    sent_is permits false ask a e = data_is permits false ask a (get (Source.for_peer peer) c.chans) refl
    sent_is permits true ask a e =
        let no_chan : get (Source.for_peer peer) c.chans ≡ None =
        nothing (get (Source.for_peer peer) c.chans) (sym (contains_get (Source.for_peer peer) c.chans) ∙ absent _ _ e) in
        data_is permits true ask a (Some new_chan) (get_insert (Source.for_peer peer) new_chan c.chans new_here)
        ∙ ap (λ (q : Option Chan). Sending.sent_run c now lent peer body permits true ask (Sending.line_of q) a) (sym no_chan)

    kept_by : (b : Bool) (n : ℕ) → Kept peer.ip → option_map kind_in (option_map asked_of (cond b (Some (ChannelBind peer n)) None)) ≡ cond b (Some (ChannelBind peer n)) None
    kept_by true n f = ap (λ (x : Ip). Some (ChannelBind (record { ip = x; port = peer.port }) n)) f
    kept_by false n f = refl

    pub kind_kept : (p : Option Perm) (opens : Bool) (n : ℕ) → Kept peer.ip → option_map kind_in (option_map asked_of (Sending.ask_of p opens n peer)) ≡ Sending.ask_of p opens n peer
    kind_kept None opens n f = ap (λ (x : Ip). Some (Permission x)) f
    kind_kept (Some p) opens n f = kept_by (opens && is_some p.refresh) n f

    -- no text is taken over
    pub texts_none : (not (Maps.is_some c.relay) || c.closing) ≡ false → (Source.send now peer body (begin c lent)).report.texts ≡ []
    unfolding Source.send
    texts_none go =
        let p = get (Source.for_ip peer.ip) c.perms in
        let r = ran p (not (contains (Source.for_peer peer) c.chans) && leb c.next_num 0x7FFF) refl refl in
        rw go
        (ap (λ (b : Bool). (Source.send_data peer body (second_run (first_run b))).report.texts) (contains_get (Source.for_ip peer.ip) c.perms)
        ∙ ap (λ (s : Run). (Source.send_data peer body s).report.texts) r.run
        ∙ ap (λ (s : Run). s.report.texts) (sent_is _ _ _ r.added refl))

    -- the whole
    abbrev route : ℕ → ℕ → Route
    route perms chans = Sending.route_of (get (Source.for_ip peer.ip) c.perms) (get (Source.for_peer peer) c.chans) perms chans c.next_num peer

    pub sends : (not (Maps.is_some c.relay) || c.closing) ≡ false → Kept peer.ip
        → Sending.Sends c now lent peer body (route (length c.perms) (length c.chans)) (Source.send now peer body (begin c lent))
    unfolding Source.send
    sends go fit =
        let p = get (Source.for_ip peer.ip) c.perms in
        let q = get (Source.for_peer peer) c.chans in
        let opens = Sending.makes q c.next_num in
        let eo : (not (contains (Source.for_peer peer) c.chans) && leb c.next_num 0x7FFF) ≡ opens = ap (λ (b : Bool). not b && leb c.next_num 0x7FFF) (contains_get (Source.for_peer peer) c.chans) in
        let r = ran p opens refl eo in
        let kept = kind_kept p opens c.next_num fit in
        record {
          added = r.added;
          run =
              rw go
              (ap (λ (b : Bool). Source.send_data peer body (second_run (first_run b))) (contains_get (Source.for_ip peer.ip) c.perms)
              ∙ ap (Source.send_data peer body) r.run
              ∙ sent_is (not (is_some p)) opens (Sending.ask_of p opens c.next_num peer) r.added eo
              ∙ ap (λ (x : Option Kind). Sending.sent_run c now lent peer body (not (is_some p)) opens x (Sending.line_of q) r.added) (sym kept));
          met = r.met ∙ ap (λ (b : Bool). Sending.crowded p opens (length c.perms) (length c.chans) || (b && request_full c.txns lent 0)) (some_mapped (Sending.ask_of p opens c.next_num peer));
        }
      where
        some_mapped : (o : Option Kind) → is_some o ≡ is_some (option_map asked_of o)
        some_mapped None = refl
        some_mapped (Some k) = refl
