-- The answers of a send that need no request: refused for its time or its data, nothing to do, and data over a bound channel whose
-- permission stands; and what the route of any other goes by.
use Rattle.std.specs.Result.{result_or}
use Rattle.std.specs.Prelude.{Result, Option, None, Some, Ok, Err, is_some, option_map}
use mathlib.Core.Path.{◌≡◌, refl, ap, ap₂, sym, subst, ◌∙◌}
use mathlib.Core.Bool.{Bool, true, false, cond, ◌&&◌, ◌||◌, not, or-true}
use mathlib.Core.List.{List, [], ◌∷◌, ◌++◌}
use Prim.Native.Nat.{ℕ, ◌+◌, ◌≤◌, ◌<◌, min}
use native.Mathlib.Omega.{arith}
use borrow.Author.Tests.{lt-ltb, le-ltb, le-leb, lt-leb, leb-true, leb-false}
use lib.ListN.{length, take, drop}
use lib.Dec.{leb, ltb}
use Rattle.stun_frame.specs.Source.{Written}
use Rattle.stun_frame.specs.declared.Unwritten.TheVariants.{TooLong, NoRoom}
use Rattle.stun_frame.specs.Source.{room_after, encode_channel_data}
use Rattle.stun_address.specs.declared.Address.{Address}
use Rattle.turn_state.specs.declared.Kind.{Kind}
use Rattle.turn_state.specs.declared.Client.{Client}
use Rattle.turn_state.specs.declared.Refusal.{Refusal}
use Rattle.turn_state.specs.declared.Refusal.TheVariants.{SmallOutput}
use Rattle.turn_state.specs.declared.Permission.{Permission}
use Rattle.turn_state.specs.declared.Channel.{Channel}
use Rattle.turn_state.specs.Maps.{get}
use Rattle.turn_state.specs.Maps
use Rattle.turn_state.specs.State.{Perm, Chan, Turn, Run, begin, ids_in}
use Rattle.turn_state.specs.Source.{for_ip, for_peer, send}
use Rattle.turn_state.specs.Number.{number_of, Given, number, settled, clash, framed, pending}
use Rattle.turn_state.specs.View.{view, told, asked_of, kind_in, perm_in, chan_in, done, quiet as quiet_answer, sending, refused, Meets}
use Rattle.turn_state.proofs.Answering.{refused_meets, accepted_meets}
use Rattle.turn_tables.proofs.Laws.{perms_length, chans_length}
use Rattle.turn_open.proofs.Lose.{nothing_used, some_held}
use Rattle.turn_packet.proofs.Rooms.{Rooms}
use Rattle.turn_data.specs.Data.{frame_size}
use Rattle.turn_data.proofs.Laws.{framed_frame_length}
use Rattle.turn_ids.specs.Ids.{ids_from}
use Rattle.turn_ids.proofs.Verdicts.{eight, zero}
use Rattle.turn_send.specs.declared.Route.{Route}
use Rattle.turn_send.specs.Sending.{ask_of, crowded, makes, route_of, Sends, Goes, given_of}
use Rattle.turn_send.proofs.Ranges.{Kept}
use Rattle.turn_send.proofs.Runs.{kind_kept, texts_none, sends}
use Rattle.turn_send.proofs.Deciding.{decided, neither_left, neither_right}

abbrev pub run_of : Client → ℕ → Address → List ℕ → List ℕ → Run
run_of client now peer body lent = send now peer body (begin (view client) lent)

-- too much data, whatever the call would do
module _ (client : Client) (now : ℕ) (peer : Address) (body lent : List ℕ) where
  no_texts : (b : Bool) → (not (Maps.is_some (view client).relay) || client.closing) ≡ b → (run_of client now peer body lent).report.texts ≡ []
  unfolding send
  no_texts true e = rw e
  no_texts false e = texts_none (view client) now lent peer body e

  pub too_long : (room : ℕ) → now ≤ 9007199254740991 → 2048 < length body → number (given_of now body lent room) (view client) (run_of client now peer body lent) ≡ 4
  unfolding number
  too_long room t h =
      rw (le-ltb 9007199254740991 now t, no_texts (not (Maps.is_some (view client).relay) || client.closing) refl, lt-ltb 2048 (length body) h)

-- nothing to do
module _ (client : Client) (now : ℕ) (peer : Address) (body lent out : List ℕ) (in_time : now ≤ 9007199254740991) (short : length body ≤ 2048) where
  quiet : run_of client now peer body lent ≡ begin (view client) lent
      → Meets client (settled (number (given_of now body lent (length out)) (view client) (run_of client now peer body lent)) (view client) (run_of client now peer body lent)) out (done (quiet_answer client)) out
  quiet e =
      let g = given_of now body lent (length out) in
      let s = run_of client now peer body lent in
      accepted_meets client g s out (done (quiet_answer client)) out
      (nothing_used g (view client) s in_time short (ap (λ (r : Run). r.report) e) (ap (λ (r : Run). r.out) e)) refl (rw e) (λ t. t) (rw e) (rw e) (rw e) (rw e) (rw e)

  idle : (not (Maps.is_some (view client).relay) || client.closing) ≡ true → run_of client now peer body lent ≡ begin (view client) lent
  unfolding send
  idle e = rw e

  pub no_relay : client.has_relay ≡ false
      → Meets client (settled (number (given_of now body lent (length out)) (view client) (run_of client now peer body lent)) (view client) (run_of client now peer body lent)) out (done (quiet_answer client)) out
  no_relay e = quiet (idle (rw (some_held client.has_relay _, e)))

  pub closing_yet : client.closing ≡ true
      → Meets client (settled (number (given_of now body lent (length out)) (view client) (run_of client now peer body lent)) (view client) (run_of client now peer body lent)) out (done (quiet_answer client)) out
  closing_yet e = quiet (idle (rw e (or-true (not (Maps.is_some (view client).relay)))))

-- tables that are full, by their lengths
least_full : (n : ℕ) (b : Bool) → leb 32 n ≡ b → leb 32 (min n 32) ≡ b
least_full n true e = let h = leb-true 32 n e in le-leb 32 (min n 32) (omega arith)
least_full n false e = let h = leb-false 32 n e in lt-leb 32 (min n 32) (omega arith)

module _ (client : Client) (peer : Address) (perm-rows : length client.permissions.rows ≡ 32) (chan-rows : length client.channels.rows ≡ 32) where
  abbrev c : Turn
  c = view client

  abbrev known : ℕ → ℕ → Route
  known perms chans = route_of (get (for_ip peer.ip) c.perms) (get (for_peer peer) c.chans) perms chans c.next_num peer

  crowded_lens : (p : Option Perm) (opens : Bool) (x y u v : ℕ) → leb 32 x ≡ leb 32 u → leb 32 y ≡ leb 32 v → crowded p opens x y ≡ crowded p opens u v
  crowded_lens None opens x y u v ex ey = rw (ex, ey)
  crowded_lens (Some p) opens x y u v ex ey = rw ey

  same_route : known (length c.perms) (length c.chans) ≡ known client.permissions.len client.channels.len
  same_route =
      rw (crowded_lens (get (for_ip peer.ip) c.perms) (makes (get (for_peer peer) c.chans) c.next_num) (length c.perms) (length c.chans) client.permissions.len client.channels.len
      (ap (leb 32) (perms_length client.permissions perm-rows) ∙ least_full client.permissions.len _ refl)
      (ap (leb 32) (chans_length client.channels chan-rows) ∙ least_full client.channels.len _ refl))

  module _ (r : Route) (p : Option Permission) (q : Option Channel) (ep : option_map perm_in p ≡ get (for_ip peer.ip) c.perms) (eq : option_map chan_in q ≡ get (for_peer peer) c.chans)
      (er : r ≡ route_of (option_map perm_in p) (option_map chan_in q) client.permissions.len client.channels.len client.next_num peer) where
    route_is : r ≡ known client.permissions.len client.channels.len
    route_is = er ∙ ap₂ (λ (x : Option Perm) (y : Option Chan). route_of x y client.permissions.len client.channels.len client.next_num peer) ep eq

    pub sends_of : (now : ℕ) (body lent : List ℕ) → client.has_relay ≡ true → client.closing ≡ false → Kept peer.ip → Sends c now lent peer body r (run_of client now peer body lent)
    sends_of now body lent relayed open_yet fit =
        subst (λ (x : Route). Sends c now lent peer body x (run_of client now peer body lent)) (sym (route_is ∙ sym same_route))
        (sends c now lent peer body (rw (some_held client.has_relay _, relayed, open_yet)) fit)

    no_perm : (o : Option Perm) → not (is_some o) ≡ true → o ≡ None
    no_perm None e = refl
    no_perm (Some x) e = cc

    no_chan : (o : Option Chan) (b : Bool) → (not (is_some o) && b) ≡ true → o ≡ None
    no_chan None b e = refl
    no_chan (Some x) b e = cc

    room_by : (o : Option Perm) (opens : Bool) (perms chans : ℕ) → crowded o opens perms chans ≡ false
        → ((not (is_some o) && leb 32 perms) ≡ false) × ((opens && leb 32 chans) ≡ false)
    room_by (Some x) opens perms chans e = (refl, e)
    room_by None opens perms chans e = (neither_left (leb 32 perms) (opens && leb 32 chans) e, neither_right (leb 32 perms) (opens && leb 32 chans) e)

    neat_by : (o : Option Kind) → option_map kind_in (option_map asked_of o) ≡ o → option_map (λ a. asked_of (kind_in a)) (option_map asked_of o) ≡ option_map asked_of o
    neat_by None e = refl
    neat_by (Some k) e = ap (option_map asked_of) e

    pub goes_of : Kept peer.ip → Goes client peer r
    goes_of fit =
        let perm = get (for_ip peer.ip) c.perms in
        let opens = makes (get (for_peer peer) c.chans) c.next_num in
        subst (λ (x : Route). Goes client peer x) (sym route_is)
        (record {
          missing = no_perm perm;
          no_channel = no_chan (get (for_peer peer) c.chans) (leb c.next_num 0x7FFF);
          next = refl;
          room = room_by perm opens client.permissions.len client.channels.len;
          neat = neat_by (ask_of perm opens c.next_num peer) (kind_kept c 0 [] peer [] perm opens c.next_num fit);
        })

-- over a bound channel whose permission stands
module _ (client : Client) (now : ℕ) (peer : Address) (body lent out : List ℕ) (perm-rows : length client.permissions.rows ≡ 32) (chan-rows : length client.channels.rows ≡ 32)
    (rooms : Rooms client.credentials) (fit : Kept peer.ip) (in_time : now ≤ 9007199254740991) (short : length body ≤ 2048) (relayed : client.has_relay ≡ true) (open_yet : client.closing ≡ false)
    (p : Permission) (q : Channel) (ep : ◌≡◌ {A = Option Perm} (Some (perm_in p)) (get (for_ip peer.ip) (view client).perms))
    (eq : ◌≡◌ {A = Option Chan} (Some (chan_in q)) (get (for_peer peer) (view client).chans)) (bound : q.bound ≡ true) where
  abbrev s : Run
  s = run_of client now peer body lent

  abbrev g : Given
  g = given_of now body lent (length out)

  abbrev direct : Route
  direct = record { permits = false; opens = false; next = client.next_num; ask = None; full = false; line = Some q.number }

  direct_is : direct ≡ route_of (Some (perm_in p)) (Some (chan_in q)) client.permissions.len client.channels.len client.next_num peer
  direct_is = rw bound

  f : Sends (view client) now lent peer body direct s
  f = sends_of client peer perm-rows chan-rows direct (Some p) (Some q) ep eq direct_is now body lent relayed open_yet fit

  none_used : false ≡ clash (pending (view client)) (ids_from lent 0 (min 0 (ids_in lent)))
  none_used = let m : min 0 (ids_in lent) ≡ 0 = omega arith in rw m

  abbrev packet : List ℕ
  packet = encode_channel_data q.number body

  -- what the writer answers, by whether the frame has room
  abbrev answered : Bool → Written
  answered fits = cond fits (Ok (0 + 3 + frame_size (length body))) (Err NoRoom)

  narrow_by : (fits : Bool) → leb (0 + 3 + frame_size (length body)) (length out) ≡ fits → (e : Refusal) (o : List ℕ) → result_or (answered fits) (Err SmallOutput) ≡ Err e
      → o ≡ room_after (answered fits) (framed (packet ∷ [])) out → Meets client (settled (number g (view client) s) (view client) s) out (refused client (number_of e)) o
  narrow_by true h e o is eo = cc
  narrow_by false h e o is eo =
      let size = 3 + frame_size (length body) in
      let few = leb-false (0 + 3 + frame_size (length body)) (length out) h in
      let which : e ≡ SmallOutput = cc in
      rw (which, eo)
      (refused_meets client g s out 8 refl
      (decided client direct now peer body lent out s f in_time short rooms 8 0 size false
      (eight false (pending (view client)) lent 0 size (length out) false refl (omega arith) none_used refl (omega arith)) refl refl (omega arith)))

  sent_by : (fits : Bool) → leb (0 + 3 + frame_size (length body)) (length out) ≡ fits → (bytes : ℕ) (o : List ℕ) → result_or (answered fits) (Err SmallOutput) ≡ Ok bytes
      → o ≡ room_after (answered fits) (framed (packet ∷ [])) out → Meets client (settled (number g (view client) s) (view client) s) out (done (sending client 1 bytes)) o
  sent_by false h bytes o is eo = cc
  sent_by true h bytes o is eo =
      let enough = leb-true (0 + 3 + frame_size (length body)) (length out) h in
      let e : 0 + 3 + frame_size (length body) ≡ bytes = cc in
      let zero_number = decided client direct now peer body lent out s f in_time short rooms 0 0 bytes false
      (zero false (pending (view client)) lent 0 bytes (length out) false refl (omega arith) none_used refl (omega arith)) refl refl (sym e ∙ omega arith) in
      let size : length (framed (packet ∷ [])) ≡ bytes = framed_frame_length q.number body ∙ e in
      let out_is : s.out ≡ packet ∷ [] = ap (λ (x : Run). x.out) f.run in
      accepted_meets client g s out (done (sending client 1 bytes)) o zero_number refl
      (sym (ap (λ (x : Run). x.self) f.run)) (λ t. t) (sym (ap (λ (x : Run). length x.ev) f.run)) (sym (ap (λ (x : Run). told x.ev) f.run))
      (sym (ap length out_is)) (sym (ap (λ (x : List (List ℕ)). length (framed x)) out_is ∙ size))
      (eo ∙ ap (λ (k : ℕ). framed (packet ∷ []) ++ drop k out) (e ∙ sym size)
      ∙ ap (λ (x : List (List ℕ)). framed x ++ drop (length (framed x)) out) (sym out_is))

  -- as the code has it: `w` is the writer's answer
  module _ (w : Written) (o : List ℕ)
      (ew : w ≡ cond (ltb 2048 (length body)) (Err TooLong) (cond (leb (0 + 3 + frame_size (length body)) (length out)) (Ok (0 + 3 + frame_size (length body))) (Err NoRoom)))
      (eo : o ≡ room_after w (take 0 out ++ framed (packet ∷ [])) out) where
    w-is : w ≡ answered (leb (0 + 3 + frame_size (length body)) (length out))
    w-is = ew ∙ rw (le-ltb 2048 (length body) short)

    o-is : o ≡ room_after (answered (leb (0 + 3 + frame_size (length body)) (length out))) (framed (packet ∷ [])) out
    o-is = eo ∙ ap (λ (x : Written). room_after x (framed (packet ∷ [])) out) w-is

    or-is : (r : Result ℕ Refusal) → result_or w (Err SmallOutput) ≡ r → result_or (answered (leb (0 + 3 + frame_size (length body)) (length out))) (Err SmallOutput) ≡ r
    or-is r e = ap (λ (x : Written). result_or x (Err SmallOutput)) (sym w-is) ∙ e

    pub narrow : (e : Refusal) → result_or w (Err SmallOutput) ≡ Err e → Meets client (settled (number g (view client) s) (view client) s) out (refused client (number_of e)) o
    narrow e is = narrow_by _ refl e o (or-is (Err e) is) o-is

    pub over_channel : (bytes : ℕ) → result_or w (Err SmallOutput) ≡ Ok bytes → Meets client (settled (number g (view client) s) (view client) s) out (done (sending client 1 bytes)) o
    over_channel bytes is = sent_by _ refl bytes o (or-is (Ok bytes) is) o-is
