-- The run of a retry, its number, and its answers.
use Rattle.std.specs.Prelude.{Option, None, Some, Ok, Err}
use mathlib.Core.Path.{◌≡◌, refl, ap, ap₂, sym, subst, ◌∙◌}
use mathlib.Core.Bool.{Bool, true, false, cond, ◌||◌, or-false, or-true}
use mathlib.Core.List.{List, [], ◌∷◌, ◌++◌}
use Prim.Native.Nat.{ℕ, ◌+◌, ◌-◌, ◌≤◌}
use native.Mathlib.Omega.{arith}
use lib.ListN.{length, take, drop}
use lib.Dec.{leb, ltb, eqb}
use borrow.Author.Tests.{le-ltb, le-leb}
use Rattle.stun_frame.specs.declared.Unwritten.TheVariants.{NoRoom}
use Rattle.stun_frame.specs.Source.{Written, room_after}
use Rattle.stun_check.specs.Source.{long_term}
use Rattle.stun_text.specs.declared.Text.{Text}
use Rattle.turn_state.specs.declared.Client.{Client}
use Rattle.turn_state.specs.declared.Credentials.{Credentials}
use Rattle.turn_state.specs.declared.Refusal.{Refusal}
use Rattle.turn_state.specs.declared.Refusal.TheVariants.{Late, LongText, IllFormed, LongBody, Full, FewIds, TakenId, SmallOutput}
use Rattle.turn_state.specs.declared.Request.{Request}
use Rattle.turn_state.specs.declared.Requests.{Requests}
use Rattle.turn_state.specs.Maps.{contains, insert, remove, if_let}
use Rattle.turn_state.specs.State.{Message, Txn, Turn, Run, begin, on_self, on_report, report_text, set_txns, set_realm, set_nonce, set_key, new_tid, drew, ids_in, id_at}
use Rattle.turn_state.specs.Source.{under_id, under_drawn, retry, insert_txn, push_message, encode, first_wait, get_str}
use Rattle.turn_state.specs.Number.{number_of, given_of, Given, number, settled, called, above, full, framed, pending}
use Rattle.turn_state.specs.View.{view, kind_in, type_of, txn_in, txns_in, Tidy, done, quiet as quiet_answer, sending, refused as refused_reply, Meets}
use Rattle.turn_state.proofs.Answering.{refused_meets, accepted_meets}
use Rattle.turn_tables.specs.Rows.{position}
use Rattle.turn_tables.proofs.Keys.{nowhere_get}
use Rattle.turn_open.proofs.Lose.{nothing_used}
use Rattle.turn_packet.specs.Source.{packet_of, packet_size}
use Rattle.turn_packet.proofs.Laws.{packet_encode}
use Rattle.turn_packet.proofs.Bounds.{packet_short}
use Rattle.turn_packet.proofs.Rooms.{Rooms}
use Rattle.turn_packet.proofs.Frames.{framed_packet_length}
use Rattle.turn_ids.specs.Ids.{lent_id, request_full, verdict_of}
use Rattle.turn_ids.proofs.Lent.{lent_is, lent_twelve, id_short}
use Rattle.turn_ids.proofs.Verdicts.{number_is, passed}
use Rattle.turn_plan.specs.Draft.{inserted}
use Rattle.turn_plan.proofs.Steps.{grown, grown_full, add_is}
use Rattle.turn_plan.proofs.Drafting.{inserted_txns, tidy_inserted}
use Rattle.turn_retry.specs.Retry.{retried}
use Rattle.turn_retry.specs.Learning.{with_realm, with_nonce, row_again, client_with}
use Rattle.turn_retry.proofs.Texts.{lengths, Reads, got_realm, got_nonce, learnt_view, realm_tidy, nonce_tidy}
use Rattle.turn_retry.proofs.Rows.{Found, attrs_under, again_tidy}

-- a refusal has a number
nonzero : (r : Refusal) → eqb (number_of r) 0 ≡ false
nonzero Late = refl
nonzero LongText = refl
nonzero IllFormed = refl
nonzero LongBody = refl
nonzero Full = refl
nonzero FewIds = refl
nonzero TakenId = refl
nonzero SmallOutput = refl

-- no request of that id
module _ (client : Client) (now : ℕ) (buf id lent out : List ℕ) (in_time : now ≤ 9007199254740991) (missing : position (under_id id) (txns_in client.requests) ≡ None) where
  quiet_run : retried now buf id (begin (view client) lent) ≡ begin (view client) lent
  unfolding retried
  quiet_run = rw (nowhere_get (under_id id) (txns_in client.requests) missing)

  pub quiet : Meets client (called (retried now buf id) (given_of now lent (length out)) (view client)) out (done (quiet_answer client)) out
  quiet =
      let g = given_of now lent (length out) in
      let c = view client in
      subst (λ (s : Run). Meets client (settled (number g c s) c s) out (done (quiet_answer client)) out) (sym quiet_run)
      (accepted_meets client g (begin c lent) out (done (quiet_answer client)) out (nothing_used g c (begin c lent) in_time (omega arith) refl refl) refl refl (λ t. t) refl refl refl refl refl)

-- the texts that are taken over
abbrev realm_taken : Option (List ℕ) → Run → Run
realm_taken o s =
    if_let o
    (λ realm. on_report (report_text (length realm))
    (on_self (λ c. set_realm (Some realm) (set_key (Some (long_term c.username realm c.password)) c)) s))
    s

abbrev nonce_taken : Option (List ℕ) → Run → Run
nonce_taken o s = if_let o (λ nonce. on_report (report_text (length nonce)) (on_self (set_nonce (Some nonce)) s)) s

abbrev taken : List ℕ → List ℕ → Turn → Run
taken lent texts c = record { self = c; out = []; ev = []; lent = lent; report = record { used = []; added = []; texts = texts; bodies = [] } }

taken_is : (o p : Option (List ℕ)) (c : Turn) (lent : List ℕ)
    → nonce_taken p (realm_taken o (begin c lent)) ≡ taken lent (lengths o ++ lengths p) (got_nonce p (got_realm o c))
taken_is None None c lent = refl
taken_is None (Some y) c lent = refl
taken_is (Some x) None c lent = refl
taken_is (Some x) (Some y) c lent = refl

-- the request that is put back
abbrev fresh : Txn → List ℕ → Message
fresh t tid = record { typ = t.msg.typ; tid = tid; attrs = t.msg.attrs }

abbrev put_back : ℕ → Txn → List ℕ → Turn → Txn
put_back now t tid c = record { kind = t.kind; msg = fresh t tid; tries = 1; next = now + first_wait c; auth_retried = true }

abbrev sent : ℕ → Txn → List ℕ → List ℕ → Turn → List ℕ → Run
sent now t lent texts c packet =
    let tid = id_at lent 0 in
    record {
      self = set_txns (insert (under_drawn tid) (put_back now t tid c) c.txns) c;
      out = packet ∷ [];
      ev = [];
      lent = lent;
      report = record { used = tid ∷ []; added = grown (contains (under_drawn tid) c.txns) 64 (length c.txns) []; texts = texts; bodies = (length packet - 20) ∷ [] };
    }

abbrev finish : ℕ → Txn → Run → Run
finish now t s =
    insert_txn (put_back now t (new_tid s) s.self) (push_message (encode (drew s).self (fresh t (new_tid s))) (drew s))

finished : (now : ℕ) (t : Txn) (lent texts : List ℕ) (c : Turn) → finish now t (taken lent texts c) ≡ sent now t lent texts c (encode c (fresh t (id_at lent 0)))
unfolding insert_txn
finished now t lent texts c =
    let is = under_drawn (id_at lent 0) in
    let p = put_back now t (id_at lent 0) c in
    let s : Run = push_message (encode c (fresh t (id_at lent 0))) (drew (taken lent texts c)) in
    ap (λ (r : Run). on_self (set_txns (insert is p c.txns)) r) (add_is (contains is c.txns) 64 (length c.txns) s)

-- 2: of two texts one is too long
above_both : (o p : Option (List ℕ)) → above 763 (lengths o ++ lengths p) ≡ (above 763 (lengths o) || above 763 (lengths p))
above_both None p = refl
above_both (Some x) p = ap (λ (b : Bool). b || above 763 (lengths p)) (sym (or-false (ltb 763 (length x))))

two_is : (g : Given) (c : Turn) (s : Run) → g.time ≤ 9007199254740991 → above 763 s.report.texts ≡ true → number g c s ≡ 2
unfolding number
two_is g c s t e = rw (le-ltb 9007199254740991 g.time t, e)

-- a request of that id
module _ (client : Client) (now : ℕ) (buf id lent out : List ℕ) (row : Request) (less : Requests) (f : Found client id row less) (in_time : now ≤ 9007199254740991) where
  abbrev g : Given
  g = given_of now lent (length out)

  abbrev run : Run
  run = retried now buf id (begin (view client) lent)

  abbrev texts : List ℕ
  texts = lengths (get_str buf 0x0014) ++ lengths (get_str buf 0x0015)

  abbrev learnt : Turn
  learnt = got_nonce (get_str buf 0x0015) (got_realm (get_str buf 0x0014) (set_txns (txns_in less) (view client)))

  tried : run ≡ retry now buf (txn_in row) (begin (set_txns (remove (under_id id) (txns_in client.requests)) (view client)) lent)
  unfolding retried
  tried = rw f.got

  retry_is : (c : Turn) → retry now buf (txn_in row) (begin c lent) ≡ finish now (txn_in row) (nonce_taken (get_str buf 0x0015) (realm_taken (get_str buf 0x0014) (begin c lent)))
  unfolding retry
  retry_is c = refl

  run_is : run ≡ sent now (txn_in row) lent texts learnt (encode learnt (fresh (txn_in row) (id_at lent 0)))
  run_is =
      tried
      ∙ ap (λ (l : List Txn). retry now buf (txn_in row) (begin (set_txns l (view client)) lent)) (sym f.removed)
      ∙ retry_is (set_txns (txns_in less) (view client))
      ∙ ap (finish now (txn_in row)) (taken_is (get_str buf 0x0014) (get_str buf 0x0015) (set_txns (txns_in less) (view client)) lent)
      ∙ finished now (txn_in row) lent texts learnt

  texts_long : above 763 texts ≡ (above 763 (lengths (get_str buf 0x0014)) || above 763 (lengths (get_str buf 0x0015)))
  texts_long = above_both (get_str buf 0x0014) (get_str buf 0x0015)

  two : above 763 texts ≡ true → Meets client (settled (number g (view client) run) (view client) run) out (refused_reply client 2) out
  two e = refused_meets client g run out 2 refl (two_is g (view client) run in_time (ap (λ (s : Run). above 763 s.report.texts) run_is ∙ e))

  pub long_realm : above 763 (lengths (get_str buf 0x0014)) ≡ true → Meets client (settled (number g (view client) run) (view client) run) out (refused_reply client 2) out
  long_realm e = two (texts_long ∙ rw e)

  pub long_nonce : above 763 (lengths (get_str buf 0x0015)) ≡ true → Meets client (settled (number g (view client) run) (view client) run) out (refused_reply client 2) out
  long_nonce e = two (texts_long ∙ rw e (or-true (above 763 (lengths (get_str buf 0x0014)))))

  -- both texts fit: `k` is what the code learns, n the length of the packet, b whether the table is full
  module _ (realm nonce : Option Text) (rr : Reads (get_str buf 0x0014) realm) (rn : Reads (get_str buf 0x0015) nonce) (keyed k : Credentials)
      (e₁ : keyed ≡ with_realm realm client.password client.credentials) (e₂ : k ≡ with_nonce nonce keyed)
      (house : Rooms k) (n : ℕ) (size : n ≡ packet_size k row.asked) (b : Bool) (eb : b ≡ request_full (txns_in less) lent 0) where
    ek : k ≡ with_nonce nonce (with_realm realm client.password client.credentials)
    ek = e₂ ∙ ap (λ (x : Credentials). with_nonce nonce x) e₁

    abbrev packet : List ℕ
    packet = packet_of k row.asked (id_at lent 0) row.under

    abbrev base : Client
    base = client_with k less client

    abbrev whole : Run
    whole = sent now (txn_in row) lent texts (view base) packet

    learnt_is : learnt ≡ view base
    learnt_is =
        ap₂ (λ (o p : Option (List ℕ)). got_nonce p (got_realm o (set_txns (txns_in less) (view client)))) rr.text rn.text
        ∙ learnt_view client less realm nonce
        ∙ ap (λ (x : Credentials). view (client_with x less client)) (sym ek)

    whole_is : run ≡ whole
    whole_is =
        run_is
        ∙ ap (λ (c : Turn). sent now (txn_in row) lent texts c (encode c (fresh (txn_in row) (id_at lent 0)))) learnt_is
        ∙ ap (λ (p : List ℕ). sent now (txn_in row) lent texts (view base) p) (sym (packet_encode base row.asked (id_at lent 0) row.under))

    size_is : 1 ≤ ids_in lent → length (framed (packet ∷ [])) ≡ 3 + n
    size_is h =
        let twelve : length (id_at lent 0) ≡ 12 = ap length (sym (lent_is lent 0 (omega arith))) ∙ lent_twelve lent 0 in
        framed_packet_length k row.asked (id_at lent 0) row.under house twelve f.twelve ∙ rw size

    full_is : full whole.report.added ≡ b
    unfolding request_full
    full_is = grown_full (contains (under_drawn (id_at lent 0)) (txns_in less)) 64 (length (txns_in less)) [] ∙ sym eb

    decided : number g (view client) whole ≡ verdict_of b (pending (view client)) lent 1 (3 + n) (length out)
    decided =
        let short = packet_short k house.username house.realm house.nonce row.asked (id_at lent 0) row.under (id_short lent 0) in
        number_is g (view client) whole b 1 (3 + n) in_time (texts_long ∙ rw (rr.short, rn.short)) (rw (le-ltb 65535 (length packet - 20) (omega (arith, short)))) full_is refl size_is

    -- 5 to 8
    pub refused : (e : Refusal) → number_of e ≡ verdict_of b (pending (view client)) lent 1 (3 + n) (length out)
        → Meets client (settled (number g (view client) run) (view client) run) out (refused_reply client (number_of e)) out
    refused e ev = refused_meets client g run out (number_of e) (nonzero e) (ap (number g (view client)) whole_is ∙ decided ∙ sym ev)

    -- it goes out
    pub accepted : (own : List ℕ) (w : Written) (o : List ℕ) (next : ℕ) (later : Request) (requests : Requests)
        → 0 ≡ verdict_of b (pending (view client)) lent 1 (3 + n) (length out) → own ≡ lent_id lent 0
        → w ≡ cond (leb (0 + 3 + packet_size k row.asked) (length out)) (Ok (0 + 3 + packet_size k row.asked)) (Err NoRoom)
        → o ≡ room_after w (take 0 out ++ framed (packet_of k row.asked own row.under ∷ [])) out
        → next ≡ now + first_wait (view base) → later ≡ row_again row own next → requests ≡ inserted less later
        → Meets client (settled (number g (view client) run) (view client) run) out (done (sending (client_with k requests client) 1 (3 + n))) o
    accepted own w o next later requests ev eo ew eout en el et =
        let ok = passed b (pending (view client)) lent 1 (3 + n) (length out) (sym ev) in
        let lent_enough = ok.lent_enough in
        let fits = ok.fits in
        let same_id : own ≡ id_at lent 0 = eo ∙ lent_is lent 0 (omega arith) in
        let bytes : length (framed (packet ∷ [])) ≡ 3 + n = size_is lent_enough in
        let w-is : w ≡ Ok (3 + n) = ew ∙ rw (← size, le-leb (0 + 3 + n) (length out) (omega arith)) in
        let kind = kind_in row.asked in
        let attrs-is = attrs_under kind row.under own in
        let txn-is : txn_in (row_again row own next) ≡ put_back now (txn_in row) (id_at lent 0) (view base) =
        λ i. record { kind = kind; msg = record { typ = type_of kind; tid = same_id i; attrs = attrs-is i }; tries = 1; next = en i; auth_retried = true } in
        let twelve : length own ≡ 12 = ap length eo ∙ lent_twelve lent 0 in
        let put : txns_in requests ≡ insert (under_drawn (id_at lent 0)) (put_back now (txn_in row) (id_at lent 0) (view base)) (txns_in less) =
        ap txns_in et
        ∙ ap (λ (x : Request). txns_in (inserted less x)) el
        ∙ inserted_txns less (row_again row own next) f.rows f.room twelve
        ∙ ap₂ (λ (i : List ℕ) (t : Txn). insert (under_drawn i) t (txns_in less)) same_id txn-is in
        let tidy : Tidy client → Tidy (client_with k requests client) =
        λ t.
        record {
          password = t.password;
          credentials = rw ek (nonce_tidy nonce _ rn.tidy (realm_tidy realm client.password client.credentials rr.tidy t.credentials));
          requests = rw (et, el) (tidy_inserted less (row_again row own next) (again_tidy row own next (f.neat t.requests)) (f.tidy t.requests));
          permissions = t.permissions;
          channels = t.channels;
          relay = t.relay;
          no_refresh = t.no_refresh;
        } in
        let r = done (sending (client_with k requests client) 1 (3 + n)) in
        subst (λ (s : Run). Meets client (settled (number g (view client) s) (view client) s) out r o) (sym whole_is)
        (accepted_meets client g whole out r o (decided ∙ sym ev) refl
        (ap (λ (l : List Txn). set_txns l (view base)) put)
        tidy refl refl refl (sym bytes)
        (eout ∙ rw (w-is, same_id) (ap (λ (m : ℕ). framed (packet ∷ []) ++ drop m out) (sym bytes))))
