-- The arms of an answer to a pending request: which run each of them stands for.
use Rattle.std.specs.Prelude.{Option, None, Some, unwrap_or}
use mathlib.Core.Path.{◌≡◌, refl, ap, sym, subst, ◌∙◌}
use mathlib.Core.Bool.{Bool, true, false, cond, ◌&&◌, ◌||◌, not}
use mathlib.Core.Logic.{◌⊎◌, inl, inr}
use mathlib.Core.List.{List}
use Prim.Native.Nat.{ℕ, ◌≤◌}
use lib.ListN.{length, get_or}
use lib.Dec.{eqb}
use Rattle.stun_frame.specs.declared.classes.Class.{Class}
use Rattle.stun_frame.specs.declared.classes.Class.TheVariants.{Request, Indication, Success, Error}
use Rattle.stun_frame.specs.Source.{class, field_at}
use Rattle.stun_address.specs.declared.Ip.{Ip}
use Rattle.stun_address.specs.declared.Address.{Address}
use Rattle.stun_walk.specs.Source.{error_code_of}
use Rattle.stun_walk.specs.declared.Header.{Header}
use Rattle.turn_state.specs.declared.Kind.{Kind}
use Rattle.turn_state.specs.declared.Kind.TheVariants.{Permission, ChannelBind}
use Rattle.turn_state.specs.declared.Reason.TheVariants.{Code as ErrorCode}
use Rattle.turn_state.specs.declared.Request.{Request as RequestRow}
use Rattle.turn_state.specs.declared.Client.{Client}
use Rattle.turn_state.specs.declared.Answer.{Answer}
use Rattle.turn_state.specs.State.{Run, begin}
use Rattle.turn_state.specs.Source.{under_id, tid_of, is_answer, passed, code_or_0, answered, update_chan, bound_at, on_success, on_failure, retry}
use Rattle.turn_state.specs.View.{view, held, kind_in, txn_in, txns_in, no_request, Reply, done, quiet}
use Rattle.turn_tables.specs.Rows.{position}
use Rattle.turn_tables.proofs.Laws.{get_txn}
use Rattle.turn_tables.proofs.Keys.{nowhere_get}
use Rattle.turn_poll.specs.Concluding.{permitted, Permits}
use Rattle.turn_retry.specs.Retry.{without, retried}
use Rattle.turn_handle.specs.Handling.{Quiet, lacking, answered_by, resolved}
use Rattle.turn_handle.proofs.Datagrams.{Headed}
use Rattle.turn_handle.proofs.Settling.{MeetsRun, settles_meets, meets_as, still, settles_lacking}

module _ (client : Client) (id : List ℕ) (i : ℕ) (z : RequestRow) (full : length client.requests.rows ≡ 64) (found : position (under_id id) (txns_in client.requests) ≡ Some i)
    (now : ℕ) (buf lent out : List ℕ) where
  abbrev row : RequestRow
  row = get_or client.requests.rows i z

  abbrev s₀ : Run
  s₀ = begin (view client) lent

  resolves : (cls : Class) → resolved now buf id cls s₀ ≡ answered now buf cls (txn_in row) (without id s₀)
  resolves cls = rw (get_txn client.requests full (under_id id) i z found)

  -- a success, by its kind
  pub succeeded : (k : Kind) (r : Answer) (next : Client) → kind_in row.asked ≡ k → now ≤ 9007199254740991 → next ≡ lacking client i → Quiet next (on_success now k buf) r
      → MeetsRun client now lent out (resolved now buf id Success s₀) (done r) out
  succeeded k r next e h n q =
      let p : Quiet (lacking client i) (on_success now k buf) r = subst (λ (x : Client). Quiet x (on_success now k buf) r) n q in
      let run : resolved now buf id Success s₀ ≡ on_success now k buf (without id s₀) = resolves Success ∙ ap (λ (x : Kind). on_success now x buf (without id s₀)) e in
      meets_as client now lent out (on_success now k buf (without id s₀)) (resolved now buf id Success s₀) (done r) out run
      (settles_meets client now lent out (on_success now k buf (without id s₀)) r h (settles_lacking client id i full found (on_success now k buf) r lent p))

  pub permits : (ip : Ip) (r : Reply) (after : List ℕ) → kind_in row.asked ≡ Permission ip → Permits client id ip now lent out r after
      → MeetsRun client now lent out (resolved now buf id Success s₀) r after
  unfolding permitted
  permits ip r after e p =
      let run : resolved now buf id Success s₀ ≡ permitted now buf id ip s₀ = resolves Success ∙ ap (λ (x : Kind). on_success now x buf (without id s₀)) e in
      meets_as client now lent out (permitted now buf id ip s₀) (resolved now buf id Success s₀) r after run (p buf)

  -- an error: tried once more, or given up
  abbrev code : ℕ
  code = code_or_0 (error_code_of buf)

  abbrev again : Bool
  again = (eqb code 401 || eqb code 438) && not row.retried

  by_again : (b : Bool) → again ≡ b → resolved now buf id Error s₀ ≡ cond b (retry now buf (txn_in row) (without id s₀)) (on_failure (kind_in row.asked) (ErrorCode code) (without id s₀))
  by_again b e = resolves Error ∙ ap (λ (x : Bool). cond x (retry now buf (txn_in row) (without id s₀)) (on_failure (kind_in row.asked) (ErrorCode code) (without id s₀))) e

  pub retries : (n : ℕ) (r : Reply) (after : List ℕ) → n ≡ code → ((eqb n 401 || eqb n 438) && not row.retried) ≡ true → MeetsRun client now lent out (retried now buf id s₀) r after
      → MeetsRun client now lent out (resolved now buf id Error s₀) r after
  unfolding retried
  retries n r after e t m =
      let run : retried now buf id s₀ ≡ retry now buf (txn_in row) (without id s₀) = rw (get_txn client.requests full (under_id id) i z found) in
      let a : again ≡ true = subst (λ (x : ℕ). ((eqb x 401 || eqb x 438) && not row.retried) ≡ true) e t in
      meets_as client now lent out (retried now buf id s₀) (resolved now buf id Error s₀) r after (by_again true a ∙ sym run) m

  pub gives_up : (n : ℕ) (r : Answer) (next : Client) → n ≡ code → ((eqb n 401 || eqb n 438) && not row.retried) ≡ false → now ≤ 9007199254740991 → next ≡ lacking client i
      → Quiet next (on_failure (kind_in row.asked) (ErrorCode n)) r → MeetsRun client now lent out (resolved now buf id Error s₀) (done r) out
  gives_up n r next e t h l q =
      let k = kind_in row.asked in
      let a : again ≡ false = subst (λ (x : ℕ). ((eqb x 401 || eqb x 438) && not row.retried) ≡ false) e t in
      let p : Quiet (lacking client i) (on_failure k (ErrorCode n)) r = subst (λ (x : Client). Quiet x (on_failure k (ErrorCode n)) r) l q in
      let run : resolved now buf id Error s₀ ≡ on_failure k (ErrorCode n) (without id s₀) = by_again false a ∙ ap (λ (x : ℕ). on_failure k (ErrorCode x) (without id s₀)) (sym e) in
      meets_as client now lent out (on_failure k (ErrorCode n) (without id s₀)) (resolved now buf id Error s₀) (done r) out run
      (settles_meets client now lent out (on_failure k (ErrorCode n) (without id s₀)) r h (settles_lacking client id i full found (on_failure k (ErrorCode n)) r lent p))

-- the code, where there is one
pub code_is : (o : Option ℕ) → unwrap_or o 0 ≡ code_or_0 o
code_is None = refl
code_is (Some n) = refl

-- a message of the two classes that are no answers
pub no_answer : (cls : Class) (b : Bool) → (cls ≡ Request) ⊎ (cls ≡ Indication) → (is_answer cls && b) ≡ false
no_answer cls b (inl e) = rw e
no_answer cls b (inr e) = rw e

-- what is done with a message
module _ (client : Client) (now : ℕ) (buf lent out : List ℕ) (h : Header) (head : Headed buf h) where
  abbrev s₁ : Run
  s₁ = begin (view client) lent

  abbrev goes : Class → Bool
  goes cls = is_answer cls && passed (held client.credentials.has_key client.credentials.key) buf cls

  module _ (i : ℕ) (full : length client.requests.rows ≡ 64) (found : position (under_id h.id) (txns_in client.requests) ≡ Some i) (cls : Class) (ec : class h.typ ≡ cls) where
    class_is : class (field_at buf 0) ≡ cls
    class_is = ap class (sym head.typ) ∙ ec

    there : position (under_id (tid_of buf)) (txns_in client.requests) ≡ Some i
    there = subst (λ (x : List ℕ). position (under_id x) (txns_in client.requests) ≡ Some i) head.id found

    -- taken, or not
    pub takes : (r : Reply) (after : List ℕ) → goes cls ≡ true → MeetsRun client now lent out (resolved now buf h.id cls s₁) r after → MeetsRun client now lent out (answered_by now buf s₁) r after
    takes r after e m =
        let g = get_txn client.requests full (under_id (tid_of buf)) i no_request there in
        let run : answered_by now buf s₁ ≡ resolved now buf (tid_of buf) cls s₁ = rw (g, class_is, e) in
        meets_as client now lent out (resolved now buf h.id cls s₁) (answered_by now buf s₁) r after (run ∙ ap (λ (x : List ℕ). resolved now buf x cls s₁) (sym head.id)) m

    pub drops : goes cls ≡ false → now ≤ 9007199254740991 → MeetsRun client now lent out (answered_by now buf s₁) (done (quiet client)) out
    drops stays in_time =
        let g = get_txn client.requests full (under_id (tid_of buf)) i no_request there in
        let run : answered_by now buf s₁ ≡ s₁ = rw (g, class_is, stays) in
        settles_meets client now lent out (answered_by now buf s₁) (quiet client) in_time (still client lent (answered_by now buf s₁) run)

  pub unasked : position (under_id h.id) (txns_in client.requests) ≡ None → now ≤ 9007199254740991 → MeetsRun client now lent out (answered_by now buf s₁) (done (quiet client)) out
  unasked missing in_time =
      let none_there = subst (λ (x : List ℕ). position (under_id x) (txns_in client.requests) ≡ None) head.id missing in
      let run : answered_by now buf s₁ ≡ s₁ = rw (nowhere_get (under_id (tid_of buf)) (txns_in client.requests) none_there) in
      settles_meets client now lent out (answered_by now buf s₁) (quiet client) in_time (still client lent (answered_by now buf s₁) run)

-- a bind's success is what is done to the peer's channel
pub bound_there : (client : Client) (now : ℕ) (peer : Address) (num : ℕ) (buf : List ℕ) (r : Answer) → Quiet client (update_chan peer (bound_at now num)) r → Quiet client (on_success now (ChannelBind peer num) buf) r
unfolding on_success
bound_there client now peer num buf r q = q
