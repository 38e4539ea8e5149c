-- What a datagram comes to before any request is looked for: ChannelData, bytes that are no message, a Data indication.
use Rattle.std.specs.Prelude.{Option, None, Some, option_map}
use Rattle.std.specs.Option.{option_to_list}
use mathlib.Core.Path.{◌≡◌, refl, ap, sym, subst, ◌∙◌}
use mathlib.Core.Bool.{Bool, true, false, cond}
use mathlib.Core.List.{List, []}
use Prim.Native.Nat.{ℕ, ◌≤◌}
use borrow.Author.Tests.{eq-eqb, ne_eqb}
use lib.Dec.{eqb}
use lib.ListN.{take, drop, length}
use Rattle.stun_frame.specs.declared.ChannelData.{ChannelData}
use Rattle.stun_frame.specs.Source.{field_at, decode_channel_data}
use Rattle.stun_address.specs.declared.Address.{Address}
use Rattle.stun_walk.specs.declared.Value.{Value}
use Rattle.stun_walk.specs.declared.Header.{Header}
use Rattle.stun_walk.specs.Source.{readable, decoded, get_of, xor_addr_of}
use Rattle.turn_state.specs.declared.Client.{Client}
use Rattle.turn_state.specs.declared.Answer.{Answer}
use Rattle.turn_state.specs.declared.Event.{Event}
use Rattle.turn_state.specs.declared.Event.TheVariants.{Data}
use Rattle.turn_state.specs.Maps.{get, if_let}
use Rattle.turn_state.specs.State.{Chan, Run, begin, tell}
use Rattle.turn_state.specs.Source.{of_number, tid_of, indicated, handle}
use Rattle.turn_state.specs.View.{view, chans_in, Reply, done, quiet}
use Rattle.turn_open.proofs.Lose.{none_used}
use Rattle.turn_handle.specs.Handling.{saying, heard, sent_data, indication, answered_by}
use Rattle.turn_handle.proofs.Settling.{MeetsRun, settles_meets, meets_as, settles_by, still}

-- what `decode` says
pub record Headed (buf : List ℕ) (h : Header) : Type 0 where
  pub reads : readable buf ≡ true
  pub typ : h.typ ≡ field_at buf 0
  pub id : h.id ≡ tid_of buf

abbrev read : List ℕ → Bool → Option Header
read buf b = cond b (Some (record { typ = field_at buf 0; id = take 12 (drop 8 buf) })) None

pub headed : (buf : List ℕ) (h : Header) → decoded buf ≡ Some h → Headed buf h
unfolding decoded
headed buf h e = by (readable buf) refl e
  where
    same : (x y : Header) → ◌≡◌ {A = Option Header} (Some x) (Some y) → y ≡ x
    same x y e = cc

    by : (b : Bool) → readable buf ≡ b → read buf b ≡ Some h → Headed buf h
    by true r e = let is = same _ h e in record { reads = r; typ = ap (λ (x : Header). x.typ) is; id = ap (λ (x : Header). x.id) is }
    by false r e = cc

unreadable : (buf : List ℕ) → decoded buf ≡ None → readable buf ≡ false
unfolding decoded
unreadable buf e = by (readable buf) refl e
  where
    by : (b : Bool) → readable buf ≡ b → read buf b ≡ None → readable buf ≡ false
    by true r e = cc
    by false r e = r

-- an answer with an event or none, and how many that are, is the one that says it
told_as : (client : Client) (event : Option Event) (n : ℕ) → n ≡ length (option_to_list event)
    → ◌≡◌ {A = Answer} (record { client = client; event = event; events = n; packets = 0; len = 0 }) (saying client event)
told_as client None n e = rw e
told_as client (Some x) n e = rw e

-- the runs
told_heard : (o : Option Chan) (start len : ℕ) (client : Client) (lent : List ℕ)
    → if_let o (λ c. tell (Data c.peer start len) (begin (view client) lent)) (begin (view client) lent)
    ≡ record { self = view client; out = []; ev = option_to_list (option_map (λ c. Data c.peer start len) o); lent = lent; report = none_used }
told_heard (Some c) start len client lent = refl
told_heard None start len client lent = refl

told_sent : (p : Option Address) (f : Option Value) (client : Client) (lent : List ℕ)
    → indicated p f (begin (view client) lent) ≡ record { self = view client; out = []; ev = option_to_list (sent_data p f); lent = lent; report = none_used }
told_sent (Some peer) (Some v) client lent = refl
told_sent (Some peer) None client lent = refl
told_sent None found client lent = refl

module _ (client : Client) (now : ℕ) (buf lent out : List ℕ) (in_time : now ≤ 9007199254740991) where
  abbrev s₀ : Run
  s₀ = begin (view client) lent

  says : (event : Option Event) → handle now buf s₀ ≡ record { self = view client; out = []; ev = option_to_list event; lent = lent; report = none_used }
      → MeetsRun client now lent out (handle now buf s₀) (done (saying client event)) out
  says event e =
      settles_meets client now lent out (handle now buf s₀) (saying client event) in_time (settles_by client client lent (handle now buf s₀) (view client) event e refl (λ t. t))

  channel_said : (d : ChannelData) → decode_channel_data buf ≡ Some d → MeetsRun client now lent out (handle now buf s₀) (done (saying client (heard client.channels d))) out
  unfolding handle
  channel_said d e = says (heard client.channels d) (rw e (told_heard (get (of_number d.number) (chans_in client.channels)) d.start d.len client lent))

  -- of an answer whose event and count are said apart
  said_as : (event due : Option Event) (n : ℕ) → event ≡ due → n ≡ length (option_to_list event) → MeetsRun client now lent out (handle now buf s₀) (done (saying client due)) out
      → MeetsRun client now lent out (handle now buf s₀) (done (record { client = client; event = event; events = n; packets = 0; len = 0 })) out
  said_as event due n q m k =
      subst (λ (r : Answer). MeetsRun client now lent out (handle now buf s₀) (done r) out) (sym (told_as client event n m ∙ ap (saying client) q)) k

  pub channel_told : (d : ChannelData) (event : Option Event) (n : ℕ) → decode_channel_data buf ≡ Some d → event ≡ heard client.channels d → n ≡ length (option_to_list event)
      → MeetsRun client now lent out (handle now buf s₀) (done (record { client = client; event = event; events = n; packets = 0; len = 0 })) out
  channel_told d event n e q m = said_as event (heard client.channels d) n q m (channel_said d e)

  module _ (message : decode_channel_data buf ≡ None) where
    pub unread : decoded buf ≡ None → MeetsRun client now lent out (handle now buf s₀) (done (quiet client)) out
    unfolding handle
    unread e = settles_meets client now lent out (handle now buf s₀) (quiet client) in_time (still client lent (handle now buf s₀) (rw (message, unreadable buf e)))

    module _ (h : Header) (head : Headed buf h) where
      indication_said : h.typ ≡ 0x0017 → MeetsRun client now lent out (handle now buf s₀) (done (saying client (indication buf))) out
      unfolding handle
      indication_said et =
          let is : eqb (field_at buf 0) 0x0017 ≡ true = eq-eqb (field_at buf 0) 0x0017 (sym head.typ ∙ et) in
          says (indication buf) (rw (message, head.reads, is) (told_sent (xor_addr_of buf 0x0012) (get_of buf 0x0013) client lent))

      pub indication_told : (event : Option Event) (n : ℕ) → h.typ ≡ 0x0017 → event ≡ indication buf → n ≡ length (option_to_list event)
          → MeetsRun client now lent out (handle now buf s₀) (done (record { client = client; event = event; events = n; packets = 0; len = 0 })) out
      indication_told event n e q m = said_as event (indication buf) n q m (indication_said e)

      pub passed_on : (r : Reply) (after : List ℕ) → (h.typ ≡ 0x0017 → ⊥) → MeetsRun client now lent out (answered_by now buf s₀) r after → MeetsRun client now lent out (handle now buf s₀) r after
      unfolding handle
      passed_on r after no-data m =
          meets_as client now lent out (answered_by now buf s₀) (handle now buf s₀) r after (rw (message, head.reads, ne_eqb (field_at buf 0) 0x0017 (λ e. no-data (head.typ ∙ e)))) m
