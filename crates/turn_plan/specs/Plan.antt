-- What a poll, or the success of a permission, comes to before an id is drawn and a byte written: the tables after the due requests,
-- what is sent again, and what is to be asked for. It has the definition's steps, without ids, packets and report.
use Rattle.std.specs.Prelude.{Bool, true, cond, ◌&&◌, ◌||◌, List, [], ◌∷◌, ◌++◌, map, ℕ, ◌+◌, leb, Option, None, Some}
use Rattle.stun_address.specs.declared.Ip.{Ip}
use Rattle.stun_address.specs.declared.Address.{Address}
use Rattle.turn_state.specs.declared.Kind.{Kind}
use Rattle.turn_state.specs.declared.Kind.TheVariants.{Allocate, Refresh, Permission, ChannelBind}
use Rattle.turn_state.specs.Maps.{get, contains, insert, remove, filter, each, if_let}
use Rattle.turn_state.specs.State.{Message, Txn, Perm, Chan, Turn}
use Rattle.turn_state.specs.Source.{under_id, under_drawn, for_ip, for_peer, waiting, repeated, renewed_at, is_due, MAX_TRIES, PERMISSION_REFRESH}

pub record Plan : Type 0 where
  pub txns : List Txn
  pub perms : List Perm
  pub chans : List Chan
  pub done : Bool
  pub refresh_at : Option ℕ
  -- requests that are sent again, in order
  pub sends : List Message
  -- what is to be asked for, the last one first
  pub kinds : List Kind
  -- allocations that timed out
  pub timeouts : ℕ

-- the state at entry
abbrev pub entry : Turn → Plan
entry c = record { txns = c.txns; perms = c.perms; chans = c.chans; done = c.done; refresh_at = c.refresh_at; sends = []; kinds = []; timeouts = 0 }

abbrev pub with_txns : List Txn → Plan → Plan
with_txns x p = record { txns = x; perms = p.perms; chans = p.chans; done = p.done; refresh_at = p.refresh_at; sends = p.sends; kinds = p.kinds; timeouts = p.timeouts }

abbrev pub with_perms : List Perm → Plan → Plan
with_perms x p = record { txns = p.txns; perms = x; chans = p.chans; done = p.done; refresh_at = p.refresh_at; sends = p.sends; kinds = p.kinds; timeouts = p.timeouts }

abbrev pub with_chans : List Chan → Plan → Plan
with_chans x p = record { txns = p.txns; perms = p.perms; chans = x; done = p.done; refresh_at = p.refresh_at; sends = p.sends; kinds = p.kinds; timeouts = p.timeouts }

-- on_failure, of a request that timed out
abbrev pub timed_out : Plan → Plan
timed_out p = record { txns = p.txns; perms = p.perms; chans = p.chans; done = true; refresh_at = p.refresh_at; sends = p.sends; kinds = p.kinds; timeouts = p.timeouts + 1 }

abbrev pub failed : Kind → Plan → Plan
failed Allocate p = timed_out p
failed (Refresh lifetime) p = p
failed (Permission ip) p = with_perms (remove (for_ip ip) p.perms) p
failed (ChannelBind peer num) p = with_chans (remove (for_peer peer) p.chans) p

-- the request goes last, and is sent again
abbrev pub sent_again : ℕ → Txn → Plan → Plan
sent_again now t p = record { txns = insert (under_drawn t.msg.tid) (repeated now t) p.txns; perms = p.perms; chans = p.chans; done = p.done; refresh_at = p.refresh_at; sends = p.sends ++ (t.msg ∷ []); kinds = p.kinds; timeouts = p.timeouts }

-- one due request that is out of its table
abbrev pub settle_due : ℕ → Bool → Txn → Plan → Plan
settle_due now reliable t p = cond (reliable || leb MAX_TRIES t.tries) (failed t.kind p) (sent_again now t p)

unfoldable pub plan_due : ℕ → Bool → List ℕ → Plan → Plan
plan_due now reliable tid p =
    if_let (get (under_id tid) p.txns) (λ t. settle_due now reliable t (with_txns (remove (under_id tid) p.txns) p)) p

-- a request is to be made
abbrev pub asking : Kind → Plan → Plan
asking k p = record { txns = p.txns; perms = p.perms; chans = p.chans; done = p.done; refresh_at = p.refresh_at; sends = p.sends; kinds = k ∷ p.kinds; timeouts = p.timeouts }

abbrev pub no_refresh : Plan → Plan
no_refresh p = record { txns = p.txns; perms = p.perms; chans = p.chans; done = p.done; refresh_at = None; sends = p.sends; kinds = p.kinds; timeouts = p.timeouts }

unfoldable pub plan_refresh : ℕ → Plan → Plan
plan_refresh now p = cond (is_due now p.refresh_at) (asking (Refresh 600) (no_refresh p)) p

-- a permission that is there is asked for again
abbrev pub asked_again : Ip → Plan → Plan
asked_again ip p = asking (Permission ip) (with_perms (insert (for_ip ip) (record { ip = ip; refresh = None }) p.perms) p)

unfoldable pub plan_perm : Ip → Plan → Plan
plan_perm ip p = cond (contains (for_ip ip) p.perms) (asked_again ip p) p

-- a channel is bound again
abbrev pub renewing : ℕ → Address → Chan → Plan → Plan
renewing now peer c p = asking (ChannelBind peer c.num) (with_chans (insert (for_peer peer) (renewed_at now c) p.chans) p)

unfoldable pub plan_chan : ℕ → Address → Plan → Plan
plan_chan now peer p = if_let (get (for_peer peer) p.chans) (λ c. renewing now peer c p) p

-- the lists that the two loops of renewals go over
abbrev pub due_ips : ℕ → List Perm → List Ip
due_ips now perms = map (λ p. p.ip) (filter (λ p. is_due now p.refresh) perms)

abbrev pub due_peers : ℕ → List Chan → List Address
due_peers now chans = map (λ c. c.peer) (filter (λ c. c.bound && leb c.refresh_at now) chans)

abbrev pub plan_perms : ℕ → Plan → Plan
plan_perms now p = each plan_perm (due_ips now p.perms) p

abbrev pub plan_chans : ℕ → Plan → Plan
plan_chans now p = each (plan_chan now) (due_peers now p.chans) p

abbrev pub plan_renewals : ℕ → Plan → Plan
plan_renewals now p = plan_chans now (plan_perms now (plan_refresh now p))

-- the ids of the requests that are due
abbrev pub due_tids : ℕ → List Txn → List (List ℕ)
due_tids now txns = map (λ t. t.msg.tid) (filter (λ t. leb t.next now) txns)

-- poll, from the state at entry
unfoldable pub planned_from : ℕ → Bool → Bool → Plan → Plan
planned_from now reliable closing p₀ =
    let p = each (plan_due now reliable) (due_tids now p₀.txns) p₀ in
    cond closing p (plan_renewals now p)

abbrev pub planned : ℕ → Turn → Plan
planned now c = planned_from now c.reliable c.closing (entry c)

-- a channel that is there is to be bound
unfoldable pub plan_bind : Address → Plan → Plan
plan_bind peer p = if_let (get (for_peer peer) p.chans) (λ c. asking (ChannelBind peer c.num) p) p

-- every unbound channel of an IP, in table order
abbrev pub waiting_peers : Ip → List Chan → List Address
waiting_peers ip chans = map (λ c. c.peer) (filter (waiting ip) chans)

abbrev pub plan_binds : Ip → Plan → Plan
plan_binds ip p = each plan_bind (waiting_peers ip p.chans) p

-- the success of the permission for which the request of that id asked
abbrev pub granting : ℕ → Ip → List Perm → List Perm
granting now ip perms = insert (for_ip ip) (record { ip = ip; refresh = Some (now + PERMISSION_REFRESH) }) perms

abbrev pub plan_success : ℕ → List ℕ → Ip → Turn → Plan
plan_success now id ip c = plan_binds ip (with_perms (granting now ip c.perms) (with_txns (remove (under_id id) c.txns) (entry c)))
