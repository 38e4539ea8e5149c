-- The run of the definition that a plan stands for: the requests that are to be made take the lent ids in order.
use Rattle.std.specs.Prelude.{◌≡◌, Bool, false, ◌&&◌, ◌||◌, not, List, [], ◌∷◌, ◌++◌, map, ℕ, ◌+◌, ◌-◌, ◌≤◌, length, replicate, leb}
use Rattle.stun_address.specs.declared.Ip.{Ip}
use Rattle.turn_state.specs.declared.Kind.{Kind}
use Rattle.turn_state.specs.declared.Event.TheVariants.{Failed}
use Rattle.turn_state.specs.declared.Reason.TheVariants.{Timeout}
use Rattle.turn_state.specs.Maps.{contains, insert}
use Rattle.turn_state.specs.State.{Message, Txn, Perm, Turn, Added, Run, id_at}
use Rattle.turn_state.specs.Source.{under_drawn, for_ip, encode, first_wait}
use Rattle.turn_state.specs.Number.{full}
use Rattle.turn_state.specs.View.{message_of}
use Rattle.turn_plan.specs.Plan.{Plan}

-- the message of the k-th request that is made
abbrev pub message_at : List ℕ → ℕ → Kind → Message
message_at lent k kind = message_of kind (id_at lent k) (id_at lent k)

abbrev pub txn_at : ℕ → List ℕ → ℕ → Kind → Txn
txn_at next lent k kind = record { kind = kind; msg = message_at lent k kind; tries = 1; next = next; auth_retried = false }

-- ids, requests and packets of what is to be asked for, the last one first
abbrev pub drawn : List ℕ → List Kind → List (List ℕ)
drawn lent [] = []
drawn lent (k ∷ ks) = drawn lent ks ++ (id_at lent (length ks) ∷ [])

abbrev pub requested : ℕ → List ℕ → List Kind → List Txn → List Txn
requested next lent [] txns = txns
requested next lent (k ∷ ks) txns = insert (under_drawn (id_at lent (length ks))) (txn_at next lent (length ks) k) (requested next lent ks txns)

abbrev pub packets_of : Turn → List ℕ → List Kind → List (List ℕ)
packets_of c lent [] = []
packets_of c lent (k ∷ ks) = packets_of c lent ks ++ (encode c (message_at lent (length ks) k) ∷ [])

-- 5: one of them meets a full table
abbrev pub met_full : ℕ → List ℕ → List Kind → List Txn → Bool
met_full next lent [] txns = false
met_full next lent (k ∷ ks) txns =
    met_full next lent ks txns
    || (not (contains (under_drawn (id_at lent (length ks))) (requested next lent ks txns)) && leb 64 (length (requested next lent ks txns)))

-- 5, of a permission: it would be added to a full table
abbrev pub perm_full : List Perm → Ip → Bool
perm_full perms ip = not (contains (for_ip ip) perms) && leb 32 (length perms)

-- when a request that is made now is due
abbrev pub first_next : Turn → ℕ → ℕ
first_next c now = now + first_wait c

abbrev pub planned_client : Turn → ℕ → List ℕ → Plan → Turn
planned_client c now lent p =
    record {
      username = c.username;
      password = c.password;
      realm = c.realm;
      nonce = c.nonce;
      key = c.key;
      relay = c.relay;
      done = p.done;
      refresh_at = p.refresh_at;
      txns = requested (first_next c now) lent p.kinds p.txns;
      perms = p.perms;
      chans = p.chans;
      next_num = c.next_num;
      closing = c.closing;
      reliable = c.reliable;
    }

abbrev pub planned_packets : Turn → List ℕ → Plan → List (List ℕ)
planned_packets c lent p = map (encode c) p.sends ++ packets_of c lent p.kinds

abbrev pub body_lengths : List (List ℕ) → List ℕ
body_lengths packets = map (λ b. length b - 20) packets

abbrev pub run_of : Turn → ℕ → List ℕ → Plan → List Added → Run
run_of c now lent p added =
    record {
      self = planned_client c now lent p;
      out = planned_packets c lent p;
      ev = replicate p.timeouts (Failed Timeout);
      lent = lent;
      report = record { used = drawn lent p.kinds; added = added; texts = []; bodies = body_lengths (planned_packets c lent p) };
    }

-- `s` is that run, where another record than a request met a full table or not
pub record FollowsFull (other : Bool) (c : Turn) (now : ℕ) (lent : List ℕ) (p : Plan) (s : Run) : Type 0 where
  pub added : List Added
  pub run : s ≡ run_of c now lent p added
  pub met : full added ≡ (other || met_full (first_next c now) lent p.kinds p.txns)
  pub small : length p.txns ≤ 64

abbrev pub Follows : Turn → ℕ → List ℕ → Plan → Run → Type 0
Follows c now lent p s = FollowsFull false c now lent p s
