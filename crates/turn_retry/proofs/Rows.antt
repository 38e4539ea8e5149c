-- The row that is put back: which kinds show the id under which their peer is encoded, that the others' attributes are the same under
-- any id, and that the row is tidy as the old one was.
use Rattle.std.specs.Prelude.{Some}
use Rattle.turn_tables.proofs.Neat.{each_at, tidy_row}
use mathlib.Core.Path.{◌≡◌, refl}
use mathlib.Core.Bool.{Bool, true, false, cond}
use mathlib.Core.List.{List}
use Prim.Native.Nat.{ℕ, ◌<◌}
use native.Mathlib.Omega.{arith}
use lib.ListN.{length, get_or}
use Rattle.stun_address.specs.declared.Ip.{Ip}
use Rattle.stun_address.specs.declared.Ip.TheVariants.{V4, V6}
use Rattle.stun_address.specs.Source.{encode_xor_addr}
use Rattle.turn_state.specs.declared.Kind.{Kind}
use Rattle.turn_state.specs.declared.Kind.TheVariants.{Allocate, Refresh, Permission, ChannelBind}
use Rattle.turn_state.specs.declared.Request.{Request}
use Rattle.turn_state.specs.View.{kind_in, attrs_of, is_v6, shows_under, either, TidyRequest, txn_in, txns_in, no_request, TidyRequests, Sized, Twelve}
use Rattle.turn_state.specs.declared.Client.{Client}
use Rattle.turn_state.specs.declared.Requests.{Requests}
use Rattle.turn_state.specs.Maps.{get, remove}
use Rattle.turn_state.specs.Source.{under_id}
use Rattle.turn_tables.specs.Rows.{position}
use Rattle.turn_tables.specs.Tables.{removed_request}
use Rattle.turn_tables.proofs.Laws.{found_txn, get_txn, remove_txn, removed_request_rows, tidy_removed_request}
use Rattle.turn_plan.proofs.Drafting.{one_shorter}
use Rattle.turn_retry.specs.Learning.{row_again}

-- the attributes of a kind that does not show the id are the same under any
peer_under : (ip : Ip) (port : ℕ) (u v : List ℕ) → encode_xor_addr (record { ip = ip; port = port }) (cond (is_v6 ip) u v) ≡ encode_xor_addr (record { ip = ip; port = port }) u
unfolding encode_xor_addr
peer_under (V4 x) port u v = refl
peer_under (V6 h l) port u v = refl

pub attrs_under : (k : Kind) (u v : List ℕ) → attrs_of k (cond (shows_under k) u v) ≡ attrs_of k u
attrs_under Allocate u v = refl
attrs_under (Refresh lifetime) u v = refl
attrs_under (Permission ip) u v = rw (peer_under ip 0 u v)
attrs_under (ChannelBind peer number) u v = rw (peer_under peer.ip peer.port u v)

-- tidiness
either_under : (b : Bool) (u v : List ℕ) → either b (Unit {0}) (cond b u v ≡ v)
either_under true u v = tt
either_under false u v = refl

pub again_tidy : (r : Request) (id : List ℕ) (next : ℕ) → TidyRequest r → TidyRequest (row_again r id next)
again_tidy r id next n = (n.0, either_under (shows_under (kind_in r.asked)) r.under id)

-- the request of that id, and the table without it
pub record Found (client : Client) (id : List ℕ) (r : Request) (less : Requests) : Type 0 where
  pub got : get (under_id id) (txns_in client.requests) ≡ Some (txn_in r)
  pub removed : txns_in less ≡ remove (under_id id) (txns_in client.requests)
  pub twelve : length r.under ≡ 12
  pub rows : length less.rows ≡ 64
  pub room : less.len < 64
  pub neat : TidyRequests client.requests → TidyRequest r
  pub tidy : TidyRequests client.requests → TidyRequests less

module _ (client : Client) (id : List ℕ) (i : ℕ) (sized : Sized client) (found : position (under_id id) (txns_in client.requests) ≡ Some i) where
  pub found_lt : i < 64
  found_lt = omega (arith, found_txn client.requests sized.requests (under_id id) i found)

  pub found_out : (z : Request) (less : Requests) → less ≡ removed_request client.requests i → Found client id (get_or client.requests.rows i z) less
  found_out z less e =
      let t = client.requests in
      let all = sized.requests in
      record {
        got = get_txn t all (under_id id) i z found;
        removed = rw e (remove_txn t all (under_id id) i found);
        twelve = each_at {tidy = Twelve} i z sized.unders (omega (arith, found_lt));
        rows = rw e (removed_request_rows t all i);
        room = one_shorter t less all (under_id id) i found e;
        neat = λ n. tidy_row no_request 64 t.len t.rows i z all (found_txn t all (under_id id) i found) n;
        tidy = λ n. rw e (tidy_removed_request t n i all);
      }
