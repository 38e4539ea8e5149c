-- Rows as packets in the output: how many bytes they are (`sends_length`, `asks_length`), that lent ids and a table's ids are of 12 bytes
-- each, as their types say, and that each packet is turn.rs's encoding (`sends_encode`, `asks_encode`).
use mathlib.Core.Path.{◌≡◌, refl, ap₂, ◌∙◌}
use mathlib.Core.List.{List, [], ◌∷◌, ◌++◌, map}
use Prim.Native.Nat.{ℕ, zero, suc, ◌+◌}
use native.Mathlib.Omega.{arith}
use lib.ListN.{length, take, length-append}
use mir.Val.{Val}
use denote.Array.{each}
use denote.Laws.{Is}
use denote.Shadow.{shadow}
use denote.Struct.Declared.{row as typed_row}
use Rattle.stun_frame.specs.Source.{to_be}
use Rattle.turn_state.specs.declared.Asked.{Asked}
use Rattle.turn_state.specs.declared.Asks.{Asks}
use Rattle.turn_state.specs.declared.Client.{Client}
use Rattle.turn_state.specs.declared.Credentials.{Credentials}
use Rattle.turn_state.specs.declared.Request.{Request}
use Rattle.turn_state.specs.declared.Requests.{Requests}
use Rattle.turn_state.specs.contracts.Request.{the_type as the_request, the_row as the_request_row}
use Rattle.turn_state.specs.contracts.Requests.{the_type as the_requests}
use Rattle.turn_state.specs.Number.{framed}
use Rattle.turn_state.specs.State.{Txn}
use Rattle.turn_state.specs.Source.{encode}
use Rattle.turn_state.specs.View.{kind_in, message_of, txn_in, txns_in, view, Each, no_rows, row}
use Rattle.turn_packet.specs.Source.{packet_of, packet_size}
use Rattle.turn_packet.proofs.Laws.{packet_encode, packet_length}
use Rattle.turn_packet.proofs.Rooms.{Rooms}
use Rattle.turn_ids.specs.Ids.{lent_id}
use Rattle.turn_ids.proofs.Lent.{lent_twelve}
use Rattle.turn_frames.specs.Frames.{numbered, sends_of, sends_in, asks_of, asks_in, sends_size, asks_size}

-- the two ids of a row
pub record Ided (r : Request) : Type 0 where
  pub id : length r.id ≡ 12
  pub under : length r.under ≡ 12

row_ided : (r : Request) (vs : List Val) → Is (typed_row the_request) r vs → Ided r
row_ided r vs g =
    record {
      id = g.1.1.0.1.0.1;
      under = g.1.1.1.0.1.0.1;
    }

each_ided : (rows : List Request) (us : List Val) → shadow (each the_request_row.Denot the_request_row.own_val rows us) → Each Ided rows
each_ided [] us g = no_rows
each_ided (r ∷ rows) [] g = absurd g
each_ided (r ∷ rows) (u ∷ us) g = row (row_ided r (u ∷ []) g.0) (each_ided rows us g.1)

-- of every row of a table that a function is given
pub ided : (t : Requests) (vs : List Val) → Is (typed_row the_requests) t vs → Each Ided t.rows
ided t vs g = each_ided t.rows _ g.1.1.0.1.1

pub each_take : {R : Type 0} {tidy : R → Type 0} (n : ℕ) {rows : List R} → Each tidy rows → Each tidy (take n rows)
each_take zero e = no_rows
each_take (suc n) no_rows = no_rows
each_take (suc n) (row t e) = row t (each_take n e)

-- one packet in front
framed_more : (p : List ℕ) (more : List (List ℕ)) (n m : ℕ) → length p ≡ n → length (framed more) ≡ m → length (framed (p ∷ more)) ≡ 3 + n + m
framed_more p more n m e f = length-append (0x01 ∷ to_be (length p) ++ p) (framed more) ∙ omega arith

module _ (c : Credentials) (g : Rooms c) where
  sized : (a : Asked) (id under : List ℕ) → length id ≡ 12 → length under ≡ 12 → length (packet_of c a id under) ≡ packet_size c a
  sized a id under i u = packet_length c g.username g.realm g.nonce a id under i u

  pub length_sends : {rows : List Request} → Each Ided rows → length (framed (sends_of c rows)) ≡ sends_size c rows
  length_sends no_rows = refl
  length_sends (row {r} {rest} t e) =
      framed_more (packet_of c r.asked r.id r.under) (sends_of c rest) (packet_size c r.asked) (sends_size c rest) (sized r.asked r.id r.under t.id t.under) (length_sends e)

  pub length_asks : (lent : List ℕ) (k : ℕ) (rows : List Asked) → length (framed (asks_of c lent k rows)) ≡ asks_size c rows
  length_asks lent k [] = refl
  length_asks lent k (a ∷ more) =
      let id : length (lent_id lent k) ≡ 12 = lent_twelve lent k in
      framed_more (packet_of c a (lent_id lent k) (lent_id lent k)) (asks_of c lent (suc k) more) (packet_size c a) (asks_size c more) (sized a (lent_id lent k) (lent_id lent k) id id) (length_asks lent (suc k) more)

  pub sends_length : (t : Requests) → Each Ided t.rows → length (framed (sends_in c t)) ≡ sends_size c (take t.len t.rows)
  sends_length t e = length_sends (each_take t.len e)

  pub asks_length : (lent : List ℕ) (a : Asks) → length (framed (asks_in c lent a)) ≡ asks_size c (take a.len a.rows)
  asks_length lent a = length_asks lent 0 (take a.len a.rows)

-- each packet is what turn.rs's `encode` gives for the client that holds the credentials
module _ (client : Client) where
  sends_encode_of : (rows : List Request) → sends_of client.credentials rows ≡ map (λ (x : Txn). encode (view client) x.msg) (map txn_in rows)
  sends_encode_of [] = refl
  sends_encode_of (r ∷ rows) =
      ap₂ {C = List (List ℕ)} (λ (p : List ℕ) (l : List (List ℕ)). p ∷ l) (packet_encode client r.asked r.id r.under) (sends_encode_of rows)

  pub sends_encode : (t : Requests) → sends_in client.credentials t ≡ map (λ (x : Txn). encode (view client) x.msg) (txns_in t)
  sends_encode t = sends_encode_of (take t.len t.rows)

  pub asks_encode : (lent : List ℕ) (k : ℕ) (rows : List Asked)
      → asks_of client.credentials lent k rows
      ≡ numbered (λ j a. encode (view client) (message_of (kind_in a) (lent_id lent j) (lent_id lent j))) k rows
  asks_encode lent k [] = refl
  asks_encode lent k (a ∷ more) =
      ap₂ {C = List (List ℕ)} (λ (p : List ℕ) (l : List (List ℕ)). p ∷ l) (packet_encode client a (lent_id lent k) (lent_id lent k)) (asks_encode lent (suc k) more)
