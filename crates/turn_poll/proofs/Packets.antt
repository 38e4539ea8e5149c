-- What the code writes for a plan are the definition's packets, in its order, and none of them is long.
use mathlib.Core.Path.{◌≡◌, refl, ap, sym, ◌∙◌}
use mathlib.Core.Bool.{false}
use mathlib.Core.List.{List, [], ◌∷◌, ◌++◌, map, reverse, reverse_aux, append-nil}
use Prim.Native.Nat.{ℕ, suc, ◌+◌, ◌-◌, ◌≤◌, ◌<◌}
use native.Mathlib.Omega.{arith}
use lib.ListN.{length}
use lib.Seq.{append_snoc}
use borrow.Author.Tests.{le-ltb}
use Rattle.turn_state.specs.declared.Kind.{Kind}
use Rattle.turn_state.specs.declared.Asked.{Asked}
use Rattle.turn_state.specs.declared.Client.{Client}
use Rattle.turn_state.specs.declared.Request.{Request}
use Rattle.turn_state.specs.State.{Turn, ids_in, id_at}
use Rattle.turn_state.specs.Source.{encode}
use Rattle.turn_state.specs.Number.{above}
use Rattle.turn_state.specs.View.{kind_in, txn_in, view, Each, no_rows, row}
use Rattle.turn_packet.specs.Source.{packet_of}
use Rattle.turn_packet.proofs.Laws.{packet_encode}
use Rattle.turn_packet.proofs.Bounds.{kind_short, packet_short}
use Rattle.turn_packet.proofs.Rooms.{Rooms}
use Rattle.turn_ids.specs.Ids.{lent_id, ids_from}
use Rattle.turn_ids.proofs.Lent.{lent_is, id_short}
use Rattle.turn_frames.specs.Frames.{sends_of, asks_of}
use Rattle.turn_frames.proofs.Laws.{Ided}
use Rattle.turn_plan.specs.Follows.{message_at, drawn, packets_of, body_lengths}

-- a packet that is not long
abbrev Short : List ℕ → Type 0
Short p = length p ≤ 3100

each_append : {p q : List (List ℕ)} → Each Short p → Each Short q → Each Short (p ++ q)
each_append no_rows q = q
each_append (row h p) q = row h (each_append p q)

each_snoc : {p : List (List ℕ)} (x : List ℕ) → Each Short p → Short x → Each Short (p ++ (x ∷ []))
each_snoc x p h = each_append p (row h no_rows)

pub not_above : {p : List (List ℕ)} → Each Short p → above 65535 (body_lengths p) ≡ false
not_above no_rows = refl
not_above (row {r = r} h p) = let rest = not_above p in rw (le-ltb 65535 (length r - 20) (omega (arith, h)), rest)

module _ (client : Client) where
  abbrev c : Turn
  c = view client

  -- those that are sent again
  pub again_packets : (rows : List Request) → map (encode c) (map (λ r. (txn_in r).msg) rows) ≡ sends_of client.credentials rows
  again_packets [] = refl
  again_packets (r ∷ rows) =
      let rest = again_packets rows in
      let one = packet_encode client r.asked r.id r.under in
      rw rest (ap (λ (p : List ℕ). p ∷ sends_of client.credentials rows) (sym one))

  -- those that are asked for, each with an id that was lent
  ask_packet : (lent : List ℕ) (k : ℕ) (a : Asked) → k < ids_in lent → encode c (message_at lent k (kind_in a)) ≡ packet_of client.credentials a (lent_id lent k) (lent_id lent k)
  ask_packet lent k a h =
      sym (packet_encode client a (id_at lent k) (id_at lent k))
      ∙ ap (λ (i : List ℕ). packet_of client.credentials a i i) (sym (lent_is lent k h))

  ask_packets_from : (lent : List ℕ) (l : List Asked) (ks : List Kind) → length ks + length l ≤ ids_in lent
      → packets_of c lent (reverse_aux (map kind_in l) ks) ≡ packets_of c lent ks ++ asks_of client.credentials lent (length ks) l
  ask_packets_from lent [] ks h = sym (append-nil (packets_of c lent ks))
  ask_packets_from lent (a ∷ l) ks h =
      let rest = ask_packets_from lent l (kind_in a ∷ ks) (omega arith) in
      let one = ask_packet lent (length ks) a (omega arith) in
      rest
      ∙ append_snoc (packets_of c lent ks) (encode c (message_at lent (length ks) (kind_in a))) (asks_of client.credentials lent (suc (length ks)) l)
      ∙ ap (λ (p : List ℕ). packets_of c lent ks ++ (p ∷ asks_of client.credentials lent (suc (length ks)) l)) one

  pub ask_packets : (lent : List ℕ) (l : List Asked) → length l ≤ ids_in lent → packets_of c lent (reverse (map kind_in l)) ≡ asks_of client.credentials lent 0 l
  ask_packets lent l h = ask_packets_from lent l [] (omega arith)

  -- none is long
  module _ (rooms : Rooms client.credentials) where
    short : (a : Asked) (id under : List ℕ) → length id ≤ 12 → length (packet_of client.credentials a id under) ≤ 3100
    short = packet_short client.credentials rooms.username rooms.realm rooms.nonce

    short_sends : {rows : List Request} → Each Ided rows → Each Short (sends_of client.credentials rows)
    short_sends no_rows = no_rows
    short_sends (row {r = r} h rest) = row (short r.asked r.id r.under (omega (arith, h.id))) (short_sends rest)

    pub short_kinds : (lent : List ℕ) (ks : List Kind) → Each Short (packets_of c lent ks)
    short_kinds lent [] = no_rows
    short_kinds lent (k ∷ ks) =
        each_snoc (encode c (message_at lent (length ks) k)) (short_kinds lent ks) (kind_short client.credentials rooms.username rooms.realm rooms.nonce k (id_at lent (length ks)) (id_at lent (length ks)) (id_short lent (length ks)))

    pub never_long : (rows : List Request) (lent : List ℕ) (ks : List Kind) → Each Ided rows
        → above 65535 (body_lengths (map (encode c) (map (λ r. (txn_in r).msg) rows) ++ packets_of c lent ks)) ≡ false
    never_long rows lent ks h =
        let sent : Each Short (map (encode c) (map (λ r. (txn_in r).msg) rows)) = rw (again_packets rows) (short_sends h) in
        not_above (each_append sent (short_kinds lent ks))

-- the ids that are drawn are the first ones lent
drawn_from : (lent : List ℕ) (l : List Asked) (ks : List Kind) → drawn lent (reverse_aux (map kind_in l) ks) ≡ drawn lent ks ++ ids_from lent (length ks) (length l)
drawn_from lent [] ks = sym (append-nil (drawn lent ks))
drawn_from lent (a ∷ l) ks = drawn_from lent l (kind_in a ∷ ks) ∙ append_snoc (drawn lent ks) (id_at lent (length ks)) (ids_from lent (suc (length ks)) (length l))

pub drawn_ids : (lent : List ℕ) (l : List Asked) → drawn lent (reverse (map kind_in l)) ≡ ids_from lent 0 (length l)
drawn_ids lent l = drawn_from lent l []
