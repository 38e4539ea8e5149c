-- A packet behind others in the output: what the writer adds is what one more packet adds to `framed`, and how many bytes that is.
use mathlib.Core.Path.{◌≡◌, refl, sym, ap, ◌∙◌}
use mathlib.Core.List.{List, [], ◌∷◌, ◌++◌, append_assoc, append-nil}
use Prim.Native.Nat.{ℕ, ◌+◌}
use native.Mathlib.Omega.{arith}
use lib.ListN.{length}
use Rattle.stun_frame.specs.Source.{to_be}
use Rattle.turn_state.specs.declared.Asked.{Asked}
use Rattle.turn_state.specs.declared.Credentials.{Credentials}
use Rattle.turn_state.specs.Number.{framed}
use Rattle.turn_packet.specs.Source.{packet_of, packet_size}
use Rattle.turn_packet.proofs.Laws.{packet_length}
use Rattle.turn_packet.proofs.Rooms.{Rooms}

pub framed_append : (ps qs : List (List ℕ)) → framed (ps ++ qs) ≡ framed ps ++ framed qs
framed_append [] qs = refl
framed_append (p ∷ ps) qs =
    let h : List ℕ = 0x01 ∷ to_be (length p) ++ p in
    ap (λ (l : List ℕ). h ++ l) (framed_append ps qs) ∙ sym (append_assoc h (framed ps) (framed qs))

pub framed_length : (p : List ℕ) → length (framed (p ∷ [])) ≡ 3 + length p
framed_length p = ap length (append-nil (0x01 ∷ to_be (length p) ++ p)) ∙ omega arith

pub framed_packet_length : (c : Credentials) (a : Asked) (id under : List ℕ) → Rooms c → length id ≡ 12 → length under ≡ 12
    → length (framed (packet_of c a id under ∷ [])) ≡ 3 + packet_size c a
framed_packet_length c a id under g i u =
    framed_length (packet_of c a id under) ∙ ap (λ (n : ℕ). 3 + n) (packet_length c g.username g.realm g.nonce a id under i u)
