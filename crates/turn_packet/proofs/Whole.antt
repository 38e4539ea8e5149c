-- The steps of a message put together: a kind's attributes, the credentials behind them, the seal around both; and what is answered
-- where the packet fits and where it does not.
use Rattle.std.specs.Prelude.{Ok, Err}
use Rattle.stun_frame.specs.declared.Unwritten.TheVariants.{NoRoom}
use mathlib.Core.Path.{◌≡◌, sym, ap, ap₂, ◌∙◌}
use mathlib.Core.Bool.{true, cond}
use mathlib.Core.List.{List, ◌++◌}
use Prim.Native.Nat.{ℕ, ◌+◌, ◌-◌, ◌≤◌, ◌<◌}
use native.Mathlib.Omega.{arith}
use lib.ListN.{length, take, drop}
use lib.Dec.{leb}
use borrow.Author.Tests.{le-leb, lt-leb}
use Rattle.stun_frame.specs.Source.{room_after, Written}
use Rattle.stun_write.specs.Source.{attributes, key_of, encoded, sealed_size, fitted}
use Rattle.turn_state.specs.declared.Kind.{Kind}
use Rattle.turn_state.specs.declared.Asked.{Asked}
use Rattle.turn_state.specs.declared.Credentials.{Credentials}
use Rattle.turn_state.specs.View.{kind_in, type_of, attrs_of}
use Rattle.turn_packet.specs.Source.{auth_of, packet_of, own_size, auth_size, packet_size}
use Rattle.turn_packet.proofs.Laws.{body_of, packet_is, length_own, length-body, packet_bound}
use Rattle.turn_packet.proofs.Places.{Put, put_eq, then, sealed}
use Rattle.turn_packet.proofs.Rooms.{Rooms}

size_is : (c : Credentials) (a : Asked) → sealed_size (own_size (kind_in a) + auth_size c) c.has_key true ≡ packet_size c a
unfolding packet_size
size_is c a = omega arith

pub message_put : (c : Credentials) (a : Asked) (id under out o₁ o₂ after : List ℕ) (kind : Kind) (typ b e : ℕ) (r : Written)
    → Rooms c → length under ≡ 12 → packet_size c a ≤ length out → kind ≡ kind_in a → typ ≡ type_of kind
    → Put out 20 (attributes (attrs_of kind under)) (own_size kind) b o₁ → Put o₁ b (attributes (auth_of c)) (auth_size c) e o₂
    → (r ≡ fitted (sealed_size (e - 20) c.has_key true) (length o₂))
    × (after ≡ room_after r (encoded typ id (take (e - 20) (drop 20 o₂)) (key_of c.has_key c.key) true) o₂)
    → (r ≡ Ok (packet_size c a)) × (after ≡ packet_of c a id under ++ drop (packet_size c a) out)
message_put c a id under out o₁ o₂ after kind typ b e r g lu w ek et p q s =
    let n : ℕ = own_size (kind_in a) + auth_size c in
    let z : sealed_size n c.has_key true ≡ packet_size c a = size_is c a in
    let h : 20 ≤ length out = omega arith in
    let p' : Put out 20 (attributes (attrs_of (kind_in a) under)) (own_size (kind_in a)) b o₁ =
    put_eq out o₁ 20 b (ap (λ (k : Kind). attributes (attrs_of k under)) ek) (ap own_size ek) p in
    let u : Put out 20 (body_of c a under) n e o₂ =
    then out (attributes (attrs_of (kind_in a) under)) 20 (own_size (kind_in a)) (length_own (kind_in a) under lu) h o₁ o₂
    (attributes (auth_of c)) (auth_size c) b e p' q in
    let f =
    sealed out o₂ after (body_of c a under) id c.key n e typ c.has_key r
    (length-body c g.username g.realm g.nonce a under lu) u.0 (omega arith) (omega (arith, packet_bound c a)) u.1 s in (
      f.0 ∙ ap (λ (k : ℕ). Ok k) z,
      f.1 ∙ ap₂ (λ (l : List ℕ) (k : ℕ). l ++ drop k out)
          (ap (λ (t : ℕ). encoded t id (body_of c a under) (key_of c.has_key c.key) true) (et ∙ ap type_of ek) ∙ sym (packet_is c a id under)) z,
    )

-- the answers
pub refused : (n room : ℕ) → room < n → (Err NoRoom) ≡ cond (leb n room) (Ok n) (Err NoRoom)
refused n room h = rw (lt-leb n room h)

pub answered : (at size k room : ℕ) → size ≡ k → at + 3 + k ≤ room → Ok (at + 3 + size) ≡ cond (leb (at + 3 + k) room) (Ok (at + 3 + k)) (Err NoRoom)
answered at size k room e h = rw (le-leb (at + 3 + k) room h) (ap (λ (n : ℕ). Ok (at + 3 + n)) e)
