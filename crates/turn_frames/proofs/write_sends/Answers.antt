-- `turn_frames::write_sends` meets its contract. Invariant (`Running`): the packets of the first i rows stand behind `at`.
use mathlib.Core.Path.{◌≡◌, refl, ap, ◌∙◌}
use mathlib.Core.List.{List, [], ◌∷◌}
use Prim.Native.Nat.{ℕ, ◌+◌, ◌<◌}
use native.Mathlib.Omega.{arith}
use lib.ListN.{length, get_or, take}
use Rattle.turn_state.specs.Number.{framed}
use Rattle.turn_packet.specs.Source.{packet_of, packet_size}
use Rattle.turn_packet.proofs.Places.{Put}
use Rattle.turn_state.specs.declared.Credentials.{Credentials}
use Rattle.turn_state.specs.declared.Request.{Request}
use Rattle.turn_packet.proofs.Rooms.{rooms}
use Rattle.turn_packet.proofs.Places.{never}
use Rattle.turn_packet.proofs.Whole.{refused}
use Rattle.turn_frames.specs.Frames.{again, sends_size}
use Rattle.turn_frames.proofs.Laws.{ided, each_take, length_sends}
use Rattle.turn_frames.proofs.Steps.{numbered_map, running_start, running_written, running_put, running_more, running_length, running_end}
use Rattle.turn_frames.proofs.write_sends.Goals.{then-out-at-via-then-out-at, then-out-at-via-else-out-at+then-out-at-2}
use Rattle.turn_frames.proofs.write_sends.Goals as goal

pub returns-then-out-at : goal.returns-then-out-at
returns-then-out-at c =
    let a = c.args in
    let narrow : length a.out.now < a.at + sends_size a.c (take a.t.len a.t.rows) = elim c.then-out-at.branch [
      | then-out-at-via-then-out-at w ↦ omega arith
      | then-out-at-via-else-out-at+then-out-at-2 w ↦ omega (arith, c.sends_size-size.ensures.0)
    ] in
    (refused (a.at + sends_size a.c (take a.t.len a.t.rows)) (length a.out.now) narrow, refl)

pub loop-i-init : goal.loop-i-init
loop-i-init c =
    let a = c.args in
    let full : length a.t.rows ≡ 64 = c.well_formed.1.1.1.0.1.1.0.1.0.1 in
    let g = rooms a.c _ c.well_formed.1.1.0 in
    running_start (λ k r. again a.c r) (λ r. packet_size a.c r.asked) a.t.rows a.t.len 64 c.min-n.result c.sends_size-size.result a.out.now a.at full
    c.min-n.ensures c.sends_size-size.ensures.0 (omega arith)
    (λ k. ap (λ (x : List (List ℕ)). length (framed x)) (numbered_map (again a.c) 0 (take k a.t.rows))
    ∙ length_sends a.c g (each_take k (ided a.t _ c.well_formed.1.1.1.0)))

pub returns-in_err-place : goal.returns-in_err-place
returns-in_err-place c = absurd (never (running_written c.loop-i.invariant _ (omega (arith, c)) c.write_packet.ensures.0) c.in_err-place.was)

-- a request goes out again under its own two ids
sent_again : (c : Credentials) (r : Request) (out : List ℕ) (at : ℕ) {id under after : List ℕ} {next : ℕ}
    → Put out at (framed (packet_of c r.asked id under ∷ [])) (3 + packet_size c r.asked) next after → id ≡ r.id → under ≡ r.under
    → Put out at (framed (again c r ∷ [])) (3 + packet_size c r.asked) next after
sent_again c r out at p e f = rw (← e, ← f) p

pub loop-i-preserved : goal.loop-i-preserved
loop-i-preserved c =
    let k = c.write_packet in
    running_more c.loop-i.invariant _ (omega (arith, c)) k.new.out c.in_ok-place.place (sent_again c.args.c (get_or c.args.t.rows c.loop-i.i _) c.loop-i.out c.loop-i.place (running_put c.loop-i.invariant _ (omega (arith, c)) _ k.ensures c.in_ok-place.was) refl refl)

pub returns : goal.returns
returns c =
    let a = c.args in
    running_end c.loop-i.invariant _ _ (omega arith) (numbered_map (again a.c) 0 (take a.t.len a.t.rows)) c.sends_size-size.ensures.0

pub shape_of-out : goal.shape_of-out
shape_of-out c = running_length c.loop-i.invariant
