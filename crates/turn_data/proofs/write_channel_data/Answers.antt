-- `turn_data::write_channel_data` meets its contract: too long, no room at all, too little of it, and the message behind its head.
use mathlib.Core.Path.{refl}
use Prim.Native.Nat.{◌+◌, ◌≤◌}
use native.Mathlib.Omega.{arith}
use lib.ListN.{length, length-set}
use Rattle.stun_frame.specs.Source.{encode_channel_data}
use Rattle.turn_packet.proofs.Places.{packet_put, never}
use Rattle.turn_data.specs.Data.{frame_size}
use Rattle.turn_data.proofs.Laws.{frame_length}
use Rattle.turn_data.proofs.Seals.{answer_long, answer_narrow, answer_bytes, frame_put, rest_room}
use Rattle.turn_data.proofs.write_channel_data.Goals as goal

pub returns-then-len-gt2048 : goal.returns-then-len-gt2048
returns-then-len-gt2048 c =
    (answer_long (length c.args.«data».now) _ (omega arith), refl)

pub returns-then-out-at : goal.returns-then-out-at
returns-then-out-at c =
    let n = length c.args.«data».now in
    (answer_narrow n c.args.at (frame_size n) (length c.args.out.now) (omega arith) (omega arith), refl)

pub returns-then-out-at-2 : goal.returns-then-out-at-2
returns-then-out-at-2 c =
    let n = length c.args.«data».now in
    (answer_narrow n c.args.at (frame_size n) (length c.args.out.now) (omega arith) (omega arith), refl)

pub returns-in_err-encode_channel_data : goal.returns-in_err-encode_channel_data
returns-in_err-encode_channel_data c =
    let a = c.args in
    let n = length a.«data».now in
    let w : a.at + 3 + frame_size n ≤ length a.out.now = omega arith in
    absurd (never (frame_put a.number a.«data».now _ c.encode_channel_data.new.out c.encode_channel_data.result (omega arith) (rest_room a.out.now (a.at + 3) (frame_size n) w) c.encode_channel_data.ensures).0 c.in_err-encode_channel_data.was)

pub bounds-out-at-2 : goal.bounds-out-at-2
bounds-out-at-2 c = simp length-set (omega arith)

pub bounds-out-at-3 : goal.bounds-out-at-3
bounds-out-at-3 c = simp length-set (omega arith)

pub returns : goal.returns
returns c =
    let a = c.args in
    let n = length a.«data».now in
    let w : a.at + 3 + frame_size n ≤ length a.out.now = omega arith in (
      answer_bytes n a.at (frame_size n) (frame_size n) (length a.out.now) (omega arith) refl (omega arith),
      packet_put a.out.now c.encode_channel_data.new.out (encode_channel_data a.number a.«data».now) a.at (frame_size n) (frame_size n) refl w
          (frame_length a.number a.«data».now)
          (frame_put a.number a.«data».now _ c.encode_channel_data.new.out c.encode_channel_data.result (omega arith)
          (rest_room a.out.now (a.at + 3) (frame_size n) w) c.encode_channel_data.ensures).1,
    )
