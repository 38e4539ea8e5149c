-- `turn_data::write_indication` meets its contract: too long, no room at all, too little of it, and the indication behind its head.
use mathlib.Core.Path.{◌≡◌, refl, sym, ◌∙◌}
use Prim.Native.Nat.{◌+◌, ◌≤◌}
use native.Mathlib.Omega.{arith}
use lib.ListN.{length, length-set}
use Rattle.turn_packet.proofs.Places.{packet_put, never}
use Rattle.turn_data.specs.Data.{indication_of, indication_size}
use Rattle.turn_data.proofs.Laws.{indication_length}
use Rattle.turn_data.proofs.Seals.{answer_long, answer_narrow, answer_bytes, size_within, rest_room}
use Rattle.turn_data.proofs.write_indication.Goals as goal

pub returns-then-n-gt2048 : goal.returns-then-n-gt2048
returns-then-n-gt2048 c =
    (answer_long (length c.args.«data».now) _ (omega arith), refl)

pub returns-then-out-at : goal.returns-then-out-at
returns-then-out-at c =
    let n = length c.args.«data».now in
    (answer_narrow n c.args.at (indication_size c.args.peer n) (length c.args.out.now) (omega arith) (omega arith), refl)

pub returns-then-out-at-2 : goal.returns-then-out-at-2
returns-then-out-at-2 c =
    let n = length c.args.«data».now in
    let k = indication_size c.args.peer n in
    let is : c.indication_size-size.result ≡ k = size_within n k _ (omega arith) c.indication_size-size.ensures.0 in
    (answer_narrow n c.args.at k (length c.args.out.now) (omega arith) (omega arith), refl)

pub indication-requires : goal.indication-requires
indication-requires c =
    let n = length c.args.«data».now in
    let k = indication_size c.args.peer n in
    let is : c.indication_size-size.result ≡ k = size_within n k _ (omega arith) c.indication_size-size.ensures.0 in
    (omega arith, rest_room c.args.out.now (c.args.at + 3) k (omega arith))

pub returns-in_err-indication : goal.returns-in_err-indication
returns-in_err-indication c = absurd (never c.indication.ensures.0 c.in_err-indication.was)

pub bounds-out-at-2 : goal.bounds-out-at-2
bounds-out-at-2 c = simp length-set (omega arith)

pub bounds-out-at-3 : goal.bounds-out-at-3
bounds-out-at-3 c = simp length-set (omega arith)

pub returns : goal.returns
returns c =
    let a = c.args in
    let n = length a.«data».now in
    let k = indication_size a.peer n in
    let size = c.indication_size-size.result in
    let is : size ≡ k = size_within n k size (omega arith) c.indication_size-size.ensures.0 in
    let w : a.at + 3 + size ≤ length a.out.now = omega arith in
    let l = indication_length a.peer a.id a.«data».now (omega (arith, c.well_formed)) in (
      answer_bytes n a.at size k (length a.out.now) (omega arith) is (omega arith),
      packet_put a.out.now c.indication.new.out (indication_of a.peer a.id a.«data».now) a.at size k is w (l ∙ sym is) c.indication.ensures.1,
    )
