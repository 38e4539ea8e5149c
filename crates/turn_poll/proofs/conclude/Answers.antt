-- `turn_poll::conclude` meets its contract: refused for its number, or written and answered.
use Rattle.std.specs.Prelude.{Result, Err, is_err}
use mathlib.Core.Path.{◌≡◌, refl, sym, ap, ◌∙◌}
use mathlib.Core.Bool.{true, false}
use Prim.Native.Nat.{◌+◌}
use Rattle.std.proofs.Common.{rules}
use lib.ListN.{length}
use Rattle.turn_state.specs.Number.{given_of, number_of}
use Rattle.turn_state.specs.declared.Refusal.{Refusal}
use Rattle.turn_state.specs.declared.Requests.{Requests}
use Rattle.turn_state.proofs.Answering.{refused_meets}
use Rattle.turn_packet.proofs.Rooms.{rooms}
use Rattle.turn_ids.proofs.Verdicts.{passed}
use Rattle.turn_frames.proofs.Laws.{ided}
use Rattle.turn_poll.proofs.Deciding.{meets, decided_by, refuses, accepted}
use Rattle.turn_poll.proofs.conclude.Goals as goal

pub returns-in_err-verdict : goal.returns-in_err-verdict
returns-in_err-verdict c =
    λ run td f.
    let a = c.args in
    let lent = a.ids.now in
    let house = rooms a.client.credentials _ c.well_formed.0.1.1.1.0 in
    let known = ided a.draft.sends _ c.well_formed.1.0.1.1.1.1.1.0 in
    let rows : length a.draft.asks.rows ≡ 65 = search rules in
    let refusal = c.in_err-verdict.field-0.0 in
    let took = rw (c.first_next-next.ensures.of_a_call c.requires.2) at c.take_all-taken.ensures in
    let e : c.from_residual.result ≡ Err refusal = search rules in
    rw e
    (refused_meets a.client (given_of a.now lent (length a.out.now)) run a.out.now (number_of refusal) (refuses refusal)
    (decided_by a.client a.draft a.now lent a.out.now run f c.requires.2 house known rows c.requires.1 c.is_err-full.result
    (meets a.client a.draft a.now lent a.out.now run f c.requires.2 house known rows c.requires.1 c.take_all-taken.result took ∙ sym c.is_err-full.ensures.value)
    (c.sends_size-first.result + c.asks_size.result) (number_of refusal) (rw (c.sends_size-first.ensures.0, c.asks_size.ensures.0)) c.in_err-verdict.ensures))

-- after the verdict no table was met full
pub returns-in_default : goal.returns-in_default
returns-in_default c =
    let a = c.args in
    let ok = passed c.is_err-full.result _ a.ids.now a.draft.asks.len (c.sends_size-first.result + c.asks_size.result) (length a.out.now) (sym c.in_ok-verdict.ensures) in
    let free : is_err c.take_all-taken.result ≡ false = sym c.is_err-full.ensures.value ∙ ok.free in
    let met : is_err c.take_all-taken.result ≡ true = ap (λ (r : Result Requests Refusal). is_err r) c.in_default.is in
    let none : ⊥ = cc in
    absurd none

pub returns : goal.returns
returns c =
    λ run td f.
    let a = c.args in
    let lent = a.ids.now in
    let house = rooms a.client.credentials _ c.well_formed.0.1.1.1.0 in
    let known = ided a.draft.sends _ c.well_formed.1.0.1.1.1.1.1.0 in
    let rows : length a.draft.asks.rows ≡ 65 = search rules in
    let sends-rows : length a.draft.sends.rows ≡ 64 = search rules in
    let all = rw (c.first_next-next.ensures.of_a_call c.requires.2) at c.take_all-taken.ensures in
    let took = rw c.in-Ok.is at all in
    let first = c.sends_size-first in
    let rest = c.asks_size in
    let decided = c.in_ok-verdict.ensures in
    let ok = passed c.is_err-full.result _ lent a.draft.asks.len (first.result + rest.result) (length a.out.now) (sym decided) in
    accepted a.client a.draft a.now lent a.out.now run f c.requires.2 house known rows c.requires.1 c.in-Ok.requests _ _ first.result rest.result
    c.write_sends.result c.write_asks.result c.write_sends.new.out c.write_asks.new.out _ c.unwrap_or.ensures c.is_some.ensures took ok.lent_enough
    (decided_by a.client a.draft a.now lent a.out.now run f c.requires.2 house known rows c.requires.1 c.is_err-full.result
    (meets a.client a.draft a.now lent a.out.now run f c.requires.2 house known rows c.requires.1 c.take_all-taken.result all ∙ sym c.is_err-full.ensures.value)
    (first.result + rest.result) 0 (rw (first.ensures.0, rest.ensures.0)) decided)
    sends-rows c.requires.0 td first.ensures.0 rest.ensures.0 ok.fits
    (c.write_sends.ensures.0 ∙ rw first.ensures.0) c.write_sends.ensures.1 (c.write_asks.ensures.0 ∙ rw (first.ensures.0, rest.ensures.0)) c.write_asks.ensures.1 c.timed_out.ensures
