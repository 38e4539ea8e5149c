-- `digest::spelled` meets its contract.
use Rattle.std.proofs.Common.{◌≡◌, ◌*◌, ◌/◌, length, take, ap, ◌∙◌, rules, arith}
use native.Mathlib.Nat.{sub-zero}
use mathlib.Core.List.{flat_map}
use Rattle.std.proofs.lemmas.List.{take_min}
use Rattle.digest.specs.Bytes.{bytes, ordered}
use Rattle.digest.proofs.Output.{none, more, behind, all}
use Rattle.digest.proofs.spelled.Goals as goal

pub loop-i-init : goal.loop-i-init
loop-i-init g c = (none _, rw sub-zero)

pub loop-i-preserved : goal.loop-i-preserved
loop-i-preserved g c =
    let l = c.loop-i in (
      more (bytes (ordered c.args.big) 4) c.args.words l.places c.copy_from_slice.new.self l.i _ (search rules) (search rules) (search rules)
          (c.copy_from_slice.ensures.after ∙ c.word_bytes.ensures) l.invariant.0,
      behind g.row.LEN l.places c.copy_from_slice.new.self l.i _ (search rules) (search rules) (omega arith) l.invariant.1,
    )

pub returns : goal.returns
returns g c =
    let l = c.loop-i in
    let n : length c.args.words ≡ g.row.N = search rules in
    let m : length l.places ≡ g.row.LEN = search rules in
    let same : take l.i c.args.words ≡ take (g.row.LEN / 4) c.args.words =
    ap (λ i. take i c.args.words) (omega arith) ∙ take_min (g.row.LEN / 4) c.args.words in
    all g.row.LEN (4 * l.i) l.places _ m (omega arith) (l.invariant.0 ∙ ap (flat_map (bytes (ordered c.args.big) 4)) same) l.invariant.1
