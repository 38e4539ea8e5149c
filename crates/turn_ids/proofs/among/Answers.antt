-- `turn_ids::among` meets its contract: `any` over the range.
use Rattle.std.proofs.Common.{rules, tests, ◌-◌, ◌∙◌, refl}
use Rattle.std.proofs.lemmas.Iterator.{YieldsList-from_range}
use Rattle.std.proofs.lemmas.Iterator.Search.{any_from_yields_List}
use Rattle.stun_check.specs.Source.{same}
use Rattle.turn_tables.proofs.Search.{same_id}
use Rattle.turn_ids.specs.Ids.{lent_id}
use Rattle.turn_ids.proofs.Clashing.{any_from}
use Rattle.turn_ids.proofs.among.Goals as goal

pub returns : goal.returns
returns c =
    let a = c.args in
    any_from_yields_List (λ j. same (lent_id a.ids.now j) a.id) _ _ c.any.result c.any.ensures.ran (YieldsList-from_range a.from a.n (a.n - a.from) refl refl) (λ x b q k. (search rules, search (rules, tests, same_id)))
    ∙ any_from a.ids.now a.id a.from a.n c.requires
