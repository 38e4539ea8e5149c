-- `listing::Line::held` meets its contract: each line's words, one after the other.
use mathlib.Core.Path.{sym, subst}
use mathlib.Core.List.{[], ◌∷◌}
use native.Mathlib.Omega.{arith}
use Rattle.listing.specs.declared.Line.{Line}
use Rattle.listing.specs.Listing.{decimal, name, first_text, call_text, refused_text, text}
use Rattle.listing.specs.Held.{Holds, Adds}
use Rattle.listing.proofs.Texts.{adds_word, holds}
use Rattle.listing.proofs.Line.held.Goals as goal

pub returns-in-First : goal.returns-in-First
unfolding decimal
returns-in-First c =
    let written : Adds (116 ∷ 117 ∷ 114 ∷ 110 ∷ 45 ∷ 114 ∷ 101 ∷ 112 ∷ 108 ∷ 97 ∷ 121 ∷ 32 ∷ 49 ∷ 10 ∷ []) c.empty.result c.put.result = c.put.ensures in
    subst (λ (l : Line). Holds (text l) c.put.result) (sym c.in-First.is) (holds first_text c.empty.ensures.0 written (omega (arith, written.long)))

pub returns-in-Called : goal.returns-in-Called
returns-in-Called c =
    let a = c.in-Called in
    subst (λ (l : Line). Holds (text l) c.put_deadline.result) (sym a.is)
    (holds
    (call_text a.number a.call a.refusal a.events a.packets a.bytes a.deadline)
    c.empty-in-Called.ensures.0
    (adds_word (decimal a.number) _ c.put_number-a.ensures.0
    (adds_word (name a.call) _ c.put_name-b.ensures.0
    (adds_word (decimal a.refusal) _ (rw c.from.ensures at c.put_number-c.ensures.0)
    (adds_word (decimal a.events) _ c.put_number-d.ensures.0
    (adds_word (decimal a.packets) _ c.put_number-e.ensures.0
    (adds_word (decimal a.bytes) _ c.put_number-f.ensures.0 c.put_deadline.ensures.0))))))
    c.put_deadline.ensures.1)

pub returns-in-Refused : goal.returns-in-Refused
unfolding decimal
returns-in-Refused c =
    let a = c.in-Refused.number in
    let rest : Adds (48 ∷ 32 ∷ 48 ∷ 32 ∷ 48 ∷ 32 ∷ 45 ∷ 10 ∷ []) c.put_number-b.result c.put-in-Refused.result = c.put-in-Refused.ensures in
    subst (λ (l : Line). Holds (text l) c.put-in-Refused.result) (sym c.in-Refused.is)
    (holds
    (refused_text a)
    c.empty-in-Refused.ensures.0
    (adds_word (48 ∷ 32 ∷ 111 ∷ 112 ∷ 101 ∷ 110 ∷ []) _ c.put-a-in-Refused.ensures (adds_word (decimal a) _ (rw c.from-in-Refused.ensures at c.put_number-b.ensures.0) rest))
    (omega (arith, rest.long, c.put_number-b.ensures.1, c.put-a-in-Refused.ensures.long, c.empty-in-Refused.ensures.1)))
