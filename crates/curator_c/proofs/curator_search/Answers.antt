-- By what the list holds: nothing, or a state, in which the search asks for k hits, or for too many where the answer list is short.
use Rattle.std.proofs.Common.{refl, sym, ◌∙◌}
use Rattle.search.specs.Lent.{unfiltered}
use Rattle.curator_c.specs.ResultLaws.{values-fit}
use Rattle.curator_c.proofs.Laws.{search-nothing, search-held, asked}
use Rattle.curator_c.proofs.curator_search.Goals as goal

pub tell-requires : goal.tell-requires
tell-requires c =
    let a = c.args in
    let answer = a.answer.now in
    let call = unfiltered a.query a.k a.ids.now a.distances.now in
    values-fit _ _ _ answer call _ c.search.result refl (asked _ _ _ answer call _ _ c.hits_asked-hits.ensures c.search.ensures)

pub returns-in-None : goal.returns-in-None
returns-in-None c =
    let a = c.args in
    let call = unfiltered a.query a.k a.ids.now a.distances.now in
    search-nothing _ _ _ call _ (sym c.state_in.ensures ∙ c.in-None.is)

pub returns-in-Some : goal.returns-in-Some
returns-in-Some c =
    let a = c.args in
    let answer = a.answer.now in
    let call = unfiltered a.query a.k a.ids.now a.distances.now in
    search-held _ _ _ _ call answer c.search.result _ _ _ _ _ (sym c.state_in.ensures ∙ c.in-Some.is)
    (asked _ _ _ answer call _ _ c.hits_asked-hits.ensures c.search.ensures)
    c.tell.ensures.value
    c.tell.ensures.answer_after
