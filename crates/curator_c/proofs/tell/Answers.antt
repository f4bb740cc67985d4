-- The three values have room where there are any; the stores one after the other are `sets`.
use Rattle.std.proofs.Common.{ℕ, [], ◌∷◌, sym, ap, ◌∙◌}
use Rattle.std.proofs.lemmas.List.Edits.{sets}
use Rattle.std.specs.Prelude.{Result}
use Rattle.settings.specs.declared.refusal.Refusal.{Refusal}
use Rattle.walk.specs.declared.Searched.{Searched}
use Rattle.curator.specs.Outcome.{found_number, found_values}
use Rattle.curator_c.proofs.Laws.{flag_is}
use Rattle.curator_c.proofs.tell.Goals as goal

pub returns-in-Ok : goal.returns-in-Ok
returns-in-Ok c =
    let list = c.args.answer.now in
    let v = c.in-Ok.searched in
    record {
      value = ap found_number (sym c.in-Ok.is);
      answer_after = ap (λ (x : ℕ). sets list 0 (v.hits ∷ v.opened ∷ x ∷ [])) (flag_is _ _ c.from.ensures) ∙ ap (λ (f : Result Searched Refusal). sets list 0 (found_values f)) (sym c.in-Ok.is);
    }
