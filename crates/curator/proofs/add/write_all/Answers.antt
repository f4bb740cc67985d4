-- The part from the place on is filled.
use Rattle.std.proofs.Common.{rules, ◌≡◌, ◌+◌, replicate, arith, ◌∙◌, ap}
use Rattle.std.proofs.lemmas.List.Edits.{sets}
use Rattle.lists.specs.Parts.{lent-part}
use Rattle.curator.proofs.add.write_all.Goals as goal

pub returns : goal.returns
returns c =
    let a = c.args in
    let written : c.fill.new.self ≡ replicate a.count a.number = search rules in
    lent-part a.numbers.now a.place (a.place + a.count) c.fill.new.self (omega arith) (omega arith) (omega (arith, c.fill.ensures.len)) ∙ ap (sets a.numbers.now a.place) written
