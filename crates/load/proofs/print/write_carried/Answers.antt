-- Nothing is printed but of a refusal and of an answer: its hits, then its closing line.
use Rattle.std.proofs.Common.{sym, ap, subst, arith}
use Rattle.text.specs.Lines.{refused_line}
use Rattle.text.specs.LinesLaws.{written_then, length_line, hits_le}
use Rattle.load.specs.declared.carry.Carried.{Carried}
use Rattle.load.specs.File.{refused_text}
use Rattle.load.specs.Step.{carried_text}
use Rattle.load.specs.Code.{HitsFit}
use Rattle.load.proofs.Laws.{written-text}
use Rattle.load.proofs.print.write_carried.Goals as goal

pub write_closing-requires : goal.write_closing-requires
write_closing-requires c =
    let f = subst (λ (x : Carried). HitsFit x c.args.ids.now c.args.distances.now) c.in-Answered.is c.requires.hits_fit in
    let w = c.write_hits-end.ensures in
    let few = hits_le c.args.ids.now c.args.distances.now (λ i. omega (arith, c.type_inv.ids i)) c.in-Answered.count in
    omega (arith, f.0, c.requires.ids_in_bounds, w.end, length_line w, few)

pub returns-in-Refused : goal.returns-in-Refused
unfolding refused_text
returns-in-Refused c =
    written-text (ap (λ (x : Carried). carried_text x c.args.ids.now c.args.distances.now) (sym c.in-Refused.is))
    (written-text (ap refused_line c.number.ensures) c.write_refused.ensures)

pub returns-in-Answered : goal.returns-in-Answered
returns-in-Answered c =
    written-text (ap (λ (x : Carried). carried_text x c.args.ids.now c.args.distances.now) (sym c.in-Answered.is))
    (written_then c.write_hits-end.ensures c.write_closing.ensures)
