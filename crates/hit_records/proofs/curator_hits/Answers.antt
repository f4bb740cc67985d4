use Rattle.std.proofs.Common.{List, ap, ◌∙◌, set, arith}
use Rattle.hit_records.specs.declared.Hit.{Hit}
use Rattle.hit_records.specs.Hits.{hit_record_at}
use Rattle.hit_records.proofs.HitsLaws.{so_far_more}
use Rattle.hit_records.proofs.curator_hits.Goals as goal

pub loop-i-preserved : goal.loop-i-preserved
loop-i-preserved c =
    let a = c.args in
    let i = c.loop-i.i in
    ap (λ (hits : List Hit). set hits i (hit_record_at a.ids.now a.distances.now i)) c.loop-i.invariant
    ∙ so_far_more a.hits.now a.ids.now a.distances.now i (record { in_hits = omega arith; in_ids = omega arith; in_distances = omega arith })
