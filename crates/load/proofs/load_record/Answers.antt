-- The record is carried out, and what came of it is written; its hits stand in the answer lists, and the index stays narrow.
use Rattle.std.proofs.Common.{sym, subst}
use Rattle.load.specs.Code.{lists, NarrowStep}
use Rattle.load.specs.StepLaws.{carries-fit, narrow_step}
use Rattle.load.proofs.load_record.Goals as goal

pub write_carried-printed-requires-clause-hits_fit : goal.write_carried-printed-requires-clause-hits_fit
write_carried-printed-requires-clause-hits_fit c =
    let a = c.args in
    let n = c.carry-carried.new in
    (carries-fit a.file.now a.at a.loading
    (lists a.floats.now a.numbers.now a.hashes.now a.labels.now a.work.now a.ids.now a.distances.now)
    c.carry-carried.result
    (lists n.floats n.numbers n.hashes n.labels n.work n.ids n.distances)
    c.requires.narrow_2
    c.carry-carried.ensures).hits

pub returns-clause-narrow : goal.returns-clause-narrow
returns-clause-narrow c =
    let a = c.args in
    let n = c.carry-carried.new in
    let left = lists n.floats n.numbers n.hashes n.labels n.work n.ids n.distances in
    subst NarrowStep (sym c.step_of.ensures)
    (narrow_step c.carry-carried.result left c.write_carried-printed.result
    (carries-fit a.file.now a.at a.loading
    (lists a.floats.now a.numbers.now a.hashes.now a.labels.now a.work.now a.ids.now a.distances.now)
    c.carry-carried.result
    left
    c.requires.narrow_2
    c.carry-carried.ensures))
