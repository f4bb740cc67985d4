-- `add_chunk` meets its contract: the entries of the hash are gathered, and what is kept of them is what the list gives. Assumes nothing.
use Rattle.std.proofs.Common.{arith}
use Rattle.lists.specs.Parts.{length_part}
use Rattle.walk.specs.Wanted.{name_of}
use Rattle.walk.proofs.Damage.{is_damage}
use Rattle.leaf_hits.proofs.Candidates.{chunk_damaged, chunk_held, chunk_kept}
use Rattle.leaf_hits.proofs.add_chunk.Goals as goal

pub keep_named-requires : goal.keep_named-requires
keep_named-requires c =
    let a = c.args in
    let gathered = rw c.owners_at-owners_at.ensures at c.in_ok-end.ensures in
    record {
      within = c.requires.within;
      numbers_enough = c.requires.numbers_enough;
      text_size = c.requires.text_size;
      few = omega (arith, gathered.count, gathered.few);
      room = omega (arith, c.requires.room);
      held =
          chunk_held a.shape a.counts a.lists.numbers.now a.lists.hashes.now a.lists.text.now a.label.hash (name_of a.label) _ a.before a.found.now
          _ _ (omega (arith, c.requires.few, c.requires.room)) gathered;
    }

pub returns-in_err-end : goal.returns-in_err-end
returns-in_err-end c =
    let a = c.args in
    rw (is_damage c.from_residual.result c.from_residual.ensures.0)
    (chunk_damaged a.shape a.counts a.lists.numbers.now a.lists.hashes.now a.lists.text.now a.label.hash (name_of a.label) _ a.before a.found.now
    (omega (arith, c.requires.few, length_part a.block.start a.block.count a.lists.numbers.now c.requires.block))
    (rw c.owners_at-owners_at.ensures at c.in_err-end.ensures))

pub returns : goal.returns
returns c =
    let a = c.args in
    chunk_kept a.shape a.counts a.lists.numbers.now a.lists.hashes.now a.lists.text.now a.label.hash (name_of a.label) _ a.before a.found.now
    _ _ (omega (arith, c.requires.few, c.requires.room)) (rw c.owners_at-owners_at.ensures at c.in_ok-end.ensures) _ c.keep_named.result c.keep_named.ensures
