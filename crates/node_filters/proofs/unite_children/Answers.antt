use mathlib.Core.Path.{refl}
use Rattle.node_filters.proofs.Filtering.{united-none, united-first, united-four, united-next}
use Rattle.node_filters.proofs.unite_children.Goals as goal

pub loop-child-init : goal.loop-child-init
loop-child-init c =
    let args = c.args in (
      united-none args.hashes.now args.filters args.at args.children.now,
      united-first args.hashes.now args.filters args.at args.children.now c.requires.at_bound,
    )

pub loop-child-preserved : goal.loop-child-preserved
loop-child-preserved c =
    let args = c.args in
    let at-loop = c.loop-child in
    let l₀ = args.hashes.now in
    let children = args.children.now in
    let k = at-loop.child-index in
    let h = c.loop-child-test.true in
    let four = united-four l₀ args.filters args.at children k h at-loop.invariant.1 (c.requires.by_index_2 k h) in (
      united-next l₀ at-loop.hashes c.write_words.new.list c.words.result c.words-other.result c.unite-pool.result args.filters args.at children k _
          c.requires.at_bound h at-loop.invariant.1 four at-loop.invariant.0 refl (c.requires.by_index k h) c.words-other.ensures c.words.ensures
          c.unite-pool.ensures c.write_words.ensures,
      four,
    )
