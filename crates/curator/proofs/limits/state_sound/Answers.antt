-- The tests of the definition, in its order; it ends the list with `true`.
use mathlib.Core.Bool.{Bool, ◌&&◌, and-true}
use mathlib.Core.Path.{◌≡◌}
use Rattle.curator.specs.declared.CuratorIndex.{CuratorIndex}
use Rattle.curator.specs.Limits.{state_sound}
use Rattle.settings.specs.Limits.{dimension_allowed, params_allowed, capacities_allowed, counts_allowed, built_allowed}
use Rattle.curator.proofs.limits.state_sound.Goals as goal

joined : (index : CuratorIndex) (d p c h b : Bool) → d ≡ dimension_allowed index.dimension → p ≡ params_allowed index.params
    → c ≡ capacities_allowed index.capacities → h ≡ counts_allowed index.capacities index.counts
    → b ≡ built_allowed index.built index.counts → d && (p && (c && (h && b))) ≡ state_sound index
unfolding state_sound
joined index d p c h b i j k l m = rw (i, j, k, l, m) (simp and-true)

pub returns : goal.returns
returns c =
    joined
    c.args.index
    _
    _
    _
    _
    _
    c.dimension_allowed.ensures
    c.params_allowed.ensures
    c.capacities_allowed.ensures
    c.counts_allowed.ensures
    c.built_allowed.ensures
