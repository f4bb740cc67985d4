-- When a state is sound (document 01, row 4), and what fixes the sizes of the lists that it is lent.
use Rattle.std.specs.Prelude.{ℕ, Bool, [], ◌∷◌}
use Rattle.store.specs.declared.Shape.{Shape}
use Rattle.settings.specs.declared.CuratorParams.{CuratorParams}
use Rattle.settings.specs.declared.Capacities.{Capacities}
use Rattle.settings.specs.Limits.{every, dimension_allowed, params_allowed, capacities_allowed, counts_allowed, built_allowed}
use Rattle.curator.specs.declared.CuratorIndex.{CuratorIndex}

-- the opposite of row 4
unfoldable pub state_sound : CuratorIndex → Bool
unfolding dimension_allowed params_allowed capacities_allowed counts_allowed built_allowed
state_sound index =
    every
    (dimension_allowed index.dimension ∷ params_allowed index.params ∷ capacities_allowed index.capacities
    ∷ counts_allowed index.capacities index.counts
    ∷ built_allowed index.built index.counts
    ∷ [])

-- what fixes the sizes of the lent lists
abbrev pub shape_of : ℕ → CuratorParams → Capacities → Shape
shape_of dimension p c =
    record {
      dimension = dimension;
      branching = p.branching_factor;
      vectors = c.vectors;
      entries = c.entries;
      nodes = c.nodes;
      text = c.text;
    }

abbrev pub index_shape : CuratorIndex → Shape
index_shape index = shape_of index.dimension index.params index.capacities
