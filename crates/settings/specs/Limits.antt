-- Document 01, 'The store': the limits of settings, capacities and counts.
use Rattle.std.specs.Prelude.{ℕ, Bool, true, ◌&&◌, cond, List, [], ◌∷◌, leb, ltb, eqb}
use Rattle.store.specs.declared.Counts.{Counts}
use Rattle.settings.specs.declared.CuratorParams.{CuratorParams}
use Rattle.settings.specs.declared.Capacities.{Capacities}

-- all of some tests
abbrev pub every : List Bool → Bool
every [] = true
every (test ∷ tests) = test && every tests

-- 'dimension D 1 to 128'
unfoldable pub dimension_allowed : ℕ → Bool
dimension_allowed dimension = leb 1 dimension && leb dimension 128

-- '`branching_factor` B 1 to 64; `max_leaf_size` 0 to 4,096; `ef_search` 0 to 65,537; `beam_width` 0 to 65,535'
unfoldable pub params_allowed : CuratorParams → Bool
params_allowed p =
    every
    (leb 1 p.branching_factor ∷ leb p.branching_factor 64 ∷ leb p.max_leaf_size 4096 ∷ leb p.ef_search 65537
    ∷ leb p.beam_width 65535
    ∷ [])

-- 'The usual settings are 16, 128, 256 and 4.'
abbrev pub usual : CuratorParams
usual = record { branching_factor = 16; max_leaf_size = 128; ef_search = 256; beam_width = 4 }

-- 'V vectors 1 to 4,096, E label entries 0 to 16,384, M nodes 1 to 65,537'; label text of 'capacity 0 to 4,177,920' (02, K4)
unfoldable pub capacities_allowed : Capacities → Bool
capacities_allowed c =
    every
    (leb 1 c.vectors ∷ leb c.vectors 4096 ∷ leb c.entries 16384 ∷ leb 1 c.nodes ∷ leb c.nodes 65537 ∷ leb c.text 4177920
    ∷ [])

-- 'a count over its capacity', the bytes held among them
unfoldable pub counts_allowed : Capacities → Counts → Bool
counts_allowed c held =
    every (leb held.vectors c.vectors ∷ leb held.entries c.entries ∷ leb held.nodes c.nodes ∷ leb held.bytes c.text ∷ [])

-- 'built with n or nodes 0, or unbuilt with nodes not 0'
unfoldable pub built_allowed : Bool → Counts → Bool
built_allowed built held = cond built (ltb 0 held.vectors && ltb 0 held.nodes) (eqb held.nodes 0)
