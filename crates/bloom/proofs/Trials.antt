-- Values beside document 01's trial echoes (those are crates/trial_table/specs/Table.antt).
use Rattle.std.specs.Prelude.{[], ◌∷◌, ◌≡◌, refl}
use Rattle.bloom.specs.Filter.{empty_filter, insert_hash, union}

-- The filter of the empty label's hash: bits 37 and 196.
pub filter : insert_hash empty_filter 0xcbf29ce484222325 ≡ 0x2000000000 ∷ 0 ∷ 0 ∷ 16 ∷ []
unfolding insert_hash
filter = refl

-- The pool of two filters, one word of which both have bits in.
pub pool : union (5 ∷ 0 ∷ 2 ∷ 16 ∷ []) (6 ∷ 1 ∷ 0 ∷ 0 ∷ []) ≡ 7 ∷ 1 ∷ 2 ∷ 16 ∷ []
unfolding union
pool = refl
