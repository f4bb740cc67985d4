-- What is stored of a vector, in a form that computes: every vector has one, and only one. No contract cites this form.
use Rattle.std.specs.Prelude.{◌≡◌, refl, List, length, Float}
use Rattle.std.proofs.Common.{ap, ◌∙◌}
use Rattle.vector.specs.Vector.{dot, divided_by, Normalized}
use Rattle.vector.specs.VectorLaws.{dot-fits, length-divided_by}
use Rattle.square_root.specs.RootForms.{root_of, root_of-root, root_is}

-- the vector as it is stored
unfoldable pub normalized : List Float → List Float
unfolding root_of dot divided_by
normalized v = divided_by (root_of (dot v v)) v

pub normalized-holds : (v : List Float) → Normalized (dot v v) v (normalized v)
unfolding normalized
normalized-holds v = record { norm = root_of (dot v v); root = root_of-root (dot v v) (dot-fits v v); stored = refl }

pub normalized-is : (v w : List Float) → Normalized (dot v v) v w → w ≡ normalized v
unfolding normalized
normalized-is v w h = h.stored ∙ ap (λ n. divided_by n v) (root_is (dot v v) h.norm (dot-fits v v) h.root)

pub length-normalized : (v : List Float) → length (normalized v) ≡ length v
unfolding normalized
length-normalized v = length-divided_by (root_of (dot v v)) v
