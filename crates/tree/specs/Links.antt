-- Child links from the child counts alone, from the last node to the first. A stack holds the numbers of the nodes that have no parent yet,
-- the lowest first: a node with c children takes the first c of the stack for its children, and goes on the stack itself.
use Rattle.std.specs.Prelude.{ℕ, suc, ◌+◌, take, drop}
use mathlib.Core.List.{List, [], ◌∷◌, ◌++◌}

-- the nodes that wait for a parent, and the child links, block by block
pub record Linked : Type 0 where
  pub stack : List ℕ
  pub links : List ℕ

-- from the child counts of the nodes from a number on
unfoldable pub link_up : ℕ → List ℕ → Linked
link_up i [] = record { stack = []; links = [] }
link_up i (c ∷ cs) =
    let later = link_up (suc i) cs in
    record { stack = i ∷ drop c later.stack; links = take c later.stack ++ later.links }
