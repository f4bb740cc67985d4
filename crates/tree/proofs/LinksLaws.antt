-- Laws of specs/Links.antt.
use Rattle.std.specs.Prelude.{ℕ, suc, ◌+◌, ◌≡◌, refl, Float, take, drop}
use Rattle.std.proofs.Math.Path.{sym, ap}
use Rattle.std.proofs.Common.{ap₂, ◌∙◌, add-zero, arith, length-append, length-take, length-drop, take_at, drop_at}
use mathlib.Core.List.{List, [], ◌∷◌, ◌++◌, map, map-append, append-nil, append_assoc}
use Rattle.std.proofs.Math.ListN.{length}
use Rattle.lists.specs.Lists.{joined}
use Rattle.lists.specs.Counting.{joined-append}
use Rattle.tree.specs.Tree.{Tree, Forest, leaf, inner, none, more, Splitting, tree_of, size, sizes}
use Rattle.tree.specs.Nodes.{Entries, nodes_from, forest_nodes, nodes_of, roots}
use Rattle.tree.proofs.NodeLaws.{trees_of, length-roots}
use Rattle.tree.proofs.Subtrees.{subs, forest_subs, children_of}
use Rattle.tree.proofs.NumberedNodes.{root_node, map-numbered, nodes-numbered}
use Rattle.tree.specs.Links.{Linked, link_up}

-- Every node is on the stack or linked.
pub length-linked : (i : ℕ) (cs : List ℕ) → length (link_up i cs).stack + length (link_up i cs).links ≡ length cs
unfolding link_up
length-linked i [] = refl
length-linked i (c ∷ cs) =
    let later = link_up (suc i) cs in
    let h = length-linked (suc i) cs in
    let a = length-drop c later.stack in
    let b = length-take c later.stack in
    let d = length-append (take c later.stack) later.links in
    omega arith

-- the child counts of a tree's nodes
abbrev pub child_count : Tree → ℕ
child_count t = length (trees_of (children_of t))

abbrev pub child_counts : Tree → List ℕ
child_counts t = map child_count (subs t)

linked : List ℕ → List ℕ → Linked → Linked
linked numbers links later = record { stack = numbers ++ later.stack; links = links ++ later.links }

-- one node more in front
link_one : ℕ → ℕ → Linked → Linked
link_one i c later = record { stack = i ∷ drop c later.stack; links = take c later.stack ++ later.links }

link_one-linked : (i c : ℕ) (numbers links : List ℕ) (later : Linked) → length numbers ≡ c
    → link_one i c (linked numbers links later) ≡ linked (i ∷ []) (numbers ++ links) later
unfolding link_one linked
link_one-linked i c numbers links later h =
    ap₂ (λ (a b : List ℕ). record { stack = i ∷ a; links = b }) (drop_at numbers later.stack c h)
    (ap (λ (r : List ℕ). r ++ (links ++ later.links)) (take_at numbers later.stack c h) ∙ sym (append_assoc numbers links later.links))

linked-linked : (numbers links numbers' links' : List ℕ) (later : Linked)
    → linked numbers links (linked numbers' links' later) ≡ linked (numbers ++ numbers') (links ++ links') later
unfolding linked
linked-linked numbers links numbers' links' later =
    ap₂ (λ (a b : List ℕ). record { stack = a; links = b }) (sym (append_assoc numbers numbers' later.stack))
    (sym (append_assoc links links' later.links))

-- a tree of size n in front of others that are linked up
link_more : (i n m : ℕ) (others first later cs : List ℕ) {behind : Linked} → behind ≡ linked others later (link_up (i + n + m) cs)
    → linked (i ∷ []) first behind ≡ linked (i ∷ others) (first ++ later) (link_up (i + (n + m)) cs)
link_more i n m others first later cs h =
    let e : i + n + m ≡ i + (n + m) = omega arith in
    ap (linked (i ∷ []) first) h
    ∙ linked-linked (i ∷ []) first others later (link_up (i + n + m) cs)
    ∙ ap (λ (k : ℕ). linked (i ∷ others) (first ++ later) (link_up k cs)) e

module _ (s : Splitting) (vectors : List (List Float)) (e : Entries) where
  mutual
    unfolding link_up linked link_one subs forest_subs children_of trees_of nodes_from forest_nodes joined roots size sizes

    link_up_tree : (i : ℕ) (t : Tree) (cs : List ℕ)
        → link_up i (child_counts t ++ cs)
        ≡ linked (i ∷ []) (joined (λ node. node.children) (nodes_from s vectors e i t)) (link_up (i + size t) cs)
    link_up_tree i (leaf ids) cs = let n : suc i ≡ i + 1 = omega arith in ap (λ (k : ℕ). linked (i ∷ []) [] (link_up k cs)) n
    link_up_tree i (inner ids children) cs =
        let n : suc i + sizes children ≡ i + suc (sizes children) = omega arith in
        let below = joined (λ node. node.children) (forest_nodes s vectors e (suc i) children) in
        ap (link_one i (length (trees_of children))) (link_up_forest (suc i) children cs)
        ∙ link_one-linked i (length (trees_of children)) (roots (suc i) children) below (link_up (suc i + sizes children) cs) (length-roots (suc i) children)
        ∙ ap (λ (k : ℕ). linked (i ∷ []) (roots (suc i) children ++ below) (link_up k cs)) n

    link_up_forest : (i : ℕ) (f : Forest) (cs : List ℕ)
        → link_up i (map child_count (forest_subs f) ++ cs)
        ≡ linked (roots i f) (joined (λ node. node.children) (forest_nodes s vectors e i f)) (link_up (i + sizes f) cs)
    link_up_forest i none cs = ap (λ (k : ℕ). link_up k cs) (sym (add-zero i))
    link_up_forest i (more tree rest) cs =
        ap (link_up i)
        (ap (λ (r : List ℕ). r ++ cs) (map-append child_count (subs tree) (forest_subs rest))
        ∙ append_assoc (child_counts tree) (map child_count (forest_subs rest)) cs)
        ∙ link_up_tree i tree (map child_count (forest_subs rest) ++ cs)
        ∙ link_more i (size tree) (sizes rest) (roots (i + size tree) rest) (joined (λ node. node.children) (nodes_from s vectors e i tree))
        (joined (λ node. node.children) (forest_nodes s vectors e (i + size tree) rest)) cs (link_up_forest (i + size tree) rest cs)
        ∙ ap (λ (r : List ℕ). linked (i ∷ roots (i + size tree) rest) r (link_up (i + (size tree + sizes rest)) cs))
        (sym (joined-append (λ node. node.children) (nodes_from s vectors e i tree) (forest_nodes s vectors e (i + size tree) rest)))

  -- the counts are those of the nodes
  pub counts_nodes_from : (i : ℕ) (t : Tree) → map (λ node. length node.children) (nodes_from s vectors e i t) ≡ child_counts t
  unfolding root_node
  counts_nodes_from i t =
      ap (map (λ node. length node.children)) (nodes-numbered s vectors e i t)
      ∙ map-numbered (λ node. length node.children) child_count (root_node s vectors e) i (subs t) (λ k sub. length-roots (suc k) (children_of sub))

  -- Linking up all nodes of an index leaves the root alone without a parent, and gives their child links.
  pub link_up-nodes_of : link_up 0 (map (λ node. length node.children) (nodes_of s vectors e))
      ≡ record { stack = 0 ∷ []; links = joined (λ node. node.children) (nodes_of s vectors e) }
  unfolding nodes_of linked link_up
  link_up-nodes_of =
      ap (link_up 0) (counts_nodes_from 0 (tree_of s vectors) ∙ sym (append-nil (child_counts (tree_of s vectors))))
      ∙ link_up_tree 0 (tree_of s vectors) []
      ∙ ap (λ (r : List ℕ). record { stack = 0 ∷ []; links = r }) (append-nil (joined (λ node. node.children) (nodes_from s vectors e 0 (tree_of s vectors))))
