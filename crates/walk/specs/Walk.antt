-- Document 01, 'Search': the walk over nodes, for any view of them. A lent store and the tree of a list of vectors are both read through a view.
use Rattle.std.specs.Prelude.{ℕ, zero, suc, ◌+◌, ◌*◌, ◌%◌, ◌^◌, Bool, true, false, cond, List, [], ◌∷◌, ◌++◌, leb, length}
use Rattle.lists.specs.Lists.{is_in}
use Rattle.record_queue.specs.Sorted.{insert}

-- What a node shows when it is opened: its children's numbers, the hits of a leaf, or damage.
pub data Shown : Type 0 where
  children : List ℕ → Shown
  hits : List ℕ → Shown
  damage : Shown

-- A view of nodes by number: the key of the distance from the query in total order, whether the filter denies, what the node shows, and how many
-- hits there can be ('one hit too many: over the entries held, unfiltered over n').
pub record View : Type 0 where
  pub key : ℕ → ℕ
  pub denied : ℕ → Bool
  pub shows : ℕ → Shown
  pub most : ℕ

-- A waiting node is one number, the key before the node number, so that `<` orders by distance in total order, then number.
abbrev pub waiting_node : View → ℕ → ℕ
waiting_node view i = view.key i * 2 ^ 64 + i

abbrev pub node_number : ℕ → ℕ
node_number record' = record' % 2 ^ 64

-- How far a walk has come: the nodes that wait, in order; every node pushed so far; the nodes opened, the last first; the hits so far.
pub record Progress : Type 0 where
  pub waiting : List ℕ
  pub pushed : List ℕ
  pub opened : List ℕ
  pub found : List ℕ

pub data State : Type 0 where
  damaged : State
  going : Progress → State

-- Children are pushed in order; one that was pushed before is damage.
unfoldable pub push_one : View → Bool → ℕ → Progress → State
unfolding insert
push_one view true child p = damaged
push_one view false child p =
    going
    (record {
      waiting = insert (waiting_node view child) p.waiting;
      pushed = child ∷ p.pushed;
      opened = p.opened;
      found = p.found;
    })

unfoldable pub push_all : View → List ℕ → State → State
unfolding push_one is_in
push_all view [] state = state
push_all view (child ∷ rest) damaged = damaged
push_all view (child ∷ rest) (going p) = push_all view rest (push_one view (is_in child p.pushed) child p)

-- Hits are added to those so far; one too many is damage.
unfoldable pub add_hits : Bool → List ℕ → Progress → State
add_hits false new p = damaged
add_hits true new p = going (record { waiting = p.waiting; pushed = p.pushed; opened = p.opened; found = new ++ p.found })

-- what an opened node gives: 'a node whose filter denies the hash gives nothing. A leaf gives its entries of that hash (unfiltered: its vectors);
-- others push their children'
unfoldable pub give : View → Shown → Progress → State
unfolding push_all add_hits
give view damage p = damaged
give view (children numbers) p = push_all view numbers (going p)
give view (hits new) p = add_hits (leb (length new + length p.found) view.most) new p

unfoldable pub shown : View → ℕ → Shown
shown view i = cond (view.denied i) (hits []) (view.shows i)

-- 'Take the least node by distance in total order, then number', and open it; with none waiting nothing happens.
unfoldable pub open' : View → List ℕ → Progress → State
unfolding give shown
open' view [] p = going p
open' view (least ∷ rest) p =
    give view (shown view (node_number least))
    (record { waiting = rest; pushed = p.pushed; opened = node_number least ∷ p.opened; found = p.found })

unfoldable pub step : View → State → State
unfolding open'
step view damaged = damaged
step view (going p) = open' view p.waiting p

-- 'If `ef_search` nodes are already opened, the walk stops there': a walk opens at most a number of nodes.
unfoldable pub walk_from : View → ℕ → State → State
unfolding step
walk_from view zero state = state
walk_from view (suc budget) state = walk_from view budget (step view state)

-- 'push the root'
unfoldable pub start : View → State
unfolding insert
start view = going (record { waiting = waiting_node view 0 ∷ []; pushed = 0 ∷ []; opened = []; found = [] })

unfoldable pub walk : View → ℕ → State
unfolding walk_from start
walk view budget = walk_from view budget (start view)

-- 'whole exactly if the walk ended because no node waited'
unfoldable pub none : List ℕ → Bool
none [] = true
none (x ∷ xs) = false

abbrev pub whole : Progress → Bool
whole p = none p.waiting
