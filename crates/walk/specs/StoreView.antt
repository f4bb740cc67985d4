-- What a lent store shows of its nodes, whatever numbers stand in it (document 01, 'Search' and 'Search's 15').
use Rattle.std.specs.Prelude.{ℕ, zero, suc, ◌+◌, Bool, true, ◌&&◌, List, map, leb, eqb, Float, get_or}
use Rattle.std.proofs.Math.Bool.{cond}
use Rattle.std.proofs.Math.Dec.{ltb}
use Rattle.lists.specs.Lists.{part}
use Rattle.lists.specs.Tests.{all_pass}
use Rattle.store.specs.declared.Shape.{Shape}
use Rattle.store.specs.Store.{Store, vector_at, owners_at, order_at, entry_order_at, node_field, child_links, node_filter, entry_start, entry_length, entry_name, live_marks}
use Rattle.distance.specs.Distance.{distance}
use Rattle.total_order.specs.TotalOrder.{key_of}
use Rattle.store.specs.declared.Counts.{Counts}
use Rattle.walk.specs.Walk.{View, Shown, children, hits, damage}
use Rattle.walk.specs.Answer.{hit_of, is_live}
use Rattle.walk.specs.Wanted.{Sought, EntryRead, LeafList, vector_list, entry_list, denies, list_read, passes, given, held_in, most}

-- 'a place outside the list's part', read with 'Parts past the counts held are never read': a block that is not empty ends within what is held
unfoldable pub block_held : ℕ → ℕ → ℕ → Bool
block_held start zero held = true
block_held start (suc count) held = leb (start + suc count) held

-- the hit of the vector with a number, whose document id stands at that number
abbrev pub hit_at : Shape → List Float → List ℕ → List Float → ℕ → ℕ
hit_at s floats numbers query i = hit_of (distance query (vector_at s.dimension floats i)) (get_or numbers i 0) i

-- where a leaf's lists stand: start and count are the node's third and fourth number, or its last two; and the part that they count in
abbrev pub field_of : LeafList → ℕ
field_of vector_list = 2
field_of entry_list = 4

abbrev pub part_of : Shape → LeafList → ℕ
part_of s vector_list = order_at s
part_of s entry_list = entry_order_at s

-- what the lists have of an entry
abbrev pub entries_in : Shape → List ℕ → List ℕ → List ℕ → EntryRead
entries_in s numbers hashes text =
    record { hash = λ entry. get_or hashes entry 0; owner = λ entry. get_or numbers (owners_at s + entry) 0; name = entry_name s numbers text }

-- where an entry's bytes end: its 'start plus length'
abbrev pub end_in : Shape → List ℕ → ℕ → ℕ
end_in s numbers entry = entry_start s numbers entry + entry_length s numbers entry

module _ (s : Shape) (c : Counts) (store : Store) where
  -- the distance from a query to the centroid with a number
  abbrev pub centroid_distance : List Float → ℕ → Float
  centroid_distance query i = distance query (vector_at s.dimension store.floats (s.vectors + i))

  abbrev pub owner_of : ℕ → ℕ
  owner_of entry = get_or store.numbers (owners_at s + entry) 0

  -- 'a child not above its parent, not below the node count'
  unfoldable pub children_shown : ℕ → List ℕ → Shown
  unfolding all_pass
  children_shown parent numbers = cond (all_pass (λ child. ltb parent child && ltb child c.nodes) numbers) (children numbers) damage

  -- whether a hit's vector is live, by the marks that the store has of the vectors held (02, K10)
  abbrev pub live_in : ℕ → Bool
  live_in = is_live (live_marks s c.vectors store.numbers)

  -- what a store has of an entry
  abbrev pub entry_read : EntryRead
  entry_read = entries_in s store.numbers store.hashes store.text

  -- a leaf's list where every number passes gives hits; otherwise it is damaged
  unfoldable pub list_shown : List Float → Sought → List ℕ → Shown
  unfolding all_pass passes given distance key_of
  list_shown query wanted numbers =
      cond (all_pass (passes wanted c entry_read (end_in s store.numbers)) numbers) (hits (map (hit_at s store.floats store.numbers query) (given wanted entry_read numbers))) damage

  unfoldable pub leaf_shown : List Float → Sought → ℕ → Shown
  unfolding list_shown block_held
  leaf_shown query wanted i =
      let list = list_read wanted in
      let start = node_field s store.numbers i (field_of list) in
      let count = node_field s store.numbers i (field_of list + 1) in
      cond (block_held start count (held_in list c)) (list_shown query wanted (part (part_of s list + start) count store.numbers)) damage

  -- 'children; where there are none, entries, unfiltered vectors'
  unfoldable pub node_shown : List Float → Sought → ℕ → Shown
  unfolding leaf_shown children_shown block_held
  node_shown query wanted i =
      cond (eqb (node_field s store.numbers i 1) 0) (leaf_shown query wanted i)
      (cond (block_held (node_field s store.numbers i 0) (node_field s store.numbers i 1) c.nodes)
      (children_shown i (child_links s store.numbers i)) damage)

  -- the view of a lent store from a normalised query
  unfoldable pub store_view : List Float → Sought → View
  unfolding node_shown denies distance key_of
  store_view query wanted =
      record {
        key = λ i. key_of (centroid_distance query i);
        denied = λ i. denies wanted (node_filter s store.hashes i);
        shows = node_shown query wanted;
        most = most wanted c;
      }
