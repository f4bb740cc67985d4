-- What the making of the tree and the finishing passes leave, taken together, is what a build leaves.
use Rattle.std.specs.Prelude.{Option, Some, None}
use Rattle.std.specs.Prelude.{ℕ, ◌≤◌, Bool, true, false, List, ◌≡◌, refl, ltb, Float, length}
use Rattle.std.proofs.Common.{sym, ap, ◌∙◌, subst, arith, ltb-true, ltb-false, le-ltb}
use Rattle.store.specs.declared.Shape.{Shape}
use Rattle.store.specs.Store.{Store}
use Rattle.build_tree.specs.Promises.{TreeLent, Whole, Built}
use Rattle.label_entries.specs.Promises as finish
use Rattle.label_entries.specs.Promises.{held, AllMade, Finished}
use Rattle.std.specs.Prelude.{Result, Ok, Err, ⊤}
use Rattle.curator.specs.declared.CuratorIndex.{CuratorIndex}
use Rattle.settings.specs.declared.refusal.Refusal.{Refusal}
use Rattle.settings.specs.declared.refusal.Refusal.TheVariants as Refusal'
use Rattle.settings.specs.declared.refusal.StoreRefusal.TheVariants.{NodesFull}
use Rattle.curator.specs.Limits.{index_shape}
use Rattle.curator.specs.Calls.{built_with}
use Rattle.store.specs.Lent.{store_of, lengths_of}
use Rattle.curator.specs.Changes.{build_check, held_nodes, LaidOut, BuildsFine, BuildsBy, Builds}
use Rattle.build.specs.Asked.{build_checked, BuildReady}
use Rattle.build.specs.CheckLaws.{left_alone, check_refused, check_full, check_fine}
use Rattle.curator.specs.Outcome.{Succeeded}
use Rattle.curator.specs.OutcomeLaws.{is_carried, is_refused}
use Rattle.build.specs.WrittenLaws.{tree_size, too_many-is, length-held, left_full, all_made_lem, room, laid_out}

-- ---- the relation by what the rows come to

pub builds_by : (index : CuratorIndex) (store : Store) (work : List ℕ) (answer : Result CuratorIndex Refusal) (store' : Store) (work' : List ℕ) (check : Result ⊤ Refusal)
    → build_check index store work ≡ check → BuildsBy check index store work answer store' work' → Builds index store work answer store' work'
unfolding Builds
builds_by index store work answer store' work' check e h =
    subst (λ (k : Result ⊤ Refusal). BuildsBy k index store work answer store' work') (sym e) h

unbuilt_fine : (index : CuratorIndex) (store : Store) (work : List ℕ) (answer : Result CuratorIndex Refusal) (store' : Store) (work' : List ℕ) → index.built ≡ false
    → Succeeded (built_with index (length (held_nodes index store))) answer × LaidOut index store work store' work'
    → BuildsFine index.built index store work answer store' work'
unfolding BuildsFine
unbuilt_fine index store work answer store' work' e h = subst (λ (b : Bool). BuildsFine b index store work answer store' work') (sym e) h

built_fine : (index : CuratorIndex) (store : Store) (work : List ℕ) → index.built ≡ true
    → BuildsFine index.built index store work (Ok index) store work
unfolding BuildsFine
built_fine index store work e = subst (λ (b : Bool). BuildsFine b index store work (Ok index) store work) (sym e) (is_carried index _ refl, refl, refl)

-- ---- by what the tree's making answered

-- the making of the tree of an index
abbrev pub TreeMade : CuratorIndex → Store → List ℕ → List Float → List ℕ → List ℕ → Option ℕ → Type 0
TreeMade index store work floats' numbers' work' made =
    Built (index_shape index) index.params.max_leaf_size index.counts.vectors store.floats floats' store.numbers numbers' work work' made

-- a tree of so many nodes was made whole
pub record AllOf
    (index : CuratorIndex) (store : Store) (work : List ℕ) (floats' : List Float) (numbers' work' : List ℕ) (made : Option ℕ) (nodes : ℕ) : Type 0
  where
    pub whole : Whole (index_shape index) index.params.max_leaf_size index.counts.vectors store.floats floats' store.numbers numbers' work work' made
    pub count : nodes ≡ tree_size index store.floats
    pub fits : tree_size index store.floats ≤ index.capacities.nodes

pub made_all : (index : CuratorIndex) (store : Store) (work : List ℕ) (floats' : List Float) (numbers' work' : List ℕ) (made : Option ℕ) (nodes : ℕ)
    → TreeMade index store work floats' numbers' work' made → made ≡ Some nodes → AllOf index store work floats' numbers' work' made nodes
made_all index store work floats' numbers' work' made nodes b e = by (ltb index.capacities.nodes (tree_size index store.floats)) refl
  where
    by : (t : Bool) → ltb index.capacities.nodes (tree_size index store.floats) ≡ t → AllOf index store work floats' numbers' work' made nodes
    by true h =
        let other : made ≡ None = (b.overfull (ltb-true _ _ h)).answered in
        let z : ◌≡◌ {A = ℕ} 0 1 = cc in
        absurd (omega arith)
    by false h =
        let w = b.whole (ltb-false _ _ h) in
        let same : Some nodes ≡ Some (tree_size index store.floats) = sym e ∙ w.answered in
        record { whole = w; count = cc; fits = ltb-false _ _ h }

pub builds-whole : (index : CuratorIndex) (store : Store) (work : List ℕ) (floats' : List Float) (numbers' work' : List ℕ) (made : Option ℕ) (nodes : ℕ)
    → BuildReady index store work → AllOf index store work floats' numbers' work' made nodes → (numbers'' hashes'' work'' : List ℕ)
    → Finished (index_shape index) index.counts.vectors index.counts.entries nodes numbers' store.hashes work' numbers'' hashes'' work''
    → Builds index store work (Ok (built_with index nodes)) (store_of floats' numbers'' hashes'' store.text) work''
unfolding BuildsBy
builds-whole index store work floats' numbers' work' made nodes r a numbers'' hashes'' work'' f =
    let check =
    check_fine index store work r.passed r.unbuilt (too_many-is index store ∙ le-ltb _ _ a.fits) in
    let laid : Succeeded (built_with index (length (held_nodes index store))) (Ok (built_with index nodes))
    × LaidOut index store work (store_of floats' numbers'' hashes'' store.text) work'' = (
      is_carried _ _ (ap (λ (n : ℕ). Ok (built_with index n)) (a.count ∙ sym (length-held index store))),
      laid_out index store work floats' numbers' work' made r a.whole nodes a.count a.fits numbers'' hashes'' work'' f,
    ) in
    builds_by index store work _ _ _ (Ok tt) check (unbuilt_fine index store work _ _ _ r.unbuilt laid)

pub builds_full : (index : CuratorIndex) (store : Store) (work : List ℕ) (floats' : List Float) (numbers' work' : List ℕ) (made : Option ℕ)
    → BuildReady index store work → TreeMade index store work floats' numbers' work' made → made ≡ None
    → Builds index store work (Err (Refusal'.Store NodesFull)) (store_of floats' numbers' store.hashes store.text) work'
unfolding BuildsBy
builds_full index store work floats' numbers' work' made r b e = by (ltb index.capacities.nodes (tree_size index store.floats)) refl
  where
    by : (t : Bool) → ltb index.capacities.nodes (tree_size index store.floats) ≡ t
        → Builds index store work (Err (Refusal'.Store NodesFull)) (store_of floats' numbers' store.hashes store.text) work'
    by true h =
        builds_by index store work _ _ _ (Err (Refusal'.Store NodesFull)) (check_full index store work r.passed r.unbuilt (too_many-is index store ∙ h))
        (is_refused _ _ refl, left_full index store work numbers' floats' work' made r (b.overfull (ltb-true _ _ h)))
    by false h =
        let other : made ≡ Some (tree_size index store.floats) = (b.whole (ltb-false _ _ h)).answered in
        let z : ◌≡◌ {A = ℕ} 0 1 = cc in
        absurd (omega arith)

-- ---- without the tree

-- a built index stays, and every list with it
pub builds-built : (index : CuratorIndex) (store : Store) (work : List ℕ) → build_check index store work ≡ (Ok tt) → index.built ≡ true
    → Builds index store work (Ok index) store work
unfolding BuildsBy
builds-built index store work f b = builds_by index store work _ _ _ (Ok tt) f (built_fine index store work b)

-- a refusal by the check leaves the lists as they are
pub builds_refused : (index : CuratorIndex) (store : Store) (work : List ℕ) (q : Refusal) → build_checked index (lengths_of store) (length work) store.numbers ≡ Err q
    → Builds index store work (Err q) store work
unfolding BuildsBy
builds_refused index store work q f =
    builds_by index store work _ _ _ (Err q) (check_refused index store work q f) (is_refused q _ refl, left_alone index store work q f)

-- ---- the same for a shape that is the index's

pub tree_asked : (index : CuratorIndex) (store : Store) (work : List ℕ) {s : Shape} → s ≡ index_shape index → BuildReady index store work
    → TreeLent s index.counts.vectors store.floats store.numbers work
tree_asked index store work e r =
    subst (λ (s : Shape). TreeLent s index.counts.vectors store.floats store.numbers work) (sym e)
    (record {
      limits = r.sound.limits;
      some = r.some;
      held = r.sound.vectors;
      floats_room = r.long.floats;
      numbers_room = r.long.numbers;
      work_room = r.work_room;
    })

tree_by : (index : CuratorIndex) (store : Store) (work : List ℕ) {s : Shape} {floats' : List Float} {numbers' work' : List ℕ} {made : Option ℕ}
    → s ≡ index_shape index
    → Built s index.params.max_leaf_size index.counts.vectors store.floats floats' store.numbers numbers' work work' made
    → TreeMade index store work floats' numbers' work' made
tree_by index store work {floats' = floats'} {numbers' = numbers'} {work' = work'} {made = made} e b =
    subst
    (λ (s : Shape). Built s index.params.max_leaf_size index.counts.vectors store.floats floats' store.numbers numbers' work work' made)
    e
    b

pub tree_whole : (index : CuratorIndex) (store : Store) (work : List ℕ) {s : Shape} {floats' : List Float} {numbers' work' : List ℕ} {made : Option ℕ} {nodes : ℕ}
    → s ≡ index_shape index
    → Built s index.params.max_leaf_size index.counts.vectors store.floats floats' store.numbers numbers' work work' made
    → made ≡ Some nodes → AllOf index store work floats' numbers' work' made nodes
tree_whole index store work e b told = made_all index store work _ _ _ _ _ (tree_by index store work e b) told

pub tree_full : (index : CuratorIndex) (store : Store) (work : List ℕ) {s : Shape} {floats' : List Float} {numbers' work' : List ℕ} {made : Option ℕ}
    → s ≡ index_shape index → BuildReady index store work
    → Built s index.params.max_leaf_size index.counts.vectors store.floats floats' store.numbers numbers' work work' made
    → made ≡ None
    → Builds index store work (Err (Refusal'.Store NodesFull)) (store_of floats' numbers' store.hashes store.text) work'
tree_full index store work e r b told = builds_full index store work _ _ _ _ r (tree_by index store work e b) told

pub finish_room : (index : CuratorIndex) (store : Store) (work : List ℕ) {s : Shape} {floats' : List Float} {numbers' work' : List ℕ} {made : Option ℕ} {nodes : ℕ}
    → s ≡ index_shape index → BuildReady index store work → AllOf index store work floats' numbers' work' made nodes
    → finish.Room s index.counts.vectors index.counts.entries nodes numbers' store.hashes work'
finish_room index store work {floats' = floats'} {numbers' = numbers'} {work' = work'} {made = made} {nodes = nodes} e r a =
    subst (λ (s : Shape). finish.Room s index.counts.vectors index.counts.entries nodes numbers' store.hashes work') (sym e)
    (room index store work floats' numbers' work' made r a.whole nodes a.count a.fits)

pub finish_made : (index : CuratorIndex) (store : Store) (work : List ℕ) {s : Shape} {floats' : List Float} {numbers' work' : List ℕ} {made : Option ℕ} {nodes : ℕ}
    → s ≡ index_shape index → BuildReady index store work → AllOf index store work floats' numbers' work' made nodes
    → AllMade s index.counts.vectors index.counts.entries nodes numbers' store.hashes
finish_made index store work {floats' = floats'} {numbers' = numbers'} {work' = work'} {made = made} {nodes = nodes} e r a =
    subst (λ (s : Shape). AllMade s index.counts.vectors index.counts.entries nodes numbers' store.hashes) (sym e)
    (all_made_lem index store work floats' numbers' work' made r a.whole nodes a.count a.fits)

pub finish_builds : (index : CuratorIndex) (store : Store) (work : List ℕ) {s : Shape} {floats' : List Float} {numbers' work' : List ℕ} {made : Option ℕ} {nodes : ℕ}
    {numbers'' hashes'' work'' : List ℕ} {answer : CuratorIndex}
    → s ≡ index_shape index → BuildReady index store work → AllOf index store work floats' numbers' work' made nodes
    → Finished s index.counts.vectors index.counts.entries nodes numbers' store.hashes work' numbers'' hashes'' work''
    → answer ≡ built_with index nodes
    → Builds index store work (Ok answer) (store_of floats' numbers'' hashes'' store.text) work''
finish_builds index store work {floats' = floats'} {numbers' = numbers'} {work' = work'} {made = made} {nodes = nodes} {numbers'' = numbers''} {hashes'' = hashes''} {work'' = work''} e r a f g =
    subst
    (λ (answer : CuratorIndex). Builds index store work (Ok answer) (store_of floats' numbers'' hashes'' store.text) work'')
    (sym g)
    (builds-whole index store work floats' numbers' work' made nodes r a numbers'' hashes'' work''
    (subst (λ (s : Shape). Finished s index.counts.vectors index.counts.entries nodes numbers' store.hashes work' numbers'' hashes'' work'') e f))
