-- What the lists hold of a built index: the node parts are the layout of the rows' nodes. They depend on the lists up to the ends of those parts alone; an
-- accepted build writes them, and after it a run writes nothing but live marks, which stand behind them. A refused build leaves the rows' parts.
use Rattle.std.specs.Prelude.{ℕ, ◌+◌, ◌*◌, ◌≤◌, ◌<◌, ◌≡◌, refl, Float, length, get_or, take, drop, replicate}
use Rattle.std.proofs.Common.{mul_comm, mul-le-mul_right, ap₂, ◌∙◌, subst}
use Rattle.std.proofs.Math.Nat.{mul-add}
use native.Mathlib.Omega.{arith}
use mathlib.Core.List.{List, [], ◌∷◌, Memᴰ}
use Rattle.std.proofs.Math.Path.{sym, ap}
use Rattle.std.specs.Float.{nan}
use Rattle.std.proofs.lemmas.List.{length-replicate}
use Rattle.std.proofs.Math.Seq.{sets}
use Rattle.lists.specs.Lists.{part, joined}
use Rattle.lists.specs.Parts.{part-sets-same, part-behind, take-sets}
use Rattle.lists.specs.Frame.{Freed, From, Before, freed_length, freed_take, freed_drop, freed}
use Rattle.store.specs.declared.Shape.{Shape}
use Rattle.store.specs.declared.Lengths.{Lengths}
use Rattle.store.specs.Store.{Store, centroids_at, centres_at, order_at, nodes_at, links_at, entry_order_at, starts_at, lengths_at, live_at, filters_at, hashes_size, work_part}
use Rattle.store.specs.Lent.{store_of, lengths_of, sizes_of, NoShorter, Long}
use Rattle.store.specs.Agree.{Agree, part_same}
use Rattle.tree.specs.Nodes.{Node, Entries, nodes_of}
use Rattle.tree.specs.Layout.{six_from, floats_of, numbers_of, hashes_of}
use Rattle.tree.proofs.NodeLaws.{length-nodes_of}
use Rattle.tree.proofs.NumberedNodes.{nodes_of-four, nodes_of-wide}
use Rattle.tree.proofs.LayoutLaws.{NodesFit, nodes_of-fit, length_blocks, length-six_from, numbers-order, numbers-six, numbers-links, numbers-entries, numbers-behind, floats-centroids, length-floats_of, length-numbers_of, length-hashes_of}
use Rattle.curator.specs.declared.CuratorIndex.{CuratorIndex}
use Rattle.settings.specs.declared.refusal.Refusal.{Refusal}
use Rattle.settings.specs.declared.refusal.Refusal.TheVariants as Refusal'
use Rattle.settings.specs.declared.refusal.StoreRefusal.{StoreRefusal}
use Rattle.settings.specs.declared.refusal.StoreRefusal.TheVariants.{ListTooShort, VectorsFull, EntriesFull, NodesFull, Damaged, TextFull}
use Rattle.curator.specs.Limits.{index_shape}
use Rattle.curator.specs.Calls.{splitting_of}
use Rattle.curator.specs.Changes.{LaidOut, held_nodes, free_of, free_store, Left}
use Rattle.runs.specs.Model.{Setting, Model, row_vectors, row_entries, node_count, model_nodes, setting_shape}
use Rattle.runs.proofs.State.{Allowed, Within, limits, state_for}
use Rattle.runs.proofs.Held.{Held, rows_end, SameRows, held-vectors, held-entries, owner-below, owners-length, length-vectors}

-- a list stands in another from a place on
abbrev pub StandsAt : {A : Type 0} → ℕ → List A → List A → Type 0
StandsAt at content list = part at (length content) list ≡ content

-- it stands in every list with the same front
stands_same : {A : Type 0} (at : ℕ) (content xs ys : List A) (n : ℕ) → at + length content ≤ n → take n xs ≡ take n ys → StandsAt at content xs → StandsAt at content ys
stands_same at content xs ys n h e s = sym (part_same at (length content) n xs ys h e) ∙ s

-- the node parts hold the layout of the rows' nodes
pub record Laid (s : Setting) (m : Model) (store : Store) : Type 0 where
  pub centroids : StandsAt (centroids_at (setting_shape s)) (joined (λ node. node.centroid) (model_nodes s m)) store.floats
  pub order : StandsAt (order_at (setting_shape s)) (joined (λ node. node.ids) (model_nodes s m)) store.numbers
  pub six : StandsAt (nodes_at (setting_shape s)) (six_from 0 0 0 (model_nodes s m)) store.numbers
  pub links : StandsAt (links_at (setting_shape s)) (joined (λ node. node.children) (model_nodes s m)) store.numbers
  pub entries : StandsAt (entry_order_at (setting_shape s)) (joined (λ node. node.entries) (model_nodes s m)) store.numbers
  pub filters : StandsAt (filters_at (setting_shape s)) (joined (λ node. node.filter) (model_nodes s m)) store.hashes

-- what holds of the nodes of a model whose tree has room
pub record NodeFacts (s : Setting) (m : Model) : Type 0 where
  pub fit : NodesFit (setting_shape s) (model_nodes s m)
  pub wide : (node : Node) → Memᴰ node (model_nodes s m) → length node.centroid ≡ s.dimension
  pub four : (node : Node) → Memᴰ node (model_nodes s m) → length node.filter ≡ 4
  pub count : length (model_nodes s m) ≡ node_count s m

pub node_facts : (s : Setting) (m : Model) → Allowed s → Within s m → node_count s m ≤ s.capacities.nodes → NodeFacts s m
unfolding model_nodes node_count
node_facts s m a w h =
    let sp = splitting_of s.dimension s.params in
    let v = row_vectors m in
    let e = row_entries m in
    let n : length (row_vectors m) ≡ length m.rows = length-vectors m in
    record {
      fit =
          nodes_of-fit (setting_shape s) sp v e (limits s a).branching_low
          (λ k b. subst (λ (x : ℕ). get_or (row_entries m).owners k 0 < x) (sym n) (owner-below m k b))
          (omega (arith, n, w.vectors)) (omega (arith, owners-length m, w.entries)) h;
      wide = nodes_of-wide sp v e;
      four = nodes_of-four sp v e;
      count = length-nodes_of sp v e;
    }

-- where the node parts end: the centroids, the leaf order of entries, the filters; of the label text they have nothing
abbrev pub nodes_end : Setting → Lengths
nodes_end s =
    record {
      floats = centres_at (setting_shape s);
      numbers = starts_at (setting_shape s);
      hashes = hashes_size (setting_shape s);
      text = 0;
    }

-- the lists up to there
abbrev pub SameNodes : Setting → Store → Store → Type 0
SameNodes s = Agree (nodes_end s)

-- that is within the sizes
pub nodes-within : (s : Setting) → NoShorter (nodes_end s) (sizes_of (setting_shape s))
nodes-within s =
    let p = mul-add s.dimension (s.capacities.vectors + s.capacities.nodes) s.params.branching_factor in
    record { floats = omega arith; numbers = omega arith; hashes = omega arith; text = omega arith }

centroids-within : (d v n m : ℕ) → n ≤ m → d * v + n * d ≤ d * (v + m)
centroids-within d v n m h =
    let p = mul-le-mul_right d h in
    let q = mul_comm m d in
    let t = mul-add d v m in
    omega arith

pub laid_same : (s : Setting) (m : Model) (store store' : Store) → NodeFacts s m → SameNodes s store store' → Laid s m store → Laid s m store'
laid_same s m store store' facts a l =
    let N = model_nodes s m in
    let sh = setting_shape s in
    let c = s.capacities in
    let fit = facts.fit in
    let e = length_blocks (λ node. node.centroid) s.dimension N facts.wide in
    let f = length_blocks (λ node. node.filter) 4 N facts.four in
    let x = length-six_from 0 0 0 N in
    let w = centroids-within s.dimension c.vectors (length N) c.nodes fit.nodes_fit in
    let numbers : (at : ℕ) (content : List ℕ) → at + length content ≤ starts_at sh → StandsAt at content store.numbers → StandsAt at content store'.numbers =
    λ at content h x. stands_same at content store.numbers store'.numbers (starts_at sh) h a.numbers x in
    record {
      centroids =
          stands_same (centroids_at sh) (joined (λ node. node.centroid) N) store.floats store'.floats (centres_at sh) (omega (arith, w, e)) a.floats
          l.centroids;
      order = numbers (order_at sh) (joined (λ node. node.ids) N) (omega (arith, fit.ids_fit)) l.order;
      six = numbers (nodes_at sh) (six_from 0 0 0 N) (omega (arith, fit.nodes_fit, x)) l.six;
      links = numbers (links_at sh) (joined (λ node. node.children) N) (omega (arith, fit.links_fit)) l.links;
      entries = numbers (entry_order_at sh) (joined (λ node. node.entries) N) (omega (arith, fit.entries_fit)) l.entries;
      filters =
          stands_same (filters_at sh) (joined (λ node. node.filter) N) store.hashes store'.hashes (hashes_size sh) (omega (arith, fit.nodes_fit, f)) a.hashes
          l.filters;
    }

-- ---- an accepted build

pub held-nodes : (s : Setting) (m : Model) (store : Store) → Held s m store → held_nodes (state_for s m) store ≡ model_nodes s m
unfolding held_nodes model_nodes
held-nodes s m store h = ap₂ (λ (v : List (List Float)) (e : Entries). nodes_of (splitting_of s.dimension s.params) v e) (held-vectors s m store h) (held-entries s m store h)

module _ (s : Setting) (m : Model) (store store' : Store) (work work' : List ℕ) (facts : NodeFacts s m) (long : Long (setting_shape s) (lengths_of store))
    (held : Held s m store)
    (out : LaidOut (state_for s m) store work store' work') where
  floats_are : store'.floats ≡ floats_of (setting_shape s) (model_nodes s m) out.centres store.floats
  floats_are = out.floats ∙ ap (λ (n : List Node). floats_of (setting_shape s) n out.centres store.floats) (held-nodes s m store held)

  numbers_are : store'.numbers ≡ numbers_of (setting_shape s) (model_nodes s m) store.numbers
  numbers_are = out.numbers ∙ ap (λ (n : List Node). numbers_of (setting_shape s) n store.numbers) (held-nodes s m store held)

  hashes_are : store'.hashes ≡ hashes_of (setting_shape s) (model_nodes s m) store.hashes
  hashes_are = out.hashes ∙ ap (λ (n : List Node). hashes_of (setting_shape s) n store.hashes) (held-nodes s m store held)

  pub laid_out : Laid s m store'
  unfolding hashes_of
  laid_out =
      let N = model_nodes s m in
      let sh = setting_shape s in
      let f = length_blocks (λ node. node.filter) 4 N facts.four in
      record {
        centroids =
            ap (part (centroids_at sh) (length (joined (λ node. node.centroid) N))) floats_are
            ∙ floats-centroids sh N out.centres store.floats facts.wide facts.fit.nodes_fit long.floats;
        order = ap (part (order_at sh) (length (joined (λ node. node.ids) N))) numbers_are ∙ numbers-order sh N store.numbers facts.fit long.numbers;
        six = ap (part (nodes_at sh) (length (six_from 0 0 0 N))) numbers_are ∙ numbers-six sh N store.numbers facts.fit long.numbers;
        links = ap (part (links_at sh) (length (joined (λ node. node.children) N))) numbers_are
            ∙ numbers-links sh N store.numbers facts.fit long.numbers;
        entries = ap (part (entry_order_at sh) (length (joined (λ node. node.entries) N))) numbers_are
            ∙ numbers-entries sh N store.numbers facts.fit long.numbers;
        filters =
            ap (part (filters_at sh) (length (joined (λ node. node.filter) N))) hashes_are
            ∙ part-sets-same store.hashes (filters_at sh) (joined (λ node. node.filter) N) (omega (arith, f, facts.fit.nodes_fit, long.hashes));
      }

  -- what stands behind the node parts of the numbers stays
  built-behind : (at count : ℕ) → starts_at (setting_shape s) ≤ at → part at count store.numbers ≡ part at count store'.numbers
  built-behind at count h =
      sym (ap (part at count) numbers_are ∙ ap (take count) (numbers-behind (setting_shape s) (model_nodes s m) store.numbers facts.fit at h))

  -- the rows' parts stand before the node parts, and behind them
  built-fronts : Agree (rows_end s) store store'
  unfolding floats_of numbers_of hashes_of
  built-fronts =
      let N = model_nodes s m in
      let sh = setting_shape s in
      let one = sets store.numbers (order_at sh) (joined (λ node. node.ids) N) in
      let two = sets one (nodes_at sh) (six_from 0 0 0 N) in
      let three = sets two (links_at sh) (joined (λ node. node.children) N) in
      let centroids = sets store.floats (centroids_at sh) (joined (λ node. node.centroid) N) in
      record {
        floats =
            sym (ap (take (centroids_at sh)) floats_are
            ∙ take-sets (centroids_at sh) centroids (centres_at sh) out.centres (let t = mul-add s.dimension s.capacities.vectors s.capacities.nodes in omega (arith, t))
            ∙ take-sets (centroids_at sh) store.floats (centroids_at sh) (joined (λ node. node.centroid) N) (omega arith));
        numbers =
            sym (ap (take (order_at sh)) numbers_are
            ∙ take-sets (order_at sh) three (entry_order_at sh) (joined (λ node. node.entries) N) (omega arith)
            ∙ take-sets (order_at sh) two (links_at sh) (joined (λ node. node.children) N) (omega arith)
            ∙ take-sets (order_at sh) one (nodes_at sh) (six_from 0 0 0 N) (omega arith)
            ∙ take-sets (order_at sh) store.numbers (order_at sh) (joined (λ node. node.ids) N) (omega arith));
        hashes =
            sym (ap (take (filters_at sh)) hashes_are
            ∙ take-sets (filters_at sh) store.hashes (filters_at sh) (joined (λ node. node.filter) N) (omega arith));
        text = ap (take s.capacities.text) (sym out.text);
      }

  pub built-held : SameRows s store store'
  built-held =
      let e = s.capacities.entries in
      record {
        fronts = built-fronts;
        starts = built-behind (starts_at (setting_shape s)) e (omega arith);
        lengths = built-behind (lengths_at (setting_shape s)) e (omega arith);
        live = built-behind (live_at (setting_shape s)) s.capacities.vectors (omega arith);
      }

-- ---- an accepted build, whatever index and lists it is given

module _ (index : CuratorIndex) (store : Store) (work : List ℕ) where
  -- the lists keep their lengths
  pub laid-lengths : (store' : Store) (work' : List ℕ) → LaidOut index store work store' work' → lengths_of store ≡ lengths_of store'
  laid-lengths store' work' out =
      let sh = index_shape index in
      let nodes = held_nodes index store in
      let f = sym (ap length out.floats ∙ length-floats_of sh nodes out.centres store.floats) in
      let n = sym (ap length out.numbers ∙ length-numbers_of sh nodes store.numbers) in
      let h = sym (ap length out.hashes ∙ length-hashes_of sh nodes store.hashes) in
      let t = ap length (sym out.text) in
      λ i. record { floats = f i; numbers = n i; hashes = h i; text = t i }

  -- there are lists that it leaves
  pub lays_out : (store' : Store) × (work' : List ℕ) × LaidOut index store work store' work'
  lays_out =
      let free = freed 0 (work_part (index_shape index) ∷ []) work in (
        store_of (floats_of (index_shape index) (held_nodes index store) (replicate (index.dimension * index.params.branching_factor) nan) store.floats)
            (numbers_of (index_shape index) (held_nodes index store) store.numbers)
            (hashes_of (index_shape index) (held_nodes index store) store.hashes)
            store.text,
        free.0,
        record {
          centres = replicate (index.dimension * index.params.branching_factor) nan;
          centres_length = length-replicate (index.dimension * index.params.branching_factor) nan;
          floats = refl;
          numbers = refl;
          hashes = refl;
          text = refl;
          work = free.1;
        },
      )

-- ---- a refused build

module _ (sh : Shape) (r : Refusal) (store : Store) (work : List ℕ) where
  pub left-lengths : (store' : Store) (work' : List ℕ) → Left sh r store work store' work' → lengths_of store ≡ lengths_of store'
  left-lengths store' work' left =
      let free = free_of sh r in
      let f = freed_length free.floats store.floats store'.floats left.floats in
      let n = freed_length free.numbers store.numbers store'.numbers left.numbers in
      let h = freed_length free.hashes store.hashes store'.hashes left.hashes in
      let t = ap length (sym left.text) in
      λ i. record { floats = f i; numbers = n i; hashes = h i; text = t i }

  pub leaves : (store' : Store) × (work' : List ℕ) × Left sh r store work store' work'
  leaves =
      let free = free_of sh r in
      let f = freed nan free.floats store.floats in
      let n = freed 0 free.numbers store.numbers in
      let h = freed 0 free.hashes store.hashes in
      let w = freed 0 free.work work in
      (store_of f.0 n.0 h.0 store.text, w.0, record { floats = f.1; numbers = n.1; hashes = h.1; text = refl; work = w.1 })

-- refused for short lists it leaves all as it was
pub left-same : (sh : Shape) (store store' : Store) (work work' : List ℕ) → Left sh (Refusal'.Store ListTooShort) store work store' work' → store' ≡ store
unfolding free_of free_store Freed
left-same sh store store' work work' l = λ i. record { floats = l.floats i; numbers = l.numbers i; hashes = l.hashes i; text = l.text i }

-- what is free starts behind the rows' parts, and ends before the starts, with lengths and live marks behind them
module _ (s : Setting) (store store' : Store) (work work' : List ℕ) where
  kept_by : (r : Refusal) → From (rows_end s).floats (free_of (setting_shape s) r).floats → From (rows_end s).numbers (free_of (setting_shape s) r).numbers
      → From (rows_end s).hashes (free_of (setting_shape s) r).hashes → Before (starts_at (setting_shape s)) (free_of (setting_shape s) r).numbers
      → Left (setting_shape s) r store work store' work' → SameRows s store store'
  kept_by r f n h b l =
      let sh = setting_shape s in
      let free = free_of (setting_shape s) r in
      let behind : drop (starts_at (setting_shape s)) store.numbers ≡ drop (starts_at (setting_shape s)) store'.numbers =
      freed_drop (starts_at sh) free.numbers store.numbers store'.numbers b l.numbers in
      record {
        fronts =
            record {
              floats = freed_take (rows_end s).floats free.floats store.floats store'.floats f l.floats;
              numbers = freed_take (rows_end s).numbers free.numbers store.numbers store'.numbers n l.numbers;
              hashes = freed_take (rows_end s).hashes free.hashes store.hashes store'.hashes h l.hashes;
              text = ap (take s.capacities.text) (sym l.text);
            };
        starts = part-behind (starts_at sh) (starts_at sh) s.capacities.entries store.numbers store'.numbers (omega arith) behind;
        lengths = part-behind (starts_at sh) (lengths_at sh) s.capacities.entries store.numbers store'.numbers (omega arith) behind;
        live = part-behind (starts_at sh) (live_at sh) s.capacities.vectors store.numbers store'.numbers (omega arith) behind;
      }

  kept_store : (r : StoreRefusal) → Left (setting_shape s) (Refusal'.Store r) store work store' work' → SameRows s store store'
  unfolding free_of free_store
  kept_store ListTooShort l = kept_by (Refusal'.Store ListTooShort) tt tt tt tt l
  kept_store VectorsFull l = kept_by (Refusal'.Store VectorsFull) tt tt tt tt l
  kept_store EntriesFull l = kept_by (Refusal'.Store EntriesFull) tt tt tt tt l
  kept_store NodesFull l =
      kept_by (Refusal'.Store NodesFull)
      (omega arith, ((let q = mul-add s.dimension s.capacities.vectors s.capacities.nodes in omega arith), tt))
      (omega arith, (omega arith, (omega arith, (omega arith, tt))))
      (omega arith, tt)
      (omega arith, (omega arith, (omega arith, (omega arith, tt))))
      l
  kept_store Damaged l = kept_by (Refusal'.Store Damaged) tt tt tt tt l
  kept_store TextFull l = kept_by (Refusal'.Store TextFull) tt tt tt tt l

  pub left-held : (r : Refusal) → Left (setting_shape s) r store work store' work' → SameRows s store store'
  unfolding free_of
  left-held (Refusal'.Settings r) l = kept_by (Refusal'.Settings r) tt tt tt tt l
  left-held (Refusal'.State r) l = kept_by (Refusal'.State r) tt tt tt tt l
  left-held (Refusal'.Input r) l = kept_by (Refusal'.Input r) tt tt tt tt l
  left-held (Refusal'.Store r) l = kept_store r l
