-- A tree that was being made is whole where no group waits, and has too many nodes where one waits and the nodes are full.
use Rattle.std.specs.Prelude.{ℕ, ◌+◌, ◌*◌, ◌≤◌, ◌<◌, ◌≡◌, refl, Float}
use Rattle.std.proofs.Math.Path.{sym, ap, ap₂}
use Rattle.std.proofs.Common.{subst, ◌∙◌, add-zero, mul_comm, mul-add, arith}
use mathlib.Core.List.{List, [], ◌∷◌, ◌++◌, append-nil, Memᴰ}
use Rattle.std.proofs.Math.ListN.{length, length-append}
use Rattle.std.proofs.Math.Seq.{sets, length-sets}
use Rattle.lists.specs.Lists.{part, joined}
use Rattle.lists.specs.Parts.{length_part}
use Rattle.store.specs.declared.Shape.{Shape}
use Rattle.store.specs.Store.{centroids_at, centres_at, order_at, nodes_at, work_part}
use Rattle.cluster.specs.Vectors.{vectors_in}
use Rattle.lists.specs.Frame.{AlikeBut, alike_trans, alike-sets, alike_widen, alike-is-sets, Freed, alike_freed, freed_cut}
use Rattle.tree.specs.Tree.{Splitting, tree_of, size}
use Rattle.tree.specs.Nodes.{Entries, nodes_of}
use Rattle.tree.specs.Layout.{floats_of}
use Rattle.tree.specs.Made.{made_from}
use Rattle.tree.proofs.Steps.{Group, made, made_none, made-waiting, length-made, root_group}
use Rattle.waiting_groups.specs.Waiting.{encoded, sixes, leaves, centroids}
use Rattle.build_tree.proofs.MadeLaws.{length-centroids, length-sixes, six-all, leaves_all, centroids-all}
use Rattle.build_tree.specs.Promises.{splitting_with, TreeLent, SoundGroup, Whole, Overfull, Built}
use Rattle.std.specs.Prelude.{None, Some}
use Rattle.build_tree.proofs.Standing.{Standing, centres-end, first_of, order-length}

sound-nil : (waiting : List Group) (n : ℕ) → ((g : Group) → Memᴰ g waiting → SoundGroup n g) → length (joined (λ g. g.ids) waiting) ≤ 0 → waiting ≡ []
unfolding joined
sound-nil [] n h e = refl
sound-nil (g ∷ rest) n h e =
    let f = (h g (Memᴰ.head refl)).filled in
    let a = length-append g.ids (joined (λ g. g.ids) rest) in
    absurd (omega arith)

module _
    (s : Shape) (leaf n : ℕ) (floats₀ : List Float) (numbers₀ work₀ : List ℕ) (lent : TreeLent s n floats₀ numbers₀ work₀) (count done : ℕ) (floats : List Float)
    (numbers work : List ℕ) (st : Standing s leaf n floats₀ numbers₀ work₀ count done floats numbers work)
  where
    abbrev sp : Splitting
    sp = splitting_with s leaf

    abbrev vs : List (List Float)
    vs = vectors_in s.dimension n floats₀

    size_of_tree : size (tree_of sp vs) ≡ count + length (made sp vs st.waiting)
    unfolding tree_of
    size_of_tree =
        sym (length-made sp vs (root_group sp vs))
        ∙ ap (λ (l : List Group). length l) st.due
        ∙ length-append st.past (made sp vs st.waiting)
        ∙ ap (λ (k : ℕ). k + length (made sp vs st.waiting)) (sym st.count_is)

    -- a group that waits becomes a node
    pub standing_more : done < n → count < size (tree_of sp vs)
    standing_more left =
        let ids = st.all in
        let f = first_of st.waiting (omega arith) in
        let a = ap (λ (l : List Group). length l) f.2 in
        let b = made-waiting sp vs st.waiting in
        let c = size_of_tree in
        omega arith

    -- ---- none waits

    module _ (end : n ≤ done) where
      none-waits : st.waiting ≡ []
      none-waits = let a = st.all in sound-nil st.waiting n st.sound (omega arith)

      all_made_lem : made sp vs (root_group sp vs ∷ []) ≡ st.past
      all_made_lem =
          st.due
          ∙ ap (λ (l : List Group). st.past ++ made sp vs l) none-waits
          ∙ ap (λ (l : List Group). st.past ++ l) (made_none sp vs)
          ∙ append-nil st.past

      pub standing_size : size (tree_of sp vs) ≡ count
      standing_size =
          size_of_tree
          ∙ ap (λ (l : List Group). count + length (made sp vs l)) none-waits
          ∙ ap (λ (l : List Group). count + length l) (made_none sp vs)
          ∙ add-zero count

      abbrev based : List Float
      based = sets floats₀ (centroids_at s) (centroids sp vs st.past)

      floats_end : floats ≡ sets based (centres_at s) (part (centres_at s) (s.dimension * s.branching) floats)
      floats_end =
          let a = centres-end s.dimension s.vectors s.nodes s.branching in
          let b = lent.floats_room in
          let c = st.floats_length in
          let d = length-sets floats₀ (centroids_at s) (centroids sp vs st.past) in
          alike-is-sets (centres_at s) (s.dimension * s.branching) based floats st.floats_alike (omega arith) (omega arith)

      centres_length : length (part (centres_at s) (s.dimension * s.branching) floats) ≡ s.dimension * s.branching
      centres_length =
          let a = centres-end s.dimension s.vectors s.nodes s.branching in
          let b = lent.floats_room in
          let c = st.floats_length in
          length_part (centres_at s) (s.dimension * s.branching) floats (omega arith)

      floats-laid : (e : Entries) → floats ≡ floats_of s (nodes_of sp vs e) (part (centres_at s) (s.dimension * s.branching) floats) floats₀
      unfolding floats_of
      floats-laid e =
          floats_end
          ∙ ap (λ (l : List Float). sets (sets floats₀ (centroids_at s) l) (centres_at s) (part (centres_at s) (s.dimension * s.branching) floats))
          (ap (centroids sp vs) (sym all_made_lem) ∙ sym (centroids-all sp vs e))

      numbers-laid : (e : Entries) → numbers ≡ sets (sets numbers₀ (order_at s) (joined (λ node. node.ids) (nodes_of sp vs e))) (nodes_at s) (made_from 0 (nodes_of sp vs e))
      unfolding encoded joined
      numbers-laid e =
          st.numbers_are
          ∙ ap₂ (λ (a b : List ℕ). sets (sets numbers₀ (order_at s) a) (nodes_at s) b)
          (ap (λ (l : List Group). leaves sp st.past ++ encoded l) none-waits
          ∙ append-nil (leaves sp st.past)
          ∙ ap (leaves sp) (sym all_made_lem)
          ∙ sym (leaves_all sp vs e))
          (ap (sixes sp vs 0) (sym all_made_lem) ∙ sym (six-all sp vs e))

      pub standing_whole : Whole s leaf n floats₀ floats numbers₀ numbers work₀ work (Some count)
      standing_whole =
          let r = lent.work_room in
          record {
            answered = ap Some (sym standing_size);
            centres = part (centres_at s) (s.dimension * s.branching) floats;
            centres_size = centres_length;
            floats_are = floats-laid;
            numbers_are = numbers-laid;
            work_free = alike_freed (work_part s) work₀ work (omega arith) st.work_length st.work_alike;
          }

      pub built-whole : count ≤ s.nodes → Built s leaf n floats₀ floats numbers₀ numbers work₀ work (Some count)
      built-whole h = record { whole = λ few. standing_whole; overfull = λ many. absurd (let e = standing_size in omega arith) }

    -- ---- one waits, and the nodes are full

    module _ (left : done < n) (full : s.nodes ≡ count) where
      floats_free : Freed (record { start = centroids_at s; count = s.dimension * s.nodes + s.dimension * s.branching } ∷ []) floats₀ floats
      floats_free =
          let d : ℕ = s.dimension in
          let w : ℕ = d * s.nodes + d * s.branching in
          let j : List Float = centroids sp vs st.past in
          let lj = length-centroids sp vs st.past in
          let c = ap (λ (k : ℕ). k * d) (full ∙ st.count_is) in
          let m = mul_comm s.nodes d in
          let a = mul-add d s.vectors s.nodes in
          let b = centres-end d s.vectors s.nodes s.branching in
          let r = lent.floats_room in
          alike_freed (record { start = centroids_at s; count = w }) floats₀ floats (omega arith) st.floats_length
          (alike_trans (centroids_at s) w (alike-sets (centroids_at s) w floats₀ (centroids_at s) j (omega arith) (omega arith))
          (alike_widen (centres_at s) (d * s.branching) (centroids_at s) w (sets floats₀ (centroids_at s) j) floats st.floats_alike (omega arith) (omega arith)))

      numbers_free : Freed (record { start = order_at s; count = s.vectors + 6 * s.nodes } ∷ []) numbers₀ numbers
      numbers_free =
          let w : ℕ = s.vectors + 6 * s.nodes in
          let x : List ℕ = leaves sp st.past ++ encoded st.waiting in
          let y : List ℕ = sixes sp vs 0 st.past in
          let lx = order-length _ _ _ _ _ _ lent _ _ _ _ _ st in
          let ly = length-sixes sp vs 0 st.past in
          let c = st.count_is in
          let h = lent.held in
          let r = lent.numbers_room in
          alike_freed (record { start = order_at s; count = w }) numbers₀ numbers (omega arith) st.numbers_length
          (subst (λ (l : List ℕ). AlikeBut (order_at s) w numbers₀ l) (sym st.numbers_are)
          (alike_trans (order_at s) w (alike-sets (order_at s) w numbers₀ (order_at s) x (omega arith) (omega arith))
          (alike-sets (order_at s) w (sets numbers₀ (order_at s) x) (nodes_at s) y (omega arith) (omega arith))))

      pub standing_overfull : Overfull s floats₀ floats numbers₀ numbers work₀ work None
      standing_overfull =
          let r = lent.work_room in
          record {
            answered = refl;
            floats_free =
                freed_cut (record { start = centroids_at s; count = s.dimension * s.nodes }) (record { start = centres_at s; count = s.dimension * s.branching }) floats₀ floats
                (mul-add s.dimension s.vectors s.nodes) floats_free;
            numbers_free = freed_cut (record { start = order_at s; count = s.vectors }) (record { start = nodes_at s; count = 6 * s.nodes }) numbers₀ numbers (omega arith) numbers_free;
            work_free = alike_freed (work_part s) work₀ work (omega arith) st.work_length st.work_alike;
          }

      pub built-overfull : Built s leaf n floats₀ floats numbers₀ numbers work₀ work None
      built-overfull = record { whole = λ few. absurd (let e = standing_more left in omega arith); overfull = λ many. standing_overfull }
