-- One node is made of a group: the header is cleared, so that the group's ids stand in the numbers; then a leaf keeps them, and an inner node has its
-- clusters in their place.
use Prim.Native.Nat.{ℕ, ◌+◌, ◌-◌, ◌*◌, ◌/◌, ◌%◌, ◌≤◌, ◌<◌}
use mathlib.Core.Path.{◌≡◌, refl, sym, ap, ap₂, subst, ◌∙◌}
use mathlib.Core.Bool.{Bool, true, false}
use mathlib.Core.List.{List, [], ◌∷◌, ◌++◌, append-nil}
use native.Mathlib.Nat.{not-suc-le-zero}
use native.Mathlib.Omega.{arith}
use lib.Ieee.{Float}
use lib.ListN.{length, get_or, set, take, drop, length-set}
use lib.Seq.{sets}
use Rattle.lists.specs.Lists.{part, keep, joined}
use Rattle.lists.specs.Parts.{take-sets, part-sets-same, sets-sets-same}
use Rattle.store.specs.declared.Shape.{Shape}
use Rattle.store.specs.Store.{centroids_at, centres_at, order_at, nodes_at, work_size}
use Rattle.cluster.specs.Clusters.{clusters, mean_of}
use Rattle.cluster.specs.Vectors.{vectors_in}
use Rattle.cluster.specs.Promises.{BehindVectors}
use Rattle.lists.specs.Frame.{AlikeBut, alike_refl, alike_widen}
use Rattle.cluster.specs.VectorsLaws.{vectors_in-front}
use Rattle.tree.specs.Tree.{Splitting}
use Rattle.tree.specs.Layout.{start_of}
use Rattle.tree.proofs.Steps.{Group, is_leaf, child_groups, child_groups_leaf}
use Rattle.waiting_groups.specs.Waiting.{non_empty_list, headed, encoded, group_at, leaf_by, stands, six}
use Rattle.waiting_groups.specs.WaitingLaws.{group_size, group_levels, head_cleared, leaf_by_size, inner_levels, children-encoded, children-count}
use Rattle.build_tree.proofs.MadeLaws.{own_leaf, own_inner}
use Rattle.build_tree.proofs.Standing.{vectors-end, centroid-end, centres-end}
use Rattle.build_tree.specs.Promises.{splitting_with, TreeLent, Waits, Splits, Divided, MadeNode}
use Rattle.build_tree.proofs.Dividing.{lent_by_ends, length-headed-clusters}

-- ---- a leaf and an inner node

module _ (s : Splitting) (vectors : List (List Float)) (g : Group) where
  stands_leaf : is_leaf s g.levels g.ids ≡ true → stands s vectors g ≡ g.ids
  unfolding stands encoded joined
  stands_leaf h =
      ap₂ (λ (a : List ℕ) (b : List Group). a ++ encoded b) (own_leaf s vectors g h) (child_groups_leaf s vectors g h) ∙ append-nil g.ids

  start-some : (v : ℕ) (l : List ℕ) → 1 ≤ length l → start_of v l ≡ v
  unfolding start_of
  start-some v [] h = absurd (not-suc-le-zero h)
  start-some v (x ∷ l) h = refl

  six_leaf : (v : ℕ) → 1 ≤ length g.ids → is_leaf s g.levels g.ids ≡ true → six s vectors v g ≡ 0 ∷ 0 ∷ v ∷ length g.ids ∷ 0 ∷ 0 ∷ []
  unfolding six
  six_leaf v some h =
      ap₂ (λ (a : List ℕ) (b : List Group). 0 ∷ length b ∷ start_of v a ∷ length a ∷ 0 ∷ 0 ∷ []) (own_leaf s vectors g h) (child_groups_leaf s vectors g h)
      ∙ ap (λ (k : ℕ). 0 ∷ 0 ∷ k ∷ length g.ids ∷ 0 ∷ 0 ∷ []) (start-some v g.ids some)

  stands_inner : is_leaf s g.levels g.ids ≡ false
      → stands s vectors g ≡ joined (headed (g.levels - 1)) (clusters s.dimension s.branching vectors g.ids)
  unfolding stands
  stands_inner h =
      ap (λ (a : List ℕ). a ++ encoded (child_groups s vectors g)) (own_inner s vectors g h) ∙ children-encoded s vectors g.levels g.ids h

  six_inner : (v : ℕ) → is_leaf s g.levels g.ids ≡ false
      → six s vectors v g ≡ 0 ∷ length (keep non_empty_list (clusters s.dimension s.branching vectors g.ids)) ∷ 0 ∷ 0 ∷ 0 ∷ 0 ∷ []
  unfolding six start_of
  six_inner v h =
      ap₂ (λ (a : List ℕ) (k : ℕ). 0 ∷ k ∷ start_of v a ∷ length a ∷ 0 ∷ 0 ∷ []) (own_inner s vectors g h) (children-count s vectors g.levels g.ids h)

-- ---- the step

module _ {s : Shape} {n made done : ℕ} {floats : List Float} {numbers work : List ℕ} (lent : TreeLent s n floats numbers work)
    (waits : Waits s n made done (group_at numbers (order_at s + done)))
  where
    abbrev g : Group
    g = group_at numbers (order_at s + done)

    abbrev vs : List (List Float)
    vs = vectors_in s.dimension n floats

    -- where the centroid stands
    pub centroid-fits : centroids_at s + made * s.dimension + s.dimension ≤ centres_at s
    centroid-fits = centroid-end s.dimension s.vectors s.nodes made waits.made_few

    pub centroid-within : centroids_at s + made * s.dimension + s.dimension ≤ length floats
    centroid-within =
        let a = centroid-fits in
        let b = centres-end s.dimension s.vectors s.nodes s.branching in
        let c = lent.floats_room in
        omega arith

    pub six-within : nodes_at s + 6 * made + 6 ≤ length numbers
    six-within = let a = waits.made_few in let b = lent.numbers_room in omega arith

    group_within : order_at s + done + length g.ids < length numbers
    group_within =
        let a = waits.within in
        let b = lent.held in
        let c = lent.numbers_room in
        let d = lent.limits.nodes_low in
        omega arith

    -- the header is read at the place `order + done`, and cleared
    module _ {order size levels : ℕ} {numbers₁ : List ℕ} (order_is : order ≡ order_at s)
        (head : (size ≡ get_or numbers (order + done) 0 / 4096 % 4096 + 1)
        × ((levels ≡ get_or numbers (order + done) 0 / 16777216) × (numbers₁ ≡ set numbers (order + done) (get_or numbers (order + done) 0 % 4096))))
      where
        abbrev start : ℕ
        start = order + done

        at : start ≡ order_at s + done
        at = ap (λ (o : ℕ). o + done) order_is

        pub size-g : size ≡ length g.ids
        size-g =
            head.0
            ∙ ap (λ (i : ℕ). get_or numbers i 0 / 4096 % 4096 + 1) at
            ∙ sym (group_size numbers (order_at s + done) group_within)

        levels-g : levels ≡ g.levels
        levels-g = head.1.0 ∙ ap (λ (i : ℕ). get_or numbers i 0 / 16777216) at ∙ sym (group_levels numbers (order_at s + done))

        numbers₁_are : numbers₁ ≡ sets numbers (order_at s + done) g.ids
        numbers₁_are = head.1.1 ∙ ap (λ (i : ℕ). set numbers i (get_or numbers i 0 % 4096)) at ∙ head_cleared numbers (order_at s + done)

        pub length_numbers₁ : length numbers₁ ≡ length numbers
        length_numbers₁ = ap (λ (l : List ℕ). length l) head.1.1 ∙ length-set numbers start (get_or numbers start 0 % 4096)

        pub group_fits : start + size ≤ length numbers₁
        group_fits = let a = size-g in let b = group_within in let c = length_numbers₁ in omega arith

        ids-there : part start size numbers₁ ≡ g.ids
        ids-there =
            let a = group_within in
            ap₂ (λ (i j : ℕ). part i j numbers₁) at size-g
            ∙ ap (λ (l : List ℕ). part (order_at s + done) (length g.ids) l) numbers₁_are
            ∙ part-sets-same numbers (order_at s + done) g.ids (omega arith)

        pub lent-there : take (start + size - start) (drop start numbers₁) ≡ g.ids
        lent-there = lent_by_ends numbers₁ start size ∙ ids-there

        pub end_fits : done + size ≤ n
        end_fits = let a = size-g in let b = waits.within in omega arith

        pub mean_room : {cents : ℕ} → cents ≡ centroids_at s
            → BehindVectors floats (take (start + size - start) (drop start numbers₁)) s.dimension n (cents + made * s.dimension) s.dimension
        mean_room e =
            let a = centroid-within in
            let b = vectors-end s.dimension n s.vectors lent.held in
            let d = end_fits in
            let f = lent.held in
            let v = lent.limits.vectors_high in
            let k = size-g in
            let here : BehindVectors floats g.ids s.dimension n (centroids_at s + made * s.dimension) s.dimension =
            record { below = waits.sound.below; few = omega arith; behind = omega arith; within = omega arith }
            in
            rw (e, lent-there) here

        leaf_told : (leaf : ℕ) (b : Bool) → leaf_by leaf levels size ≡ b → is_leaf (splitting_with s leaf) g.levels g.ids ≡ b
        leaf_told leaf b h =
            leaf_by_size (splitting_with s leaf) vs g.levels g.ids ∙ ap₂ (λ (i j : ℕ). leaf_by leaf i j) (sym levels-g) (sym size-g) ∙ h

        module _ {cents nodes : ℕ} {floats₁ : List Float} (leaf : ℕ) (cents-is : cents ≡ centroids_at s) (nodes-is : nodes ≡ nodes_at s)
            (mean : floats₁ ≡ sets floats (cents + made * s.dimension) (mean_of s.dimension vs (take (start + size - start) (drop start numbers₁))))
          where
            abbrev sp : Splitting
            sp = splitting_with s leaf

            abbrev six_at : ℕ
            six_at = nodes + 6 * made

            six-is : six_at ≡ nodes_at s + 6 * made
            six-is = ap (λ (k : ℕ). k + 6 * made) nodes-is

            floats₁_are : floats₁ ≡ sets floats (centroids_at s + made * s.dimension) (mean_of s.dimension vs g.ids)
            floats₁_are = mean ∙ ap₂ (λ (i : ℕ) (l : List ℕ). sets floats (i + made * s.dimension) (mean_of s.dimension vs l)) cents-is lent-there

            pub leaf_end : {numbers' : List ℕ} → leaf_by leaf levels size ≡ true → numbers' ≡ sets numbers₁ six_at (0 ∷ 0 ∷ done ∷ size ∷ 0 ∷ 0 ∷ [])
                → MadeNode s leaf n made done g floats floats₁ numbers numbers' work work (done + size)
            leaf_end told written =
                let h : is_leaf sp g.levels g.ids ≡ true = leaf_told leaf true told in
                record {
                  numbers_are =
                      written
                      ∙ ap₂ (λ (i k : ℕ). sets numbers₁ i (0 ∷ 0 ∷ done ∷ k ∷ 0 ∷ 0 ∷ [])) six-is size-g
                      ∙ ap₂ (λ (l x : List ℕ). sets l (nodes_at s + 6 * made) x)
                      (numbers₁_are ∙ ap (λ (x : List ℕ). sets numbers (order_at s + done) x) (sym (stands_leaf sp vs g h)))
                      (sym (six_leaf sp vs g done waits.sound.filled h));
                  floats_alike =
                      subst (λ (l : List Float). AlikeBut (centres_at s) (s.dimension * s.branching) l floats₁) floats₁_are
                      (alike_refl (centres_at s) (s.dimension * s.branching) floats₁);
                  work_alike = alike_refl 0 (work_size s) work;
                  next_is = ap (λ (k : ℕ). done + k) (size-g ∙ ap (λ (l : List ℕ). length l) (sym (own_leaf sp vs g h)));
                }

            module _ (told : leaf_by leaf levels size ≡ false) where
              inner : is_leaf sp g.levels g.ids ≡ false
              inner = leaf_told leaf false told

              pub levels-some : 1 ≤ levels
              levels-some = let a = inner_levels sp vs g.levels g.ids inner in let b = levels-g in omega arith

              pub splits : Splits n (levels - 1) start size six_at numbers₁
              splits =
                  let a = waits.sound.few in
                  let b = levels-g in
                  let f = size-g in
                  let d = waits.sound.filled in
                  let e = end_fits in
                  let h = six-within in
                  let k = length_numbers₁ in
                  record {
                    few = omega arith;
                    filled = omega arith;
                    many = omega arith;
                    within = group_fits;
                    room = omega arith;
                    below = λ i h. subst (λ (l : List ℕ). get_or l i 0 < n) (sym ids-there) (waits.sound.below i (omega arith));
                  }

              pub lent₁ : length floats₁ ≡ length floats → TreeLent s n floats₁ numbers₁ work
              lent₁ e =
                  let a = lent.floats_room in
                  let b = lent.numbers_room in
                  let d = length_numbers₁ in
                  record { limits = lent.limits; some = lent.some; held = lent.held; floats_room = omega arith; numbers_room = omega arith; work_room = lent.work_room }

              vectors₁ : vectors_in s.dimension n floats₁ ≡ vs
              vectors₁ =
                  let a = vectors-end s.dimension n s.vectors lent.held in
                  ap (λ (l : List Float). vectors_in s.dimension n l) floats₁_are
                  ∙ vectors_in-front s.dimension n (centroids_at s) (sets floats (centroids_at s + made * s.dimension) (mean_of s.dimension vs g.ids)) floats a
                  (take-sets (centroids_at s) floats (centroids_at s + made * s.dimension) (mean_of s.dimension vs g.ids) (omega arith))

              pub inner_end : {floats' : List Float} {numbers' work' : List ℕ}
                  → Divided s n (levels - 1) start size six_at floats₁ floats' numbers₁ numbers' work work'
                  → MadeNode s leaf n made done g floats floats' numbers numbers' work work' done
              inner_end {floats'} {numbers'} {work'} div =
                  let d : ℕ = s.dimension in
                  let b : ℕ = s.branching in
                  let cs : List (List ℕ) = clusters d b vs g.ids in
                  let x : List ℕ = joined (headed (g.levels - 1)) cs in
                  let x-is : x ≡ stands sp vs g = sym (stands_inner sp vs g inner) in
                  let lx : length g.ids ≡ length x = sym (length-headed-clusters s n (g.levels - 1) g.ids lent.limits vs) in
                  let y : List ℕ = 0 ∷ length (keep non_empty_list cs) ∷ 0 ∷ 0 ∷ 0 ∷ 0 ∷ [] in
                  let moved : numbers' ≡ sets (sets numbers₁ (order_at s + done) x) (nodes_at s + 6 * made) y =
                  div.numbers_are
                  ∙ ap₂ (λ (v : List (List Float)) (l : List ℕ). sets (sets numbers₁ start (joined (headed (levels - 1)) (clusters d b v l))) six_at (0 ∷ length (keep non_empty_list (clusters d b v l)) ∷ 0 ∷ 0 ∷ 0 ∷ 0 ∷ [])) vectors₁ ids-there
                  ∙ ap₂ (λ (i k : ℕ). sets (sets numbers₁ i (joined (headed (k - 1)) cs)) six_at y) at levels-g
                  ∙ ap (λ (i : ℕ). sets (sets numbers₁ (order_at s + done) x) i y) six-is
                  in
                  let k = size-g in
                  let e = end_fits in
                  let v = lent.held in
                  let o = own_inner sp vs g inner in
                  record {
                    numbers_are =
                        moved
                        ∙ ap (λ (l : List ℕ). sets l (nodes_at s + 6 * made) y)
                        (ap (λ (l : List ℕ). sets l (order_at s + done) x) numbers₁_are ∙ sets-sets-same numbers (order_at s + done) g.ids x lx)
                        ∙ ap₂ (λ (p q : List ℕ). sets (sets numbers (order_at s + done) p) (nodes_at s + 6 * made) q) x-is (sym (six_inner sp vs g done inner));
                    floats_alike = subst (λ (l : List Float). AlikeBut (centres_at s) (d * b) l floats') floats₁_are div.floats_alike;
                    work_alike = alike_widen 0 (2 * size) 0 (work_size s) work work' div.work_alike (omega arith) (omega arith);
                    next_is = let z = ap (λ (l : List ℕ). length l) o in omega arith;
                  }
