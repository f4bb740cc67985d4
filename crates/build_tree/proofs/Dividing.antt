-- A group that is split: the marks of the third round sort its ids into the clusters, which take their place in the numbers.
use Prim.Native.Nat.{ℕ, ◌+◌, ◌-◌, ◌*◌, ◌≤◌, ◌<◌, min}
use mathlib.Core.Path.{◌≡◌, sym, ap, ap₂, subst, ◌∙◌}
use mathlib.Core.List.{List, [], ◌∷◌}
use native.Mathlib.Nat.{mul_comm, mul-le-mul_right}
use native.Mathlib.Omega.{arith}
use lib.Ieee.{Float}
use lib.ListN.{length, get_or, take, drop}
use lib.Seq.{sets}
use Rattle.lists.specs.Lists.{part, keep, joined}
use Rattle.lists.specs.Parts.{length_part, part-sets-same}
use Rattle.lists.specs.Counting.{length-keep_le}
use Rattle.lists.specs.Partition.{perm_length}
use Rattle.store.specs.declared.Shape.{Shape}
use Rattle.store.specs.Store.{Limits, centres_at}
use Rattle.cluster.specs.Clusters.{clusters, last_centres}
use Rattle.cluster.specs.Vectors.{vectors_in}
use Rattle.kmeans.specs.Marks.{assignment}
use Rattle.cluster.specs.Promises.{BehindVectors}
use Rattle.lists.specs.Frame.{AlikeBut, alike_trans, alike-sets, alike_widen}
use Rattle.kmeans.specs.Promises.{Clustered}
use Rattle.cluster.specs.ClustersLaws.{perm_clusters, length-clusters}
use Rattle.waiting_groups.specs.Waiting.{non_empty_list, headed, sorted}
use Rattle.waiting_groups.specs.WaitingLaws.{sorted-clusters, length-joined-headed}
use Rattle.build_tree.proofs.Standing.{vectors-end, centres-end}
use Rattle.build_tree.specs.Promises.{TreeLent, Splits, Clustering, Divided}

module _ (s : Shape) (n levels : ℕ) (ids : List ℕ) (limits : Limits s) where
  -- the clusters, each with its header, have as many places as there are ids
  pub length-headed-clusters : (vectors : List (List Float)) → length (joined (headed levels) (clusters s.dimension s.branching vectors ids)) ≡ length ids
  length-headed-clusters vectors =
      length-joined-headed levels (clusters s.dimension s.branching vectors ids)
      ∙ perm_length (perm_clusters s.dimension s.branching vectors ids limits.branching_low)

  pub clusters-few : (vectors : List (List Float)) → length (keep non_empty_list (clusters s.dimension s.branching vectors ids)) ≤ 64
  clusters-few vectors =
      let a = length-keep_le non_empty_list (clusters s.dimension s.branching vectors ids) in
      let b = length-clusters s.dimension s.branching vectors ids in
      let c = limits.branching_high in
      omega arith

module _ {s : Shape} {n levels : ℕ} {ids : List ℕ} (limits : Limits s) where
  pub clustering_end : {at k : ℕ} {floats floats' : List Float} {work work₁ work' : List ℕ} {count : ℕ} → at ≡ centres_at s
      → k ≡ min s.branching (length ids) → 2 * length ids ≤ length work₁ → Clustered s.dimension n at k ids floats floats' work work₁
      → count ≡ length (keep non_empty_list (sorted k (take (length ids) work₁) ids))
      → work' ≡ sets work₁ (length ids) (joined (headed levels) (sorted k (take (length ids) work₁) ids))
      → Clustering s n levels ids floats floats' work work' count
  clustering_end {at} {k} {floats} {floats'} {work} {work₁} {work'} place few room done counted put =
      let d : ℕ = s.dimension in
      let b : ℕ = s.branching in
      let m : ℕ = length ids in
      let vs : List (List Float) = vectors_in d n floats in
      let cs : List (List ℕ) = clusters d b vs ids in
      let same : sorted k (take m work₁) ids ≡ cs =
      ap (λ (l : List ℕ). sorted k l ids) done.marks
      ∙ ap (λ (j : ℕ). sorted j (assignment vs (last_centres d j vs ids) ids) ids) few
      ∙ sorted-clusters d b vs ids
      in
      let x : List ℕ = joined (headed levels) cs in
      let lx : length x ≡ m = length-headed-clusters s n levels ids limits vs in
      let now : work' ≡ sets work₁ m x = put ∙ ap (λ (l : List (List ℕ)). sets work₁ m (joined (headed levels) l)) same in
      let width : k * d ≤ b * d = mul-le-mul_right d (omega arith) in
      let comm = mul_comm b d in
      record {
        counted = counted ∙ ap (λ (l : List (List ℕ)). length (keep non_empty_list l)) same;
        placed =
            ap (λ (l : List ℕ). part m m l) now
            ∙ ap (λ (j : ℕ). part m j (sets work₁ m x)) (sym lx)
            ∙ part-sets-same work₁ m x (omega arith);
        floats_alike =
            subst (λ (i : ℕ). AlikeBut i (d * b) floats floats') place
            (alike_widen at (k * d) at (d * b) floats floats' done.floats_alike (omega arith) (omega arith));
        work_alike =
            alike_trans 0 (2 * m) done.work_alike
            (subst (λ (l : List ℕ). AlikeBut 0 (2 * m) work₁ l) (sym now) (alike-sets 0 (2 * m) work₁ m x (omega arith) (omega arith)));
      }

-- a part that is lent, by its two ends
pub lent_by_ends : {A : Type 0} (l : List A) (start size : ℕ) → take (start + size - start) (drop start l) ≡ part start size l
lent_by_ends {A} l start size = let e : start + size - start ≡ size = omega arith in ap (λ (k : ℕ). take k (drop start l)) e

module _ {s : Shape} {n levels start size at : ℕ} {floats : List Float} {numbers work : List ℕ} (lent : TreeLent s n floats numbers work)
    (splits : Splits n levels start size at numbers)
  where
    abbrev lent_ids : List ℕ
    lent_ids = take (start + size - start) (drop start numbers)

    pub length-lent_ids : length lent_ids ≡ size
    length-lent_ids = ap (λ (l : List ℕ). length l) (lent_by_ends numbers start size) ∙ length_part start size numbers splits.within

    pub split-room : BehindVectors floats lent_ids s.dimension n (centres_at s) (s.dimension * s.branching)
    split-room =
        let l = length-lent_ids in
        let a = vectors-end s.dimension n (s.vectors + s.nodes) (let h = lent.held in omega arith) in
        let b = centres-end s.dimension s.vectors s.nodes s.branching in
        let c = lent.floats_room in
        let v = lent.limits.vectors_high in
        let h = lent.held in
        let m = splits.many in
        record {
          below = λ i k. subst (λ (r : List ℕ). get_or r i 0 < n) (sym (lent_by_ends numbers start size)) (splits.below i (omega arith));
          few = omega arith;
          behind = a;
          within = omega arith;
        }

    pub split-work : 2 * length lent_ids ≤ length work
    split-work =
        let l = length-lent_ids in
        let w = lent.work_room in
        let h = lent.held in
        let m = splits.many in
        omega arith

    module _ {floats' : List Float} {work' : List ℕ} {count : ℕ} (done : Clustering s n levels lent_ids floats floats' work work' count) where
      pub split-few : count ≤ 4096
      split-few =
          let a = clusters-few s n levels lent_ids lent.limits (vectors_in s.dimension n floats) in
          let b = done.counted in
          omega arith

      pub divided : {numbers₁ numbers' : List ℕ} → numbers₁ ≡ sets numbers start (take (2 * size - size) (drop size work')) → numbers' ≡ sets numbers₁ at (0 ∷ count ∷ 0 ∷ 0 ∷ 0 ∷ 0 ∷ [])
          → Divided s n levels start size at floats floats' numbers numbers' work work'
      divided copied six =
          let vs : List (List Float) = vectors_in s.dimension n floats in
          let same : lent_ids ≡ part start size numbers = lent_by_ends numbers start size in
          let k : length lent_ids ≡ size = length-lent_ids in
          let e : 2 * size - size ≡ size = omega arith in
          let there : take (2 * size - size) (drop size work') ≡ joined (headed levels) (clusters s.dimension s.branching vs (part start size numbers)) =
          ap (λ (j : ℕ). take j (drop size work')) e
          ∙ ap (λ (j : ℕ). part j j work') (sym k)
          ∙ done.placed
          ∙ ap (λ (l : List ℕ). joined (headed levels) (clusters s.dimension s.branching vs l)) same
          in
          let many : count ≡ length (keep non_empty_list (clusters s.dimension s.branching vs (part start size numbers))) =
          done.counted ∙ ap (λ (l : List ℕ). length (keep non_empty_list (clusters s.dimension s.branching vs l))) same
          in
          record {
            numbers_are =
                six
                ∙ ap₂ (λ (l : List ℕ) (j : ℕ). sets l at (0 ∷ j ∷ 0 ∷ 0 ∷ 0 ∷ 0 ∷ [])) (copied ∙ ap (λ (l : List ℕ). sets numbers start l) there) many;
            floats_alike = done.floats_alike;
            work_alike = subst (λ (j : ℕ). AlikeBut 0 (2 * j) work work') k done.work_alike;
          }
