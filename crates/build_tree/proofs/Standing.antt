-- A tree that is being made stands in the lists: some nodes are made and some groups wait. It begins with the root's group.
use Rattle.std.specs.Prelude.{ℕ, ◌+◌, ◌*◌, ◌≤◌, ◌<◌, ◌≡◌, refl, ◌⊎◌, Float}
use Rattle.std.proofs.Common.{sym, ◌∙◌, inl, inr, mul_comm, mul-add, mul-le-mul_right, not-suc-le-zero, arith, length-append}
use Rattle.std.proofs.Math.Path.{ap, subst}
use mathlib.Core.List.Memᴰ
use mathlib.Core.List.{List, [], ◌∷◌, ◌++◌, append-nil, Memᴰ}
use Rattle.std.proofs.Math.Nat.{zero-add}
use Rattle.std.proofs.Math.ListN.{length}
use Rattle.std.proofs.Math.Seq.{sets, length-sets}
use Rattle.lists.specs.Lists.{joined, count_from}
use Rattle.lists.specs.Counting.{length-count_from, get_d_count_from}
use Rattle.lists.specs.Parts.{take-sets}
use Rattle.store.specs.declared.Shape.{Shape}
use Rattle.store.specs.Store.{centroids_at, centres_at, order_at, nodes_at, work_size}
use Rattle.cluster.specs.Vectors.{vectors_in}
use Rattle.lists.specs.Frame.{AlikeBut, alike_refl}
use Rattle.cluster.specs.VectorsLaws.{row-end, length-vectors_in, vectors_in-front, alike-vectors}
use Rattle.tree.specs.Tree.{Splitting}
use Rattle.tree.proofs.Steps.{Group, made, root_group}
use Rattle.waiting_groups.specs.Waiting.{headed, encoded, sixes, leaves, centroids}
use Rattle.waiting_groups.specs.WaitingLaws.{encoded-cons, length-encoded}
use Rattle.build_tree.specs.Promises.{splitting_with, TreeLent, SoundGroup}

-- ---- places

pub vectors-end : (d n v : ℕ) → n ≤ v → n * d ≤ d * v
vectors-end d n v h = let a : n * d ≤ v * d = mul-le-mul_right d h in let b = mul_comm v d in omega arith

pub centroid-end : (d v m k : ℕ) → k < m → d * v + k * d + d ≤ d * (v + m)
centroid-end d v m k h = let a = row-end d k m h in let b = mul_comm m d in let c = mul-add d v m in omega arith

pub centres-end : (d v m b : ℕ) → d * (v + m) + d * b ≡ d * (v + m + b)
centres-end d v m b = sym (mul-add d (v + m) b)

-- ---- the state

pub record Standing (s : Shape) (leaf n : ℕ) (floats₀ : List Float) (numbers₀ work₀ : List ℕ) (count done : ℕ) (floats : List Float) (numbers work : List ℕ)
    : Type 0
  where
    pub past : List Group
    pub waiting : List Group
    pub count_is : count ≡ length past
    pub due : made (splitting_with s leaf) (vectors_in s.dimension n floats₀) (root_group (splitting_with s leaf) (vectors_in s.dimension n floats₀) ∷ [])
        ≡ past ++ made (splitting_with s leaf) (vectors_in s.dimension n floats₀) waiting
    pub done_is : done ≡ length (leaves (splitting_with s leaf) past)
    pub all : done + length (joined (λ g. g.ids) waiting) ≡ n
    pub sound : (g : Group) → Memᴰ g waiting → SoundGroup n g
    pub numbers_are : numbers
        ≡ sets (sets numbers₀ (order_at s) (leaves (splitting_with s leaf) past ++ encoded waiting)) (nodes_at s)
        (sixes (splitting_with s leaf) (vectors_in s.dimension n floats₀) 0 past)
    pub floats_alike : AlikeBut (centres_at s) (s.dimension * s.branching)
        (sets floats₀ (centroids_at s) (centroids (splitting_with s leaf) (vectors_in s.dimension n floats₀) past)) floats
    pub work_alike : AlikeBut 0 (work_size s) work₀ work
    pub floats_length : length floats ≡ length floats₀
    pub numbers_length : length numbers ≡ length numbers₀
    pub work_length : length work ≡ length work₀

-- where ids wait, a group does
pub first_of : (waiting : List Group) → 0 < length (joined (λ g. g.ids) waiting) → (g : Group) × (rest : List Group) × (waiting ≡ g ∷ rest)
unfolding joined
first_of [] h = absurd (not-suc-le-zero h)
first_of (g ∷ rest) h = (g, rest, refl)

module _ (s : Shape) (leaf n : ℕ) (floats₀ : List Float) (numbers₀ work₀ : List ℕ) (lent : TreeLent s n floats₀ numbers₀ work₀) where
  abbrev sp : Splitting
  sp = splitting_with s leaf

  abbrev vs : List (List Float)
  vs = vectors_in s.dimension n floats₀

  abbrev root : Group
  root = root_group sp vs

  abbrev StandsAt : ℕ → ℕ → List Float → List ℕ → List ℕ → Type 0
  StandsAt = Standing s leaf n floats₀ numbers₀ work₀

  root-size : length root.ids ≡ n
  root-size = length-count_from 0 (length vs) ∙ length-vectors_in s.dimension n floats₀

  root-sound : SoundGroup n root
  root-sound =
      let c = root-size in
      let v = length-vectors_in s.dimension n floats₀ in
      let b = lent.some in
      record {
        few = omega arith;
        filled = omega arith;
        below = λ i h. let k : i < length vs = omega arith in let e = get_d_count_from 0 (length vs) i 0 k in omega arith;
      }

  -- at the beginning
  pub standing_begin : (numbers : List ℕ) → numbers ≡ sets numbers₀ (order_at s) (headed 16 (count_from 0 n)) → StandsAt 0 0 floats₀ numbers work₀
  unfolding leaves joined sixes centroids encoded
  standing_begin numbers e =
      let v = length-vectors_in s.dimension n floats₀ in
      let h : encoded (root ∷ []) ≡ headed 16 (count_from 0 n) =
      encoded-cons root [] ∙ append-nil (headed 16 (count_from 0 (length vs))) ∙ ap (λ (k : ℕ). headed 16 (count_from 0 k)) v
      in
      let c : length (root.ids ++ []) ≡ n = ap (λ (l : List ℕ). length l) (append-nil root.ids) ∙ root-size in
      record {
        past = [];
        waiting = root ∷ [];
        count_is = refl;
        due = refl;
        done_is = refl;
        all = zero-add (length (root.ids ++ [])) ∙ c;
        sound = λ g m. only g (Memᴰ.cases_cons m);
        numbers_are = e ∙ ap (λ (l : List ℕ). sets numbers₀ (order_at s) l) (sym h);
        floats_alike = alike_refl (centres_at s) (s.dimension * s.branching) floats₀;
        work_alike = alike_refl 0 (work_size s) work₀;
        floats_length = refl;
        numbers_length = ap (λ (l : List ℕ). length l) e ∙ length-sets numbers₀ (order_at s) (headed 16 (count_from 0 n));
        work_length = refl;
      }
    where
      only : (g : Group) → (g ≡ root) ⊎ Memᴰ g [] → SoundGroup n g
      only g (inl q) = subst (SoundGroup n) (sym q) root-sound
      only g (inr m) = absurd (Memᴰ.not-nil m)

  module _ (count done : ℕ) (floats : List Float) (numbers work : List ℕ) (st : StandsAt count done floats numbers work) where
    -- the vectors stay
    pub standing_vectors : vectors_in s.dimension n floats ≡ vs
    standing_vectors =
        let a = vectors-end s.dimension n s.vectors lent.held in
        let b = mul-add s.dimension s.vectors s.nodes in
        alike-vectors s.dimension n (centres_at s) (s.dimension * s.branching) (sets floats₀ (centroids_at s) (centroids sp vs st.past)) floats st.floats_alike
        (omega arith)
        ∙ vectors_in-front s.dimension n (centroids_at s) (sets floats₀ (centroids_at s) (centroids sp vs st.past)) floats₀ a
        (take-sets (centroids_at s) floats₀ (centroids_at s) (centroids sp vs st.past) (omega arith))

    pub standing_lent : TreeLent s n floats numbers work
    standing_lent =
        let a = st.floats_length in
        let b = st.numbers_length in
        let c = st.work_length in
        let f = lent.floats_room in
        let g = lent.numbers_room in
        let h = lent.work_room in
        record { limits = lent.limits; some = lent.some; held = lent.held; floats_room = omega arith; numbers_room = omega arith; work_room = omega arith }

    -- the order part has as many ids as the index
    pub order-length : length (leaves sp st.past ++ encoded st.waiting) ≡ n
    order-length =
        let a = length-append (leaves sp st.past) (encoded st.waiting) in
        let b = length-encoded st.waiting in
        let c = st.all in
        let d = st.done_is in
        omega arith
