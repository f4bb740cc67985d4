-- A tree that is being made, one node further: a node is made of the first group that waits, and its children's groups take that group's place.
use Rattle.std.specs.Prelude.{ℕ, ◌+◌, ◌*◌, ◌≤◌, ◌<◌, ◌≡◌, refl, ◌⊎◌, Float}
use Rattle.std.proofs.Common.{sym, ap₂, subst, ◌∙◌, inl, inr, zero-add}
use Rattle.std.proofs.Math.Path.{ap}
use mathlib.Core.List.Memᴰ
use mathlib.Core.List.{List, [], ◌∷◌, ◌++◌, append_assoc, Memᴰ}
use native.Mathlib.Omega.{arith}
use Rattle.std.proofs.Math.ListN.{length, length-append}
use Rattle.std.proofs.lemmas.List.Edits.{sets}
use Rattle.lists.specs.Lists.{part, joined}
use Rattle.lists.specs.Counting.{joined-append}
use Rattle.lists.specs.Parts.{sets-append, sets_comm, part-sets-before}
use Rattle.store.specs.declared.Shape.{Shape}
use Rattle.store.specs.Store.{centroids_at, centres_at, order_at, nodes_at, work_size}
use Rattle.cluster.specs.Clusters.{mean_of}
use Rattle.cluster.specs.ClustersLaws.{length-mean_of}
use Rattle.cluster.specs.Vectors.{vectors_in}
use Rattle.lists.specs.Frame.{AlikeBut, alike_trans, alike_under}
use Rattle.tree.specs.Tree.{Splitting}
use Rattle.tree.proofs.Steps.{Group, child_groups, made, made-cons, root_group}
use Rattle.waiting_groups.specs.Waiting.{headed, encoded, group_at, own, stands, six, sixes, leaves, centroids}
use Rattle.waiting_groups.specs.WaitingLaws.{length-headed, encoded-cons, encoded-append, group_read, sets_middle, part_middle_sets}
use Rattle.build_tree.proofs.MadeLaws.{own-children, length-stands, children-sound, leaves_snoc, centroids_snoc, length-centroids, length-sixes, sixes_snoc, order-step}
use Rattle.build_tree.specs.Promises.{splitting_with, TreeLent, SoundGroup, Waits, MadeNode}
use Rattle.build_tree.proofs.Standing.{Standing, centroid-end, first_of, standing_vectors, order-length}

-- a group's place is overwritten, and six numbers are written behind those that stand
pub numbers-step : (l₀ l l' : List ℕ) (o q : ℕ) (front old new rest sixes six : List ℕ) → l ≡ sets (sets l₀ o (front ++ (old ++ rest))) q sixes
    → l' ≡ sets (sets l (o + length front) new) (q + length sixes) six → length new ≡ length old → o + length (front ++ (old ++ rest)) ≤ q
    → l' ≡ sets (sets l₀ o (front ++ (new ++ rest))) q (sixes ++ six)
numbers-step l₀ l l' o q front old new rest sixes six e e' n h =
    let p : ℕ = o + length front in
    let a = length-append front (old ++ rest) in
    let b = length-append old rest in
    let base : List ℕ = sets l₀ o (front ++ (old ++ rest)) in
    e'
    ∙ ap (λ (r : List ℕ). sets (sets r p new) (q + length sixes) six) e
    ∙ ap (λ (r : List ℕ). sets r (q + length sixes) six)
    (sym (sets_comm base p new q sixes (omega arith)) ∙ ap (λ (r : List ℕ). sets r q sixes) (sets_middle l₀ o front old new rest n))
    ∙ sym (sets-append (sets l₀ o (front ++ (new ++ rest))) q sixes six)

module _
    (s : Shape) (leaf n : ℕ) (floats₀ : List Float) (numbers₀ work₀ : List ℕ) (lent : TreeLent s n floats₀ numbers₀ work₀) (count done : ℕ) (floats : List Float)
    (numbers work : List ℕ) (st : Standing s leaf n floats₀ numbers₀ work₀ count done floats numbers work)
  where
    abbrev sp : Splitting
    sp = splitting_with s leaf

    abbrev vs : List (List Float)
    vs = vectors_in s.dimension n floats₀

    -- ---- the first group that waits

    module _ (g : Group) (rest : List Group) (w : st.waiting ≡ g ∷ rest) where
      sound-first : SoundGroup n g
      sound-first = st.sound g (subst (λ (l : List Group). Memᴰ g l) (sym w) (Memᴰ.head refl))

      order_is : leaves sp st.past ++ encoded st.waiting ≡ leaves sp st.past ++ (headed g.levels g.ids ++ encoded rest)
      order_is = ap (λ (r : List ℕ). leaves sp st.past ++ r) (ap encoded w ∙ encoded-cons g rest)

      numbers_were : numbers ≡ sets (sets numbers₀ (order_at s) (leaves sp st.past ++ (headed g.levels g.ids ++ encoded rest))) (nodes_at s) (sixes sp vs 0 st.past)
      numbers_were = st.numbers_are ∙ ap (λ (l : List ℕ). sets (sets numbers₀ (order_at s) l) (nodes_at s) (sixes sp vs 0 st.past)) order_is

      order-size : length (leaves sp st.past ++ (headed g.levels g.ids ++ encoded rest)) ≡ n
      order-size = ap (λ (l : List ℕ). length l) (sym order_is) ∙ order-length _ _ _ _ _ _ lent _ _ _ _ _ st

      first-within : done + length g.ids ≤ n
      first-within =
          let a = length-append (leaves sp st.past) (headed g.levels g.ids ++ encoded rest) in
          let b = length-append (headed g.levels g.ids) (encoded rest) in
          let c = length-headed g.levels g.ids in
          let d = order-size in
          let e = st.done_is in
          omega arith

      first_read : group_at numbers (order_at s + done) ≡ g
      first_read =
          let p : List ℕ = leaves sp st.past in
          let h : List ℕ = headed g.levels g.ids in
          let k : length h ≡ length g.ids = length-headed g.levels g.ids in
          let i = first-within in
          let f = lent.held in
          let v = lent.limits.vectors_high in
          let r = lent.numbers_room in
          let z = order-size in
          let l₁ : List ℕ = sets numbers₀ (order_at s) (p ++ (h ++ encoded rest)) in
          let there : part (order_at s + done) (length g.ids) numbers ≡ h =
          ap (λ (l : List ℕ). part (order_at s + done) (length g.ids) l) numbers_were
          ∙ part-sets-before (order_at s + done) (length g.ids) l₁ (nodes_at s) (sixes sp vs 0 st.past) (omega arith)
          ∙ ap₂ (λ (a b : ℕ). part (order_at s + a) b l₁) st.done_is (sym k)
          ∙ part_middle_sets numbers₀ (order_at s) p h (encoded rest) (omega arith)
          in
          group_read numbers (order_at s + done) g.levels g.ids sound-first.filled (omega arith)
          (λ i b. let x = sound-first.below i b in omega arith) there

      first-waits : count < s.nodes → Waits s n count done g
      first-waits h = record { made_few = h; sound = sound-first; within = first-within }

      -- ---- a node is made

      module _ (more : count < s.nodes) (floats' : List Float) (numbers' work' : List ℕ) (next : ℕ)
          (step : MadeNode s leaf n count done g floats floats' numbers numbers' work work' next) (floats-kept : length floats' ≡ length floats)
          (numbers-kept : length numbers' ≡ length numbers) (work-kept : length work' ≡ length work)
        where
          abbrev past' : List Group
          past' = st.past ++ (g ∷ [])

          abbrev waiting' : List Group
          waiting' = child_groups sp vs g ++ rest

          numbers_now : numbers' ≡ sets (sets numbers₀ (order_at s) (leaves sp past' ++ encoded waiting')) (nodes_at s) (sixes sp vs 0 past')
          numbers_now =
              let p : List ℕ = leaves sp st.past in
              let y : List ℕ = sixes sp vs 0 st.past in
              let l = length-sixes sp vs 0 st.past in
              let c = st.count_is in
              let z = order-size in
              let f = lent.held in
              let at : nodes_at s + 6 * count ≡ nodes_at s + length y = omega arith in
              let d : 0 + length p ≡ done = zero-add (length p) ∙ sym st.done_is in
              let was : numbers' ≡ sets (sets numbers (order_at s + length p) (stands sp vs g)) (nodes_at s + length y) (six sp vs done g) =
              step.numbers_are
              ∙ ap (λ (v : List (List Float)). sets (sets numbers (order_at s + done) (stands sp v g)) (nodes_at s + 6 * count) (six sp v done g)) (standing_vectors _ _ _ _ _ _ lent _ _ _ _ _ st)
              ∙ ap₂ (λ (a b : ℕ). sets (sets numbers (order_at s + a) (stands sp vs g)) b (six sp vs done g)) st.done_is at
              in
              let order : p ++ (stands sp vs g ++ encoded rest) ≡ leaves sp past' ++ encoded waiting' =
              order-step sp vs st.past g rest ∙ ap (λ (r : List ℕ). leaves sp past' ++ r) (sym (encoded-append (child_groups sp vs g) rest))
              in
              let sx : y ++ six sp vs done g ≡ sixes sp vs 0 past' =
              ap (λ (k : ℕ). y ++ six sp vs k g) (sym d) ∙ sym (sixes_snoc sp vs 0 st.past g)
              in
              numbers-step numbers₀ numbers numbers' (order_at s) (nodes_at s) p (headed g.levels g.ids) (stands sp vs g) (encoded rest) y (six sp vs done g)
              numbers_were was (length-stands sp vs lent.limits.branching_low g ∙ sym (length-headed g.levels g.ids)) (omega arith)
              ∙ ap₂ (λ (a b : List ℕ). sets (sets numbers₀ (order_at s) a) (nodes_at s) b) order sx

          floats_now : AlikeBut (centres_at s) (s.dimension * s.branching) (sets floats₀ (centroids_at s) (centroids sp vs past')) floats'
          floats_now =
              let j : List Float = centroids sp vs st.past in
              let m : List Float = mean_of s.dimension vs g.ids in
              let lj = length-centroids sp vs st.past in
              let lm = length-mean_of s.dimension vs g.ids in
              let c = ap (λ (k : ℕ). k * s.dimension) st.count_is in
              let at : centroids_at s + count * s.dimension ≡ centroids_at s + length j = omega arith in
              let room = centroid-end s.dimension s.vectors s.nodes count more in
              let fit : centroids_at s + length j + length m ≤ centres_at s = omega arith in
              let both : sets (sets floats₀ (centroids_at s) j) (centroids_at s + length j) m ≡ sets floats₀ (centroids_at s) (centroids sp vs past') =
              sym (sets-append floats₀ (centroids_at s) j m) ∙ ap (λ (l : List Float). sets floats₀ (centroids_at s) l) (sym (centroids_snoc sp vs st.past g))
              in
              let mine : AlikeBut (centres_at s) (s.dimension * s.branching) (sets floats (centroids_at s + length j) m) floats' =
              subst (λ (l : List Float). AlikeBut (centres_at s) (s.dimension * s.branching) l floats')
              (ap₂ (λ (a : ℕ) (v : List (List Float)). sets floats a (mean_of s.dimension v g.ids)) at (standing_vectors _ _ _ _ _ _ lent _ _ _ _ _ st)) step.floats_alike
              in
              subst (λ (l : List Float). AlikeBut (centres_at s) (s.dimension * s.branching) l floats') both
              (alike_trans (centres_at s) (s.dimension * s.branching)
              (alike_under (centres_at s) (s.dimension * s.branching) (sets floats₀ (centroids_at s) j) floats (centroids_at s + length j) m st.floats_alike fit) mine)

          due_now : made sp vs (root_group sp vs ∷ []) ≡ past' ++ made sp vs waiting'
          due_now =
              st.due
              ∙ ap (λ (l : List Group). st.past ++ made sp vs l) w
              ∙ ap (λ (l : List Group). st.past ++ l) (made-cons sp vs g rest)
              ∙ sym (append_assoc st.past (g ∷ []) (made sp vs waiting'))

          sound_now : (h : Group) → Memᴰ h waiting' → SoundGroup n h
          sound_now h m = go (Memᴰ.append_cases (child_groups sp vs g) m)
            where
              go : Memᴰ h (child_groups sp vs g) ⊎ Memᴰ h rest → SoundGroup n h
              go (inl m) = children-sound sp vs n g lent.limits.branching_low sound-first h m
              go (inr m) = st.sound h (subst (λ (l : List Group). Memᴰ h l) (sym w) (Memᴰ.tail m))

          all_now : next + length (joined (λ g. g.ids) waiting') ≡ n
          unfolding joined
          all_now =
              let a = ap (λ (l : List ℕ). length l) (joined-append (λ g. g.ids) (child_groups sp vs g) rest) in
              let b = length-append (joined (λ g. g.ids) (child_groups sp vs g)) (joined (λ g. g.ids) rest) in
              let c = ap (λ (l : List Group). length (joined (λ g. g.ids) l)) w in
              let d = length-append g.ids (joined (λ g. g.ids) rest) in
              let e = own-children sp vs lent.limits.branching_low g in
              let f = step.next_is in
              let h = st.all in
              omega arith

          done_now : next ≡ length (leaves sp past')
          done_now =
              let a = ap (λ (l : List ℕ). length l) (leaves_snoc sp vs st.past g) in
              let b = length-append (leaves sp st.past) (own sp g) in
              let c = step.next_is in
              let d = st.done_is in
              omega arith

          pub standing_next : Standing s leaf n floats₀ numbers₀ work₀ (count + 1) next floats' numbers' work'
          standing_next =
              let a = length-append st.past (g ∷ []) in
              let b = st.count_is in
              record {
                past = past';
                waiting = waiting';
                count_is = omega arith;
                due = due_now;
                done_is = done_now;
                all = all_now;
                sound = sound_now;
                numbers_are = numbers_now;
                floats_alike = floats_now;
                work_alike = alike_trans 0 (work_size s) st.work_alike step.work_alike;
                floats_length = floats-kept ∙ st.floats_length;
                numbers_length = numbers-kept ∙ st.numbers_length;
                work_length = work-kept ∙ st.work_length;
              }

    -- ---- the loop

    module _ (left : done < n) where
      first : (g : Group) × (rest : List Group) × (st.waiting ≡ g ∷ rest)
      first = let a = st.all in first_of st.waiting (omega arith)

      abbrev here : Group
      here = group_at numbers (order_at s + done)

      here-is : here ≡ first.0
      here-is = first_read first.0 first.1 first.2

      pub next-waits : count < s.nodes → Waits s n count done here
      next-waits more = subst (Waits s n count done) (sym here-is) (first-waits first.0 first.1 first.2 more)

      pub standing_step : count < s.nodes → (floats' : List Float) (numbers' work' : List ℕ) (next : ℕ)
          → MadeNode s leaf n count done here floats floats' numbers numbers' work work' next → length floats' ≡ length floats
          → length numbers' ≡ length numbers → length work' ≡ length work → Standing s leaf n floats₀ numbers₀ work₀ (count + 1) next floats' numbers' work'
      standing_step more floats' numbers' work' next step =
          standing_next first.0 first.1 first.2 more floats' numbers' work' next
          (subst (λ (g : Group). MadeNode s leaf n count done g floats floats' numbers numbers' work work' next) here-is step)
