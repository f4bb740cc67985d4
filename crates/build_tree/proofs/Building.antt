-- The loop of `build_tree`. Where it begins, `begin` has written the order part. That part is always written whole, so what stood there before does
-- not matter: what stands over the numbers after `begin` stands over those before it.
use Prim.Native.Nat.{ℕ, ◌+◌, ◌≤◌, ◌<◌}
use mathlib.Core.Path.{◌≡◌, refl, sym, ap, ◌∙◌}
use mathlib.Core.List.{List, ◌++◌}
use native.Mathlib.Omega.{arith}
use lib.Ieee.{Float}
use lib.ListN.{length}
use lib.Seq.{sets, length-sets}
use Rattle.lists.specs.Lists.{count_from}
use Rattle.lists.specs.Counting.{length-count_from}
use Rattle.lists.specs.Parts.{sets-sets-same}
use Rattle.store.specs.declared.Shape.{Shape}
use Rattle.store.specs.Store.{order_at, nodes_at}
use Rattle.cluster.specs.Vectors.{vectors_in}
use Rattle.waiting_groups.specs.Waiting.{headed, encoded, group_at, sixes, leaves}
use Rattle.waiting_groups.specs.WaitingLaws.{length-headed}
use Rattle.build_tree.specs.Promises.{splitting_with, TreeLent, Waits, MadeNode, Built}
use Rattle.build_tree.proofs.Standing.{Standing, order-length, standing_begin, standing_lent}
use Rattle.build_tree.proofs.StandingStep.{next-waits, standing_step}
use Rattle.build_tree.proofs.StandingEnd.{built-whole, built-overfull}
use Rattle.std.specs.Prelude.{None, Some}

module _ {s : Shape} {n order : ℕ} {floats₀ : List Float} {numbers₀ numbers₁ work₀ : List ℕ} (lent : TreeLent s n floats₀ numbers₀ work₀)
    (order_is : order ≡ order_at s) (written : numbers₁ ≡ sets numbers₀ order (headed 16 (count_from 0 n)))
  where
    abbrev first : List ℕ
    first = headed 16 (count_from 0 n)

    begun : numbers₁ ≡ sets numbers₀ (order_at s) first
    begun = written ∙ ap (λ (o : ℕ). sets numbers₀ o first) order_is

    begun-length : length numbers₁ ≡ length numbers₀
    begun-length = ap (λ (l : List ℕ). length l) begun ∙ length-sets numbers₀ (order_at s) first

    begun-lent : TreeLent s n floats₀ numbers₁ work₀
    begun-lent =
        let a = begun-length in
        let c = lent.numbers_room in
        record {
          limits = lent.limits;
          some = lent.some;
          held = lent.held;
          floats_room = lent.floats_room;
          numbers_room = omega arith;
          work_room = lent.work_room;
        }

    pub loop_begins : {leaf : ℕ} → Standing s leaf n floats₀ numbers₁ work₀ 0 0 floats₀ numbers₁ work₀
    loop_begins {leaf} =
        standing_begin s leaf n floats₀ numbers₁ work₀ begun-lent numbers₁
        (begun
        ∙ sym (sets-sets-same numbers₀ (order_at s) first first refl)
        ∙ ap (λ (l : List ℕ). sets l (order_at s) first) (sym begun))

    module _ {leaf count done : ℕ} {floats : List Float} {numbers work : List ℕ} (st : Standing s leaf n floats₀ numbers₁ work₀ count done floats numbers work)
      where
        pub loop_lent : TreeLent s n floats numbers work
        loop_lent = standing_lent s leaf n floats₀ numbers₁ work₀ begun-lent count done floats numbers work st

        pub loop_waits : done < n → count < s.nodes → Waits s n count done (group_at numbers (order_at s + done))
        loop_waits = next-waits s leaf n floats₀ numbers₁ work₀ begun-lent count done floats numbers work st

        pub loop_step : done < n → count < s.nodes → {floats' : List Float} {numbers' work' : List ℕ} {next : ℕ}
            → MadeNode s leaf n count done (group_at numbers (order_at s + done)) floats floats' numbers numbers' work work' next → length floats' ≡ length floats
            → length numbers' ≡ length numbers → length work' ≡ length work
            → Standing s leaf n floats₀ numbers₁ work₀ (count + 1) next floats' numbers' work'
        loop_step left more {floats'} {numbers'} {work'} {next} =
            standing_step s leaf n floats₀ numbers₁ work₀ begun-lent count done floats numbers work st left more floats' numbers' work' next

        over_entry : Standing s leaf n floats₀ numbers₀ work₀ count done floats numbers work
        over_entry =
            let x : List ℕ = leaves (splitting_with s leaf) st.past ++ encoded st.waiting in
            let lx = order-length s leaf n floats₀ numbers₁ work₀ begun-lent count done floats numbers work st in
            let lh : length first ≡ n = length-headed 16 (count_from 0 n) ∙ length-count_from 0 n in
            let over : sets numbers₁ (order_at s) x ≡ sets numbers₀ (order_at s) x =
            ap (λ (l : List ℕ). sets l (order_at s) x) begun ∙ sets-sets-same numbers₀ (order_at s) first x (lh ∙ sym lx)
            in
            record {
              past = st.past;
              waiting = st.waiting;
              count_is = st.count_is;
              due = st.due;
              done_is = st.done_is;
              all = st.all;
              sound = st.sound;
              numbers_are =
                  st.numbers_are ∙ ap (λ (l : List ℕ). sets l (nodes_at s) (sixes (splitting_with s leaf) (vectors_in s.dimension n floats₀) 0 st.past)) over;
              floats_alike = st.floats_alike;
              work_alike = st.work_alike;
              floats_length = st.floats_length;
              numbers_length = st.numbers_length ∙ begun-length;
              work_length = st.work_length;
            }

        pub loop_whole : n ≤ done → count ≤ s.nodes → Built s leaf n floats₀ floats numbers₀ numbers work₀ work (Some count)
        loop_whole = built-whole s leaf n floats₀ numbers₀ work₀ lent count done floats numbers work over_entry

        pub loop_overfull : done < n → s.nodes ≡ count → Built s leaf n floats₀ floats numbers₀ numbers work₀ work None
        loop_overfull = built-overfull s leaf n floats₀ numbers₀ work₀ lent count done floats numbers work over_entry
