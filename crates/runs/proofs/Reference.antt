-- A reference list exists for every model and search: by distance in total order and then by document id is a total order of rows, so they can be put
-- in order one after another.
use Rattle.std.proofs.Common.{le_trans, le_of_lt, inl, inr, sym, ◌∙◌, subst}
use Rattle.std.specs.Prelude.{Bool, true, false, ◌⊎◌, ◌≡◌, refl, T, Float}
use Rattle.std.proofs.lemmas.Bool.{false≢true}
use mathlib.Core.List.Memᴰ
use mathlib.Core.List.Permᴰ
use mathlib.Core.List.{List, [], ◌∷◌, Permᴰ}
use Rattle.std.specs.Float.{binary32}
use Rattle.std.specs.Float.Ieee.{fits}
use Rattle.lists.specs.Partition.{perm_Memᴰ}
use Rattle.record_queue.specs.SortedLaws.{le_or_lt}
use Rattle.lists.specs.Tests.{either}
use Rattle.distance.specs.DistanceLaws.{distance-fits}
use Rattle.total_order.specs.TotalOrder.{total_order}
use Rattle.total_order.specs.OrderLaws.{total_order_refl, total_order_antisym, total_order_trans, total_order-total}
use Rattle.vector.specs.Normalized.{normalized}
use Rattle.curator.specs.Arguments.{Question}
use Rattle.runs.specs.Model.{Model, ModelRow}
use Rattle.runs.specs.Theorem.{about, row_distance, NoLaterRow, InOrder, Reference}

-- ---- a total order of rows

module _ (question : Question) where
  row_fits : (r : ModelRow) → T (fits binary32 (row_distance question r))
  row_fits r = distance-fits (normalized question.query) r.vector

  row_trans : (r t u : ModelRow) → NoLaterRow question r t → NoLaterRow question t u → NoLaterRow question r u
  row_trans r t u h k =
      let x = row_distance question r in
      let y = row_distance question t in
      let z = row_distance question u in (
        total_order_trans x y z (row_fits r) (row_fits t) (row_fits u) h.0 k.0,
        λ e.
            (let back : total_order (row_distance question t) (row_distance question r) ≡ true = subst (λ (d : Float). total_order (row_distance question t) d ≡ true) (sym e) k.0 in
            let same : row_distance question r ≡ row_distance question t = total_order_antisym x y (row_fits r) (row_fits t) h.0 back in
            le_trans (h.1 same) (k.1 (sym same ∙ e))),
      )

  -- of two rows one is no later
  by_tests : (r t : ModelRow) (a b : Bool) → total_order (row_distance question r) (row_distance question t) ≡ a → total_order (row_distance question t) (row_distance question r) ≡ b
      → NoLaterRow question r t ⊎ NoLaterRow question t r
  by_tests r t true true p q = either (le_or_lt r.document t.document) (λ le. inl (p, λ e. le)) (λ lt. inr (q, λ e. le_of_lt lt))
  by_tests r t true false p q =
      inl (p, λ e. absurd (false≢true (sym q ∙ subst (λ (d : Float). total_order d (row_distance question r) ≡ true) e (total_order_refl (row_distance question r) (row_fits r)))))
  by_tests r t false true p q =
      inr (q, λ e. absurd (false≢true (sym p ∙ subst (λ (d : Float). total_order d (row_distance question t) ≡ true) e (total_order_refl (row_distance question t) (row_fits t)))))
  by_tests r t false false p q =
      either (total_order-total (row_distance question r) (row_distance question t) (row_fits r) (row_fits t)) (λ h. absurd (false≢true (sym p ∙ h))) (λ h. absurd (false≢true (sym q ∙ h)))

  row-total : (r t : ModelRow) → NoLaterRow question r t ⊎ NoLaterRow question t r
  row-total r t = by_tests r t (total_order (row_distance question r) (row_distance question t)) (total_order (row_distance question t) (row_distance question r)) refl refl

-- ---- rows put in order

-- a list with one row more, in its place
record Placed (question : Question) (r : ModelRow) (rows : List ModelRow) : Type 0 where
  list : List ModelRow
  same : Permᴰ (r ∷ rows) list
  ordered : InOrder question list

placed : (question : Question) (r x : ModelRow) (rows : List ModelRow) → InOrder question (x ∷ rows) → NoLaterRow question r x ⊎ NoLaterRow question x r → Placed question r rows
    → Placed question r (x ∷ rows)
placed question r x rows h (inl le) later =
    record {
      list = r ∷ x ∷ rows;
      same = Permᴰ.refl (r ∷ x ∷ rows);
      ordered = (λ t k. either (Memᴰ.cases_cons k) (λ e. subst (NoLaterRow question r) (sym e) le) (λ n. row_trans question r x t le (h.0 t n)), h);
    }
placed question r x rows h (inr le) later =
    record {
      list = x ∷ later.list;
      same = Permᴰ.trans (Permᴰ.swap refl refl) (Permᴰ.cons refl later.same);
      ordered =
          (λ t k. either (Memᴰ.cases_cons (perm_Memᴰ (Permᴰ.symm later.same) k)) (λ e. subst (NoLaterRow question x) (sym e) le) (λ n. h.0 t n), later.ordered);
    }

place : (question : Question) (r : ModelRow) (rows : List ModelRow) → InOrder question rows → Placed question r rows
place question r [] h = record { list = r ∷ []; same = Permᴰ.refl (r ∷ []); ordered = (λ t k. absurd (Memᴰ.not-nil k), tt) }
place question r (x ∷ rows) h = placed question r x rows h (row-total question r x) (place question r rows h.1)

sorted : (question : Question) (rows : List ModelRow) → (list : List ModelRow) × Permᴰ list rows × InOrder question list
sorted question [] = ([], Permᴰ.nil, tt)
sorted question (r ∷ rows) =
    let s = sorted question rows in
    let p = place question r s.0 s.2 in
    (p.list, Permᴰ.trans (Permᴰ.symm p.same) (Permᴰ.cons refl s.1), p.ordered)

pub reference_exists : (m : Model) (question : Question) → (reference : List ModelRow) × Reference m question reference
reference_exists m question = let s = sorted question (about question m) in (s.0, record { same = s.1; ordered = s.2 })
