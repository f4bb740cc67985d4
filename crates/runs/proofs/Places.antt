-- Claims about each call by its place in the list, and a test of the premise.
use Rattle.std.specs.Prelude.{ℕ, zero, suc, ◌<◌, Bool, true, not, ◌&&◌, ◌≡◌, eqb, length, get_or, take}
use Rattle.std.proofs.Common.{arith, sym, ap, ◌∙◌, subst, eq-eqb}
use Rattle.std.proofs.lemmas.Bool.{false≢true}
use mathlib.Core.List.Memᴰ
use mathlib.Core.List.{List, [], ◌∷◌, Memᴰ}
use Rattle.lists.specs.Tests.{either, and_left, and_right}
use Rattle.runs.specs.Calls.{Call}
use Rattle.runs.specs.Model.{Setting, Model, ModelRow, empty_model, after, model_from}
use Rattle.runs.specs.Run.{Ended}
use Rattle.runs.specs.Theorem.{AtEach, same_label, NoTwo, Distinct, Premise}

-- ---- by place

-- the call at a place is put to the model after the calls before it
pub at_place : (s : Setting) (claim : Model → Call → Ended → Type 0) (m : Model) (calls : List Call) (ends : List Ended) → AtEach s claim m calls ends
    → (i : ℕ) (c : Call) (e : Ended) → i < length calls → claim (model_from s m (take i calls)) (get_or calls i c) (get_or ends i e)
unfolding model_from
at_place s claim m [] [] a i c e h = absurd (omega arith)
at_place s claim m [] (end ∷ ends) a i c e h = absurd a
at_place s claim m (call ∷ calls) [] a i c e h = absurd a
at_place s claim m (call ∷ calls) (end ∷ ends) a zero c e h = a.0
at_place s claim m (call ∷ calls) (end ∷ ends) a (suc i) c e h = at_place s claim (after s m call) calls ends a.1 i c e (omega arith)

-- ---- a test of the premise

unfoldable pub none_same : {A : Type 0} → (A → A → Bool) → A → List A → Bool
none_same test x [] = true
none_same test x (y ∷ ys) = not (test x y) && none_same test x ys

unfoldable pub no_two : {A : Type 0} → (A → A → Bool) → List A → Bool
unfolding none_same
no_two test [] = true
no_two test (x ∷ xs) = none_same test x xs && no_two test xs

unfoldable pub labels_test : List ModelRow → Bool
unfolding no_two same_label
labels_test [] = true
labels_test (r ∷ rows) = no_two same_label r.names && labels_test rows

unfoldable pub distinct_test : Model → Bool
unfolding no_two labels_test
distinct_test m = no_two (λ (r t : ModelRow). eqb r.document t.document) m.rows && labels_test m.rows

none-same : {A : Type 0} (test : A → A → Bool) (x : A) (l : List A) → none_same test x l ≡ true → (y : A) → Memᴰ y l → test x y ≡ true → ⊥
unfolding none_same
none-same test x [] e y k t = Memᴰ.not-nil k
none-same test x (z ∷ l) e y k t =
    either (Memᴰ.cases_cons k)
    (λ q. false≢true (sym (ap not (ap (test x) (sym q) ∙ t)) ∙ and_left (not (test x z)) (none_same test x l) e))
    (λ n. none-same test x l (and_right (not (test x z)) (none_same test x l) e) y n t)

no_two_lem : {A : Type 0} (test : A → A → Bool) (l : List A) → no_two test l ≡ true → NoTwo (λ (a b : A). test a b ≡ true) l
unfolding no_two
no_two_lem test [] e = tt
no_two_lem test (x ∷ l) e =
    (none-same test x l (and_left (none_same test x l) (no_two test l) e), no_two_lem test l (and_right (none_same test x l) (no_two test l) e))

two-map : {A : Type 0} (P Q : A → A → Type 0) (l : List A) → ((a b : A) → Q a b → P a b) → NoTwo P l → NoTwo Q l
two-map P Q [] f d = tt
two-map P Q (x ∷ l) f d = (λ y k q. d.0 y k (f x y q), two-map P Q l f d.1)

labels-test : (rows : List ModelRow) → labels_test rows ≡ true → (r : ModelRow) → Memᴰ r rows → NoTwo (λ (a b : List ℕ). same_label a b ≡ true) r.names
unfolding labels_test
labels-test [] e r k = absurd (Memᴰ.not-nil k)
labels-test (t ∷ rows) e r k =
    either (Memᴰ.cases_cons k)
    (λ q. subst (λ (x : ModelRow). NoTwo (λ (a b : List ℕ). same_label a b ≡ true) x.names) (sym q) (no_two_lem same_label t.names (and_left (no_two same_label t.names) (labels_test rows) e)))
    (λ n. labels-test rows (and_right (no_two same_label t.names) (labels_test rows) e) r n)

test_distinct : (m : Model) → distinct_test m ≡ true → Distinct m
unfolding distinct_test
test_distinct m e =
    let test : ModelRow → ModelRow → Bool = λ r t. eqb r.document t.document in
    let one : no_two test m.rows ≡ true = and_left (no_two test m.rows) (labels_test m.rows) e in
    record {
      documents =
          two-map (λ (r t : ModelRow). eqb r.document t.document ≡ true) (λ (r t : ModelRow). r.document ≡ t.document) m.rows
          (λ r t q. eq-eqb r.document t.document q) (no_two_lem test m.rows one);
      labels = labels-test m.rows (and_right (no_two test m.rows) (labels_test m.rows) e);
    }

-- at every prefix of the calls
unfoldable pub premise_test : Setting → Model → List Call → Bool
unfolding distinct_test after
premise_test s m [] = distinct_test m
premise_test s m (call ∷ calls) = distinct_test m && premise_test s (after s m call) calls

test_prefixes : (s : Setting) (m : Model) (calls : List Call) → premise_test s m calls ≡ true → (n : ℕ) → Distinct (model_from s m (take n calls))
unfolding premise_test model_from
test_prefixes s m [] e zero = test_distinct m e
test_prefixes s m [] e (suc n) = test_distinct m e
test_prefixes s m (call ∷ calls) e zero = test_distinct m (and_left (distinct_test m) (premise_test s (after s m call) calls) e)
test_prefixes s m (call ∷ calls) e (suc n) =
    test_prefixes s (after s m call) calls (and_right (distinct_test m) (premise_test s (after s m call) calls) e) n

pub test_premise : (s : Setting) (calls : List Call) → premise_test s empty_model calls ≡ true → Premise s calls
test_premise s calls e = test_prefixes s empty_model calls e
