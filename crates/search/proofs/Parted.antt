-- 02, K7: 'However a name is parted, every call answers and writes the same.' Of searches by label; of adds: crates/curator/specs/Parted.antt.
use Rattle.std.specs.Prelude.{ℕ, List, [], ◌∷◌, ◌++◌, ◌≡◌, refl, Float}
use Rattle.std.proofs.Common.{sym, ap, ap₂, ◌∙◌, subst}
use Rattle.std.specs.Borrow.{Bor}
use Rattle.store.specs.Store.{Store}
use Rattle.walk.proofs.HeldLaws.{held_itself}
use Rattle.curator.specs.declared.CuratorIndex.{CuratorIndex}
use Rattle.curator.specs.Limits.{index_shape}
use Rattle.curator.specs.Arguments.{labelled, labelled_both, SearchCall}
use Rattle.curator.specs.Searches.{SearchEnd, SameEnd, Searches}
use Rattle.curator.proofs.SearchHeldLaws.{searches-same}
use Rattle.search.specs.Lent.{looking, filtered, both}

-- two parts that are the same joined make one call
pub filtered_parted : (query : Bor (List Float)) (first second first' second' : Bor (List ℕ)) (k : ℕ) (ids : List ℕ) (distances : List Float)
    → first.now ++ second.now ≡ first'.now ++ second'.now
    → filtered query first second k ids distances ≡ filtered query first' second' k ids distances
filtered_parted query first second first' second' k ids distances e = ap (λ (name : List ℕ). looking query k ids distances (labelled name)) e

-- and so do those of two names
pub both_parted : (query : Bor (List Float)) (first second first' second' third fourth third' fourth' : Bor (List ℕ)) (k : ℕ) (ids : List ℕ) (distances : List Float)
    → first.now ++ second.now ≡ first'.now ++ second'.now → third.now ++ fourth.now ≡ third'.now ++ fourth'.now
    → both query first second third fourth k ids distances ≡ both query first' second' third' fourth' k ids distances
both_parted query first second first' second' third fourth third' fourth' k ids distances e f =
    ap₂ (λ (name other : List ℕ). looking query k ids distances (labelled_both name other)) e f

-- so they give the same answer and leave the same answer lists; work is free
pub searches_parted : (index : CuratorIndex) (store : Store) (work : List ℕ) (call call' : SearchCall) (end end' : SearchEnd) → call ≡ call'
    → Searches index store work call end → Searches index store work call' end' → SameEnd end end'
searches_parted index store work call call' end end' same h h' =
    searches-same index call work work end end' store store refl (held_itself (index_shape index) index.counts store) h
    (subst (λ (c : SearchCall). Searches index store work c end') (sym same) h')

-- the parts `a` and `b` are the name `ab`, and the same call as an empty part and `ab`
trial-parts : (query : Bor (List Float)) (a b empty ab : Bor (List ℕ)) (k : ℕ) (ids : List ℕ) (distances : List Float)
    → a.now ≡ 97 ∷ [] → b.now ≡ 98 ∷ [] → empty.now ≡ [] → ab.now ≡ 97 ∷ 98 ∷ []
    → (filtered query a b k ids distances ≡ looking query k ids distances (labelled (97 ∷ 98 ∷ [])))
    × (filtered query a b k ids distances ≡ filtered query empty ab k ids distances)
trial-parts query a b empty ab k ids distances ea eb e0 eab =
    let joined = ap₂ (λ (first second : List ℕ). first ++ second) ea eb in
    let other = ap₂ (λ (first second : List ℕ). first ++ second) e0 eab in (
      ap (λ (name : List ℕ). looking query k ids distances (labelled name)) joined,
      filtered_parted query a b empty ab k ids distances (joined ∙ sym other),
    )
