-- A filter of four words in the list of hashes: what a turn of the loops over entries and over children writes, and the filter of a node.
use Prim.Native.Nat.{ℕ, suc, ◌+◌, ◌-◌, ◌*◌, ◌≤◌, ◌<◌}
use mathlib.Core.Path.{◌≡◌, refl, sym, ap, ap₂, ◌∙◌}
use mathlib.Core.List.{List, [], ◌∷◌, ◌++◌, map, map-append}
use native.Mathlib.Numerals.{add-one}
use native.Mathlib.Omega.{arith}
use lib.ListN.{length, get_or, take, drop}
use lib.Seq.{sets, length-sets, take-suc}
use Rattle.lists.specs.Lists.{part}
use Rattle.lists.specs.Maps.{map_same}
use Rattle.lists.specs.Parts.{length_part, get_d_sets_before, part-sets-same, part-sets-after, sets-sets-same, sets_self, lent-part, lent-run}
use Rattle.bloom.specs.Filter.{empty_filter, insert_hash, insert_all, union, union_all}
use Rattle.bloom.proofs.FilterLaws.{insert_all-append, insert_all-four, union-four}
use Rattle.node_table.specs.declared.Places.{Places}
use Rattle.node_filters.specs.Filters.{filter_made, entry_block, child_block}

-- four words that were lent, and the list when they come back
pub lent-four : (l : List ℕ) (at : ℕ) (ys : List ℕ) → at + 4 ≤ length l → length ys ≡ 4
    → take at l ++ (ys ++ drop (at + 4 - at) (drop at l)) ≡ sets l at ys
lent-four l at ys h n = lent-part l at (at + 4) ys (omega arith) h (let e : at + 4 - at ≡ 4 = omega arith in n ∙ sym e)

pub length-four : (l : List ℕ) (at : ℕ) → at + 4 ≤ length l → length (part at 4 l) ≡ 4
length-four l at h = length_part at 4 l h

-- the words that stand there after a filter was written
pub filter-read : (l f : List ℕ) (at : ℕ) → at + 4 ≤ length l → length f ≡ 4 → part at 4 (sets l at f) ≡ f
filter-read l f at h n = ap (λ (k : ℕ). part at k (sets l at f)) (sym n) ∙ part-sets-same l at f (omega arith)

-- a filter written over another
pub filter_over : (l f g : List ℕ) (at : ℕ) → length f ≡ 4 → length g ≡ 4 → sets (sets l at f) at g ≡ sets l at g
filter_over l f g at m n = sets-sets-same l at f g (m ∙ sym n)

-- the list with the words of a filter at a place written back, the words given by a function of those that stood there
module _ (l₀ l f ys : List ℕ) (at : ℕ) (fits : at + 4 ≤ length l₀) (four : length f ≡ 4) (is : l ≡ sets l₀ at f) where
  pub back : (g : List ℕ) → length g ≡ 4 → ys ≡ g → take at l ++ (ys ++ drop (at + 4 - at) (drop at l)) ≡ sets l₀ at g
  back g n e =
      let long = ap (λ (r : List ℕ). length r) is ∙ length-sets l₀ at f in
      lent-four l at ys (omega arith) (ap (λ (r : List ℕ). length r) e ∙ n)
      ∙ ap₂ (λ (r x : List ℕ). sets r at x) is e
      ∙ filter_over l₀ f g at four n

  pub words-there : take (at + 4 - at) (drop at l) ≡ f
  words-there = lent-run at 4 l ∙ ap (part at 4) is ∙ filter-read l₀ f at fits four

-- ---- entries

abbrev pub inserted : List ℕ → ℕ → List ℕ → ℕ → List ℕ
inserted l at entries k = insert_all (part at 4 l) (map (λ x. get_or l x 0) (take k entries))

pub inserted-four : (l : List ℕ) (at : ℕ) (entries : List ℕ) (k : ℕ) → at + 4 ≤ length l → length (inserted l at entries k) ≡ 4
inserted-four l at entries k h = insert_all-four (part at 4 l) (map (λ x. get_or l x 0) (take k entries)) (length-four l at h)

pub inserted-none : (l : List ℕ) (at : ℕ) (entries : List ℕ) → l ≡ sets l at (inserted l at entries 0)
unfolding insert_all
inserted-none l at entries = sym (sets_self l at 4)

pub inserted-next : (l₀ l ys : List ℕ) (at : ℕ) (entries : List ℕ) (k x hash : ℕ) → at + 4 ≤ length l₀ → k < length entries
    → l ≡ sets l₀ at (inserted l₀ at entries k) → x ≡ get_or entries k 0 → x < at → hash ≡ get_or l x 0
    → ys ≡ insert_hash (take (at + 4 - at) (drop at l)) hash
    → take at l ++ (ys ++ drop (at + 4 - at) (drop at l)) ≡ sets l₀ at (inserted l₀ at entries (k + 1))
unfolding insert_all
inserted-next l₀ l ys at entries k x hash h g is e b q w =
    let f = inserted l₀ at entries k in
    let n = inserted-four l₀ at entries k h in
    let m : List ℕ → List ℕ = map (λ x. get_or l₀ x 0) in
    let read : hash ≡ get_or l₀ (get_or entries k 0) 0 =
    q ∙ ap (λ (r : List ℕ). get_or r x 0) is ∙ get_d_sets_before l₀ at f x 0 b ∙ ap (λ (j : ℕ). get_or l₀ j 0) e in
    let one : inserted l₀ at entries (k + 1) ≡ insert_hash f (get_or l₀ (get_or entries k 0) 0) =
    ap (λ (j : ℕ). insert_all (part at 4 l₀) (m (take j entries))) (add-one k)
    ∙ ap (λ (r : List ℕ). insert_all (part at 4 l₀) (m r)) (take-suc entries k 0 g)
    ∙ ap (insert_all (part at 4 l₀)) (map-append (λ x. get_or l₀ x 0) (take k entries) (get_or entries k 0 ∷ []))
    ∙ insert_all-append (part at 4 l₀) (m (take k entries)) (get_or l₀ (get_or entries k 0) 0 ∷ []) in
    back l₀ l f ys at h n is (inserted l₀ at entries (k + 1)) (inserted-four l₀ at entries (k + 1) h)
    (w ∙ ap₂ insert_hash (words-there l₀ l f ys at h n is) read ∙ sym one)

-- ---- children

pub union_all_snoc : (f : List ℕ) (os : List (List ℕ)) (o : List ℕ) → union_all f (os ++ (o ∷ [])) ≡ union (union_all f os) o
unfolding union_all
union_all_snoc f [] o = refl
union_all_snoc f (x ∷ os) o = union_all_snoc (union f x) os o

abbrev pub united : List ℕ → ℕ → ℕ → List ℕ → ℕ → List ℕ
united l filters at children k = union_all (part at 4 l) (map (λ c. part (filters + 4 * c) 4 l) (take k children))

pub united-none : (l : List ℕ) (filters at : ℕ) (children : List ℕ) → l ≡ sets l at (united l filters at children 0)
unfolding union_all
united-none l filters at children = sym (sets_self l at 4)

pub united-first : (l : List ℕ) (filters at : ℕ) (children : List ℕ) → at + 4 ≤ length l → length (united l filters at children 0) ≡ 4
unfolding union_all
united-first l filters at children h = length-four l at h

united-step : (l : List ℕ) (filters at : ℕ) (children : List ℕ) (k : ℕ) → k < length children
    → united l filters at children (k + 1) ≡ union (united l filters at children k) (part (filters + 4 * get_or children k 0) 4 l)
united-step l filters at children k g =
    let m : List ℕ → List (List ℕ) = map (λ c. part (filters + 4 * c) 4 l) in
    ap (λ (j : ℕ). union_all (part at 4 l) (m (take j children))) (add-one k)
    ∙ ap (λ (r : List ℕ). union_all (part at 4 l) (m r)) (take-suc children k 0 g)
    ∙ ap (union_all (part at 4 l)) (map-append (λ c. part (filters + 4 * c) 4 l) (take k children) (get_or children k 0 ∷ []))
    ∙ union_all_snoc (part at 4 l) (m (take k children)) (part (filters + 4 * get_or children k 0) 4 l)

pub united-four : (l : List ℕ) (filters at : ℕ) (children : List ℕ) (k : ℕ) → k < length children
    → length (united l filters at children k) ≡ 4 → filters + 4 * get_or children k 0 + 4 ≤ length l
    → length (united l filters at children (k + 1)) ≡ 4
united-four l filters at children k g n b =
    ap (λ (r : List ℕ). length r) (united-step l filters at children k g)
    ∙ union-four (united l filters at children k) (part (filters + 4 * get_or children k 0) 4 l) n (length-four l (filters + 4 * get_or children k 0) b)

-- a turn: the filter that stands there, pooled with that of a child that stands after it, is written over it
pub united-next : (l₀ l l' own other pool : List ℕ) (filters at : ℕ) (children : List ℕ) (k x : ℕ) → at + 4 ≤ length l₀ → k < length children
    → length (united l₀ filters at children k) ≡ 4 → length (united l₀ filters at children (k + 1)) ≡ 4
    → l ≡ sets l₀ at (united l₀ filters at children k) → x ≡ get_or children k 0 → at + 4 ≤ filters + 4 * x → other ≡ part (filters + 4 * x) 4 l
    → own ≡ part at 4 l → pool ≡ union own other → l' ≡ sets l at pool
    → l' ≡ sets l₀ at (united l₀ filters at children (k + 1))
united-next l₀ l l' own other pool filters at children k x h g n n' is e b q o p w =
    let f = united l₀ filters at children k in
    let read : other ≡ part (filters + 4 * get_or children k 0) 4 l₀ =
    q ∙ ap (part (filters + 4 * x) 4) is ∙ part-sets-after (filters + 4 * x) 4 l₀ at f (omega arith)
    ∙ ap (λ (j : ℕ). part (filters + 4 * j) 4 l₀) e in
    let there : own ≡ f = o ∙ ap (part at 4) is ∙ filter-read l₀ f at h n in
    w
    ∙ ap₂ (λ (r y : List ℕ). sets r at y) is (p ∙ ap₂ union there read ∙ sym (united-step l₀ filters at children k g))
    ∙ filter_over l₀ f (united l₀ filters at children (k + 1)) at n n'

-- ---- the filter of a node

union_kids : (f : List ℕ) (g : ℕ → List ℕ) (kids : List ℕ) → length f ≡ 4 → ((k : ℕ) → k < length kids → length (g (get_or kids k 0)) ≡ 4)
    → length (union_all f (map g kids)) ≡ 4
unfolding union_all
union_kids f g [] n h = n
union_kids f g (x ∷ kids) n h =
    union_kids (union f (g x)) g kids (union-four f (g x) n (h 0 (let k : 0 < length (x ∷ kids) = omega arith in k)))
    (λ k b. h (suc k) (let c : suc k < length (x ∷ kids) = omega arith in c))

pub filter-made : (p : Places) (l h₀ h₂ h₃ ys ents kids : List ℕ) (at i : ℕ) → at ≡ p.filters + 4 * i → at + 4 ≤ length h₀ → ys ≡ empty_filter
    → (h₁ : List ℕ) → h₁ ≡ take at h₀ ++ (ys ++ drop (at + 4 - at) (drop at h₀))
    → h₂ ≡ sets h₁ at (insert_all (part at 4 h₁) (map (λ x. get_or h₁ x 0) ents))
    → h₃ ≡ sets h₂ at (union_all (part at 4 h₂) (map (λ c. part (p.filters + 4 * c) 4 h₂) kids))
    → ents ≡ entry_block p l i → kids ≡ child_block p l i
    → ((k : ℕ) → k < length ents → get_or ents k 0 < at)
    → ((k : ℕ) → k < length kids → at + 4 ≤ p.filters + 4 * get_or kids k 0)
    → ((k : ℕ) → k < length kids → p.filters + 4 * get_or kids k 0 + 4 ≤ length h₀)
    → h₃ ≡ sets h₀ at (filter_made p l h₀ i)
unfolding filter_made
filter-made p l h₀ h₂ h₃ ys ents kids at i place fits clear h₁ is₁ is₂ is₃ e-is k-is below above within =
    let hash : ℕ → ℕ = λ x. get_or h₀ x 0 in
    let child : ℕ → List ℕ = λ c. part (p.filters + 4 * c) 4 h₀ in
    let e₁ : h₁ ≡ sets h₀ at empty_filter = is₁ ∙ lent-four h₀ at ys fits (ap (λ (r : List ℕ). length r) clear) ∙ ap (sets h₀ at) clear in
    let ins = insert_all empty_filter (map hash ents) in
    let four : length ins ≡ 4 = insert_all-four empty_filter (map hash ents) refl in
    let e₂ : h₂ ≡ sets h₀ at ins =
    is₂
    ∙ ap (λ (r : List ℕ). sets r at (insert_all (part at 4 r) (map (λ x. get_or r x 0) ents))) e₁
    ∙ ap₂ (λ (f m : List ℕ). sets (sets h₀ at empty_filter) at (insert_all f m)) (filter-read h₀ empty_filter at fits refl)
    (map_same (λ x. get_or (sets h₀ at empty_filter) x 0) hash ents 0 (λ k b. get_d_sets_before h₀ at empty_filter (get_or ents k 0) 0 (below k b)))
    ∙ filter_over h₀ empty_filter ins at refl four in
    let all = union_all ins (map child kids) in
    let four' : length all ≡ 4 = union_kids ins child kids four (λ k b. length-four h₀ (p.filters + 4 * get_or kids k 0) (within k b)) in
    is₃
    ∙ ap (λ (r : List ℕ). sets r at (union_all (part at 4 r) (map (λ c. part (p.filters + 4 * c) 4 r) kids))) e₂
    ∙ ap₂ (λ (f : List ℕ) (m : List (List ℕ)). sets (sets h₀ at ins) at (union_all f m)) (filter-read h₀ ins at fits four)
    (map_same (λ c. part (p.filters + 4 * c) 4 (sets h₀ at ins)) child kids 0
    (λ k b. let a = above k b in part-sets-after (p.filters + 4 * get_or kids k 0) 4 h₀ at ins (omega arith)))
    ∙ filter_over h₀ ins all at four four'
    ∙ ap₂ (λ (x y : List ℕ). sets h₀ at (union_all (insert_all empty_filter (map hash x)) (map child y))) e-is k-is
