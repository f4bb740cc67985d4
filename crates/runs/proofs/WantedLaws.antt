-- What each case of what is wanted owes of the rows, beside the laws of any store (WantedLaws.antt of crates/walk). What is given is additive over leaves
-- up to order, and no more than what is listed; numbers that are held pass; a denied node gives nothing; over all rows those are given that carry what is
-- wanted, each once. Of an entry's hash: a filter denies no hash below it; and a row that carries the label has one such entry, since it has no label twice.
-- Of two labels: an owner's entries all stand in the list that has one of them, so to have an entry of the second there is to have one at all.
-- Rows are told here by hash and bytes, as entries are; that is by bytes alone, since a hash is that of the bytes (`carried-is`).
use Rattle.std.specs.Prelude.{ℕ, suc, ◌≤◌, ◌<◌, Bool, true, false, cond, not, ◌&&◌, ◌||◌, ◌⊎◌, ◌≡◌, refl, eqb, length, get_or, replicate}
use Rattle.std.proofs.Common.{le_refl, arith, inl, inr, sym, ap, ap₂, ◌∙◌, subst, eq-eqb, lt-ltb}
use Rattle.std.proofs.lemmas.Bool.{false≢true, not-true}
use mathlib.Core.List.Memᴰ
use mathlib.Core.List.{List, [], ◌∷◌, ◌++◌, map, map-map, map-append, Memᴰ}
use Rattle.std.proofs.lemmas.List.{length-map}
use Rattle.lists.specs.Lists.{joined, keep, count_from, is_in, same_list}
use Rattle.lists.specs.Same.{same-equal, equal-same, differ_same}
use Rattle.lists.specs.Maps.{count_from-suc, get_d_map, Memᴰ-map}
use Rattle.lists.specs.Tests.{which, either, and_right, and_false, all_pass, all_pass_lem}
use Rattle.lists.specs.Counting.{is_in-nil, is_in-here, is_in-later, is_in-Memᴰ, Memᴰ-is_in, is_in_ext, Memᴰ-count_from, keep_congr, keep-map, keep-pass, keep_fail, keep-nil, keep-none, length-keep_le, Memᴰ-keep, keep-Memᴰ, joined_congr, map-joined, keep-joined}
use Rattle.lists.specs.Partition.{List-as-Permᴰ, List·Permᴰ·trans, Permᴰ·map, perm_of_eq, perm_keep}
use Rattle.bloom.specs.Filter.{may_contain}
use Rattle.label.specs.Fnv.{fnv}
use Rattle.label.specs.Names.{hashes_of_labels}
use Rattle.label.specs.NameLaws.{length-hashes_of_labels}
use Rattle.walk.proofs.WantedLaws.{held-passes-entry, labels-hash, all_both}
use Rattle.curator.specs.Arguments.{Asked, everything, labelled, labelled_both}
use Rattle.curator.specs.Searches.{wanted_of}
use Rattle.store.specs.declared.Counts.{Counts}
use Rattle.tree.specs.Nodes.{entries_of, filter_of}
use Rattle.tree.proofs.NodeEntryLaws.{entries_of-all}
use Rattle.tree.proofs.NodeFilterLaws.{filter_of_admits}
use Rattle.walk.specs.Wanted.{Sought, all_vectors, with_label, with_both, is_labels, owners_of, EntryRead, LeafList, vector_list, entry_list, denies, list_read, passes, given, held_in}
use Rattle.runs.specs.Model.{Model, ModelRow, hashes_in, row_hashes, row_names, row_entries, row_read, owners_from}
use Rattle.runs.specs.Theorem.{same_label, NoTwo, has_label, carries}
use Rattle.runs.proofs.Held.{owner-below, owners-length, names-length}

vector-passes : (c : Counts) (read : EntryRead) (end : ℕ → ℕ) (x : ℕ) → x < c.vectors → passes all_vectors c read end x ≡ true
unfolding passes
vector-passes c read end x h = lt-ltb x c.vectors h

-- ---- leaves

owners-fewer : (read : EntryRead) (hash : ℕ) (name : List ℕ) (l : List ℕ) → length (owners_of read hash name l) ≤ length l
unfolding owners_of
owners-fewer read hash name l =
    let has : ℕ → Bool = is_labels read hash name in omega (arith, length-map (keep has l) read.owner, length-keep_le has l)

pub given-fewer : (wanted : Sought) (read : EntryRead) (l : List ℕ) → length (given wanted read l) ≤ length l
unfolding given
given-fewer all_vectors read l = le_refl (length l)
given-fewer (with_label hash name) read l = owners-fewer read hash name l
given-fewer (with_both hash name others other) read l =
    let mine = owners_of read hash name l in
    omega (arith, length-keep_le (λ v. is_in v (owners_of read others other l)) mine, owners-fewer read hash name l)

-- numbers that are held pass, where every entry's owner and bytes are held
entries-pass : (hash : ℕ) (name : List ℕ) (c : Counts) (read : EntryRead) (end : ℕ → ℕ) (l : List ℕ) → ((x : ℕ) → Memᴰ x l → x < c.entries)
    → ((x : ℕ) → x < c.entries → read.owner x < c.vectors) → ((x : ℕ) → x < c.entries → end x ≤ c.bytes)
    → all_pass (passes (with_label hash name) c read end) l ≡ true
entries-pass hash name c read end l below owned ends =
    all_pass_lem (passes (with_label hash name) c read end) l
    (λ x k. held-passes-entry hash name c read end x (record { entry = below x k; owner = owned x (below x k); bytes = λ e. ends x (below x k) }))

pub held-passes : (wanted : Sought) (c : Counts) (read : EntryRead) (end : ℕ → ℕ) (l : List ℕ) → ((x : ℕ) → Memᴰ x l → x < held_in (list_read wanted) c)
    → ((x : ℕ) → x < c.entries → read.owner x < c.vectors) → ((x : ℕ) → x < c.entries → end x ≤ c.bytes) → all_pass (passes wanted c read end) l ≡ true
held-passes all_vectors c read end l below owned ends = all_pass_lem (passes all_vectors c read end) l (λ x k. vector-passes c read end x (below x k))
held-passes (with_label hash name) c read end l below owned ends = entries-pass hash name c read end l below owned ends
held-passes (with_both hash name others other) c read end l below owned ends =
    all_both hash name others other c read end l
    ∙ ap₂ ◌&&◌ (entries-pass hash name c read end l below owned ends) (entries-pass others other c read end l below owned ends)

-- the list of a leaf that has the rows with some numbers
unfoldable pub list_over : LeafList → Model → List ℕ → List ℕ
list_over vector_list m ids = ids
list_over entry_list m ids = entries_of (row_entries m) ids

-- ---- parts

-- every entry is a row's
abbrev all_entries : Model → List ℕ
all_entries m = count_from 0 (length (row_hashes m))

pub entries-all : (m : Model) → entries_of (row_entries m) (count_from 0 (length m.rows)) ≡ all_entries m
entries-all m = entries_of-all (row_entries m) (length m.rows) (owner-below m) ∙ ap (count_from 0) (owners-length m)

-- those over some rows are all that these own
entries-kept : (m : Model) (ids : List ℕ) → entries_of (row_entries m) ids ≡ keep (λ e. is_in ((row_read m).owner e) ids) (all_entries m)
unfolding entries_of
entries-kept m ids = ap (λ (n : ℕ). keep (λ e. is_in ((row_read m).owner e) ids) (count_from 0 n)) (owners-length m)

-- of the entries whose owners pass a test: each owner passes it, and one that does has its entry of a label among them if among all
kept-passes : (read : EntryRead) (hash : ℕ) (name : List ℕ) (test : ℕ → Bool) (all : List ℕ) (v : ℕ)
    → Memᴰ v (owners_of read hash name (keep (λ e. test (read.owner e)) all)) → test v ≡ true
unfolding owners_of
kept-passes read hash name test all v k =
    let own : ℕ → Bool = λ e. test (read.owner e) in
    let (e, listed, is) = Memᴰ-map read.owner k in
    ap test is ∙ (Memᴰ-keep own e all (Memᴰ-keep (is_labels read hash name) e (keep own all) listed).1).0

kept_owns : (read : EntryRead) (hash : ℕ) (name : List ℕ) (test : ℕ → Bool) (all : List ℕ) (v : ℕ) → test v ≡ true
    → is_in v (owners_of read hash name (keep (λ e. test (read.owner e)) all)) ≡ is_in v (owners_of read hash name all)
unfolding owners_of
kept_owns read hash name test all v t =
    let own : ℕ → Bool = λ e. test (read.owner e) in
    let has : ℕ → Bool = is_labels read hash name in
    is_in_ext v (map read.owner (keep has (keep own all))) (map read.owner (keep has all))
    (λ i.
    let (e, listed, is) = Memᴰ-map read.owner (is_in-Memᴰ v (map read.owner (keep has (keep own all))) i) in
    let (has-it, k) = Memᴰ-keep has e (keep own all) listed in
    owns e is (keep-Memᴰ has e has-it (Memᴰ-keep own e all k).1))
    (λ i.
    let (e, listed, is) = Memᴰ-map read.owner (is_in-Memᴰ v (map read.owner (keep has all)) i) in
    let (has-it, k) = Memᴰ-keep has e all listed in
    owns e is (keep-Memᴰ has e has-it (keep-Memᴰ own e (ap test (sym is) ∙ t) k)))
  where
    owns : (e : ℕ) → v ≡ read.owner e → {l : List ℕ} → Memᴰ e l → is_in v (map read.owner l) ≡ true
    owns e is {l} k = ap (λ (x : ℕ). is_in x (map read.owner l)) is ∙ Memᴰ-is_in (Memᴰ.map read.owner k)

-- what is given of a list, a second label being looked for among all entries
unfoldable given_among : Sought → EntryRead → List ℕ → List ℕ → List ℕ
unfolding owners_of keep is_in
given_among all_vectors read all l = l
given_among (with_label hash name) read all l = owners_of read hash name l
given_among (with_both hash name others other) read all l = keep (λ v. is_in v (owners_of read others other all)) (owners_of read hash name l)

-- over some rows it is what is given: an owner's entries are all in the list that has one of them
among_over : (wanted : Sought) (m : Model) (ids : List ℕ)
    → given wanted (row_read m) (list_over (list_read wanted) m ids) ≡ given_among wanted (row_read m) (all_entries m) (list_over (list_read wanted) m ids)
unfolding given given_among list_over
among_over all_vectors m ids = refl
among_over (with_label hash name) m ids = refl
among_over (with_both hash name others other) m ids =
    let read = row_read m in
    let all = all_entries m in
    let test : ℕ → Bool = λ v. is_in v ids in
    subst
    (λ (l : List ℕ). keep (λ v. is_in v (owners_of read others other l)) (owners_of read hash name l)
    ≡ keep (λ v. is_in v (owners_of read others other all)) (owners_of read hash name l))
    (sym (entries-kept m ids))
    (let kept = keep (λ e. test (read.owner e)) all in
    keep_congr (λ v. is_in v (owners_of read others other kept)) (λ v. is_in v (owners_of read others other all)) (owners_of read hash name kept)
    (λ v k. kept_owns read others other test all v (kept-passes read hash name test all v k)))

owners-joined : {B : Type 0} (read : EntryRead) (hash : ℕ) (name : List ℕ) (f : B → List ℕ) (l : List B)
    → owners_of read hash name (joined f l) ≡ joined (λ x. owners_of read hash name (f x)) l
unfolding owners_of
owners-joined read hash name f l =
    let has : ℕ → Bool = is_labels read hash name in
    ap (map read.owner) (keep-joined has f l) ∙ map-joined read.owner (λ x. keep has (f x)) l

among_joined : {B : Type 0} (wanted : Sought) (read : EntryRead) (all : List ℕ) (f : B → List ℕ) (l : List B)
    → given_among wanted read all (joined f l) ≡ joined (λ x. given_among wanted read all (f x)) l
unfolding given_among
among_joined all_vectors read all f l = refl
among_joined (with_label hash name) read all f l = owners-joined read hash name f l
among_joined (with_both hash name others other) read all f l =
    let theirs : ℕ → Bool = λ v. is_in v (owners_of read others other all) in
    ap (keep theirs) (owners-joined read hash name f l) ∙ keep-joined theirs (λ x. owners_of read hash name (f x)) l

owners_perm : (read : EntryRead) (hash : ℕ) (name : List ℕ) {xs ys : List ℕ} → List-as-Permᴰ xs ys
    → List-as-Permᴰ (owners_of read hash name xs) (owners_of read hash name ys)
unfolding owners_of
owners_perm read hash name p = Permᴰ·map read.owner (perm_keep (is_labels read hash name) p)

among_perm : (wanted : Sought) (read : EntryRead) (all : List ℕ) {xs ys : List ℕ} → List-as-Permᴰ xs ys
    → List-as-Permᴰ (given_among wanted read all xs) (given_among wanted read all ys)
unfolding given_among
among_perm all_vectors read all p = p
among_perm (with_label hash name) read all p = owners_perm read hash name p
among_perm (with_both hash name others other) read all p = perm_keep (λ v. is_in v (owners_of read others other all)) (owners_perm read hash name p)

-- what leaves give whose lists, joined, are up to order the list over some rows
pub given-parts : (wanted : Sought) (m : Model) (ids : List ℕ) (l : List (List ℕ))
    → List-as-Permᴰ (joined (list_over (list_read wanted) m) l) (list_over (list_read wanted) m ids)
    → List-as-Permᴰ (joined (λ x. given wanted (row_read m) (list_over (list_read wanted) m x)) l) (given wanted (row_read m) (list_over (list_read wanted) m ids))
given-parts wanted m ids l p =
    let read = row_read m in
    let all = all_entries m in
    let list = list_over (list_read wanted) m in
    let parts : joined (λ x. given wanted read (list x)) l ≡ given_among wanted read all (joined list l) =
    joined_congr (λ x. given wanted read (list x)) (λ x. given_among wanted read all (list x)) l (λ x k. among_over wanted m x)
    ∙ sym (among_joined wanted read all list l) in
    List·Permᴰ·trans (perm_of_eq parts) (List·Permᴰ·trans (among_perm wanted read all p) (perm_of_eq (sym (among_over wanted m ids))))

-- ---- a denied node

-- a filter that denies a hash: no entry of it is below
no_owners : (m : Model) (hash : ℕ) (name ids filter : List ℕ) → filter ≡ filter_of (row_entries m) ids → not (may_contain filter hash) ≡ true
    → owners_of (row_read m) hash name (entries_of (row_entries m) ids) ≡ []
unfolding owners_of
no_owners m hash name ids filter f e =
    let en = row_entries m in
    let has : ℕ → Bool = is_labels (row_read m) hash name in
    let closed : may_contain (filter_of (row_entries m) ids) hash ≡ false =
    ap (λ (l : List ℕ). may_contain l hash) (sym f) ∙ not-true (may_contain filter hash) e in
    ap (map (row_read m).owner)
    (keep-none has (entries_of en ids)
    (λ x k. either (which (has x))
    (λ t. absurd (false≢true (sym closed ∙ ap (may_contain (filter_of en ids)) (sym (labels-hash (row_read m) hash name x t)) ∙ filter_of_admits en ids x k)))
    (λ n. n)))

pub denied-gives : (wanted : Sought) (m : Model) (ids filter : List ℕ) → filter ≡ filter_of (row_entries m) ids → denies wanted filter ≡ true
    → given wanted (row_read m) (list_over (list_read wanted) m ids) ≡ []
unfolding denies given list_over
denied-gives all_vectors m ids filter f e = absurd (false≢true e)
denied-gives (with_label hash name) m ids filter f e = no_owners m hash name ids filter f e
denied-gives (with_both hash name others other) m ids filter f e = go (which (not (may_contain filter hash)))
  where
    l : List ℕ
    l = entries_of (row_entries m) ids

    go : (not (may_contain filter hash) ≡ true) ⊎ (not (may_contain filter hash) ≡ false)
        → keep (λ v. is_in v (owners_of (row_read m) others other l)) (owners_of (row_read m) hash name l) ≡ []
    go (inl t) =
        let test : ℕ → Bool = λ v. is_in v (owners_of (row_read m) others other l) in
        ap (keep test) (no_owners m hash name ids filter f t) ∙ keep-nil test
    go (inr n) =
        let t : not (may_contain filter others) ≡ true = ap (λ (b : Bool). b || not (may_contain filter others)) (sym n) ∙ e in
        keep-none (λ v. is_in v (owners_of (row_read m) others other l)) (owners_of (row_read m) hash name l)
        (λ v k. ap (is_in v) (no_owners m others other ids filter f t) ∙ is_in-nil v)

-- ---- what a row carries, by hash and bytes

-- a label is the one wanted
unfoldable pub is_both : ℕ → List ℕ → List ℕ → Bool
unfolding fnv same_list
is_both hash name label = eqb (fnv label) hash && same_list label name

unfoldable has_both : ℕ → List ℕ → List (List ℕ) → Bool
unfolding is_both
has_both hash name [] = false
has_both hash name (label ∷ labels) = is_both hash name label || has_both hash name labels

unfoldable pub carried : Sought → ModelRow → Bool
unfolding has_both
carried all_vectors r = true
carried (with_label hash name) r = has_both hash name r.names
carried (with_both hash name others other) r = has_both hash name r.names && has_both others other r.names

-- by the hash of the bytes it is by the bytes alone
both_is : (name label : List ℕ) → is_both (fnv name) name label ≡ same_label name label
unfolding is_both same_label
both_is name label = go (which (same_list label name))
  where
    go : (same_list label name ≡ true) ⊎ (same_list label name ≡ false) → (eqb (fnv label) (fnv name) && same_list label name) ≡ same_list name label
    go (inl t) =
        let e : label ≡ name = same-equal label name t in
        ap₂ ◌&&◌ (eq-eqb (fnv label) (fnv name) (ap fnv e)) t ∙ sym (equal-same name label (sym e))
    go (inr f) =
        ap (λ (b : Bool). eqb (fnv label) (fnv name) && b) f ∙ and_false (eqb (fnv label) (fnv name))
        ∙ sym (differ_same name label (λ e. false≢true (sym f ∙ equal-same label name (sym e))))

has_is : (name : List ℕ) (labels : List (List ℕ)) → has_both (fnv name) name labels ≡ has_label name labels
unfolding has_both has_label
has_is name [] = refl
has_is name (label ∷ labels) = ap₂ ◌||◌ (both_is name label) (has_is name labels)

pub carried-is : (asked : Asked) (r : ModelRow) → carried (wanted_of asked) r ≡ carries asked r
unfolding carried wanted_of carries
carried-is everything r = refl
carried-is (labelled name) r = has_is name r.names
carried-is (labelled_both name other) r = ap₂ ◌&&◌ (has_is name r.names) (has_is other r.names)

-- ---- all rows

-- the numbers of the rows that carry what is wanted, from a first number on
unfoldable pub numbers_carrying : Sought → ℕ → List ModelRow → List ℕ
numbers_carrying wanted i [] = []
numbers_carrying wanted i (r ∷ rows) = let rest = numbers_carrying wanted (suc i) rows in cond (carried wanted r) (i ∷ rest) rest

numbers-all : (i : ℕ) (rows : List ModelRow) → numbers_carrying all_vectors i rows ≡ count_from i (length rows)
unfolding numbers_carrying carried count_from
numbers-all i [] = refl
numbers-all i (r ∷ rows) = ap (λ (l : List ℕ). i ∷ l) (numbers-all (suc i) rows)

-- none is before the first
numbers_from_lem : (wanted : Sought) (i : ℕ) (rows : List ModelRow) (x : ℕ) → Memᴰ x (numbers_carrying wanted i rows) → i ≤ x
unfolding numbers_carrying
numbers_from_lem wanted i [] x k = absurd (Memᴰ.not-nil k)
numbers_from_lem wanted i (r ∷ rows) x k = go (carried wanted r) k (numbers_from_lem wanted (suc i) rows x)
  where
    go : (b : Bool) → Memᴰ x (cond b (i ∷ numbers_carrying wanted (suc i) rows) (numbers_carrying wanted (suc i) rows))
        → (Memᴰ x (numbers_carrying wanted (suc i) rows) → suc i ≤ x) → i ≤ x
    go true k later = either (Memᴰ.cases_cons k) (λ e. omega arith) (λ n. let b : suc i ≤ x = later n in omega arith)
    go false k later = let b : suc i ≤ x = later k in omega arith

-- with two labels they are those with the first that are among those with the second
numbers-both : (hash : ℕ) (name : List ℕ) (others : ℕ) (other : List ℕ) (i : ℕ) (rows : List ModelRow)
    → keep (λ v. is_in v (numbers_carrying (with_label others other) i rows)) (numbers_carrying (with_label hash name) i rows)
    ≡ numbers_carrying (with_both hash name others other) i rows
unfolding numbers_carrying carried
numbers-both hash name others other i [] = keep-nil (λ v. is_in v [])
numbers-both hash name others other i (r ∷ rows) =
    go (has_both hash name r.names) (has_both others other r.names)
    ∙ ap (λ (l : List ℕ). cond (has_both hash name r.names && has_both others other r.names) (i ∷ l) l) (numbers-both hash name others other (suc i) rows)
  where
    mine : List ℕ
    mine = numbers_carrying (with_label hash name) (suc i) rows

    theirs : List ℕ
    theirs = numbers_carrying (with_label others other) (suc i) rows

    both : List ℕ
    both = keep (λ v. is_in v theirs) mine

    -- the first number is of no later row
    later : (v : ℕ) → Memᴰ v mine → is_in v (i ∷ theirs) ≡ is_in v theirs
    later v k =
        let from = numbers_from_lem (with_label hash name) (suc i) rows v k in
        is_in-later v i theirs (λ e. omega (arith, e, from))

    absent : is_in i theirs ≡ false
    absent =
        either (which (is_in i theirs))
        (λ t. let from = numbers_from_lem (with_label others other) (suc i) rows i (is_in-Memᴰ i theirs t) in absurd (omega (arith, from))) (λ f. f)

    go : (a b : Bool) → keep (λ v. is_in v (cond b (i ∷ theirs) theirs)) (cond a (i ∷ mine) mine) ≡ cond (a && b) (i ∷ both) both
    go true true =
        let test : ℕ → Bool = λ v. is_in v (i ∷ theirs) in
        keep-pass test i mine (is_in-here i theirs) ∙ ap (λ (l : List ℕ). i ∷ l) (keep_congr test (λ v. is_in v theirs) mine later)
    go true false = keep_fail (λ v. is_in v theirs) i mine absent
    go false true = keep_congr (λ v. is_in v (i ∷ theirs)) (λ v. is_in v theirs) mine later
    go false false = refl

-- the owners of the labels that pass a test
unfoldable select : (List ℕ → Bool) → List ℕ → List (List ℕ) → List ℕ
select test [] xs = []
select test (o ∷ os) [] = []
select test (o ∷ os) (x ∷ xs) = let rest = select test os xs in cond (test x) (o ∷ rest) rest

select-is : (test : List ℕ → Bool) (os : List ℕ) (xs : List (List ℕ)) → length os ≡ length xs
    → map (λ e. get_or os e 0) (keep (λ e. test (get_or xs e [])) (count_from 0 (length xs))) ≡ select test os xs
unfolding select count_from
select-is test [] [] l = ap (map (λ e. 0)) (keep-nil (λ e. test []))
select-is test [] (x ∷ xs) l = absurd (omega arith)
select-is test (o ∷ os) [] l = absurd (omega arith)
select-is test (o ∷ os) (x ∷ xs) l =
    let has : ℕ → Bool = λ e. test (get_or (x ∷ xs) e []) in
    let later : map (λ e. get_or (o ∷ os) e 0) (keep has (count_from 1 (length xs))) ≡ select test os xs =
    ap (λ (c : List ℕ). map (λ e. get_or (o ∷ os) e 0) (keep has c)) (count_from-suc 0 (length xs))
    ∙ ap (map (λ e. get_or (o ∷ os) e 0)) (keep-map has suc (count_from 0 (length xs)))
    ∙ map-map (λ e. get_or (o ∷ os) e 0) suc (keep (λ e. test (get_or xs e [])) (count_from 0 (length xs)))
    ∙ select-is test os xs (let e : length os ≡ length xs = omega arith in e) in
    go (which (test x)) later
  where
    go : (test x ≡ true) ⊎ (test x ≡ false)
        → map (λ e. get_or (o ∷ os) e 0) (keep (λ e. test (get_or (x ∷ xs) e [])) (count_from 1 (length xs))) ≡ select test os xs
        → map (λ e. get_or (o ∷ os) e 0) (keep (λ e. test (get_or (x ∷ xs) e [])) (0 ∷ count_from 1 (length xs))) ≡ cond (test x) (o ∷ select test os xs) (select test os xs)
    go (inl e) later =
        ap (map (λ e. get_or (o ∷ os) e 0)) (keep-pass (λ e. test (get_or (x ∷ xs) e [])) 0 (count_from 1 (length xs)) e)
        ∙ ap (λ (l : List ℕ). o ∷ l) later ∙ ap (λ (b : Bool). cond b (o ∷ select test os xs) (select test os xs)) (sym e)
    go (inr e) later =
        ap (map (λ e. get_or (o ∷ os) e 0)) (keep_fail (λ e. test (get_or (x ∷ xs) e [])) 0 (count_from 1 (length xs)) e)
        ∙ later ∙ ap (λ (b : Bool). cond b (o ∷ select test os xs) (select test os xs)) (sym e)

-- labels that are both the one wanted are the same
both-same : (hash : ℕ) (name a b : List ℕ) → is_both hash name a ≡ true → is_both hash name b ≡ true → same_label a b ≡ true
unfolding is_both same_label
both-same hash name a b t u =
    let is : a ≡ name = same-equal a name (and_right (eqb (fnv a) hash) (same_list a name) t) in
    let so : b ≡ name = same-equal b name (and_right (eqb (fnv b) hash) (same_list b name) u) in
    equal-same a b (is ∙ sym so)

no_label : (hash : ℕ) (name : List ℕ) (labels : List (List ℕ)) → ((y : List ℕ) → Memᴰ y labels → is_both hash name y ≡ true → ⊥)
    → has_both hash name labels ≡ false
unfolding has_both
no_label hash name [] h = refl
no_label hash name (x ∷ xs) h =
    either (which (is_both hash name x)) (λ t. absurd (h x (Memᴰ.head refl) t))
    (λ f. ap (λ (b : Bool). b || has_both hash name xs) f ∙ no_label hash name xs (λ y k. h y (Memᴰ.tail k)))

-- a row has one entry of a label that it carries, and no other row's entries change that
select_row : (hash : ℕ) (name : List ℕ) (i : ℕ) (ns : List (List ℕ)) (os : List ℕ) (xs : List (List ℕ)) → NoTwo (λ (a b : List ℕ). same_label a b ≡ true) ns
    → select (is_both hash name) (replicate (length ns) i ++ os) (ns ++ xs)
    ≡ cond (has_both hash name ns) (i ∷ select (is_both hash name) os xs) (select (is_both hash name) os xs)
unfolding select has_both
select_row hash name i [] os xs d = refl
select_row hash name i (x ∷ ns) os xs d = go (which (is_both hash name x)) (select_row hash name i ns os xs d.1)
  where
    test : List ℕ → Bool
    test = is_both hash name

    go : (is_both hash name x ≡ true) ⊎ (is_both hash name x ≡ false)
        → select (is_both hash name) (replicate (length ns) i ++ os) (ns ++ xs) ≡ cond (has_both hash name ns) (i ∷ select (is_both hash name) os xs) (select (is_both hash name) os xs)
        → cond (is_both hash name x) (i ∷ select (is_both hash name) (replicate (length ns) i ++ os) (ns ++ xs)) (select (is_both hash name) (replicate (length ns) i ++ os) (ns ++ xs))
        ≡ cond (is_both hash name x || has_both hash name ns) (i ∷ select (is_both hash name) os xs) (select (is_both hash name) os xs)
    go (inl e) later =
        let none : has_both hash name ns ≡ false = no_label hash name ns (λ y k t. d.0 y k (both-same hash name x y e t)) in
        rw (e, later, none)
    go (inr e) later = rw (e, later)

hashes_long : (r : ModelRow) → length (hashes_in r) ≡ length r.names
hashes_long r = length-hashes_of_labels r.names

select-rows : (hash : ℕ) (name : List ℕ) (i : ℕ) (rows : List ModelRow)
    → ((r : ModelRow) → Memᴰ r rows → NoTwo (λ (a b : List ℕ). same_label a b ≡ true) r.names)
    → select (is_both hash name) (owners_from i rows) (joined (λ r. r.names) rows) ≡ numbers_carrying (with_label hash name) i rows
unfolding owners_from joined numbers_carrying carried select
select-rows hash name i [] d = refl
select-rows hash name i (r ∷ rows) d =
    ap (λ (k : ℕ). select (is_both hash name) (replicate k i ++ owners_from (suc i) rows) (r.names ++ joined (λ t. t.names) rows)) (hashes_long r)
    ∙ select_row hash name i r.names (owners_from (suc i) rows) (joined (λ t. t.names) rows) (d r (Memᴰ.head refl))
    ∙ ap (λ (l : List ℕ). cond (has_both hash name r.names) (i ∷ l) l) (select-rows hash name (suc i) rows (λ t k. d t (Memᴰ.tail k)))

-- the hash of an entry is that of its name
get_or-hashes : (names : List (List ℕ)) (e : ℕ) → e < length names → get_or (hashes_of_labels names) e 0 ≡ fnv (get_or names e [])
unfolding hashes_of_labels
get_or-hashes names e h = get_d_map fnv names e [] 0 h

hashes-joined : (rows : List ModelRow) → joined hashes_in rows ≡ hashes_of_labels (joined (λ r. r.names) rows)
unfolding joined hashes_of_labels
hashes-joined [] = refl
hashes-joined (r ∷ rows) = ap (λ (l : List ℕ). map fnv r.names ++ l) (hashes-joined rows) ∙ sym (map-append fnv r.names (joined (λ t. t.names) rows))

hashes-named : (m : Model) → row_hashes m ≡ hashes_of_labels (row_names m)
unfolding row_hashes row_names
hashes-named m = hashes-joined m.rows

hash-named : (m : Model) (e : ℕ) → e < length (row_names m) → (row_read m).hash e ≡ fnv (get_or (row_names m) e [])
unfolding row_entries
hash-named m e h = ap (λ (l : List ℕ). get_or l e 0) (hashes-named m) ∙ get_or-hashes (row_names m) e h

entry-is : (m : Model) (hash : ℕ) (name : List ℕ) (e : ℕ) → e < length (row_names m) → is_labels (row_read m) hash name e ≡ is_both hash name (get_or (row_names m) e [])
unfolding is_labels is_both
entry-is m hash name e h = ap (λ (x : ℕ). eqb x hash && same_list (get_or (row_names m) e []) name) (hash-named m e h)

owners-same : (m : Model) → length (row_entries m).owners ≡ length (row_names m)
owners-same m = owners-length m ∙ sym (names-length m)

rows-select : (m : Model) (hash : ℕ) (name : List ℕ)
    → select (is_both hash name) (row_entries m).owners (row_names m) ≡ select (is_both hash name) (owners_from 0 m.rows) (joined (λ r. r.names) m.rows)
unfolding row_entries row_names
rows-select m hash name = refl

entries-rows : (m : Model) (hash : ℕ) (name : List ℕ)
    → ((r : ModelRow) → Memᴰ r m.rows → NoTwo (λ (a b : List ℕ). same_label a b ≡ true) r.names)
    → owners_of (row_read m) hash name (all_entries m) ≡ numbers_carrying (with_label hash name) 0 m.rows
unfolding row_entries owners_of
entries-rows m hash name d =
    let n = length (row_names m) in
    ap (λ (k : ℕ). map (row_read m).owner (keep (is_labels (row_read m) hash name) (count_from 0 k))) (sym (names-length m))
    ∙ ap (map (row_read m).owner)
    (keep_congr (is_labels (row_read m) hash name) (λ e. is_both hash name (get_or (row_names m) e [])) (count_from 0 n)
    (λ e k. entry-is m hash name e (let b = Memᴰ-count_from e 0 (length (row_names m)) k in omega (arith, b.1))))
    ∙ select-is (is_both hash name) (row_entries m).owners (row_names m) (owners-same m)
    ∙ rows-select m hash name
    ∙ select-rows hash name 0 m.rows d

-- over all rows those that carry what is wanted are given
pub given-all : (wanted : Sought) (m : Model) → ((r : ModelRow) → Memᴰ r m.rows → NoTwo (λ (a b : List ℕ). same_label a b ≡ true) r.names)
    → given wanted (row_read m) (list_over (list_read wanted) m (count_from 0 (length m.rows))) ≡ numbers_carrying wanted 0 m.rows
unfolding given list_over
given-all all_vectors m d = sym (numbers-all 0 m.rows)
given-all (with_label hash name) m d = ap (owners_of (row_read m) hash name) (entries-all m) ∙ entries-rows m hash name d
given-all (with_both hash name others other) m d =
    let read = row_read m in
    ap (λ (l : List ℕ). keep (λ v. is_in v (owners_of read others other l)) (owners_of read hash name l)) (entries-all m)
    ∙ ap₂ (λ (theirs mine : List ℕ). keep (λ v. is_in v theirs) mine) (entries-rows m others other d) (entries-rows m hash name d)
    ∙ numbers-both hash name others other 0 m.rows
