-- The work list of a walk, part by part: the marks of the nodes pushed, and the numbers of the vectors found. Assumes nothing.
use Rattle.std.specs.Prelude.{ℕ, ◌+◌, ◌-◌, ◌*◌, ◌≤◌, ◌<◌, max, ◌≡◌, refl, ◌⊎◌, ◌≢◌, Bool, true, false, not, ◌&&◌, cond, List, [], ◌∷◌, ◌++◌, map, ltb, eqb, length, get_or, take, drop, set, replicate}
use Rattle.std.proofs.Common.{arith, sym, ap, ap₂, ◌∙◌, subst, inl, inr, length-append, get_or-set_same, get_or-set_other, drop-drop, eqb-true}
use Rattle.std.proofs.lemmas.List.{map-append, length-replicate, get_or-replicate, length-map}
use Rattle.std.proofs.lemmas.List.Edits.{sets}
use Rattle.std.proofs.Math.Seq.{length-sets}
use Rattle.std.proofs.lemmas.Bool.{eqb-false}
use Rattle.lists.specs.Lists.{is_in}
use Rattle.lists.specs.Counting.{is_in-nil, is_in-here, is_in-later}
use Rattle.lists.specs.Parts.{length_part, drop-take, get_d_sets_before, get_d_sets_in, part-written, part-set-before, lent-part, lent_is}
use Rattle.lists.specs.Tests.{which, all_pass, all_pass-append}
use Rattle.record_queue.specs.Sorted.{sort}
use Rattle.record_queue.specs.SortedLaws.{sort-append_comm, sort-append_cong}
use Rattle.record_queue.specs.RecordsLaws.{same_or_not}
use Rattle.store.specs.declared.Shape.{Shape}
use Rattle.store.specs.declared.Counts.{Counts}
use Rattle.store.specs.Store.{Limits, marks_at, hits_at, work_size}
use Rattle.walk.specs.Promises.{Works}
use Rattle.walk.proofs.LentLaws.{works_trans, works-sets}
use Rattle.best_first_walk.specs.Walks.{hits_part, found_in, found_at, found_part, FindsVectors}

-- ---- the marks

-- each node has a mark exactly if it was pushed
abbrev pub Marked : Shape → Counts → List ℕ → List ℕ → Type 0
Marked s c pushed work = (i : ℕ) → i < c.nodes → get_or work (marks_at s + i) 0 ≡ cond (is_in i pushed) 1 0

-- the mark tells it
pub mark_tells : (i : ℕ) (pushed : List ℕ) (mark : ℕ) → mark ≡ cond (is_in i pushed) 1 0 → (b : Bool) → eqb mark 0 ≡ b → is_in i pushed ≡ not b
mark_tells i pushed mark e true z = go (which (is_in i pushed))
  where
    go : (is_in i pushed ≡ true) ⊎ (is_in i pushed ≡ false) → is_in i pushed ≡ false
    go (inl t) = absurd (let one : mark ≡ 1 = e ∙ ap {B = ℕ} (λ (b : Bool). cond b 1 0) t in let none' : mark ≡ 0 = eqb-true mark 0 z in omega arith)
    go (inr f) = f
mark_tells i pushed mark e false z = go (which (is_in i pushed))
  where
    go : (is_in i pushed ≡ true) ⊎ (is_in i pushed ≡ false) → is_in i pushed ≡ true
    go (inl t) = t
    go (inr f) = absurd (eqb-false mark 0 z (e ∙ ap {B = ℕ} (λ (b : Bool). cond b 1 0) f))

-- one more
mark-one : (i c : ℕ) (l : List ℕ) → i ≡ c → ◌≡◌ {A = ℕ} (cond (is_in i (c ∷ l)) 1 0) 1
mark-one i c l e = ap {B = ℕ} (λ (b : Bool). cond b 1 0) (ap (λ (j : ℕ). is_in j (c ∷ l)) e ∙ is_in-here c l)

pub marked-one : (s : Shape) (c : Counts) (pushed work : List ℕ) (child : ℕ) → c.nodes ≤ s.nodes → work_size s ≤ length work → child < c.nodes → Marked s c pushed work
    → Marked s c (child ∷ pushed) (set work (marks_at s + child) 1)
marked-one s c pushed work child nodes size below marks i h = one (same_or_not i child)
  where
    one : (i ≡ child) ⊎ (i ≢ child) → get_or (set work (marks_at s + child) 1) (marks_at s + i) 0 ≡ cond (is_in i (child ∷ pushed)) 1 0
    one (inl e) =
        ap (λ (j : ℕ). get_or (set work (marks_at s + child) 1) (marks_at s + j) 0) e
        ∙ get_or-set_same work (marks_at s + child) 1 0 (omega arith) ∙ sym (mark-one i child pushed e)
    one (inr n) =
        get_or-set_other work (marks_at s + child) (marks_at s + i) 1 0 (λ e. n (omega arith)) ∙ marks i h
        ∙ ap {B = ℕ} (λ (b : Bool). cond b 1 0) (sym (is_in-later i child pushed n))

pub works-marked : (s : Shape) (work : List ℕ) (child : ℕ) → child < s.nodes → Works s work (set work (marks_at s + child) 1)
works-marked s work child below = works-sets s work (1 ∷ []) (marks_at s + child) (omega arith)

-- the marks stand before the vectors found
pub found_unmarked : (s : Shape) (work : List ℕ) (child : ℕ) → child < s.nodes → found_part s (set work (marks_at s + child) 1) ≡ found_part s work
found_unmarked s work child below =
    part-set-before (found_at s) (max s.vectors s.entries + 1) work (marks_at s + child) 1 (let t : marks_at s + child < found_at s = omega arith in t)

-- cleared, none is marked
pub marked-none : (s : Shape) (c : Counts) (work : List ℕ) → c.nodes ≤ s.nodes → work_size s ≤ length work
    → Marked s c [] (sets work (marks_at s) (replicate c.nodes 0))
marked-none s c work nodes size i h =
    let n : length {A = ℕ} (replicate c.nodes 0) ≡ c.nodes = length-replicate c.nodes 0 in
    get_d_sets_in work (marks_at s) (replicate c.nodes 0) i 0 (subst (λ (k : ℕ). i < k) (sym n) h) (omega (arith, n, size))
    ∙ get_or-replicate c.nodes i 0 0 h ∙ ap {B = ℕ} (λ (b : Bool). cond b 1 0) (sym (is_in-nil i))

works-cleared : (s : Shape) (c : Counts) (work : List ℕ) → c.nodes ≤ s.nodes → Works s work (sets work (marks_at s) (replicate c.nodes 0))
works-cleared s c work nodes =
    let n : length {A = ℕ} (replicate c.nodes 0) ≡ c.nodes = length-replicate c.nodes 0 in
    works-sets s work (replicate c.nodes 0) (marks_at s) (omega (arith, n))

-- then the root alone
pub marked-root : (s : Shape) (c : Counts) (work : List ℕ) → c.nodes ≤ s.nodes → work_size s ≤ length work → 1 ≤ c.nodes
    → Marked s c (0 ∷ []) (set (sets work (marks_at s) (replicate c.nodes 0)) (marks_at s) 1)
marked-root s c work nodes size some =
    let w : List ℕ = sets work (marks_at s) (replicate c.nodes 0) in
    let at : marks_at s + 0 ≡ marks_at s = omega arith in
    subst (λ (i : ℕ). Marked s c (0 ∷ []) (set w i 1)) at
    (marked-one s c [] w 0 nodes (omega (arith, length-sets work (marks_at s) (replicate c.nodes 0), size)) some (marked-none s c work nodes size))

pub works-root : (s : Shape) (c : Counts) (work : List ℕ) → c.nodes ≤ s.nodes → 1 ≤ c.nodes
    → Works s work (set (sets work (marks_at s) (replicate c.nodes 0)) (marks_at s) 1)
works-root s c work nodes some =
    let w : List ℕ = sets work (marks_at s) (replicate c.nodes 0) in
    let at : marks_at s + 0 ≡ marks_at s = omega arith in
    works_trans s work w (set w (marks_at s) 1) (works-cleared s c work nodes) (subst (λ (i : ℕ). Works s w (set w i 1)) at (works-marked s w 0 (omega arith)))

-- the work list once its marks came back cleared
cleared-is : (s : Shape) (c : Counts) (work ys : List ℕ) (a e : ℕ) → c.nodes ≤ s.nodes → work_size s ≤ length work → a ≡ marks_at s → e ≡ a + c.nodes
    → ys ≡ replicate (length (take (e - a) (drop a work))) 0 → take a work ++ (ys ++ drop (e - a) (drop a work)) ≡ sets work (marks_at s) (replicate c.nodes 0)
cleared-is s c work ys a e nodes size p q is =
    let n : e - a ≡ c.nodes = omega arith in
    let long : length (take (e - a) (drop a work)) ≡ c.nodes =
    ap (λ (k : ℕ). length (take k (drop a work))) n ∙ length_part a c.nodes work (let t : a + c.nodes ≤ length work = omega arith in t) in
    let zeros : ys ≡ replicate c.nodes 0 = is ∙ ap {B = List ℕ} (λ (k : ℕ). replicate k 0) long in
    let count : length ys ≡ e - a = ap length zeros ∙ length-replicate c.nodes 0 ∙ sym n in
    lent-part work a e ys (omega arith) (omega arith) count ∙ ap₂ (sets work) p zeros

-- and the root marked
pub root_is : (s : Shape) (c : Counts) (work ys : List ℕ) (a e : ℕ) → c.nodes ≤ s.nodes → work_size s ≤ length work → a ≡ marks_at s → e ≡ a + c.nodes
    → ys ≡ replicate (length (take (e - a) (drop a work))) 0
    → set (take a work ++ (ys ++ drop (e - a) (drop a work))) a 1 ≡ set (sets work (marks_at s) (replicate c.nodes 0)) (marks_at s) 1
root_is s c work ys a e nodes size p q is =
    ap (λ (w : List ℕ). set w a 1) (cleared-is s c work ys a e nodes size p q is)
    ∙ ap (λ (i : ℕ). set (sets work (marks_at s) (replicate c.nodes 0)) i 1) p

-- ---- the vectors found

-- they stand where they stood
pub finds-same : (s : Shape) (c : Counts) (hit : ℕ → ℕ) (new work work' : List ℕ) (found : ℕ) → found_part s work' ≡ found_part s work → FindsVectors s c hit new work found
    → FindsVectors s c hit new work' found
finds-same s c hit new work work' found e f = record {
  count = f.count;
  held = ap (λ (l : List ℕ). all_pass (λ x. ltb x c.vectors) (take found l)) e ∙ f.held;
  are = ap (λ (l : List ℕ). sort (map hit (take found l))) e ∙ f.are;
}

-- they are the last of the hits' part
pub found_of_lem : (s : Shape) (work : List ℕ) → Limits s → drop (found_in s) (hits_part s work) ≡ found_part s work
found_of_lem s work limits =
    let rest : 3 * max s.vectors s.entries - found_in s ≡ max s.vectors s.entries + 1 = omega (arith, limits.vectors_low) in
    drop-take (found_in s) (3 * max s.vectors s.entries) (drop (hits_at s) work)
    ∙ ap₂ (λ (n : ℕ) (l : List ℕ). take n l) rest (drop-drop (found_in s) (hits_at s) work)

-- the hits' part is written: what stands in front of it stays, and others are found behind those before
module _ (s : Shape) (c : Counts) (hit : ℕ → ℕ) (work ys : List ℕ) (limits : Limits s) (size : work_size s ≤ length work) (long : length ys ≡ 3 * max s.vectors s.entries) where
  found_in_lem : found_part s (sets work (hits_at s) ys) ≡ drop (found_in s) ys
  found_in_lem =
      sym (found_of_lem s (sets work (hits_at s) ys) limits)
      ∙ ap (drop (found_in s)) (part-written work (hits_at s) (3 * max s.vectors s.entries) ys long size)

  pub marked-found : c.nodes ≤ s.nodes → (pushed : List ℕ) → Marked s c pushed work → Marked s c pushed (sets work (hits_at s) ys)
  marked-found nodes pushed marks i h =
      get_d_sets_before work (hits_at s) ys (marks_at s + i) 0 (let t : marks_at s + i < hits_at s = omega arith in t) ∙ marks i h

  pub works-found : Works s work (sets work (hits_at s) ys)
  works-found = works-sets s work ys (hits_at s) (omega (arith, long))

  pub finds-more : (hits new : List ℕ) (found total : ℕ) → all_pass (λ x. ltb x c.vectors) new ≡ true → total ≡ length new + found
      → take total (drop (found_in s) ys) ≡ take found (found_part s work) ++ new → FindsVectors s c hit hits work found
      → FindsVectors s c hit (map hit new ++ hits) (sets work (hits_at s) ys) total
  finds-more hits new found total held count is f =
      let old : List ℕ = take found (found_part s work) in
      let all : take total (found_part s (sets work (hits_at s) ys)) ≡ old ++ new = ap (take total) found_in_lem ∙ is in
      record {
        count = omega (arith, count, f.count, length-append (map hit new) hits, length-map new hit);
        held = ap (all_pass (λ x. ltb x c.vectors)) all ∙ all_pass-append (λ x. ltb x c.vectors) old new ∙ ap₂ ◌&&◌ f.held held;
        are = ap (λ (l : List ℕ). sort (map hit l)) all ∙ ap sort (map-append hit old new)
            ∙ sort-append_comm (map hit old) (map hit new) ∙ sort-append_cong (map hit new) (map hit new) (map hit old) hits refl f.are;
      }

-- the hits' part as it is lent, the vectors found in it, and the work list once it came back
module _ (s : Shape) (work : List ℕ) (a e : ℕ) (limits : Limits s) (begins : a ≡ hits_at s) (ends : e ≡ work_size s) where
  pub hits-lent : take (e - a) (drop a work) ≡ hits_part s work
  hits-lent = lent_is work a e (hits_at s) (3 * max s.vectors s.entries) begins ends

  pub found-lent : (from : ℕ) → from ≡ found_in s → drop from (take (e - a) (drop a work)) ≡ found_part s work
  found-lent from is = ap₂ (λ (n : ℕ) (l : List ℕ). drop n l) is hits-lent ∙ found_of_lem s work limits

  pub hits_back : (ys : List ℕ) → work_size s ≤ length work → length ys ≡ 3 * max s.vectors s.entries
      → take a work ++ (ys ++ drop (e - a) (drop a work)) ≡ sets work (hits_at s) ys
  hits_back ys size long = lent-part work a e ys (omega arith) (omega arith) (omega arith) ∙ ap (λ (at : ℕ). sets work at ys) begins
