-- `open_node` meets its contract: what the node shows was looked at, and a leaf's vectors were gathered or an inner node's children marked. Assumes
-- nothing.
use Rattle.std.proofs.Common.{◌≡◌, ℕ, ◌-◌, ◌*◌, List, ◌++◌, length, take, drop, max, arith, sym, ap, subst, refl, ◌∙◌, Bool, Float}
use Rattle.std.proofs.lemmas.List.Edits.{sets}
use Rattle.lists.specs.Lists.{part}
use Rattle.lists.specs.Tests.{all_pass}
use Rattle.store.specs.Store.{Store, hits_at}
use Rattle.store.specs.Lent.{store_of}
use Rattle.walk.specs.Wanted.{Sought, about, EntryRead, passes, given, most}
use Rattle.walk.proofs.LentLaws.{works_refl}
use Rattle.walk.specs.StoreView.{hit_at, store_view, entries_in, end_in}
use Rattle.walk.specs.Walk.{View, Shown, State, give}
use Rattle.walk.proofs.WalkLaws.{give-damage}
use Rattle.walk.proofs.KeysLaws.{keyed}
use Rattle.leaf_hits.specs.Promises.{AddHits, Gathers}
use Rattle.leaf_hits.specs.LeafLaws.{list-shown}
use Rattle.std.specs.Prelude.{Result, Ok, Err}
use Rattle.walk.specs.declared.Damaged.{Damaged}
use Rattle.walk.specs.declared.look.Look.TheVariants as look
use Rattle.walk.proofs.Damage.{is_damage}
use Rattle.best_first_walk.specs.Walks.{hits_part, found_in, found_part}
use Rattle.best_first_walk.specs.WalksLaws.{looks_about, few-hits, length_found, length-hits, marks-room}
use Rattle.best_first_walk.specs.GatherLaws.{most-is, vectors-held}
use Rattle.best_first_walk.specs.MarkLaws.{works-found, hits-lent, found-lent, hits_back}
use Rattle.whole_walk.specs.Promises.{OpensNode, NotesState}
use Rattle.whole_walk.proofs.Opening.{leaf_gives}
use Rattle.whole_walk.proofs.open_node.Goals as goal
use Rattle.whole_walk.proofs.open_node.Goals.{After-found_at}

-- what the search is about
abbrev wants : After-found_at → Sought
wants o = about o.args.wanted

-- a query, vectors and keys that were not lent
abbrev hit : After-found_at → List Float → List Float → ℕ → ℕ
hit o floats query = hit_at o.args.shape floats o.args.lists.numbers.now query

abbrev store : After-found_at → List Float → Store
store o floats = store_of floats o.args.lists.numbers.now o.args.lists.hashes.now o.args.lists.text.now

abbrev view : After-found_at → List Float → List Float → View
view o floats query = store_view o.args.shape o.args.counts (store o floats) query (wants o)

-- whether all numbers of a list pass, and the vectors that it gives
abbrev read-entries : After-found_at → EntryRead
read-entries o = entries_in o.args.shape o.args.lists.numbers.now o.args.lists.hashes.now o.args.lists.text.now

abbrev passed : After-found_at → List ℕ → Bool
passed o l = all_pass (passes (wants o) o.args.counts (read-entries o) (end_in o.args.shape o.args.lists.numbers.now)) l

abbrev vectors : After-found_at → List ℕ → List ℕ
vectors o l = given (wants o) (read-entries o) l

-- the hits' part, and in it the vectors found, as it is lent and as it comes back
abbrev from : After-found_at → ℕ
from o = o.found_at.result - o.hits_at-hits_at.result

found-from : (o : After-found_at) → from o ≡ found_in o.args.shape
found-from o = omega (arith, o.found_at.ensures, o.hits_at-hits_at.ensures)

abbrev lent-hits : After-found_at → List ℕ
lent-hits o = take (o.work_size-hits_end.result - o.hits_at-hits_at.result) (drop o.hits_at-hits_at.result o.args.work.now)

lent-is : (o : After-found_at) → lent-hits o ≡ hits_part o.args.shape o.args.work.now
lent-is o =
    hits-lent o.args.shape o.args.work.now o.hits_at-hits_at.result o.work_size-hits_end.result o.requires.within.limits o.hits_at-hits_at.ensures o.work_size-hits_end.ensures

lent-found : (o : After-found_at) → drop (from o) (lent-hits o) ≡ found_part o.args.shape o.args.work.now
lent-found o =
    found-lent o.args.shape o.args.work.now o.hits_at-hits_at.result o.work_size-hits_end.result o.requires.within.limits o.hits_at-hits_at.ensures o.work_size-hits_end.ensures (from o) (found-from o)

back-length : (o : After-found_at) (back : List ℕ) → length back ≡ length (lent-hits o) → length back ≡ 3 * max o.args.shape.vectors o.args.shape.entries
back-length o back kept = kept ∙ ap length (lent-is o) ∙ length-hits o.args.shape o.args.work.now o.requires.work_enough

abbrev after : After-found_at → List ℕ → List ℕ
after o back =
    take o.hits_at-hits_at.result o.args.work.now ++ (back ++ drop (o.work_size-hits_end.result - o.hits_at-hits_at.result) (drop o.hits_at-hits_at.result o.args.work.now))

after-is : (o : After-found_at) (back : List ℕ) → length back ≡ length (lent-hits o) → after o back ≡ sets o.args.work.now (hits_at o.args.shape) back
after-is o back kept =
    hits_back o.args.shape o.args.work.now o.hits_at-hits_at.result o.work_size-hits_end.result o.requires.within.limits o.hits_at-hits_at.ensures o.work_size-hits_end.ensures back o.requires.work_enough
    (back-length o back kept)

-- what a leaf gave
abbrev Gave : After-found_at → List ℕ → ℕ → List ℕ → Result ℕ Damaged → List ℕ → Type 0
Gave o l n heap r heap' = Gathers (passed o l) (vectors o l) n o.args.hits heap r heap'

gave : (o : After-found_at) (back l : List ℕ) (r : Result ℕ Damaged) (floats query : List Float) → Gave o l (most (wants o) o.args.counts) (drop (from o) (lent-hits o)) r (drop (from o) back)
    → Gave o l (view o floats query).most (found_part o.args.shape o.args.work.now) r (drop (found_in o.args.shape) back)
gave o back l r floats query g =
    let found : List ℕ = found_part o.args.shape o.args.work.now in
    subst (λ (n : ℕ). Gave o l (view o floats query).most found r (drop n back)) (found-from o)
    (subst (λ (n : ℕ). Gave o l n found r (drop (from o) back)) (sym (most-is o.args.shape o.args.counts (store o floats) query (wants o)))
    (subst (λ (heap : List ℕ). Gave o l (most (wants o) o.args.counts) heap r (drop (from o) back)) (lent-found o) g))

pub add_hits-requires : goal.add_hits-requires
add_hits-requires c =
    let o = (goal.at.add_hits-requires c).After-found_at in
    record {
      lent = record {
        within = c.requires.within;
        numbers_enough = c.requires.numbers_enough;
        hashes_enough = c.requires.hashes_enough;
        text_size = c.requires.text_size;
        hits =
            subst (λ (l : List ℕ). AddHits c.args.lists.numbers.now l c.args.hits (most (wants o) c.args.counts) c.in-Leaf.list.start c.in-Leaf.list.count) (sym (lent-found o))
            (record {
              block = (looks_about c.args.shape c.args.counts c.args.lists.numbers.now c.args.lists.hashes.now c.args.wanted c.args.i (Ok c.in_ok-shown.shown) (Ok (look.Leaf c.in-Leaf.list)) c.in_ok-shown.ensures (ap Ok c.in-Leaf.is)).0;
              few = c.requires.few;
              room = omega (arith, few-hits c.args.shape c.args.counts (wants o) c.requires.within.vectors c.requires.within.entries, length_found c.args.shape c.args.work.now c.requires.within.limits c.requires.work_enough);
            });
      };
      marks = marks-room c.args.shape c.args.counts (from o) c.requires.within.limits c.requires.within.vectors (found-from o);
    }

pub mark_children-requires : goal.mark_children-requires
mark_children-requires c =
    record {
      within = c.requires.within;
      work_enough = c.requires.work_enough;
      block = (looks_about c.args.shape c.args.counts c.args.lists.numbers.now c.args.lists.hashes.now c.args.wanted c.args.i (Ok c.in_ok-shown.shown) (Ok (look.Inner c.in-Inner.children)) c.in_ok-shown.ensures (ap Ok c.in-Inner.is)).0;
    }

pub returns-in_err-shown : goal.returns-in_err-shown
returns-in_err-shown c =
    let o = (goal.at.returns-in_err-shown c).After-found_at in
    rw (is_damage c.from_residual.result c.from_residual.ensures.0)
    (record {
      gives = λ floats query key p n.
          subst (λ (st : State). NotesState c.args.shape c.args.counts (hit o floats query) st (Err (record {})) c.args.work.now)
          (sym (ap (λ (sh : Shown). give (keyed key (view o floats query)) sh p)
          (looks_about c.args.shape c.args.counts c.args.lists.numbers.now c.args.lists.hashes.now c.args.wanted c.args.i (Err (record {})) (Err (record {})) c.in_err-shown.ensures refl floats query c.args.lists.text.now)
          ∙ give-damage (keyed key (view o floats query)) p)) tt;
      works = works_refl c.args.shape c.args.work.now;
    })

pub returns-in-Leaf : goal.returns-in-Leaf
returns-in-Leaf c =
    let o = (goal.at.returns-in-Leaf c).After-found_at in
    let back = c.add_hits.new.hits in
    let kept : length back ≡ length (lent-hits o) = c.add_hits.auto.hits in
    let l : List ℕ = part c.in-Leaf.list.start c.in-Leaf.list.count c.args.lists.numbers.now in
    subst (OpensNode c.args.shape c.args.counts c.args.lists.numbers.now c.args.lists.hashes.now c.args.lists.text.now c.args.hits (wants o) c.args.i c.args.work.now c.add_hits.result) (sym (after-is o back kept))
    (record {
      gives = λ floats query key p n.
          subst (λ (sh : Shown). NotesState c.args.shape c.args.counts (hit o floats query) (give (keyed key (view o floats query)) sh p) c.add_hits.result (sets c.args.work.now (hits_at c.args.shape) back))
          (sym ((looks_about c.args.shape c.args.counts c.args.lists.numbers.now c.args.lists.hashes.now c.args.wanted c.args.i (Ok c.in_ok-shown.shown) (Ok (look.Leaf c.in-Leaf.list)) c.in_ok-shown.ensures (ap Ok c.in-Leaf.is)).1 floats query c.args.lists.text.now
          ∙ list-shown c.args.shape c.args.counts floats c.args.lists.numbers.now c.args.lists.hashes.now c.args.lists.text.now query (wants o) l))
          (leaf_gives c.args.shape c.args.counts (hit o floats query) (keyed key (view o floats query)) p c.args.work.now back c.args.hits (passed o l) (vectors o l) c.add_hits.result
          c.requires.within (vectors-held (wants o) c.args.counts (read-entries o) (end_in c.args.shape c.args.lists.numbers.now) l) (back-length o back kept) (gave o back l c.add_hits.result floats query c.add_hits.ensures) n);
      works = works-found c.args.shape c.args.counts (λ x. x) c.args.work.now back c.requires.within.limits c.requires.work_enough (back-length o back kept);
    })

pub returns-in_err-mark_children-in-Inner : goal.returns-in_err-mark_children-in-Inner
returns-in_err-mark_children-in-Inner c =
    let o = (goal.at.returns-in_err-mark_children-in-Inner c).After-found_at in
    let marked = c.in_err-mark_children-in-Inner.ensures in
    rw (is_damage c.from_residual-in_err-mark_children-in-Inner.result c.from_residual-in_err-mark_children-in-Inner.ensures.0)
    (record {
      gives = λ floats query key p n.
          subst (λ (sh : Shown). NotesState c.args.shape c.args.counts (hit o floats query) (give (keyed key (view o floats query)) sh p) (Err (record {})) c.mark_children.new.work)
          (sym ((looks_about c.args.shape c.args.counts c.args.lists.numbers.now c.args.lists.hashes.now c.args.wanted c.args.i (Ok c.in_ok-shown.shown) (Ok (look.Inner c.in-Inner.children)) c.in_ok-shown.ensures (ap Ok c.in-Inner.is)).1 floats query c.args.lists.text.now))
          (marked.gives (hit o floats query) (keyed key (view o floats query)) (store o floats) p c.args.hits n);
      works = marked.works;
    })

pub returns-in_ok-mark_children-in-Inner : goal.returns-in_ok-mark_children-in-Inner
returns-in_ok-mark_children-in-Inner c =
    let o = (goal.at.returns-in_ok-mark_children-in-Inner c).After-found_at in
    let marked = c.in_ok-mark_children-in-Inner.ensures in
    record {
      gives = λ floats query key p n.
          subst (λ (sh : Shown). NotesState c.args.shape c.args.counts (hit o floats query) (give (keyed key (view o floats query)) sh p) (Ok c.args.hits) c.mark_children.new.work)
          (sym ((looks_about c.args.shape c.args.counts c.args.lists.numbers.now c.args.lists.hashes.now c.args.wanted c.args.i (Ok c.in_ok-shown.shown) (Ok (look.Inner c.in-Inner.children)) c.in_ok-shown.ensures (ap Ok c.in-Inner.is)).1 floats query c.args.lists.text.now))
          (marked.gives (hit o floats query) (keyed key (view o floats query)) (store o floats) p c.args.hits n);
      works = marked.works;
    }
