-- `keep_named` meets its contract: the loop keeps `Gathering` over the entries that stood behind the numbers before, and that those not yet read stand
-- there still, since no more were kept than read. Assumes nothing.
use Rattle.std.proofs.Common.{◌+◌, ◌≤◌, ◌≡◌, get_or, leb, drop}
use Rattle.lists.specs.Lists.{part, same_list}
use Rattle.walk.specs.Wanted.{name_of}
use Rattle.leaf_hits.specs.Gathering.{Gathering}
use Rattle.leaf_hits.proofs.keep_named.Given as goal

abbrev pub invariant-loop-j : goal.invariant-loop-j
invariant-loop-j l = record {
  gathering : Gathering (λ x. leb (get_or l.numbers (l.starts_at + x) 0 + get_or l.numbers (l.lengths_at + x) 0) l.counts.bytes)
      (λ x. same_list (part (get_or l.numbers (l.starts_at + x) 0) (get_or l.numbers (l.lengths_at + x) 0) l.lists.text.now) (name_of l.label))
      (λ x. get_or l.numbers (l.owners_at + x) 0) (l.counts.entries + 1) (part l.before l.count l.fn.found) l.before l.fn.found l.j l.kept l.found;
  few : l.kept ≤ l.before + l.j;
  later : drop (l.before + l.j) l.found ≡ drop (l.before + l.j) l.fn.found;
}
