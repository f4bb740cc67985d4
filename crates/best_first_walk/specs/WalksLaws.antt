-- The hits' part of the work list has a mark for each vector in front, and behind them room for one number more than there are hits. Assumes nothing.
use Rattle.std.specs.Prelude.{ℕ, ◌+◌, ◌*◌, ◌≤◌, max, ◌≡◌, List, length, Result}
use Rattle.std.proofs.Common.{arith, sym, subst}
use Rattle.lists.specs.Parts.{length_part}
use Rattle.store.specs.declared.Shape.{Shape}
use Rattle.store.specs.Store.{Limits, hits_at, work_size}
use Rattle.store.specs.declared.Counts.{Counts}
use Rattle.walk.specs.declared.Damaged.{Damaged}
use Rattle.walk.specs.declared.Wanted.{Wanted}
use Rattle.walk.specs.declared.look.Look.{Look}
use Rattle.walk.specs.Promises.{LooksFor, Looks}
use Rattle.walk.proofs.WantedLaws.{first_name, other_name, about-sought}
use Rattle.walk.specs.Wanted.{about, Sought, LeafList, vector_list, entry_list, list_read, held_in, most}
use Rattle.best_first_walk.specs.Walks.{hits_part, found_in, found_at, found_part}

-- no more hits than the larger of the capacities
few-held : (s : Shape) (c : Counts) (l : LeafList) → c.vectors ≤ s.vectors → c.entries ≤ s.entries → held_in l c ≤ max s.vectors s.entries
few-held s c vector_list v e = omega arith
few-held s c entry_list v e = omega arith

pub few-hits : (s : Shape) (c : Counts) (wanted : Sought) → c.vectors ≤ s.vectors → c.entries ≤ s.entries → most wanted c ≤ max s.vectors s.entries
few-hits s c wanted v e = few-held s c (list_read wanted) v e

pub length_found : (s : Shape) (work : List ℕ) → Limits s → work_size s ≤ length work → length (found_part s work) ≡ max s.vectors s.entries + 1
length_found s work limits size = length_part (found_at s) (max s.vectors s.entries + 1) work (omega (arith, limits.vectors_low))

pub length-hits : (s : Shape) (work : List ℕ) → work_size s ≤ length work → length (hits_part s work) ≡ 3 * max s.vectors s.entries
length-hits s work size = length_part (hits_at s) (3 * max s.vectors s.entries) work size

-- a mark for each vector stands in front of those found
pub marks-room : (s : Shape) (c : Counts) (from : ℕ) → Limits s → c.vectors ≤ s.vectors → from ≡ found_in s → c.vectors ≤ from
marks-room s c from limits held is = omega (arith, limits.vectors_low, held, is)

-- what a node shows, by the labels' names
pub looks_about : (s : Shape) (c : Counts) (numbers hashes : List ℕ) (wanted : Wanted) (i : ℕ) (r r' : Result Look Damaged) → Looks s c numbers hashes wanted i r → r ≡ r'
    → LooksFor s c numbers hashes (about wanted) i r'
looks_about s c numbers hashes wanted i r r' looks e =
    subst (λ (r : Result Look Damaged). LooksFor s c numbers hashes (about wanted) i r) e
    (subst (λ (w : Sought). LooksFor s c numbers hashes w i r) (sym (about-sought wanted)) (looks (first_name wanted) (other_name wanted)))
