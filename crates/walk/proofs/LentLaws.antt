-- Laws on lent lists that the proofs of several crates use: a vector within the floats, and what work keeps. Assumes nothing.
use Rattle.std.specs.Prelude.{ℕ, suc, ◌+◌, ◌*◌, ◌≤◌, ◌<◌, ◌≡◌, refl, List, Float, length, drop}
use Rattle.std.proofs.Common.{suc-mul, mul-le-mul_right, mul_comm, arith, ◌∙◌}
use Rattle.std.proofs.lemmas.List.Edits.{sets}
use Rattle.std.proofs.Math.Seq.{length-sets}
use Rattle.lists.specs.Frame.{alike_refl, alike_trans, alike-sets, alike_widen, alike-behind}
use Rattle.store.specs.declared.Shape.{Shape}
use Rattle.store.specs.Store.{Limits, floats_size, work_size}
use Rattle.walk.specs.Promises.{Works}

-- vector i lies within the floats
pub vector-within : (s : Shape) (floats : List Float) (i n : ℕ) → Limits s → floats_size s ≤ length floats → i < n → n ≤ s.vectors + s.nodes
    → i * s.dimension + s.dimension ≤ length floats
vector-within s floats i n limits size h below =
    let run : suc i * s.dimension ≤ (s.vectors + s.nodes + s.branching) * s.dimension = mul-le-mul_right s.dimension (let t : suc i ≤ s.vectors + s.nodes + s.branching = omega arith in t) in
    let all : (s.vectors + s.nodes + s.branching) * s.dimension ≡ floats_size s = mul_comm (s.vectors + s.nodes + s.branching) s.dimension in
    let own : suc i * s.dimension ≡ i * s.dimension + s.dimension = suc-mul i s.dimension in
    omega arith

-- ---- what the work list keeps

pub works_refl : (s : Shape) (work : List ℕ) → Works s work work
works_refl s work = record { alike = alike_refl 0 (work_size s) work; size = refl }

pub works_trans : (s : Shape) (a b c : List ℕ) → Works s a b → Works s b c → Works s a c
works_trans s a b c p q = record { alike = alike_trans 0 (work_size s) p.alike q.alike; size = q.size ∙ p.size }

pub works-sets : (s : Shape) (work ys : List ℕ) (at : ℕ) → at + length ys ≤ work_size s → Works s work (sets work at ys)
works-sets s work ys at h = record {
  alike = alike-sets 0 (work_size s) work at ys (omega arith) (omega (arith, h));
  size = length-sets work at ys;
}

-- a front of the work part alone changed
pub works-front : (s : Shape) (work work' : List ℕ) (n : ℕ) → n ≤ work_size s → drop n work' ≡ drop n work → length work' ≡ length work → Works s work work'
works-front s work work' n h behind size = record {
  alike = alike_widen 0 n 0 (work_size s) work work' (alike-behind n work work' behind) (omega arith) (omega (arith, h));
  size = size;
}
