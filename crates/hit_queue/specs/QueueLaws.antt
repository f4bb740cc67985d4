-- What others use of hits in a queue: repeats from the first on, the parts of a record, and the numbers to be measured: their front, and those that are left. Assumes nothing.
use Rattle.std.specs.Prelude.{ℕ, zero, suc, ◌+◌, ◌-◌, ◌*◌, ◌/◌, ◌%◌, ◌^◌, ◌≤◌, ◌<◌, ◌≡◌, refl, List, [], ◌∷◌, ltb, length, drop}
use Rattle.std.proofs.Common.{arith, sym, ap, ◌∙◌}
use Rattle.lists.specs.Tests.{all_pass, and_left, and_right, all_pass-append}
use Rattle.lists.specs.Lists.{part}
use Rattle.lists.specs.Parts.{part-zero, part-append-parts, part-behind}
use Rattle.record_queue.specs.declared.Record.{Record}
use Rattle.record_queue.specs.Records.{value, records, Heap}
use Rattle.record_queue.specs.RecordsLaws.{value-is}
use Rattle.store.specs.declared.Counts.{Counts}
use Rattle.walk.specs.Answer.{document_of, drop_after, drop_repeats}
use Rattle.walk.proofs.AnswerLaws.{drop-nil, drop_other, repeats_nil, repeats_cons}
use Rattle.hit_queue.specs.Promises.{Measure, Measured}

-- no document id is 2 ^ 32
pub repeats_after : (l : List ℕ) → drop_repeats l ≡ drop_after (2 ^ 32) l
repeats_after [] = repeats_nil ∙ sym (drop-nil (2 ^ 32))
repeats_after (hit ∷ rest) =
    repeats_cons hit rest ∙ sym (drop_other (2 ^ 32) hit rest (λ e. let z : hit / 2 ^ 32 % 2 ^ 32 ≡ 2 ^ 32 = e in omega arith))

-- the document id and the key of a record
pub document_popped : (r : Record) → r.rest < 2 ^ 64 → document_of (value r) ≡ r.rest / 2 ^ 32
document_popped r h = ap document_of (value-is r) ∙ (let t : (r.key * 2 ^ 64 + r.rest) / 2 ^ 32 % 2 ^ 32 ≡ r.rest / 2 ^ 32 = omega arith in t)

pub key-is : (r : Record) → r.rest < 2 ^ 64 → value r / 2 ^ 64 ≡ r.key
key-is r h = ap (λ (n : ℕ). n / 2 ^ 64) (value-is r) ∙ (let t : (r.key * 2 ^ 64 + r.rest) / 2 ^ 64 ≡ r.key = omega arith in t)

-- the front of the numbers that are to be measured
pub measure-front : (c : Counts) (heap : List ℕ) (before at count m : ℕ) → m ≤ count → Measure c heap before at count → Measure c heap before at m
measure-front c heap before at count m le w = record {
  queue = w.queue;
  held = and_left (all_pass (λ x. ltb x c.vectors) (part at m heap)) (all_pass (λ x. ltb x c.vectors) (part (at + m) (count - m) heap))
      (sym (all_pass-append (λ x. ltb x c.vectors) (part at m heap) (part (at + m) (count - m) heap))
      ∙ ap (all_pass (λ x. ltb x c.vectors)) (part-append-parts at m (count - m) heap ∙ ap (λ (n : ℕ). part at n heap) (let t : m + (count - m) ≡ count = omega arith in t)) ∙ w.held);
  inside = omega (arith, w.inside, le);
  apart = omega (arith, w.apart, le);
  room = omega (arith, w.room, le);
}

-- numbers stay where the queue has not come to
module _ (c : Counts) (bound before total at count m : ℕ) (heap heap' hits : List ℕ) (w : Measure c heap before at count) (few : length hits ≡ m) (le : m ≤ count)
    (d : Measured bound hits before heap total heap') where
  pub rest-same : part (at + m) (count - m) heap' ≡ part (at + m) (count - m) heap
  rest-same = go (count - m) refl
    where
      go : (n : ℕ) → count - m ≡ n → part (at + m) n heap' ≡ part (at + m) n heap
      go zero e = part-zero (at + m) heap' ∙ sym (part-zero (at + m) heap)
      go (suc n) e = part-behind (total * 3) (at + m) (suc n) heap' heap (omega (arith, d.few, few, w.apart, e)) d.behind

  pub measure-rest : Measure c heap' total (at + m) (count - m)
  measure-rest = record {
    queue = d.queue;
    held = ap (all_pass (λ x. ltb x c.vectors)) rest-same
        ∙ and_right (all_pass (λ x. ltb x c.vectors) (part at m heap)) (all_pass (λ x. ltb x c.vectors) (part (at + m) (count - m) heap))
        (sym (all_pass-append (λ x. ltb x c.vectors) (part at m heap) (part (at + m) (count - m) heap))
        ∙ ap (all_pass (λ x. ltb x c.vectors)) (part-append-parts at m (count - m) heap ∙ ap (λ (n : ℕ). part at n heap) (let t : m + (count - m) ≡ count = omega arith in t)) ∙ w.held);
    inside = omega (arith, w.inside, d.size, le);
    apart = omega (arith, w.apart, d.few, few, le);
    room = omega (arith, w.room, d.few, few, le, d.size);
  }

-- also if the queue then holds fewer
module _ (c : Counts) (before before' at count : ℕ) (heap heap' : List ℕ) (w : Measure c heap before at count) (some : 0 < count) (fewer : before' ≤ before)
    (behind : drop (before * 3) heap' ≡ drop (before * 3) heap) (size : length heap' ≡ length heap) where
  pub numbers-same : part at count heap' ≡ part at count heap
  numbers-same = part-behind (before * 3) at count heap' heap (omega (arith, w.apart, some)) behind

  pub measure-fewer : Heap (records 3 before' heap') → Measure c heap' before' at count
  measure-fewer queue = record {
    queue = queue;
    held = ap (all_pass (λ x. ltb x c.vectors)) numbers-same ∙ w.held;
    inside = omega (arith, w.inside, size);
    apart = omega (arith, w.apart, fewer);
    room = omega (arith, w.room, fewer, size);
  }
