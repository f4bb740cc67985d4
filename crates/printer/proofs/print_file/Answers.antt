use Rattle.std.proofs.Common.{ℕ, ◌+◌, ◌≤◌, ◌≡◌, refl, ap, ◌∙◌, List, Float, length, take, arith, length-take-le}
use Rattle.echo_file.specs.Format.{Bytes}
use Rattle.echo_file.specs.ReadsLaws.{bytes_of}
use Rattle.load.specs.declared.LoadStep.TheVariants.{Next}
use Rattle.load.specs.Step.{printed_of}
use Rattle.load.specs.Code.{lists}
use Rattle.load.specs.Onward.{Onward, steps_onward, steps_printed}
use Rattle.load.specs.Theorem.{Sized}
use Rattle.printer.specs.Due.{due-begins, text-due, goes_on_lem, all-printed}
use Rattle.printer.proofs.print_file.Goals as goal

-- the lists keep their lengths
module _ {f : List Float} {n h t w i : List ℕ} {d : List Float} {f' : List Float} {n' h' t' w' i' : List ℕ} {d' : List Float} where
  sized : Sized (lists f n h t w i d) → length f' ≡ length f → length n' ≡ length n → length h' ≡ length h → length t' ≡ length t
      → length w' ≡ length w → length i' ≡ length i → length d' ≡ length d → Sized (lists f' n' h' t' w' i' d')
  sized z a b c e k l m = record {
    store = (λ j. record { floats = a j; numbers = b j; hashes = c j; text = e j }) ∙ z.store;
    work = k ∙ z.work;
    ids = l ∙ z.ids;
    distances = m ∙ z.distances;
  }

pub loop-done-init : goal.loop-done-init
loop-done-init g c = record {
  sized = record { store = refl; work = refl; ids = refl; distances = refl };
  long = refl;
  narrow = tt;
  reached = due-begins c.args.file.now _;
  few = omega arith;
  inside = omega arith;
}

pub load_record-step-requires-clause-narrow_2 : goal.load_record-step-requires-clause-narrow_2
load_record-step-requires-clause-narrow_2 g c = c.loop-done.invariant.narrow

pub print_next-requires-clause-due : goal.print_next-requires-clause-due
print_next-requires-clause-due g c =
    let k = c.load_record-step.auto in
    let i = c.loop-done.invariant in
    let x = c.load_record-step.new in
    let z' : Sized (lists x.floats x.numbers x.hashes x.labels x.work x.ids x.distances) = sized i.sized k.floats k.numbers k.hashes k.labels k.work k.ids k.distances in
    let bytes : Bytes c.args.file.now = bytes_of c.args.file.now (λ j. omega (arith, c.type_inv.file j)) in
    rw c.printed_of-end.ensures (text-due i.reached i.sized bytes z' c.load_record-step.result c.load_record-step.ensures.steps)

pub print_next-requires-clause-text_bound : goal.print_next-requires-clause-text_bound
print_next-requires-clause-text_bound g c =
    let i = c.loop-done.invariant in
    let w : c.printed_of-end.result ≤ length c.load_record-step.new.text = rw c.printed_of-end.ensures (steps_printed c.load_record-step.ensures.steps) in
    let s = length-take-le c.printed_of-end.result c.load_record-step.new.text w in
    omega (arith, s, w, i.few, i.inside)

pub returns-in_default : goal.returns-in_default
returns-in_default g c =
    let i = c.loop-done.invariant in
    let d : c.in_ok-done.done ≡ c.loop-done.done + length (take (printed_of c.load_record-step.result) c.load_record-step.new.text) =
    c.in_ok-done.ensures ∙ ap (λ (n : ℕ). c.loop-done.done + length (take n c.load_record-step.new.text)) c.printed_of-end.ensures in
    all-printed i.reached i.sized c.load_record-step.ensures.steps c.in_default.is d

pub loop-done-smaller : goal.loop-done-smaller
loop-done-smaller g c =
    let onward : Onward c.args.file.now c.loop-done.at (Next c.in-Next.running c.in-Next.next c.in-Next.printed) = rw c.in-Next.is at (steps_onward c.load_record-step.ensures.steps) in
    omega (arith, onward.0, onward.1)

pub loop-done-preserved : goal.loop-done-preserved
loop-done-preserved g c =
    let k = c.load_record-step.auto in
    let i = c.loop-done.invariant in
    let st = c.load_record-step.ensures.steps in
    let onward : Onward c.args.file.now c.loop-done.at (Next c.in-Next.running c.in-Next.next c.in-Next.printed) = rw c.in-Next.is at (steps_onward st) in
    let w : c.printed_of-end.result ≤ length c.load_record-step.new.text = rw c.printed_of-end.ensures (steps_printed st) in
    let s = length-take-le c.printed_of-end.result c.load_record-step.new.text w in
    let d : c.in_ok-done.done ≡ c.loop-done.done + length (take (printed_of c.load_record-step.result) c.load_record-step.new.text) =
    c.in_ok-done.ensures ∙ ap (λ (n : ℕ). c.loop-done.done + length (take n c.load_record-step.new.text)) c.printed_of-end.ensures in
    record {
      sized = sized i.sized k.floats k.numbers k.hashes k.labels k.work k.ids k.distances;
      long = omega (arith, k.text, i.long);
      narrow = rw c.in-Next.is at c.load_record-step.ensures.narrow;
      reached = goes_on_lem i.reached i.sized st c.in-Next.is d;
      few = omega (arith, c.in_ok-done.ensures, s, w, k.text, i.long, onward.0, i.few);
      inside = omega (arith, onward.1, onward.2);
    }
