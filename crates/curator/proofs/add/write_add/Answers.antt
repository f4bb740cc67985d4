-- Each list is written by one call, hashes and text by the same, the numbers by two; the facts of `AddRoom` say that it fits. The owners stand after the
-- document ids.
use Rattle.std.proofs.Common.{◌≡◌, ℕ, ◌+◌, true, List, length, set, replicate, sym, ap, ap₂, ◌∙◌, arith, subst}
use Rattle.std.proofs.lemmas.List.Edits.{sets}
use Rattle.label.specs.Names.{names_of, lengths_fit, starts_from, lengths_of_names, bytes_of_names, summed_pairs, starts_by_lengths}
use Rattle.label.specs.TextLaws.{bytes-joined, length-joined-bytes, lengths_of_names_lem, starts_of_names}
use Rattle.label.specs.NameLaws.{length-names, fit_even, fit-total}
use Rattle.store.specs.declared.Shape.{Shape}
use Rattle.store.specs.declared.Counts.{Counts}
use Rattle.store.specs.Store.{Limits, starts_at, lengths_at}
use Rattle.curator.specs.Changes.{with_labels, with_mark}
use Rattle.curator.specs.Lent.{LabelsRoom}
use Rattle.curator.proofs.Steps.{place-room}
use Rattle.curator.proofs.add.write_add.Goals as goal

-- what `write_numbers` left, by an equal start of the owners and an equal number of them
started : {after : List ℕ} (numbers : List ℕ) (vector document held : ℕ) {a b m n : ℕ}
    → after ≡ sets (set numbers vector document) (a + held) (replicate m vector) → a ≡ b → m ≡ n
    → after ≡ sets (set numbers vector document) (b + held) (replicate n vector)
started numbers vector document held h e f = h ∙ ap₂ (λ (o count : ℕ). sets (set numbers vector document) (o + held) (replicate count vector)) e f

-- what `write_labels` left, by the shape, the lengths and starts of the names, and what it was lent
labelled : {after : List ℕ} (between numbers : List ℕ) {shape shape' : Shape} (held : Counts) (lengths bytes : List ℕ)
    → after
    ≡ with_mark shape held.vectors
    (sets (sets between (starts_at shape + held.entries) (starts_by_lengths held.bytes (summed_pairs lengths))) (lengths_at shape + held.entries) (summed_pairs lengths))
    → between ≡ numbers → shape ≡ shape' → lengths_fit lengths (length bytes) ≡ true
    → after ≡ with_mark shape' held.vectors (with_labels shape' held (names_of lengths bytes) numbers)
unfolding with_labels
labelled between numbers {shape = shape} held lengths bytes is before same fit =
    is
    ∙ ap₂
    (λ (starts sums : List ℕ). with_mark shape held.vectors (sets (sets between (starts_at shape + held.entries) starts) (lengths_at shape + held.entries) sums))
    (starts_of_names held.bytes lengths bytes fit)
    (lengths_of_names_lem lengths bytes fit)
    ∙ ap₂
    (λ (l : List ℕ) (s : Shape).
    with_mark s held.vectors
    (sets (sets l (starts_at s + held.entries) (starts_from held.bytes (names_of lengths bytes))) (lengths_at s + held.entries) (lengths_of_names (names_of lengths bytes))))
    before
    same

-- what `write_hashes` left of the text, by the names: their bytes are those that came
texted : {after : List ℕ} (text : List ℕ) (held : ℕ) (lengths bytes : List ℕ) → after ≡ sets text held bytes → lengths_fit lengths (length bytes) ≡ true
    → after ≡ sets text held (bytes_of_names (names_of lengths bytes))
texted text held lengths bytes is fit = is ∙ ap (λ (l : List ℕ). sets text held l) (sym (bytes-joined lengths bytes fit))

pub owners_at-requires : goal.owners_at-requires
owners_at-requires c = subst (λ (s : Shape). Limits s) (sym c.shape_of-shape.ensures) c.requires.add_room.limits

pub write_numbers-requires : goal.write_numbers-requires
write_numbers-requires c =
    let room = c.requires.add_room in
    let start = c.owners_at.ensures ∙ ap (λ (s : Shape). s.vectors) c.shape_of-shape.ensures in
    let many = c.label_count.ensures ∙ sym (length-names c.args.lengths.now c.args.bytes.now) in
    (omega (arith, room), omega (arith, room), omega (arith, room, start, many))

pub write_labels-requires : goal.write_labels-requires
write_labels-requires c =
    let args = c.args in
    let room = c.requires.add_room in
    let many = length-names args.lengths.now args.bytes.now in
    let sum = fit-total args.lengths.now (length args.bytes.now) room.labels in
    let long = length-joined-bytes args.lengths.now args.bytes.now room.labels in
    subst (λ (shape : Shape). LabelsRoom shape args.index.counts c.write_numbers.new.numbers args.lengths.now) (sym c.shape_of-shape.ensures)
    (record {
      limits = room.limits;
      long = omega (arith, c.write_numbers.auto.numbers, room.long.numbers);
      vectors = room.vectors;
      entries = omega (arith, many, room.entries);
      text = omega (arith, sum, long, room.text);
    })

pub write_hashes-requires : goal.write_hashes-requires
write_hashes-requires c =
    let lengths = c.args.lengths.now in
    let bytes = c.args.bytes.now in
    let room = c.requires.add_room in
    let many = length-names lengths bytes in
    let long = length-joined-bytes lengths bytes room.labels in
    record {
      lengths_in_bounds = (omega (arith, room, many), omega (arith, long, room.text, room.long.text));
      lengths_len = (fit_even lengths (length bytes) room.labels, fit-total lengths (length bytes) room.labels);
    }

pub write_vector-requires : goal.write_vector-requires
write_vector-requires c =
    let index = c.args.index in
    let fits =
    place-room index.counts.vectors index.dimension index.capacities.vectors index.capacities.nodes
    index.params.branching_factor
    c.requires.add_room.vectors in
    record {
      vector_in_bounds = omega arith;
      squares_value = c.requires.squares_value;
    }

pub returns : goal.returns
returns c =
    let args = c.args in
    let fit = c.requires.add_room.labels in
    let owners = c.owners_at.ensures ∙ ap (λ (s : Shape). s.vectors) c.shape_of-shape.ensures in
    let many = c.label_count.ensures ∙ sym (length-names args.lengths.now args.bytes.now) in
    record {
      stored = c.write_vector.ensures.stored;
      normalized = c.write_vector.ensures.normalized;
      floats = c.write_vector.ensures.floats;
      numbers =
          labelled c.write_numbers.new.numbers _ args.index.counts args.lengths.now args.bytes.now c.write_labels.ensures
          (started args.numbers.now args.index.counts.vectors args.doc_id args.index.counts.entries c.write_numbers.ensures owners many)
          c.shape_of-shape.ensures
          fit;
      hashes = c.write_hashes.ensures.0;
      text = texted args.text.now args.index.counts.bytes args.lengths.now args.bytes.now c.write_hashes.ensures.1 fit;
    }
