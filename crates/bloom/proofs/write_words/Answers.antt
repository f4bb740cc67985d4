-- The part of four words, written back, is a run of stores.
use Rattle.std.proofs.Common.{◌+◌, arith, ap, ◌∙◌}
use Rattle.std.proofs.lemmas.List.Edits.{sets}
use Rattle.lists.specs.Parts.{lent-part}
use Rattle.bloom.proofs.write_words.Goals as goal

pub returns : goal.returns
returns c =
    let list = c.args.list.now in
    let copied = c.copy_from_slice in
    lent-part list c.args.at (c.args.at + 4) copied.new.self (omega arith) c.requires (omega arith)
    ∙ ap (sets list c.args.at) copied.ensures.after
