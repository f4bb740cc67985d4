-- By what the making of the tree answered: too many nodes is row 13; otherwise the finishing passes lay the tree out in full.
use Rattle.std.proofs.Common.{rules, ◌≡◌, ℕ, sym, ◌∙◌}
use Rattle.std.specs.Prelude.{ok_or, Option, Some, None, Ok, Err}
use Rattle.settings.specs.declared.refusal.Refusal.{Refusal}
use Rattle.store.specs.Lent.{store_of}
use Rattle.build.specs.MakeLaws.{tree_asked, tree_whole, tree_full, finish_room, finish_made, finish_builds}
use Rattle.build.proofs.make.make_index.Goals as goal

-- a number where the tree was made, and the refusal where it was not
made_some : (made : Option ℕ) (refusal : Refusal) (nodes : ℕ) → ok_or made refusal ≡ Ok nodes → made ≡ Some nodes
made_some (Some n) refusal nodes e = cc
made_some None refusal nodes e = cc

made-none : (made : Option ℕ) (refusal r : Refusal) → ok_or made refusal ≡ Err r → (made ≡ None) × (r ≡ refusal)
made-none (Some n) refusal r e = cc
made-none None refusal r e = (cc, cc)

pub build_tree-made-requires : goal.build_tree-made-requires
build_tree-made-requires c =
    let store = store_of c.args.floats.now c.args.numbers.now c.args.hashes.now c.args.text.now in
    tree_asked c.args.index store c.args.work.now c.shape_of-shape.ensures c.requires

pub insert_label_entries-requires : goal.insert_label_entries-requires
insert_label_entries-requires c =
    let store = store_of c.args.floats.now c.args.numbers.now c.args.hashes.now c.args.text.now in
    let work = c.args.work.now in
    let some = made_some c.build_tree-made.result _ c.in_ok-nodes.nodes (sym c.ok_or.ensures.value ∙ c.in_ok-nodes.was) in
    let all = tree_whole c.args.index store work c.shape_of-shape.ensures c.build_tree-made.ensures some in
    record {
      room = finish_room c.args.index store work c.shape_of-shape.ensures c.requires all;
      all_made = finish_made c.args.index store work c.shape_of-shape.ensures c.requires all;
    }

pub returns-in_err-nodes : goal.returns-in_err-nodes
returns-in_err-nodes c =
    let store = store_of c.args.floats.now c.args.numbers.now c.args.hashes.now c.args.text.now in
    let none = made-none c.build_tree-made.result _ c.in_err-nodes.field-0.0 (sym c.ok_or.ensures.value ∙ c.in_err-nodes.was) in
    let e : c.from_residual.result ≡ Err c.in_err-nodes.field-0.0 = search rules in
    rw (e, none.1) (tree_full c.args.index store c.args.work.now c.shape_of-shape.ensures c.requires c.build_tree-made.ensures none.0)

pub returns : goal.returns
returns c =
    let store = store_of c.args.floats.now c.args.numbers.now c.args.hashes.now c.args.text.now in
    let work = c.args.work.now in
    let some = made_some c.build_tree-made.result _ c.in_ok-nodes.nodes (sym c.ok_or.ensures.value ∙ c.in_ok-nodes.was) in
    let all = tree_whole c.args.index store work c.shape_of-shape.ensures c.build_tree-made.ensures some in
    finish_builds c.args.index store work c.shape_of-shape.ensures c.requires all c.insert_label_entries.ensures c.built_with.ensures
