-- The four steps, each on the lists as the one before left them (`Whole`).
-- Assumes nothing.
use Prim.Native.Nat.{◌+◌, ◌-◌}
use mathlib.Core.Path.{◌∙◌}
use native.Mathlib.Omega.{arith}
use lib.ListN.{drop, take}
use Rattle.lists.specs.Parts.{lent-run}
use Rattle.label_entries.proofs.Whole.{Given, places-fit, counts_at, leaves_ask, leaves-count, leaves_lt, rows_ask, numbers-laid, hashes-laid, work-kept}
use Rattle.label_entries.proofs.insert_label_entries.Goals.{After-places_of-places}
use Rattle.label_entries.proofs.insert_label_entries.Goals as goal

-- what the function is given
abbrev given : After-places_of-places → Given
given c =
    record {
      shape = c.args.shape;
      count = c.args.vectors;
      entries = c.args.entries;
      rows = c.args.nodes;
      numbers = c.args.numbers.now;
      hashes = c.args.hashes.now;
      work = c.args.work.now;
      room = c.requires.room;
      places = c.places_of-places.result;
      places_are = c.places_of-places.ensures;
    }

pub link_nodes-requires : goal.link_nodes-requires
link_nodes-requires c =
    let g = given ((goal.at.link_nodes-requires c).After-places_of-places) in
    let made = c.requires.all_made in
    let fit = places-fit g in
    record {
      nodes_bound = fit.table_links;
      nodes_in_bounds = fit.links_end;
      nodes_in_bounds_2 = fit.rows_work;
      nodes_bound_2 = fit.rows_small;
      child_counts = counts_at g made;
    }

pub entry_leaves-requires : goal.entry_leaves-requires
entry_leaves-requires c =
    let g = given ((goal.at.entry_leaves-requires c).After-places_of-places) in
    let made = c.requires.all_made in
    let link = c.link_nodes in
    let ask = leaves_ask g made link.new.numbers link.new.work link.ensures.numbers_after link.auto.work in
    record {
      entries_in_bounds = ask.entries_in_bounds;
      nodes_in_bounds = ask.nodes_in_bounds;
      nodes_bound = ask.nodes_bound;
      nodes_in_bounds_2 = ask.nodes_in_bounds_2;
      by_index = ask.by_index;
      entries_in_bounds_2 = ask.entries_in_bounds_2;
      by_index_2 = ask.by_index_2;
    }

pub sort_entries-requires : goal.sort_entries-requires
sort_entries-requires c =
    let g = given ((goal.at.sort_entries-requires c).After-places_of-places) in
    let made = c.requires.all_made in
    let link = c.link_nodes in
    let marked = c.entry_leaves in
    let part₂ = lent-run g.shape.vectors g.entries marked.new.work in
    let leaves = take (g.shape.vectors + g.entries - g.shape.vectors) (drop g.shape.vectors marked.new.work) in
    let fit = places-fit g in
    let n = leaves-count g made link.new.numbers link.new.work link.ensures.numbers_after link.auto.work marked.new.work leaves marked.ensures part₂ in
    record {
      nodes_bound = fit.table_order;
      leaves_in_bounds = omega (arith, fit.order_end, n, link.auto.numbers);
      leaves_len_bound = omega (arith, fit.entries_small, n);
      by_index = leaves_lt g made link.new.numbers link.new.work link.ensures.numbers_after link.auto.work marked.new.work leaves marked.ensures part₂;
    }

pub make_filters-requires : goal.make_filters-requires
make_filters-requires c =
    let g = given ((goal.at.make_filters-requires c).After-places_of-places) in
    let made = c.requires.all_made in
    let link = c.link_nodes in
    let marked = c.entry_leaves in
    let part₂ = lent-run g.shape.vectors g.entries marked.new.work in
    let leaves = take (g.shape.vectors + g.entries - g.shape.vectors) (drop g.shape.vectors marked.new.work) in
    let sort = c.sort_entries in
    let fit = places-fit g in
    record {
      nodes_bound = fit.filters_end;
      nodes_in_bounds = omega (arith, fit.table_links, fit.links_end, link.auto.numbers, sort.auto.numbers);
      by_index = rows_ask g made link.new.numbers link.new.work link.ensures.numbers_after link.auto.work marked.new.work leaves marked.ensures part₂ sort.new.numbers sort.ensures;
    }

pub returns : goal.returns
returns c =
    let g = given ((goal.at.returns c).After-places_of-places) in
    let made = c.requires.all_made in
    let link = c.link_nodes in
    let marked = c.entry_leaves in
    let part₂ = lent-run g.shape.vectors g.entries marked.new.work in
    let leaves = take (g.shape.vectors + g.entries - g.shape.vectors) (drop g.shape.vectors marked.new.work) in
    let sort = c.sort_entries in
    let filters = c.make_filters in
    record {
      numbers_are = λ m. numbers-laid g m link.new.numbers link.new.work link.ensures.numbers_after link.auto.work marked.new.work leaves marked.ensures part₂ sort.new.numbers sort.ensures;
      hashes_are = λ m. hashes-laid g m link.new.numbers link.new.work link.ensures.numbers_after link.auto.work marked.new.work leaves marked.ensures part₂ sort.new.numbers sort.ensures filters.new.hashes filters.ensures;
      work_free = work-kept g made link.new.numbers link.new.work link.ensures.numbers_after link.auto.work marked.new.work leaves marked.ensures part₂ (marked.auto.work ∙ link.auto.work) link.ensures.work_unchanged;
    }
