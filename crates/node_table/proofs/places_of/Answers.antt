-- Field by field.
-- Assumes nothing.
use Rattle.node_table.proofs.places_of.Goals as goal

pub returns : goal.returns
returns c =
    λ t.
    record {
      owners = c.owners_at.ensures t;
      vectors = c.order_at.ensures t;
      table = c.nodes_at.ensures t;
      links = c.links_at.ensures t;
      order = c.entry_order_at.ensures t;
      filters = c.filters_at.ensures t;
    }
