-- `sheet::reader::Reader::node` meets its contract: one law a return.
use Rattle.sheet.proofs.Steps.{cut_here, nodes_full, node_refused, node_taken}
use Rattle.std.proofs.Common.{refl, sym, ◌∙◌}
use Rattle.sheet.specs.declared.Mark.TheVariants.{FO}
use Rattle.sheet.proofs.reader.Reader.node.Goals as goal

pub returns-in_default : goal.returns-in_default
returns-in_default c = cut_here _ _ _ c.left.ensures FO refl c.in_default.len_below

pub returns-then-p-ge-MOST_NODES : goal.returns-then-p-ge-MOST_NODES
returns-then-p-ge-MOST_NODES c = nodes_full _ _ _ c.left.ensures c.in-len6-up.len_at_least c.if-p-ge-MOST_NODES.true

pub returns-then-not-node_fits : goal.returns-then-not-node_fits
returns-then-not-node_fits c = node_refused _ _ _ c.left.ensures c.in-len6-up.len_at_least c.if-p-ge-MOST_NODES.false (sym c.node_fits.ensures ∙ c.if-not-node_fits.true)

pub returns : goal.returns
returns c = node_taken _ _ _ c.left.ensures _ c.in-len6-up.len_at_least c.if-p-ge-MOST_NODES.false (sym c.node_fits.ensures ∙ c.if-not-node_fits.false) c.first_node.ensures
