-- By the words where the offsets are the same, and by one clock where they differ.
use Rattle.std.proofs.Common.{rules, ◌∙◌}
use Rattle.ion.specs.Pair.Word.{fields_of}
use Rattle.order.proofs.WordOrder.{cut_order}
use Rattle.order.proofs.accepted.order_of.Goals as goal

pub returns-then-bits : goal.returns-then-bits
unfolding fields_of
returns-then-bits c = search (rules, c.cmp.ensures ∙ cut_order _ _ c.requires.0 c.requires.1 (cc))
