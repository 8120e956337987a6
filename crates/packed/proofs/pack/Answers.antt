-- The word assembled is that of the values joined. Assumes nothing.
use mathlib.Core.Path.{sym, ◌∙◌}
use lib.Dec.{lit≤}
use lib.Bits.{or_zero_r}
use Rattle.ion.specs.Pair.Word.{widths, values_of, word_of}
use Rattle.packed.proofs.Assembly.{ors_join}
use Rattle.packed.proofs.pack.Goals as goal

pub returns : goal.returns
unfolding word_of
returns c = rw c.bits.ensures (sym (or_zero_r _) ∙ ors_join widths (values_of c.args.f) c.requires (lit≤ tt))
