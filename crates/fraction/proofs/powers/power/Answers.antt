-- Every entry of the table is its power of ten. Assumes nothing.
use Rattle.std.proofs.Common.{◌<◌, arith}
use Rattle.fraction.proofs.Scales.{entry}
use Rattle.fraction.proofs.powers.power.Goals as goal

pub returns : goal.returns
returns c = let h : c.min.result < 19 = omega arith in rw (entry, tt, h, c.min.ensures)
