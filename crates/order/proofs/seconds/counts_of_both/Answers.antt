-- `counts_of_both` meets its contract.
use Rattle.std.proofs.Common.{◌≡◌, rules}
use Rattle.order.specs.Local.{count_by}
use Rattle.order.proofs.Clocks.{one_clock}
use Rattle.order.proofs.seconds.counts_of_both.Goals as goal

pub returns : goal.returns
returns c =
    let second : c.count_by-second.result ≡ count_by c.unpack-g.result c.args.t.attoseconds c.offset_difference-ahead.result = search rules in
    one_clock c.requires c.unpack-f.ensures c.unpack-g.ensures c.offset_difference-ahead.ensures c.count_by-first.ensures second
