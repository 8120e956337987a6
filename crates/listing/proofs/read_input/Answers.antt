-- `read_input` meets its contract.
use Rattle.std.proofs.Common.{sym, ◌∙◌}
use Rattle.listing.proofs.Inputs.{input_read}
use Rattle.listing.proofs.read_input.Goals as goal

pub returns-clause-bytes : goal.returns-clause-bytes
returns-clause-bytes g c =
    let p = c.in_ok-n.ensures in
    input_read c.read_full.new.buf c.in_ok-n.n (c.requires ∙ sym p.size) p.bound _ _ p.bytes p.end
