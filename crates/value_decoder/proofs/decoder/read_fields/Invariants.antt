-- The loop of `decoder::read_fields`: the fields passed, and those that the bytes left begin with, are all.
use Rattle.std.proofs.Common.{◌≡◌, drop}
use Rattle.ion.specs.Value.Decode.{decode_fields}
use Rattle.value_decoder.proofs.FieldSteps.{Passed}
use Rattle.value_decoder.proofs.decoder.read_fields.Given as goal

pub record FieldsPassed (g : goal.Over) (l : goal.Live-loop-value g) : Type 0 where
  pub passed : Passed g.F.Forms.numbers l.s (decode_fields g.F.Forms.numbers 6 (drop l.at l.s)) l.value-items l.value-index l.next
  pub same : l.count ≡ l.value-index

abbrev pub invariant-loop-value : goal.invariant-loop-value
invariant-loop-value g l = FieldsPassed g l
