-- The loop of `body::put_fields`: the fields passed are written, and the index after them is the next.
use Rattle.std.proofs.Common.{take}
use Rattle.ion.specs.Calls.Output.{Run}
use Rattle.ion.specs.Value.Encode.{varuints}
use Rattle.timestamp_binary.proofs.body.put_fields.Given as goal

abbrev pub invariant-loop-field : goal.invariant-loop-field
invariant-loop-field l = Run l.fn.buf l.at (varuints (take l.field-index l.fields)) l.buf l.next
