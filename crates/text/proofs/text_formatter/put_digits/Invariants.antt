-- The loop of `text_formatter::put_digits`: what is left in front of index i is what the width or the number still asks for.
use Rattle.std.proofs.Common.{◌-◌, max}
use Rattle.ion.specs.Numbers.Padded.{digit, digit_count}
use Rattle.text.proofs.Padding.{Padding}
use Rattle.text.proofs.text_formatter.put_digits.Given as goal

abbrev pub invariant-loop-i : goal.invariant-loop-i
invariant-loop-i l = Padding 10 digit l.fn.buf (l.end - max l.width (digit_count l.value)) l.end l.width l.value l.buf l.i l.q
