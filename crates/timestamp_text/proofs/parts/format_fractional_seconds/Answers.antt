-- `parts::format_fractional_seconds` meets its contract.
use Rattle.std.proofs.Common.{◌≡◌, ◌/◌, max, ne_eqb, arith}
use Rattle.ion.specs.Numbers.Padded.{digit_count}
use Rattle.ion.specs.Pair.Fraction.{scale}
use Rattle.ion.specs.Text.Format.{fraction_text}
use Rattle.output.proofs.Runs.{run_two}
use Rattle.text.proofs.Digits.{count_most, put_before}
use Rattle.fraction.proofs.Scales.{units_lt}
use Rattle.timestamp_text.proofs.parts.format_fractional_seconds.Goals as goal

pub returns : goal.returns
unfolding fraction_text
returns c =
    let d = c.args.digits in
    let v = c.args.attoseconds / scale d in
    let x = ne_eqb d 0 c.if-digits-eq0.false in
    let l = units_lt d c.args.attoseconds c.requires.1 c.requires.2 in
    let m : d ≡ max d (digit_count v) = omega (arith, count_most d v (omega arith) l) in
    let f = put_before c.put_byte-next.result d d v m (rw c.scale.ensures at c.put_digits.ensures) in
    let room = rw x at c.requires.0 in
    rw x (run_two c.put_byte-next.ensures f (omega (arith, c.put_byte-next.ensures.next)))
