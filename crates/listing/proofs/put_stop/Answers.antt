-- `put_stop` meets its contract: a number has two digits at most.
use Rattle.std.proofs.Common.{arith, ap, ◌++◌, ℕ}
use Rattle.ion.specs.Numbers.Padded.{padded}
use Rattle.ion.specs.Text.Ascii.{ascii}
use Rattle.ion.specs.Calls.Stamps.{line_of}
use Rattle.output.proofs.Runs.{run_two, run_is}
use Rattle.text.proofs.Digits.{length_padded}
use Rattle.listing.proofs.Puts.{two_digits}
use Rattle.listing.proofs.put_stop.Goals as goal

pub put_padded-end-requires : goal.put_padded-end-requires
put_padded-end-requires c =
    let n = rw c.as_slice.ensures at c.put-number.ensures.next in
    omega (arith, n, two_digits c.number.result (omega (arith, c.number.ensures.bound)), c.requires)

pub put-requires : goal.put-requires
put-requires c =
    let n = rw c.as_slice.ensures at c.put-number.ensures.next in
    let k = c.number.result in
    rw c.as_slice-2.ensures
    (omega (arith, n, c.put_padded-end.ensures.next, length_padded 1 k, two_digits k (omega (arith, c.number.ensures.bound)), c.requires))

pub returns-clause-bound : goal.returns-clause-bound
returns-clause-bound c =
    let n = rw c.as_slice.ensures at c.put-number.ensures.next in
    let m = rw c.as_slice-2.ensures at c.put.ensures.next in
    let k = c.number.result in
    omega (arith, n, m, c.put_padded-end.ensures.next, length_padded 1 k, two_digits k (omega (arith, c.number.ensures.bound)))

pub returns-clause-run : goal.returns-clause-run
returns-clause-run c =
    let stop = rw c.as_slice.ensures at c.put-number.ensures in
    let line = rw c.as_slice-2.ensures at c.put.ensures in
    let h = returns-clause-bound c in
    run_is (run_two (run_two stop c.put_padded-end.ensures (omega (arith, h, line.next, c.requires))) line (omega (arith, h, c.requires)))
    (ap (λ (k : ℕ). line_of (ascii "stop " ++ padded 1 k)) c.number.ensures.value)
