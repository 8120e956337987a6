-- `list` meets its contract.
use Rattle.std.proofs.Common.{sym, ◌∙◌, arith}
use Rattle.padded_reader.proofs.PaddedValues.{read_exact}
use Rattle.listing.proofs.Lines.{output_long}
use Rattle.listing.proofs.Listed.{size, last_room, finish, stop, line_room}
use Rattle.listing.proofs.list.Goals as goal

pub returns-then-input-gt-MAX_INPUT-clause-run : goal.returns-then-input-gt-MAX_INPUT-clause-run
returns-then-input-gt-MAX_INPUT-clause-run c = rw (output_long c.args.input.now c.if-input-gt-MAX_INPUT.true) c.put_stop.ensures.run

pub put_text-end-requires : goal.put_text-end-requires
put_text-end-requires c =
    let p = c.loop-rest.invariant in
    let e = sym c.read_padded_value.ensures ∙ c.in-Ok.is in
    (omega (arith, line_room p e, size p), (read_exact _ _ _ (p.below (λ i. (c.type_inv.input i).fits)) e).accepted)

pub returns-in-Err-clause-run : goal.returns-in-Err-clause-run
returns-in-Err-clause-run c =
    let p = c.loop-rest.invariant in
    stop p (sym c.read_padded_value.ensures ∙ c.in-Err.is) c.if-input-gt-MAX_INPUT.false (sym c.is_empty.ensures ∙ c.loop-rest-test.true)
    c.put_stop-in-Err.ensures.run (omega (arith, last_room p))

pub returns-clause-run : goal.returns-clause-run
returns-clause-run c = finish c.loop-rest.invariant c.if-input-gt-MAX_INPUT.false (sym c.is_empty.ensures ∙ c.loop-rest-test.false)
