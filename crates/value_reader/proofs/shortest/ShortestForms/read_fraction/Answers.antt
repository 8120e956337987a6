-- `shortest::Shortest::read_fraction` meets its contract.
use Rattle.std.proofs.Common.{None, Some, sym, ◌∙◌, arith}
use Rattle.std.proofs.lemmas.Grind.{common_steps}
use Rattle.value_reader.proofs.FormSteps.{fraction_some}
use Rattle.value_reader.proofs.shortest.ShortestForms.read_fraction.Goals as goal

pub returns-in_err-coefficient-clause-value : goal.returns-in_err-coefficient-clause-value
returns-in_err-coefficient-clause-value c =
    let found = c.in_ok-exponent in
    let after = fraction_some c.args.s.now c.args.at found.exponent found.n (grind (arith, common_steps)) c.if-s-at.false in
    let none = after (grind (arith, common_steps)) c.if-exponent-eq0.false None (grind (arith, common_steps)) in
    c.from_residual-in_err-coefficient.ensures ∙ sym none

pub returns-clause-value : goal.returns-clause-value
returns-clause-value c =
    let found = c.in_ok-exponent in
    let after = fraction_some c.args.s.now c.args.at found.exponent found.n (grind (arith, common_steps)) c.if-s-at.false in
    sym (after (grind (arith, common_steps)) c.if-exponent-eq0.false (Some _) (grind (arith, common_steps)))
