-- `decoder::read_fields` meets its contract.
use lib.Seq.{set-get_or}
use Rattle.std.proofs.Common.{arith, refl, ap, ℕ, ◌+◌}
use Rattle.std.proofs.lemmas.Grind.{common_steps}
use Rattle.value_decoder.proofs.FieldSteps.{passed_none, passed_more, passed_bad, passed_six, passed_all}
use Rattle.value_decoder.proofs.decoder.read_fields.Goals as goal

pub loop-value-init : goal.loop-value-init
loop-value-init g c = record { passed = passed_none g.F.Forms.numbers _ _; same = refl }

pub returns-in_err-x : goal.returns-in_err-x
returns-in_err-x g c =
    rw c.from_residual.ensures
    (passed_bad g.F.Forms.numbers c.loop-value.invariant.passed (grind (arith, common_steps)) (grind (arith, common_steps))
    (grind (arith, common_steps)))

pub overflow_add-count : goal.overflow_add-count
overflow_add-count g c = let h = c.loop-value.invariant in omega (arith, h.same, h.passed.most)

pub loop-value-preserved : goal.loop-value-preserved
loop-value-preserved g c =
    record {
      passed =
          passed_more g.F.Forms.numbers c.loop-value.invariant.passed _ _ (grind (arith, common_steps)) (grind (arith, common_steps))
          (grind (arith, common_steps)) (grind (arith, common_steps));
      same = ap (λ (n : ℕ). n + 1) c.loop-value.invariant.same;
    }

pub returns-after-loop-value : goal.returns-after-loop-value
returns-after-loop-value g c =
    rw c.loop-value.invariant.same (passed_six g.F.Forms.numbers c.loop-value.invariant.passed (grind (arith, common_steps)))

pub returns-then-next-s : goal.returns-then-next-s
returns-then-next-s g c =
    rw (set-get_or c.loop-value.value-items c.loop-value.value-index 0, c.loop-value.invariant.same)
    (passed_all g.F.Forms.numbers c.loop-value.invariant.passed (grind (arith, common_steps)))
