-- `var_uint::read_groups` meets its contract.
use Rattle.std.proofs.Common.{◌∙◌, add-one, arith}
use native.Mathlib.Nat.{pow-suc}
use Rattle.binary.proofs.Groups.{scan_passed, groups_few}
use Rattle.binary.proofs.var_uint.read_groups.Goals as goal

pub overflow_mul-value : goal.overflow_mul-value
overflow_mul-value c = omega (arith, groups_few c.loop-byte.value c.loop-byte.count c.loop-byte.invariant.small (omega arith))

pub overflow_add-value : goal.overflow_add-value
overflow_add-value c = omega (arith, groups_few c.loop-byte.value c.loop-byte.count c.loop-byte.invariant.small (omega arith))

pub loop-byte-preserved : goal.loop-byte-preserved
loop-byte-preserved c =
    let l = c.loop-byte in
    record {
      small = rw add-one (omega (arith, pow-suc 128 l.count));
      most = omega arith;
      scan = l.invariant.scan ∙ scan_passed _ _ _ _ _ _ (omega arith) c.loop-byte-test.true c.if-byte-ge-END_FLAG.false;
    }
