-- The loop of `var_uint::read_groups`: the scan of the bytes from the present one on is the whole scan.
use Rattle.std.proofs.Common.{◌≡◌, ◌-◌, ◌^◌, ◌<◌, ◌≤◌, drop}
use Rattle.ion.specs.Numbers.VarUInt.{scan_from}
use Rattle.binary.proofs.var_uint.read_groups.Given as goal

abbrev pub invariant-loop-byte : goal.invariant-loop-byte
invariant-loop-byte l =
    record {
      small : l.value < 128 ^ l.count;
      most : l.count ≤ l.most;
      scan : scan_from l.limit (l.most - l.taken) l.start l.taken l.s
          ≡ scan_from l.limit (l.most - l.count) l.value l.count (drop l.byte-index l.s);
    }
