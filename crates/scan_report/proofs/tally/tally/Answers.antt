-- `tally` meets its contract.
use Rattle.std.proofs.Common.{◌≡◌, ◌<◌, ◌^◌, length, rules, arith}
use Rattle.scans.specs.File.{scans_in, contents_of}
use Rattle.scan_report.proofs.Tallying.{start, ended, stop_full, next_by, bounded}
use Rattle.scan_report.proofs.tally.tally.Goals as goal

pub loop-scan-init : goal.loop-scan-init
loop-scan-init c =
    let i = c.into_iter-scan-iterator.result in
    let first : scans_in i.layout i.left.now ≡ contents_of c.args.s.now =
    rw c.into_iter-scan-iterator.ensures.into_iter_gives c.new-scan-items.ensures in
    record { tallying = start c.args.w c.args.g c.args.s.now _ c.args.last.now first c.requires; can = tt; ends = tt }

pub returns-in_err-x : goal.returns-in_err-x
returns-in_err-x c =
    let e = (ended c.loop-scan.invariant.tallying (rw c.in_err-x.was at c.in-Some.ensures.steps).0).0 in search (rules, e)

pub returns-then-place-ge-POST_COUNT : goal.returns-then-place-ge-POST_COUNT
returns-then-place-ge-POST_COUNT c =
    stop_full c.loop-scan.invariant.tallying (rw c.in_ok-x.was at c.in-Some.ensures.steps) c.place-place.ensures
    c.if-place-ge-POST_COUNT.true

pub take_scan-kind-requires-clause-accepted : goal.take_scan-kind-requires-clause-accepted
take_scan-kind-requires-clause-accepted c = let b = rw c.in_ok-x.was at c.in-Some.ensures.steps in b.accepted

pub counted-counts-requires : goal.counted-counts-requires
counted-counts-requires c =
    let n : length c.args.s.now < 2 ^ 64 = search rules in
    let b = bounded c.loop-scan.invariant.tallying (rw c.in_ok-x.was at c.in-Some.ensures.steps) in
    (omega (arith, b.0), omega (arith, b.1), omega (arith, b.2), omega (arith, b.3), omega (arith, b.4))

pub loop-scan-preserved : goal.loop-scan-preserved
loop-scan-preserved c =
    record {
      tallying =
          next_by c.loop-scan.invariant.tallying (rw c.in_ok-x.was at c.in-Some.ensures.steps) c.place-place.ensures
          c.if-place-ge-POST_COUNT.false c.take_scan-kind.ensures.kind c.counted-counts.ensures c.take_scan-kind.ensures.last;
      can = tt;
      ends = tt;
    }

pub returns : goal.returns
returns c = ended c.loop-scan.invariant.tallying c.in-None.ensures.steps.0
