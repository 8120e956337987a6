-- `LastKept::write_words` meets its contract.
use Rattle.std.proofs.Common.{◌∙◌, ◌-◌, List, length, length-drop, get_or, drop, ap, arith}
use Rattle.std.proofs.Math.Seq.{length-take-le}
use Rattle.scans.specs.Tally.{no_scan}
use Rattle.scans.specs.Report.{words_of}
use Rattle.scans.specs.declared.Scan.{Scan}
use Rattle.scan_report.proofs.Words.{begun_none, begun_more, begun_all}
use Rattle.scan_report.proofs.Kept.{kept_length}
use Rattle.scan_report.proofs.last_kept.LastKept.write_words.Goals as goal

pub loop-x-init : goal.loop-x-init
loop-x-init c = record { begun = begun_none c.args.words.now; place = omega arith }

pub loop-x-preserved : goal.loop-x-preserved
loop-x-preserved c =
    let n = kept_length c.self.invariant c.self.view_is in
    let few = c.self.invariant.few in
    record {
      begun =
          begun_more c.args.self.now c.loop-x.x-index c.loop-x.at _ c.loop-x.invariant.begun c.loop-x.invariant.place (omega arith)
          (omega arith) (omega arith)
          (c.copy_from_slice.ensures.after
          ∙ ap (λ (l : List Scan). words_of (get_or l c.loop-x.x-index no_scan)) c.self.view_is);
      place = omega arith;
    }

pub returns : goal.returns
returns c =
    let n = kept_length c.self.invariant c.self.view_is in
    let few = c.self.invariant.few in
    let same = ap length c.self.view_is in
    let at = c.loop-x.at in
    let rest = drop at c.loop-x.words in
    let size = length-take-le (1024 - at) rest (omega (arith, length-drop at c.loop-x.words)) in
    begun_all c.args.self.now c.loop-x.x-index at _ c.loop-x.invariant.begun (omega arith) (omega arith) (omega arith) c.requires
    (c.fill.ensures.after (λ y e. e)) size
