-- The loop of `LastKept::write_words`: the words of the scans passed.
use Rattle.std.proofs.Common.{◌≡◌, ◌*◌, take}
use Rattle.scans.specs.Report.{words_for}
use Rattle.scan_report.proofs.Words.{Begun}
use Rattle.scan_report.proofs.last_kept.LastKept.write_words.Given as goal

abbrev pub invariant-loop-x : goal.invariant-loop-x
invariant-loop-x l = record { begun : Begun l.fn.words (words_for (take l.x-index l.self)) l.words; place : l.at ≡ l.x-index * 4 }
