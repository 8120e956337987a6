-- One scan of a file after another. Assumes nothing.
use Rattle.std.specs.Prelude.{◌≡◌, [], Option, Result, Ok, Err, MatchOption, MatchResult}
use Rattle.ion.specs.Calls.Accepted.{Accepted}
use Rattle.ion.specs.Calls.Contents.{Contents, contents_with, before}
use Rattle.ion.specs.declared.refusal.Refusal.{Refusal}
use Rattle.scans.specs.declared.Scan.{Scan}

-- the scan x begins the contents c, and d are the contents after it
pub record Begins (c d : Contents Scan) (x : Scan) : Type 0 where
  pub contents : c ≡ before x d
  pub accepted : Accepted x.stamp

-- what one step over the contents c gives: their end, the damage, or a scan; d are the contents left, none after an end or a damage
abbrev pub GivesScan : Contents Scan → Option (Result Scan Refusal) → Contents Scan → Type 0
GivesScan c r d =
    MatchOption r ((c ≡ contents_with [] (Ok tt)) × (d ≡ contents_with [] (Ok tt)))
    (λ (q : Result Scan Refusal).
    MatchResult q (λ (x : Scan). Begins c d x) (λ (e : Refusal). (c ≡ contents_with [] (Err e)) × (d ≡ contents_with [] (Ok tt))))
