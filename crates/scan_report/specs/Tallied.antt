-- What the tally of a whole file answers. Assumes nothing.
use Rattle.std.specs.Prelude.{ℕ, ◌≡◌, List, Result, Ok, Err, MatchResult}
use Rattle.scans.specs.Tally.{Tally}
use Rattle.scans.specs.Report.{file_tally, file_check}
use Rattle.scans.specs.declared.Scan.{Scan}
use Rattle.scans.specs.declared.Counts.{Counts}
use Rattle.ion.specs.declared.refusal.Refusal.{Refusal}

abbrev pub tally_with : List Scan → Counts → Tally
tally_with l c = record { last = l; counts = c }

-- where the file is accepted its counts, l being its last kept scans; else its refusal
abbrev pub TalliedTo : ℕ → ℕ → List ℕ → List Scan → Result Counts Refusal → Type 0
TalliedTo w g s l r =
    MatchResult r (λ (c : Counts). (file_check w g s ≡ Ok tt) × (file_tally w g s ≡ tally_with l c))
    (λ (e : Refusal). file_check w g s ≡ Err e)
