-- What a C function hands out of an answer x: it returns the number, n, and stores the rest through references; beside a refusal what it
-- stores is 0. Assumes nothing.
use Rattle.std.specs.Prelude.{ℕ, ◌≡◌, cond, eqb, List, [], ◌∷◌, Result}
use Rattle.std.specs.Result.{result_unwrap_or}
use Rattle.ion.specs.Pair.Pair.{word_in}
use Rattle.ion.specs.Calls.Refusal.{number_in}
use Rattle.ion.specs.declared.refusal.Refusal.{Refusal}
use Rattle.scans.specs.Tally.{no_scan, no_counts}
use Rattle.scans.specs.declared.Layout.{Layout}
use Rattle.scans.specs.declared.Layout.TheVariants.{Old, New}
use Rattle.scans.specs.declared.Scan.{Scan}
use Rattle.scans.specs.declared.Counts.{Counts}

-- a layout as a number, and back
abbrev pub code_of : Layout → ℕ
code_of Old = 0
code_of New = 1

abbrev pub layout_from : ℕ → Layout
layout_from n = cond (eqb n 0) Old New

-- a scan, and how many bytes it took
pub record ScanIs (x : Result (Scan × ℕ) Refusal) (n i t g w a k : ℕ) : Type 0 where
  pub number : n ≡ number_in x
  pub site : i ≡ (result_unwrap_or x (no_scan, 0)).0.site
  pub tag : t ≡ (result_unwrap_or x (no_scan, 0)).0.tag
  pub guard : g ≡ (result_unwrap_or x (no_scan, 0)).0.guard
  pub word : w ≡ word_in (result_unwrap_or x (no_scan, 0)).0.stamp
  pub attoseconds : a ≡ (result_unwrap_or x (no_scan, 0)).0.stamp.attoseconds
  pub taken : k ≡ (result_unwrap_or x (no_scan, 0)).1

-- a report's counts
pub record CountsAre (x : Result Counts Refusal) (n : ℕ) (l : List ℕ) : Type 0 where
  pub number : n ≡ number_in x
  pub counts : let c = result_unwrap_or x no_counts in l ≡ c.scans ∷ c.doubles ∷ c.kept ∷ c.gaps ∷ c.backward ∷ []
