-- What holds of the last kept scans as a program has them: the first `len` of an array of 256, and the count of each. Assumes nothing.
use Rattle.std.specs.Prelude.{ℕ, ◌≡◌, ◌≤◌, ◌<◌, List, [], ◌∷◌, length, take, get_or}
use Rattle.ion.specs.Pair.Count.{count_of}
use Rattle.scans.specs.Tally.{no_scan, place_of}
use Rattle.scans.specs.declared.Scan.{Scan}

-- none of the scans l is of x's post
abbrev pub None : Scan → List Scan → Type 0
None x l = place_of x l ≡ length l

-- no scan is of the post of one before it
abbrev pub Apart : List Scan → Type 0
Apart [] = Unit
Apart (y ∷ l) = None y l × Apart l

pub record IsKept (len : ℕ) (scans : List Scan) (counts : List ℕ) : Type 0 where
  pub few : len ≤ 256
  pub size : length scans ≡ 256
  pub count_size : length counts ≡ 256
  pub apart : Apart (take len scans)
  pub counted : (i : ℕ) → i < len → get_or counts i 0 ≡ count_of (get_or scans i no_scan).stamp
