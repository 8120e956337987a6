-- The layouts of files. The new one has a start, which no file of the old layout has that reads to its end. Assumes nothing.
use Rattle.std.specs.Prelude.{ℕ, List, [], ◌∷◌, cond, eqb}
use Rattle.std.specs.List.{starts_with}
use Rattle.scans.specs.declared.Layout.{Layout}
use Rattle.scans.specs.declared.Layout.TheVariants.{Old, New}

-- what stands before the scans
abbrev pub start_of : Layout → List ℕ
start_of Old = []
start_of New = 0x00 ∷ 0x82 ∷ []

unfoldable pub layout_of : List ℕ → Layout
layout_of s = cond (starts_with eqb s (start_of New)) New Old
