-- The table of year starts by its recurrence: 0, and after the start of a year that start and the year's length. Assumes nothing.
use mathlib.Core.Path.{◌≡◌, refl, ap, ◌∙◌}
use mathlib.Core.List.{List, map}
use Prim.Native.Nat.{ℕ, suc, ◌+◌}
use lib.Dec.{T}
use lib.ListN.{length}
use Rattle.std.specs.List.{range_with_len}
use Rattle.places.proofs.Table.{follows, follows_is}
use Rattle.ion.specs.Calendar.Dates.{sum_below, year_length, year_start}
use Rattle.ion.specs.Calendar.YearStarts.{year_starts}

-- the start of the year after y, which starts at a
abbrev pub next_start : ℕ → ℕ → ℕ
next_start y a = a + year_length y

next_start_is : (y : ℕ) → year_start (suc y) ≡ next_start y (year_start y)
unfolding sum_below
next_start_is y = refl

-- numbers that follow each other so from 0 on are the starts, if there are as many
pub recurring : (xs : List ℕ) → length xs ≡ 10001 → T (follows next_start 0 0 xs) → xs ≡ year_starts
unfolding year_starts sum_below
recurring xs n t = follows_is next_start year_start next_start_is xs 0 t ∙ ap (λ (k : ℕ). map year_start (range_with_len 0 k)) n
