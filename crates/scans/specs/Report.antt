-- The report over a file: its counts, and the words that hold the last kept scan of each post, its site and tag. Assumes nothing.
use Rattle.std.specs.Prelude.{ℕ, ◌-◌, List, [], ◌∷◌, ◌++◌, ltb, length, drop, replicate, Result, Ok}
use Rattle.std.specs.Result.{result_and}
use Rattle.ion.specs.Pair.Pair.{word_in}
use Rattle.ion.specs.Calls.Answered.{where_ok}
use Rattle.ion.specs.Calls.Build.{first_of}
use Rattle.ion.specs.Calls.Contents.{in_turn}
use Rattle.scans.specs.File.{contents_of}
use Rattle.scans.specs.Tally.{Tally, tally_of}
use Rattle.scans.specs.declared.Scan.{Scan}
use Rattle.scans.specs.declared.Counts.{Counts}
use Rattle.ion.specs.declared.refusal.Refusal.{Refusal}
use Rattle.ion.specs.declared.refusal.Refusal.TheVariants as refusal

-- ---- the words

-- how many posts there is room for, and how many words that is
abbrev pub post_count : ℕ
post_count = 256

abbrev pub word_count : ℕ
word_count = 1024

-- site and tag, then the packed pair
abbrev pub words_of : Scan → List ℕ
words_of x = x.site ∷ x.tag ∷ word_in x.stamp ∷ x.stamp.attoseconds ∷ []

-- those of each, one after another
unfoldable pub words_for : List Scan → List ℕ
words_for l = in_turn words_of l

-- the lent words d with those of l in front: of the first 1,024 the others become 0, and those past them stay
unfoldable pub words_over : List ℕ → List Scan → List ℕ
words_over d l = words_for l ++ (replicate (word_count - length (words_for l)) 0 ++ drop word_count d)

-- ---- the report

-- the largest W, in seconds
abbrev pub longest_window : ℕ
longest_window = 86400

-- what a file's scans tally to: those before its end, or before its damage
abbrev pub file_tally : ℕ → ℕ → List ℕ → Tally
file_tally w g s = tally_of w g (contents_of s).items

-- before reading
unfoldable pub lent_check : ℕ → ℕ → Result Unit Refusal
lent_check size w = first_of ((ltb size word_count, refusal.Words) ∷ (ltb longest_window w, refusal.Window) ∷ [])

-- a 257th post among the scans before the end or the damage
abbrev pub posts_check : ℕ → ℕ → List ℕ → Result Unit Refusal
posts_check w g s = first_of ((ltb post_count (length (file_tally w g s).last), refusal.Posts) ∷ [])

-- a file's: its posts', then its damage
unfoldable pub file_check : ℕ → ℕ → List ℕ → Result Unit Refusal
file_check w g s = result_and (posts_check w g s) (contents_of s).ending

abbrev pub report_check : ℕ → ℕ → ℕ → List ℕ → Result Unit Refusal
report_check size w g s = result_and (lent_check size w) (file_check w g s)

-- the report on the file s with w and g seconds: its counts; d are the words lent
unfoldable pub report_of : List ℕ → ℕ → ℕ → List ℕ → Result Counts Refusal
report_of d w g s = result_and (report_check (length d) w g s) (Ok (file_tally w g s).counts)

-- the words after it: all as they were where it is refused
unfoldable pub words_after : List ℕ → ℕ → ℕ → List ℕ → List ℕ
words_after d w g s = where_ok (report_check (length d) w g s) (words_over d (file_tally w g s).last) d
