-- The kinds of recorded cases, and how many bytes each has. Assumes nothing.
use Rattle.std.specs.Prelude.{ℕ, ◌+◌, ◌-◌, Bool, true, false, cond, List, [], ◌∷◌, map, get_or, Result, Ok, Err}
use Rattle.std.specs.Option.{option_map_or}
use Rattle.std.specs.Result.{result_ok}
use Rattle.test_cases.specs.declared.kinds.Kind.{Kind}
use Rattle.test_cases.specs.declared.kinds.Kind.TheVariants as kind
use Rattle.test_cases.specs.declared.kinds.UnknownKind.{UnknownKind}

-- by their numbers, from 1 on
abbrev pub kinds : List Kind
kinds =
    kind.Build
    ∷ kind.Check
    ∷ kind.Utc
    ∷ kind.Order
    ∷ kind.Text
    ∷ kind.Value
    ∷ kind.ValueRead
    ∷ kind.Distance
    ∷ kind.VarUInt
    ∷ kind.VarInt
    ∷ kind.Padded
    ∷ kind.TextRead
    ∷ kind.ScanRead
    ∷ kind.Scan
    ∷ kind.File
    ∷ kind.Report
    ∷ kind.PaddedRead
    ∷ []

-- the kind of a number; an error for any other
unfoldable pub kind_of : ℕ → Result Kind UnknownKind
kind_of n = get_or (Err (record {}) ∷ map Ok kinds) n (Err (record {}))

-- the bytes of a case without the run that may end it
abbrev pub head_length : Kind → ℕ
head_length kind.Build = 65
head_length kind.Check = 33
head_length kind.Utc = 33
head_length kind.Order = 37
head_length kind.Text = 18
head_length kind.Value = 18
head_length kind.ValueRead = 19
head_length kind.Distance = 50
head_length kind.VarUInt = 9
head_length kind.VarInt = 9
head_length kind.Padded = 10
head_length kind.TextRead = 18
head_length kind.ScanRead = 32
head_length kind.Scan = 30
head_length kind.File = 4
head_length kind.Report = 81
head_length kind.PaddedRead = 19

-- whether a run of bytes ends it
abbrev pub has_run : Kind → Bool
has_run kind.Build = false
has_run kind.Check = false
has_run kind.Utc = false
has_run kind.Order = false
has_run kind.Text = true
has_run kind.Value = true
has_run kind.ValueRead = true
has_run kind.Distance = false
has_run kind.VarUInt = true
has_run kind.VarInt = true
has_run kind.Padded = true
has_run kind.TextRead = true
has_run kind.ScanRead = true
has_run kind.Scan = true
has_run kind.File = true
has_run kind.Report = true
has_run kind.PaddedRead = true

-- the bytes of the case that begins as r does: the last byte before a run is the run's length
unfoldable pub case_length : Kind → List ℕ → ℕ
case_length k r = head_length k + cond (has_run k) (get_or r (head_length k - 1) 0) 0

-- the same by the kind's number: 256, which no record has, for the number of no kind
unfoldable pub length_by_number : ℕ → List ℕ → ℕ
length_by_number n r = option_map_or (λ k. case_length k r) (result_ok (kind_of n)) 256
