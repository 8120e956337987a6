-- The fields of a timestamp by their codes. Assumes nothing.
use Rattle.std.specs.Prelude.{ℕ, List, [], ◌∷◌, map, get_or, Option, None, Some, Result}
use Rattle.std.specs.Result.{result_map_both}
use Rattle.ion.specs.Calls.Build.{precision_number}
use Rattle.ion.specs.Calls.Reads.{year_of, month_of, day_of, hour_of, minute_of, second_of, precision_field_of, digits_field_of}
use Rattle.ion.specs.Calls.Reads.{nanoseconds_of, microseconds_of, milliseconds_of}
use Rattle.ion.specs.declared.Timestamp.{Timestamp}
use Rattle.ion.specs.declared.refusal.Refusal.{Refusal}

-- 0 year, 1 month, 2 day, 3 hour, 4 minute, 5 second, 6 precision by its number, 7 number of fraction digits, 8 milliseconds,
-- 9 microseconds, 10 nanoseconds
abbrev pub coded_fields : Timestamp → List (Result ℕ Refusal)
coded_fields s =
    year_of s
    ∷ month_of s
    ∷ day_of s
    ∷ hour_of s
    ∷ minute_of s
    ∷ second_of s
    ∷ result_map_both precision_number (λ r. r) (precision_field_of s)
    ∷ digits_field_of s
    ∷ milliseconds_of s
    ∷ microseconds_of s
    ∷ nanoseconds_of s
    ∷ []

-- the field of a code; none where the code stands for nothing
unfoldable pub field_by : ℕ → Timestamp → Option (Result ℕ Refusal)
field_by code s = get_or (map Some (coded_fields s)) code None
