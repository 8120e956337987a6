-- The parts of a body: those of a timestamp, those that their bytes give back, and those that a reader accepts. Assumes nothing.
use Rattle.std.specs.Prelude.{◌≡◌, Bool, cond, ◌&&◌, ◌⊎◌, List, ℕ, ◌/◌, ◌^◌, ◌≤◌, ◌<◌, leb, ltb, min, get_or}
use Rattle.std.specs.Prelude.{Option, None, Some, Result, Ok, Err}
use Rattle.ion.specs.Calendar.Dates.{is_date}
use Rattle.ion.specs.Calendar.Shift.{IsDateTime}
use Rattle.ion.specs.Pair.Offset.{WithinDay, raw_offset, offset_of}
use Rattle.ion.specs.Pair.Fraction.{scale}
use Rattle.ion.specs.Calls.Accepted.{date_in, time_in}
use Rattle.ion.specs.Calls.Build.{is_year}
use Rattle.ion.specs.Calls.Utc.{utc_fields}
use Rattle.ion.specs.Value.Encode.{field_list}
use Rattle.ion.specs.Value.Decode.{Numbers, body_by, local_by, pair_from}
use Rattle.ion.specs.Value.ReadPaddedValue.{offset_fits}
use Rattle.ion.specs.declared.Fields.{Fields}
use Rattle.ion.specs.declared.Body.{Body}
use Rattle.ion.specs.declared.Timestamp.{Timestamp}
use Rattle.ion.specs.declared.refusal.Refusal.{Refusal}
use Rattle.ion.specs.declared.refusal.Refusal.TheVariants as refusal

-- the parts of the body of a timestamp's fields and attoseconds
abbrev pub body_for : Fields → ℕ → Body
body_for f a = record { offset = offset_of f.offset; utc = utc_fields f; coefficient = a / scale f.digits }

-- their bytes give them back: no field is too large, and what the precision or the digits leave out has its first value
pub record Encodable (x : Body) : Type 0 where
  pub within_day : WithinDay x.offset
  pub no_raw : x.utc.offset ≡ raw_offset 0
  pub precise : x.utc.precision ≤ 4
  pub small : (i : ℕ) → get_or (field_list x.utc) i 0 < 16384
  pub no_month : x.utc.precision < 1 → x.utc.month ≡ 1
  pub no_day : x.utc.precision < 2 → x.utc.day ≡ 1
  pub no_hour : x.utc.precision < 3 → x.utc.hour ≡ 0
  pub no_minute : x.utc.precision < 3 → x.utc.minute ≡ 0
  pub no_second : x.utc.precision < 4 → x.utc.second ≡ 0
  pub no_digits : x.utc.precision < 4 → x.utc.digits ≡ 0
  pub few_digits : x.utc.digits ≤ 63
  pub coefficient : x.coefficient < 2 ^ 64
  pub no_coefficient : x.utc.digits ≡ 0 → x.coefficient ≡ 0

-- UTC fields of the calendar and the clock in a year that can be moved, a fraction of its digits, no offset without an hour
pub record UtcInBounds (x : Body) : Type 0 where
  pub time : IsDateTime (time_in x.utc)
  pub year : x.utc.year ≤ 10000
  pub second : x.utc.second ≤ 59
  pub digits : x.utc.digits ≤ 18
  pub coefficient : x.coefficient < 10 ^ x.utc.digits
  pub known_late : x.utc.precision < 3 → x.offset ≡ None

-- an accepted timestamp's: these, and a local year from 1 to 9999
pub record Acceptable (x : Body) : Type 0 where
  pub bounds : UtcInBounds x
  pub from_year : 1 ≤ (local_by x.offset x.utc).year
  pub to_year : (local_by x.offset x.utc).year ≤ 9999

-- the pair of acceptable parts, and a refusal of any others
abbrev pub PartsRead : Body → Result Timestamp Refusal → Type 0
PartsRead x r = (Acceptable x × (r ≡ Ok (pair_from x))) ⊎ ((Acceptable x → ⊥) × (r ≡ Err refusal.Body))

-- the tests of parts, one after the other
abbrev pub in_bounds : Body → Bool
in_bounds x =
    leb x.utc.year 10000 && leb x.utc.hour 23 && leb x.utc.minute 59 && leb x.utc.second 59 && leb x.utc.digits 18
    && offset_fits x.utc.precision x.offset && ltb x.coefficient (10 ^ min x.utc.digits 18) && is_date (date_in x.utc)

abbrev pub is_acceptable : Body → Bool
is_acceptable x = in_bounds x && is_year (local_by x.offset x.utc).year

-- the timestamp of parts, where there are any
abbrev pub parts_answer : Option Body → Result Timestamp Refusal
parts_answer (Some x) = cond (is_acceptable x) (Ok (pair_from x)) (Err refusal.Body)
parts_answer None = Err refusal.Body

-- the timestamp of a body's bytes, by the way in which its numbers and its fraction are read
unfoldable pub stamp_by : Numbers → (List ℕ → Option (ℕ × ℕ)) → List ℕ → Result Timestamp Refusal
stamp_by n fraction b = parts_answer (body_by n fraction b)
