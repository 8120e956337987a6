-- Reading a text, as one table of rows and one theorem: what the definition gives for each text is what the row states. The words are
-- written out from the packed word's widths. Assumes nothing.
use Prim.Native.Nat.{ℕ}
use Prim.Native.String.{String}
use Rattle.std.specs.Prelude.{Result, Ok, Err}
use mathlib.Core.List.{List, [], ◌∷◌, map}
use mathlib.Core.Path.{◌≡◌, refl}
use Rattle.places.specs.Places.{value_from}
use Rattle.ion.specs.Calendar.Dates.{is_leap, month_length_of}
use Rattle.ion.specs.Pair.Word.{word_of}
use Rattle.ion.specs.Pair.Pair.{packed_pair}
use Rattle.ion.specs.Calls.Build.{build_checks, build_pair, build_of}
use Rattle.ion.specs.Text.Ascii.{ascii}
use Rattle.ion.specs.Text.ReadText.{digit_run, digits_value, read_digits, read_marked, signed_clock, read_clock, read_offset}
use Rattle.ion.specs.Text.ReadText.{end_offset, end_t, end_date, end_digits, end_second, read_text, read_text_of}
use Rattle.ion.specs.Value.ReadValue.{same}
use Rattle.ion.specs.declared.Timestamp.{Timestamp}
use Rattle.ion.specs.declared.refusal.Refusal.{Refusal}
use Rattle.ion.specs.declared.refusal.Refusal.TheVariants as refusal

pub record TextRow : Type 0 where
  pub text : String
  pub answer : Result Timestamp Refusal

-- a text that is read as a pair, and one that is refused
takes : String → ℕ → ℕ → TextRow
takes t w a = record { text = t; answer = Ok (packed_pair w a) }

refuses : String → Refusal → TextRow
refuses t r = record { text = t; answer = Err r }

pub text_rows : List TextRow
text_rows =
    -- each form
    takes "0001T" 0x0004420000000000 0
    ∷ takes "9999T" 0x9c3c420000000000 0
    ∷ takes "2020-02T" 0x1f90820000200000 0
    ∷ takes "2020-02-03T" 0x1f90860000400000 0
    ∷ takes "2020-02-03T04:05-08:00" 0x1f90864140603c00 0
    ∷ takes "2020-02-03T04:05:06-08:00" 0x1f90864146803c00 0
    ∷ takes "2020-02-03T04:05:06.070-08:00" 0x1f90864146833c00 70000000000000000
    -- a date without its T, and Z
    ∷ takes "2020-02-03" 0x1f90860000400000 0
    ∷ takes "2000-02-29" 0x1f40ba0000400000 0
    ∷ takes "2020-02-03T04:05Z" 0x1f90864140605a00 0
    ∷ takes "2020-02-03T04:05:06Z" 0x1f90864146805a00 0
    ∷ takes "2020-02-03T04:05:06.0Z" 0x1f90864146815a00 0
    -- offsets: unknown, zero, a minute either way, the widest
    ∷ takes "2020-02-03T04:05-00:00" 0x1f90864140600000 0
    ∷ takes "2020-02-03T04:05+00:00" 0x1f90864140605a00 0
    ∷ takes "2020-02-03T04:05-00:01" 0x1f908641406059f0 0
    ∷ takes "0001-01-01T00:00+00:01" 0x0004420000605a10 0
    ∷ takes "2020-02-03T04:05+23:59" 0x1f9086414060b3f0 0
    ∷ takes "9999-12-31T23:59:59.999999999999999999-23:59" 0x9c3f3f7efb920010 999999999999999999
    -- the builder's checks, each, and their order
    ∷ refuses "0000T" refusal.LocalYear
    ∷ refuses "0000-02-30" refusal.LocalYear
    ∷ refuses "2020-13T" refusal.Month
    ∷ refuses "2020-00T" refusal.NoDay
    ∷ refuses "2020-01-32" refusal.Day
    ∷ refuses "1900-02-29" refusal.NoDay
    ∷ refuses "2020-02-03T24:05Z" refusal.Hour
    ∷ refuses "2020-02-03T04:60Z" refusal.Minute
    ∷ refuses "2020-02-03T04:05:60Z" refusal.Second
    ∷ refuses "2020-02-03T04:05:06.1234567890123456789Z" refusal.Digits
    ∷ refuses "2020-02-03T04:05:06.9999999999999999999999999999999999999999+24:00" refusal.Digits
    ∷ refuses "2020-02-03T04:05:60.1234567890123456789Z" refusal.Second
    ∷ refuses "2020-02-30T04:05+24:00" refusal.Offset
    ∷ refuses "2020-02-03T04:05-24:00" refusal.Offset
    ∷ refuses "2020-02-03T04:05+99:59" refusal.Offset
    ∷ refuses "2020-99-99T99:99:99+99:59" refusal.Month
    -- broken forms, ahead of those checks
    ∷ refuses "" refusal.Form
    ∷ refuses "2020" refusal.Form
    ∷ refuses "2020-02" refusal.Form
    ∷ refuses "202T" refusal.Form
    ∷ refuses "20200T" refusal.Form
    ∷ refuses "2020-2T" refusal.Form
    ∷ refuses "2020-02-3" refusal.Form
    ∷ refuses "-020T" refusal.Form
    ∷ refuses "2020-02-03t" refusal.Form
    ∷ refuses "2020-02-03TZ" refusal.Form
    ∷ refuses "2020-02-03T04Z" refusal.Form
    ∷ refuses "2020-02-03 04:05Z" refusal.Form
    ∷ refuses "2020-02-03T04:05" refusal.Form
    ∷ refuses "2020-02-03T04:05:06" refusal.Form
    ∷ refuses "2020-02-03T04:05:6Z" refusal.Form
    ∷ refuses "2020-02-03T04:05:06.Z" refusal.Form
    ∷ refuses "2020-02-03T04:05:06.5" refusal.Form
    ∷ refuses "2020-02-03T04:05z" refusal.Form
    ∷ refuses "2020-02-03T04:05Z " refusal.Form
    ∷ refuses "2020-02-03T04:05+00:60" refusal.Form
    ∷ refuses "2020-02-03T04:05+0:00" refusal.Form
    ∷ refuses "2020-02-03T04:05+00:000" refusal.Form
    ∷ refuses "2020-02-03T04:05+0000" refusal.Form
    ∷ refuses "2020-13-03T04:05+00:60" refusal.Form
    ∷ []

-- every row
pub text_examples : map (λ (r : TextRow). read_text_of (ascii r.text)) text_rows ≡ map (λ (r : TextRow). r.answer) text_rows
unfolding text_rows takes refuses value_from digit_run digits_value read_digits read_marked signed_clock read_clock read_offset end_offset
    end_t end_date end_digits end_second read_text read_text_of same build_of build_checks build_pair word_of is_leap month_length_of
text_examples = refl
