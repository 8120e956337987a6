-- What the stages give: no stage drops a field, and fields that were not given have their first values. `Gives` has a constructor for each
-- setter's definition, so it holds of the fields inside every stage. Assumes nothing.
use mathlib.Core.Path.{◌≡◌, refl, sym, ap, subst}
use Prim.Native.Nat.{ℕ, ◌%◌, ◌^◌, ◌<◌}
use native.Mathlib.Omega.{arith}
use Rattle.ion.specs.Pair.Fraction.{scale}
use Rattle.ion.specs.Calls.Build.{precision_number}
use Rattle.ion.specs.Calls.Accepted.{Staged}
use Rattle.ion.specs.Calls.Stages.{builder_fields, with_year, with_month, with_day}
use Rattle.ion.specs.Calls.Stages.{with_hour, with_hour_and_minute, with_minute, with_second}
use Rattle.ion.specs.Calls.Stages.{with_fraction, with_offset, Stage, has_year, has_month}
use Rattle.ion.specs.Calls.Stages.{has_day, has_hour, has_minute, has_seconds, has_fraction}
use Rattle.ion.specs.Calls.Stages.{has_offset, Offsets, Gives}
use Rattle.ion.specs.Calls.Stages as stages
use Rattle.ion.specs.declared.BuilderFields.{BuilderFields}
use Rattle.ion.specs.declared.BuilderOffset.{BuilderOffset}
use Rattle.ion.specs.declared.BuilderOffset.TheVariants.{Unknown, FromLocalFields, FromUtcFields}
use Rattle.ion.specs.declared.TimestampPrecision.{TimestampPrecision}
use Rattle.ion.specs.declared.TimestampPrecision.TheVariants.{Year, Month, Day, HourAndMinute, Second}
use Rattle.ion.specs.declared.Fraction.{Fraction}
use Rattle.fraction.proofs.Multiples.{multiple}

-- a fraction has no more than its digits, or is no fraction
abbrev Cut : ℕ → ℕ → Type 0
Cut a digits = a < 10 ^ 18 → a % scale digits ≡ 0

-- the fields at a stage: those not given have their first values
At : Stage → BuilderFields → Type 0
At has_year f = f ≡ builder_fields Year Unknown f.year 1 1 0 0 0 0 0
At has_month f = f ≡ builder_fields Month Unknown f.year f.month 1 0 0 0 0 0
At has_day f = f ≡ builder_fields Day Unknown f.year f.month f.day 0 0 0 0 0
At has_hour f = f ≡ builder_fields HourAndMinute Unknown f.year f.month f.day f.hour 0 0 0 0
At has_minute f = f ≡ builder_fields HourAndMinute Unknown f.year f.month f.day f.hour f.minute 0 0 0
At has_seconds f = f ≡ builder_fields Second Unknown f.year f.month f.day f.hour f.minute f.second 0 0
At has_fraction f =
    (f ≡ builder_fields Second Unknown f.year f.month f.day f.hour f.minute f.second f.attoseconds f.digits) × Cut
    f.attoseconds f.digits
At has_offset f = Staged f

-- fields to the minute, and to the second, with any offset
pub to_minute_lem : (o : BuilderOffset) (y mo d h mi : ℕ) → Staged (builder_fields HourAndMinute o y mo d h mi 0 0 0)
to_minute_lem o y mo d h mi =
    record {
      month = λ k. absurd (omega arith);
      day = λ k. absurd (omega arith);
      hour = λ k. absurd (omega arith);
      minute = λ k. absurd (omega arith);
      offset = λ k. absurd (omega arith);
      second = λ k. refl;
      digits = λ k. refl;
      multiple = λ k. refl;
    }

pub to_second_lem : (o : BuilderOffset) (y mo d h mi s a n : ℕ) → Cut a n → Staged (builder_fields Second o y mo d h mi s a n)
to_second_lem o y mo d h mi s a n c =
    record {
      month = λ k. absurd (omega arith);
      day = λ k. absurd (omega arith);
      hour = λ k. absurd (omega arith);
      minute = λ k. absurd (omega arith);
      offset = λ k. absurd (omega arith);
      second = λ k. absurd (omega arith);
      digits = λ k. absurd (omega arith);
      multiple = c;
    }

no_fraction : Cut 0 0
no_fraction h = refl

offset_staged : {t : Stage} (f : BuilderFields) (o : BuilderOffset) → Offsets t → At t f → Staged (with_offset f o)
unfolding At
offset_staged f o stages.hour e =
    subst (λ (g : BuilderFields). Staged (with_offset g o)) (sym e) (to_minute_lem o f.year f.month f.day f.hour 0)
offset_staged f o stages.minute e =
    subst (λ (g : BuilderFields). Staged (with_offset g o)) (sym e) (to_minute_lem o f.year f.month f.day f.hour f.minute)
offset_staged f o stages.seconds e =
    subst (λ (g : BuilderFields). Staged (with_offset g o)) (sym e)
    (to_second_lem o f.year f.month f.day f.hour f.minute f.second 0 0 no_fraction)
offset_staged f o stages.fraction (e, c) =
    subst (λ (g : BuilderFields). Staged (with_offset g o)) (sym e)
    (to_second_lem o f.year f.month f.day f.hour f.minute f.second f.attoseconds f.digits c)

at_stage : {t : Stage} {f : BuilderFields} → Gives t f → At t f
unfolding At
at_stage (stages.year y) = refl
at_stage (stages.month g m) = ap (λ (f : BuilderFields). with_month f m) (at_stage g)
at_stage (stages.day g d) = ap (λ (f : BuilderFields). with_day f d) (at_stage g)
at_stage (stages.hour g h) = ap (λ (f : BuilderFields). with_hour f h) (at_stage g)
at_stage (stages.both g h m) = ap (λ (f : BuilderFields). with_hour_and_minute f h m) (at_stage g)
at_stage (stages.minute g m) = ap (λ (f : BuilderFields). with_minute f m) (at_stage g)
at_stage (stages.second g s) = ap (λ (f : BuilderFields). with_second f s) (at_stage g)
at_stage (stages.fraction {x = x} g k) = (ap (λ (f : BuilderFields). with_fraction f x) (at_stage g), multiple k)
at_stage (stages.local {f = f} o g m) = offset_staged f (FromLocalFields m) o (at_stage g)
at_stage (stages.utc {f = f} o g m) = offset_staged f (FromUtcFields m) o (at_stage g)

to_day_lem : (p : TimestampPrecision) (y mo d : ℕ) → (precision_number p < 1 → mo ≡ 1) → (precision_number p < 2 → d ≡ 1)
    → Staged (builder_fields p Unknown y mo d 0 0 0 0 0)
to_day_lem p y mo d h k =
    record {
      month = h;
      day = k;
      hour = λ l. refl;
      minute = λ l. refl;
      offset = λ l. refl;
      second = λ l. refl;
      digits = λ l. refl;
      multiple = λ l. refl;
    }

staged_at : (t : Stage) (f : BuilderFields) → At t f → Staged f
unfolding At
staged_at has_year f e = subst Staged (sym e) (to_day_lem Year f.year 1 1 (λ k. refl) (λ k. refl))
staged_at has_month f e = subst Staged (sym e) (to_day_lem Month f.year f.month 1 (λ k. absurd (omega arith)) (λ k. refl))
staged_at has_day f e =
    subst Staged (sym e) (to_day_lem Day f.year f.month f.day (λ k. absurd (omega arith)) (λ k. absurd (omega arith)))
staged_at has_hour f e = subst Staged (sym e) (to_minute_lem Unknown f.year f.month f.day f.hour 0)
staged_at has_minute f e = subst Staged (sym e) (to_minute_lem Unknown f.year f.month f.day f.hour f.minute)
staged_at has_seconds f e =
    subst Staged (sym e) (to_second_lem Unknown f.year f.month f.day f.hour f.minute f.second 0 0 no_fraction)
staged_at has_fraction f (e, c) =
    subst Staged (sym e) (to_second_lem Unknown f.year f.month f.day f.hour f.minute f.second f.attoseconds f.digits c)
staged_at has_offset f s = s

pub gives_staged : {t : Stage} {f : BuilderFields} → Gives t f → Staged f
gives_staged {t} {f} g = staged_at t f (at_stage g)

-- ---- what is kept

-- the last stage has every field that was given
pub all_kept : (y mo d h mi s : ℕ) (x : Fraction) (o : BuilderOffset)
    → with_offset (with_fraction (with_second (with_minute (with_hour (with_day (with_month (with_year y) mo) d) h) mi) s) x) o
    ≡ builder_fields Second o y mo d h mi s x.attoseconds x.digits
all_kept y mo d h mi s x o = refl

-- an hour without its minute is minute 0, at the same precision
pub hour_alone : (y mo d h : ℕ) (o : BuilderOffset)
    → with_offset (with_hour (with_day (with_month (with_year y) mo) d) h) o ≡ builder_fields HourAndMinute o y mo d h 0 0 0 0
hour_alone y mo d h o = refl

-- an hour and a minute at once are one after the other
pub both_one_by_one : (f : BuilderFields) (h mi : ℕ) → with_hour_and_minute f h mi ≡ with_minute (with_hour f h) mi
both_one_by_one f h mi = refl
