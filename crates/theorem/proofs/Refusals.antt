-- What a refusal hands out where there must be a pair, and the build by its checks. Assumes nothing.
use mathlib.Core.Path.{◌≡◌, refl, sym, ap, ◌∙◌}
use mathlib.Core.Bool.{true, false, true≢false, false≢true}
use Prim.Native.Nat.{ℕ}
use native.Mathlib.Omega.{arith}
use Rattle.std.specs.Prelude.{List, Result, Ok, Err, Some, is_ok}
use Rattle.std.specs.Result.{result_and, result_unwrap_or}
use Rattle.ion.specs.Pair.Offset.{offset_minutes, minutes_of}
use Rattle.ion.specs.Pair.Pair.{no_stamp}
use Rattle.ion.specs.Calls.Build.{first_of, range_checks, local_checks, utc_checks, given_time, moved_time, to_offset}
use Rattle.ion.specs.Calls.Build.{is_utc, pair_at, build_of}
use Rattle.ion.specs.Calls.Check.{check_of}
use Rattle.ion.specs.Calls.Refusal.{number_of, number_in}
use Rattle.ion.specs.Text.ReadText.{read_text_of}
use Rattle.ion.specs.declared.BuilderFields.{BuilderFields}
use Rattle.ion.specs.declared.BuilderOffset.{BuilderOffset}
use Rattle.ion.specs.declared.BuilderOffset.TheVariants.{Unknown, FromLocalFields, FromUtcFields}
use Rattle.ion.specs.declared.Timestamp.{Timestamp}
use Rattle.ion.specs.declared.offset.OffsetMinutes.{OffsetMinutes}
use Rattle.ion.specs.declared.refusal.Refusal.{Refusal}
use Rattle.ion.specs.declared.refusal.Refusal.TheVariants as refusal
use Rattle.builder.proofs.Routed.{routed, build_routed}

-- ---- the pair (0, 0)

-- an answer of any kind that is refused hands out what stands for none
alone : {A : Type 0} (r : Result A Refusal) (none : A) → is_ok r ≡ false → result_unwrap_or r none ≡ none
alone (Ok x) none e = absurd (true≢false e)
alone (Err r) none e = refl

pub build_alone : (f : BuilderFields) → is_ok (build_of f) ≡ false → result_unwrap_or (build_of f) no_stamp ≡ no_stamp
build_alone f = alone (build_of f) no_stamp

pub check_refuses : (s : Timestamp) → is_ok (check_of s) ≡ false → result_unwrap_or (check_of s) no_stamp ≡ no_stamp
check_refuses s = alone (check_of s) no_stamp

pub refused_alone : (s : List ℕ) → is_ok (read_text_of s) ≡ false → result_unwrap_or (read_text_of s) no_stamp ≡ no_stamp
refused_alone s = alone (read_text_of s) no_stamp

-- ---- the number 0

-- C is handed a number: 0 is that of accepted answers alone
some_number : (r : Refusal) → number_of r ≡ 0 → ⊥
some_number refusal.Fraction e = omega arith
some_number refusal.Year e = omega arith
some_number refusal.Month e = omega arith
some_number refusal.Day e = omega arith
some_number refusal.Hour e = omega arith
some_number refusal.Minute e = omega arith
some_number refusal.Second e = omega arith
some_number refusal.Digits e = omega arith
some_number refusal.Offset e = omega arith
some_number refusal.NoDay e = omega arith
some_number refusal.LocalYear e = omega arith
some_number refusal.Pair e = omega arith
some_number refusal.InputEnds e = omega arith
some_number refusal.FirstByte e = omega arith
some_number refusal.Body e = omega arith
some_number refusal.ShortBuffer e = omega arith
some_number refusal.LongInput e = omega arith
some_number refusal.Form e = omega arith
some_number refusal.Number e = omega arith
some_number refusal.Words e = omega arith
some_number refusal.Window e = omega arith
some_number refusal.Posts e = omega arith

pub zero_is_ok : {A : Type 0} (r : Result A Refusal) → number_in r ≡ 0 → is_ok r ≡ true
zero_is_ok (Ok x) e = refl
zero_is_ok (Err r) e = absurd (some_number r e)

-- ---- the build

pub build_refused : (f : BuilderFields) {r : Refusal} → first_of (range_checks f) ≡ Err r → build_of f ≡ Err r
build_refused f e = build_routed f ∙ rw e refl

routed_local : (f : BuilderFields) (o : BuilderOffset) → is_utc o ≡ false
    → routed f o ≡ result_and (first_of (local_checks f)) (Ok (pair_at f (given_time f) (to_offset o)))
routed_local f Unknown e = refl
routed_local f (FromLocalFields m) e = refl
routed_local f (FromUtcFields m) e = absurd (true≢false e)

routed_utc : (f : BuilderFields) (o : BuilderOffset) → is_utc o ≡ true → (m : OffsetMinutes)
    → m ≡ offset_minutes (minutes_of (to_offset o))
    → routed f o ≡ result_and (first_of (utc_checks f m)) (Ok (pair_at f (moved_time f m) (Some m)))
routed_utc f Unknown e m h = absurd (false≢true e)
routed_utc f (FromLocalFields n) e m h = absurd (false≢true e)
routed_utc f (FromUtcFields n) e m h = ap (λ (k : OffsetMinutes). routed f (FromUtcFields k)) (sym h)

-- where the checks 1 to 9 pass, the route of UTC's fields or that of local ones is the build
module _ (f : BuilderFields) (h : first_of (range_checks f) ≡ Ok tt) where
  pub by_utc : is_utc f.offset ≡ true
      → let m = offset_minutes (minutes_of (to_offset f.offset)) in
      build_of f ≡ result_and (first_of (utc_checks f m)) (Ok (pair_at f (moved_time f m) (Some m)))
  by_utc u = build_routed f ∙ rw h (routed_utc f f.offset u _ refl)

  pub by_local : is_utc f.offset ≡ false
      → build_of f ≡ result_and (first_of (local_checks f)) (Ok (pair_at f (given_time f) (to_offset f.offset)))
  by_local u = build_routed f ∙ rw h (routed_local f f.offset u)
