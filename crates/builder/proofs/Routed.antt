-- The build, by its parts: the checks 1 to 9, then those of the route. Assumes nothing.
use mathlib.Core.Path.{◌≡◌, refl, ap, ◌∙◌}
use mathlib.Core.List.{◌++◌}
use Prim.Native.Nat.{◌≤◌}
use Rattle.std.specs.Prelude.{Result, Ok, Err}
use Rattle.std.specs.Result.{result_and}
use Rattle.ion.specs.Calls.Refusal.{number_of}
use Rattle.ion.specs.Calls.Build.{first_of, range_checks, route_checks, local_time, to_offset, pair_at}
use Rattle.ion.specs.Calls.Build.{build_checks, build_pair, build_of}
use Rattle.ion.specs.declared.BuilderFields.{BuilderFields}
use Rattle.ion.specs.declared.BuilderOffset.{BuilderOffset}
use Rattle.ion.specs.declared.BuilderOffset.TheVariants.{Unknown, FromLocalFields, FromUtcFields}
use Rattle.ion.specs.declared.Timestamp.{Timestamp}
use Rattle.ion.specs.declared.refusal.Refusal.{Refusal}
use Rattle.builder.proofs.Checks.{Numbered, first_most, first_append, numbered_append}
use Rattle.builder.proofs.Bounds.{ranges_bounds}

route_numbered : (f : BuilderFields) (o : BuilderOffset) → Numbered (route_checks f o)
route_numbered f Unknown = (tt, (tt, tt))
route_numbered f (FromLocalFields m) = (tt, (tt, tt))
route_numbered f (FromUtcFields m) = (tt, (tt, tt))

all_numbered : (f : BuilderFields) → Numbered (range_checks f ++ route_checks f f.offset)
all_numbered f =
    numbered_append (range_checks f) (route_checks f f.offset) (tt, (tt, (tt, (tt, (tt, (tt, (tt, (tt, (tt, tt)))))))))
    (route_numbered f f.offset)

-- the builder refuses with the numbers 1 to 11
pub build_most : (f : BuilderFields) {r : Refusal} → build_checks f ≡ Err r → number_of r ≤ 11
unfolding build_checks
build_most f e = first_most (range_checks f ++ route_checks f f.offset) (all_numbered f) e

-- the checks 1 to 9, then those of the route
pub checks_routed : (f : BuilderFields) → build_checks f ≡ result_and (first_of (range_checks f)) (first_of (route_checks f f.offset))
unfolding build_checks
checks_routed f = first_append (range_checks f) (route_checks f f.offset)

-- what the route gives
abbrev pub routed : BuilderFields → BuilderOffset → Result Timestamp Refusal
routed f o = result_and (first_of (route_checks f o)) (Ok (pair_at f (local_time f o) (to_offset o)))

and_then_and : (a b : Result Unit Refusal) (c : Result Timestamp Refusal) → result_and (result_and a b) c ≡ result_and a (result_and b c)
and_then_and (Ok x) b c = refl
and_then_and (Err r) b c = refl

pub build_routed : (f : BuilderFields) → build_of f ≡ result_and (first_of (range_checks f)) (routed f f.offset)
unfolding build_of build_pair
build_routed f =
    ap (λ (c : Result Unit Refusal). result_and c (Ok (build_pair f))) (checks_routed f)
    ∙ and_then_and (first_of (range_checks f)) (first_of (route_checks f f.offset)) (Ok (build_pair f))

-- for the code
pub ruleset routes = (build_routed, ranges_bounds)
