-- The refusal of the first check that fails, for every list of checks. Assumes nothing.
use mathlib.Core.Path.{◌≡◌, refl}
use mathlib.Core.Bool.{Bool, true, false, true≢false}
use mathlib.Core.List.{List, [], ◌∷◌, ◌++◌}
use Prim.Native.Nat.{◌≤◌}
use lib.Dec.{T, leb, leb→le}
use Rattle.std.specs.Prelude.{Ok, Err}
use Rattle.std.specs.Result.{result_and}
use Rattle.ion.specs.Calls.Refusal.{number_of}
use Rattle.ion.specs.Calls.Build.{first_of}
use Rattle.ion.specs.declared.refusal.Refusal.{Refusal}

-- every check passes
abbrev pub AllPass : List (Bool × Refusal) → Type 0
AllPass [] = Unit
AllPass (t ∷ ts) = (t.0 ≡ false) × AllPass ts

-- the checks' numbers are 11 at most
abbrev pub Numbered : List (Bool × Refusal) → Type 0
Numbered [] = Unit
Numbered (t ∷ ts) = T (leb (number_of t.1) 11) × Numbered ts

pub pass_ok : (l : List (Bool × Refusal)) → AllPass l → first_of l ≡ Ok tt
pass_ok [] h = refl
pass_ok ((false, r) ∷ l) h = pass_ok l h.1
pass_ok ((true, r) ∷ l) h = absurd (true≢false h.0)

pub ok_pass : (l : List (Bool × Refusal)) → first_of l ≡ Ok tt → AllPass l
ok_pass [] e = tt
ok_pass ((false, r) ∷ l) e = (refl, ok_pass l e)
ok_pass ((true, r) ∷ l) e = absurd cc

pub first_most : (l : List (Bool × Refusal)) {r : Refusal} → Numbered l → first_of l ≡ Err r → number_of r ≤ 11
first_most [] k e = absurd cc
first_most ((false, n) ∷ l) k e = first_most l k.1 e
first_most ((true, n) ∷ l) {r} k e = let s : n ≡ r = cc in rw (← s) (leb→le (number_of n) 11 k.0)

-- the checks of two lists are those of the first, then those of the second
pub first_append : (l m : List (Bool × Refusal)) → first_of (l ++ m) ≡ result_and (first_of l) (first_of m)
first_append [] m = refl
first_append ((false, r) ∷ l) m = first_append l m
first_append ((true, r) ∷ l) m = refl

pub numbered_append : (l m : List (Bool × Refusal)) → Numbered l → Numbered m → Numbered (l ++ m)
numbered_append [] m h k = k
numbered_append (t ∷ l) m h k = (h.0, numbered_append l m h.1 k)
