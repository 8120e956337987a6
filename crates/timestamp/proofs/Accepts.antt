-- The packed check answers Ok to the accepted timestamps and to no others, and the builder gives no others. Assumes nothing.
use mathlib.Core.Path.{◌≡◌, refl, sym, ap, subst, ◌∙◌}
use mathlib.Core.Bool.{Bool, true, false, cond, and-eq-true_iff, false≢true}
use Prim.Native.Nat.{ℕ, ◌≤◌, ◌<◌}
use native.Mathlib.Decide.{dec_le}
use native.Mathlib.Omega.{arith}
use lib.Dec.{eqb}
use borrow.Author.Tests.{eqb-true, eq-eqb}
use Rattle.std.specs.Prelude.{Result, Ok, Err}
use Rattle.std.specs.Result.{is_ok, result_and}
use Rattle.ion.specs.Pair.Word.{fields_of}
use Rattle.ion.specs.Pair.Pair.{word_in, packed_pair, same_pair}
use Rattle.ion.specs.Calls.Build.{build_pair, build_of}
use Rattle.ion.specs.Calls.Build as building
use Rattle.ion.specs.Calls.Check.{rebuilt, same_as, check_of}
use Rattle.ion.specs.Calls.Accepted.{Staged, Accepted}
use Rattle.ion.specs.Calls.Stages.{Stage, Gives}
use Rattle.ion.specs.declared.BuilderFields.{BuilderFields}
use Rattle.ion.specs.declared.Timestamp.{Timestamp}
use Rattle.ion.specs.declared.refusal.Refusal.{Refusal}
use Rattle.ion.specs.declared.refusal.Refusal.TheVariants as refusal
use Rattle.ion.proofs.Answers.{ok_is}
use Rattle.timestamp.proofs.Rebuilt.{check_digits, check_built}
use Rattle.builder.proofs.Stages.{gives_staged}
use Rattle.timestamp.proofs.Valid.{build_accepted, accepted_word}
use Rattle.timestamp.proofs.CheckedFields.{rebuilt_staged, rebuilt_builds}

-- the check answers every accepted timestamp
pub check_accepts : (s : Timestamp) → Accepted s → check_of s ≡ Ok s
check_accepts s t =
    let v = t.fields in
    let a = s.attoseconds in
    check_built s v.digits
    ∙ ap (same_as s) (rebuilt_builds v ∙ ap (λ (w : ℕ). Ok (packed_pair w a)) (accepted_word t))
    ∙ simp (eq-eqb (word_in s) (word_in s) refl, eq-eqb a a refl)

pair_same : (t s : Timestamp) → same_pair t s ≡ true → t ≡ s
pair_same t s e =
    let p = (and-eq-true_iff (eqb (word_in t) (word_in s)) (eqb t.attoseconds s.attoseconds)).0 e in
    let w = eqb-true (word_in t) (word_in s) p.0 in
    let a = eqb-true t.attoseconds s.attoseconds p.1 in
    λ i. packed_pair (w i) (a i)

-- what is built is compared with the pair
same : (s : Timestamp) (c : Result Unit Refusal) (t : Timestamp) → is_ok (same_as s (result_and c (Ok t))) ≡ true
    → (c ≡ Ok tt) × (t ≡ s)
same s (Err r) t h = absurd (false≢true h)
same s (Ok tt) t h = (refl, pair_same t s (compared (same_pair t s) h))
  where
    compared : (b : Bool) → is_ok (cond b (Ok t) (Err refusal.Pair)) ≡ true → b ≡ true
    compared true h = refl
    compared false h = h

-- where it answers Ok the timestamp is an accepted one
pub check_gives : (s : Timestamp) → is_ok (check_of s) ≡ true → Accepted s
unfolding build_of
check_gives s e = go (dec_le (fields_of (word_in s)).digits 18)
  where
    b : BuilderFields
    b = rebuilt (fields_of (word_in s)) s.attoseconds

    go : Dec ((fields_of (word_in s)).digits ≤ 18) → Accepted s
    go (no n) =
        let h : 18 < (fields_of (word_in s)).digits = omega arith in
        absurd (false≢true (sym (ap is_ok (check_digits s h)) ∙ e))
    go (yes h) =
        let k = same s (building.build_checks b) (build_pair b) (sym (ap is_ok (check_built s h)) ∙ e) in
        subst Accepted k.1 (build_accepted b (rebuilt_staged (fields_of (word_in s)) s.attoseconds) k.0)

-- and the pair is given back
pub check_same : (s : Timestamp) → is_ok (check_of s) ≡ true → check_of s ≡ Ok s
check_same s e = check_accepts s (check_gives s e)

-- to every pair that the builder gives of staged fields the check answers that pair
pub build_checks : (b : BuilderFields) {s : Timestamp} → Staged b → build_of b ≡ Ok s → check_of s ≡ Ok s
unfolding build_of
build_checks b {s} d e = go (building.build_checks b) refl e
  where
    go : (c : Result Unit Refusal) → building.build_checks b ≡ c → result_and c (Ok (build_pair b)) ≡ Ok s → check_of s ≡ Ok s
    go (Ok tt) k e = let p : build_pair b ≡ s = cc in check_accepts s (subst Accepted p (build_accepted b d k))
    go (Err r) k e = absurd cc

-- and so to every pair that `build` answers at any stage
pub built_checks : {t : Stage} {f : BuilderFields} {s : Timestamp} → Gives t f → build_of f ≡ Ok s → check_of s ≡ Ok s
built_checks {f = f} g e = build_checks f (gives_staged g) e

pub check_ok : (s : Timestamp) {t : Timestamp} → check_of s ≡ Ok t → Accepted s
check_ok s {t} e = check_gives s (ok_is _ t e)

-- for the code
pub ruleset accepted_same = (check_same, check_ok)
