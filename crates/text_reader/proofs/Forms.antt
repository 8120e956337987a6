-- What holds at every end of a form holds of all that is read; what is read could have been given by the stages. Assumes nothing.
use mathlib.Core.Path.{◌≡◌, refl, ap, subst, ◌∙◌}
use mathlib.Core.Bool.{Bool, true, false, cond}
use mathlib.Core.List.{List, []}
use Prim.Native.Char.{code}
use Prim.Native.Nat.{ℕ, ◌-◌, ◌*◌, ◌%◌, ◌^◌, min}
use native.Mathlib.Nat.{mul-mod_left}
use native.Mathlib.Omega.{arith}
use lib.Dec.{eqb}
use lib.ListN.{drop, get_or}
use borrow.Author.Tests.{eqb-true, eqb-false}
use Rattle.std.specs.Prelude.{Option, Some, None}
use Rattle.ion.specs.Text.Ascii.{ascii}
use Rattle.ion.specs.Pair.Fraction.{scale}
use Rattle.ion.specs.Calls.Accepted.{Staged}
use Rattle.ion.specs.Calls.Stages.{with_fraction, with_offset, year, month, day}
use Rattle.ion.specs.Text.ReadText.{digit_run, digits_value, read_digits, read_marked, on_value}
use Rattle.ion.specs.Text.ReadText.{read_offset, ended, end_offset, end_t, end_date}
use Rattle.ion.specs.Text.ReadText.{digits_fraction, end_digits, end_second, read_text}
use Rattle.ion.specs.Value.ReadValue.{same}
use Rattle.ion.specs.declared.BuilderFields.{BuilderFields}
use Rattle.ion.specs.declared.BuilderOffset.{BuilderOffset}
use Rattle.ion.proofs.Same.{same_is}
use Rattle.builder.proofs.Stages.{to_minute_lem, to_second_lem, gives_staged}

-- by a test, and by what is read as a number
pub on_test : {A : Type 0} (P : A → Type 0) (t : Bool) {a b : A} → (t ≡ true → P a) → (t ≡ false → P b) → P (cond t a b)
on_test P true h k = h refl
on_test P false h k = k refl

pub on_value_lem : {A : Type 0} (P : A → Type 0) (r : Option ℕ) {a : A} {make : ℕ → A} → P a → ((n : ℕ) → r ≡ Some n → P (make n))
    → P (on_value r a make)
on_value_lem P (Some n) h k = k n refl
on_value_lem P None h k = h

-- a law of the local fields, where there are any
module _ (P : BuilderFields → Type 0) where
  abbrev pub Holds : Option BuilderFields → Type 0
  Holds (Some f) = P f
  Holds None = Unit

  pub on_t : (f : BuilderFields) (r : List ℕ) → (r ≡ ascii "T" → P f) → Holds (end_t f r)
  unfolding end_t
  on_t f r h = on_test Holds (same r (ascii "T")) (λ e. h (same_is r (ascii "T") e)) (λ e. tt)

  pub on_date : (f : BuilderFields) (r : List ℕ) → (r ≡ [] → P f) → (r ≡ ascii "T" → P f) → Holds (end_date f r)
  unfolding end_date
  on_date f r h k = on_test Holds (same r []) (λ e. h (same_is r [] e)) (λ e. on_t f r k)

  -- of the fields f at an end in the offset r
  abbrev pub AtOffset : BuilderFields → List ℕ → Type 0
  AtOffset f r = (o : BuilderOffset) → read_offset r ≡ Some o → P (with_offset f o)

  pub on_offset : (f : BuilderFields) (r : List ℕ) → AtOffset f r → Holds (end_offset f r)
  unfolding end_offset
  on_offset f r h = go (read_offset r) h
    where
      go : (x : Option BuilderOffset) → ((o : BuilderOffset) → x ≡ Some o → P (with_offset f o)) → Holds (ended f x)
      go (Some o) h = h o refl
      go None h = tt

  -- in digits, one at least, and an offset
  abbrev pub AtDigits : BuilderFields → List ℕ → Type 0
  AtDigits f r = let n = digit_run r in (n ≡ 0 → ⊥) → AtOffset (with_fraction f (digits_fraction n r)) (drop n r)

  on_digits : (f : BuilderFields) (r : List ℕ) → AtDigits f r → Holds (end_digits f r)
  unfolding end_digits
  on_digits f r h =
      let n = digit_run r in
      on_test Holds (eqb n 0) (λ e. tt) (λ e. on_offset (with_fraction f (digits_fraction n r)) (drop n r) (h (eqb-false n 0 e)))

  pub on_second : (f : BuilderFields) (r : List ℕ) → AtOffset f r → (get_or r 0 0 ≡ code "." → AtDigits f (drop 1 r))
      → Holds (end_second f r)
  unfolding end_second
  on_second f r h k =
      let b = get_or r 0 0 in
      on_test Holds (eqb b (code ".")) (λ e. on_digits f (drop 1 r) (k (eqb-true b (code ".") e))) (λ e. on_offset f r h)

-- ---- the stages

fraction_multiple : (n : ℕ) (r : List ℕ) → (digits_fraction n r).attoseconds % scale (digits_fraction n r).digits ≡ 0
fraction_multiple n r =
    let k = min n 18 in
    let e : 18 - min n 19 ≡ 18 - k = omega arith in
    ap (λ (m : ℕ). digits_value k r * scale k % 10 ^ m) e ∙ mul-mod_left (digits_value k r) (scale k)

all_staged : (s : List ℕ) → Holds Staged (read_text s)
unfolding read_text
all_staged s =
    let H = Holds Staged in
    on_value_lem H (read_digits 4 s) tt (λ y e₁.
    on_value_lem H (read_marked (code "-") (drop 4 s)) (on_t Staged _ (drop 4 s) (λ e. gives_staged (year y))) (λ mo e₂.
    on_value_lem H (read_marked (code "-") (drop 7 s)) (on_t Staged _ (drop 7 s) (λ e. gives_staged (month (year y) mo))) (λ d e₃.
    let date = gives_staged (day (month (year y) mo) d) in
    on_value_lem H (read_marked (code "T") (drop 10 s)) (on_date Staged _ (drop 10 s) (λ e. date) (λ e. date)) (λ h e₄.
    on_value_lem H (read_marked (code ":") (drop 13 s)) tt (λ mi e₅.
    on_value_lem H (read_marked (code ":") (drop 16 s))
    (on_offset Staged _ (drop 16 s) (λ o e. to_minute_lem o y mo d h mi)) (λ x e₆.
    on_second Staged _ (drop 19 s) (λ o e. to_second_lem o y mo d h mi x 0 0 (λ l. refl)) (λ p n o e.
    to_second_lem o y mo d h mi x _ _ (λ l. fraction_multiple (digit_run (drop 1 (drop 19 s))) (drop 1 (drop 19 s))))))))))

pub read_staged : (s : List ℕ) (f : BuilderFields) → read_text s ≡ Some f → Staged f
read_staged s f e = subst (Holds Staged) e (all_staged s)

-- for the code
pub ruleset staged = (read_staged)
