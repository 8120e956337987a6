-- The answers of the readers of single numbers by the table's numbers: no two answers have the same. Assumes nothing.
use mathlib.Core.Path.{◌≡◌, refl, sym, ap, ◌∙◌}
use mathlib.Core.Bool.{Bool, cond}
use Prim.Native.Nat.{ℕ}
use lib.Dec.{eqb}
use Rattle.std.specs.Prelude.{Option, Some, None, Result, Ok, Err}
use Rattle.ion.specs.Numbers.VarInt.{signed_magnitude}
use Rattle.ion.specs.Numbers.NumberReads.{NumberRead, var_uint_answer, var_int_answer, int_answer}
use Rattle.ion.specs.declared.number.NumberError.{NumberError}
use Rattle.ion.specs.declared.number.NumberError.TheVariants.{Cut, Bad}
use Rattle.ion.specs.declared.number.SignedMagnitude.{SignedMagnitude}

-- the answer that has these numbers
abbrev found : {A : Type 0} → (Bool → ℕ → ℕ → A) → A → A → NumberRead → A
found value cut bad r = cond (eqb r.number 0) (value r.negative r.magnitude r.taken) (cond (eqb r.number 13) cut bad)

-- where every answer is found again from its numbers, no two have the same
injective : {A : Type 0} (f : A → NumberRead) (value : Bool → ℕ → ℕ → A) (cut bad : A) → ((a : A) → found value cut bad (f a) ≡ a)
    → {a b : A} → f a ≡ f b → a ≡ b
injective f value cut bad back {a} {b} e = sym (back a) ∙ ap (found value cut bad) e ∙ back b

pub varuint_answer_injective : {a b : Result (ℕ × ℕ) NumberError} → var_uint_answer a ≡ var_uint_answer b → a ≡ b
varuint_answer_injective = injective var_uint_answer (λ g m n. Ok (m, n)) (Err Cut) (Err Bad) back
  where
    back : (a : Result (ℕ × ℕ) NumberError) → found (λ g m n. Ok (m, n)) (Err Cut) (Err Bad) (var_uint_answer a) ≡ a
    back (Ok x) = refl
    back (Err Cut) = refl
    back (Err Bad) = refl

pub varint_answer_injective : {a b : Result (SignedMagnitude × ℕ) NumberError} → var_int_answer a ≡ var_int_answer b → a ≡ b
varint_answer_injective = injective var_int_answer (λ g m n. Ok (signed_magnitude g m, n)) (Err Cut) (Err Bad) back
  where
    back : (a : Result (SignedMagnitude × ℕ) NumberError)
        → found (λ g m n. Ok (signed_magnitude g m, n)) (Err Cut) (Err Bad) (var_int_answer a) ≡ a
    back (Ok x) = refl
    back (Err Cut) = refl
    back (Err Bad) = refl

pub int_answer_injective : (n : ℕ) {a b : Option ℕ} → int_answer n a ≡ int_answer n b → a ≡ b
int_answer_injective n = injective (int_answer n) (λ g m k. Some m) None None back
  where
    back : (a : Option ℕ) → found (λ g m k. Some m) None None (int_answer n a) ≡ a
    back (Some v) = refl
    back None = refl
