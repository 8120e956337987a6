-- What a call that first makes another answers. Assumes nothing.
use mathlib.Core.Path.{◌≡◌, refl}
use mathlib.Core.Bool.{true, false≢true}
use Rattle.std.specs.Prelude.{Result, Ok, Err, is_ok}
use Rattle.std.specs.Result.{result_and}
use Rattle.ion.specs.Calls.Answered.{and_then, where_ok}

module _ {A B E : Type 0} where
  -- what follows a check that passes
  pub and_ok : (c : Result A E) (r : Result B E) → is_ok c ≡ true → result_and c r ≡ r
  and_ok (Ok x) r h = refl
  and_ok (Err e) r h = absurd (false≢true h)

  pub where_ok_lem : (c : Result A E) (a b : B) → is_ok c ≡ true → where_ok c a b ≡ a
  where_ok_lem (Ok x) a b h = refl
  where_ok_lem (Err e) a b h = absurd (false≢true h)

  -- both of two checks
  pub both_ok : (c : Result A E) (d : Result B E) → is_ok (result_and c d) ≡ true → (is_ok c ≡ true) × (is_ok d ≡ true)
  both_ok (Ok x) d h = (refl, h)
  both_ok (Err e) d h = absurd (false≢true h)

module _ {A E : Type 0} where
  -- an accepted answer is of its value
  pub ok_is : (c : Result A E) (x : A) → c ≡ Ok x → is_ok c ≡ true
  ok_is c x e = rw e refl

-- what is made of a value that is read
module _ {A B E : Type 0} where
  pub record MadeOf (r : Result A E) (make : A → Result B E) (b : B) : Type 0 where
    pub value : A
    pub read : r ≡ Ok value
    pub made : make value ≡ Ok b

  pub made_of : (r : Result A E) (make : A → Result B E) {b : B} → and_then r make ≡ Ok b → MadeOf r make b
  made_of (Ok a) make e = record { value = a; read = refl; made = e }
  made_of (Err x) make e = absurd cc
