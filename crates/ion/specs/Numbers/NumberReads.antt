-- What the readers of single numbers answer, by the table's numbers: 0 with what was read, 13 where the input ends inside the
-- number, 15 where its bytes are no form within the limit that is read. Beside a refusal the other parts are 0 and no.
-- Assumes nothing.
use Rattle.std.specs.Prelude.{ℕ, Bool, false, List, length, Option, None, Some, Result, Ok, Err}
use Rattle.ion.specs.Calls.Refusal.{number_of}
use Rattle.ion.specs.Numbers.VarUInt.{read_var_uint}
use Rattle.ion.specs.Numbers.VarInt.{read_var_int}
use Rattle.ion.specs.Numbers.Int.{read_int}
use Rattle.ion.specs.Numbers.PaddedNumbers.{read_padded_var_uint}
use Rattle.ion.specs.declared.number.NumberError.{NumberError}
use Rattle.ion.specs.declared.number.NumberError.TheVariants.{Cut, Bad}
use Rattle.ion.specs.declared.number.SignedMagnitude.{SignedMagnitude}
use Rattle.ion.specs.declared.refusal.Refusal.{Refusal}
use Rattle.ion.specs.declared.refusal.Refusal.TheVariants as refusal

-- a number of the table, then the sign, the magnitude and how many bytes were taken
pub record NumberRead : Type 0 where
  pub number : ℕ
  pub negative : Bool
  pub magnitude : ℕ
  pub taken : ℕ

-- a sign and a magnitude of n bytes
abbrev pub accepted_number : Bool → ℕ → ℕ → NumberRead
accepted_number g m n = record { number = 0; negative = g; magnitude = m; taken = n }

-- the number of a refusal alone
abbrev pub refused_number : Refusal → NumberRead
refused_number r = record { number = number_of r; negative = false; magnitude = 0; taken = 0 }

-- ---- each case of an answer

abbrev pub refusal_for : NumberError → Refusal
refusal_for Cut = refusal.InputEnds
refusal_for Bad = refusal.Body

abbrev pub var_uint_answer : Result (ℕ × ℕ) NumberError → NumberRead
var_uint_answer (Ok x) = accepted_number false x.0 x.1
var_uint_answer (Err e) = refused_number (refusal_for e)

abbrev pub var_int_answer : Result (SignedMagnitude × ℕ) NumberError → NumberRead
var_int_answer (Ok x) = accepted_number x.0.negative x.0.magnitude x.1
var_int_answer (Err e) = refused_number (refusal_for e)

-- an answer to n bytes, all of which are taken
abbrev pub int_answer : ℕ → Option ℕ → NumberRead
int_answer n (Some v) = accepted_number false v n
int_answer n None = refused_number refusal.Body

-- ---- the answers to bytes, l the limit

abbrev pub var_uint_of : ℕ → List ℕ → NumberRead
var_uint_of l s = var_uint_answer (read_var_uint l s)

abbrev pub padded_var_uint_of : ℕ → List ℕ → NumberRead
padded_var_uint_of l s = var_uint_answer (read_padded_var_uint l s)

abbrev pub var_int_of : ℕ → List ℕ → NumberRead
var_int_of l s = var_int_answer (read_var_int l s)

abbrev pub int_of : List ℕ → NumberRead
int_of s = int_answer (length s) (read_int s)
