-- A number of a scan, its site, tag or guard: a VarUInt up to 4,294,967,295 in its shortest form. Assumes nothing.
use Rattle.std.specs.Prelude.{ℕ, List, Result, Ok, Err}
use Rattle.ion.specs.Numbers.VarUInt.{read_var_uint}
use Rattle.ion.specs.declared.number.NumberError.{NumberError}
use Rattle.ion.specs.declared.number.NumberError.TheVariants.{Cut, Bad}
use Rattle.ion.specs.declared.refusal.Refusal.{Refusal}
use Rattle.ion.specs.declared.refusal.Refusal.TheVariants as refusal

abbrev pub largest : ℕ
largest = 4294967295

-- padded, without an end mark in its first five bytes, or too large at it; or cut short before this shows
abbrev pub number_refusal : NumberError → Refusal
number_refusal Cut = refusal.InputEnds
number_refusal Bad = refusal.Number

abbrev pub number_from : Result (ℕ × ℕ) NumberError → Result (ℕ × ℕ) Refusal
number_from (Ok x) = Ok x
number_from (Err e) = Err (number_refusal e)

-- the number with which the bytes begin, and how many of them it takes
unfoldable pub read_number : List ℕ → Result (ℕ × ℕ) Refusal
read_number s = number_from (read_var_uint largest s)
