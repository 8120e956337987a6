-- The numbers of the scope's table (docs/SCOPE.md); 0 means accepted. Assumes nothing.
use Rattle.std.specs.Prelude.{ℕ, Result, Ok, Err}
use Rattle.ion.specs.declared.refusal.Refusal.{Refusal}
use Rattle.ion.specs.declared.refusal.Refusal.TheVariants as refusal

abbrev pub number_of : Refusal → ℕ
-- fraction below 0, or 1 and above
number_of refusal.Fraction = 1
-- year given above 9999
number_of refusal.Year = 2
-- month above 12
number_of refusal.Month = 3
-- day above 31
number_of refusal.Day = 4
-- hour above 23
number_of refusal.Hour = 5
-- minute above 59
number_of refusal.Minute = 6
-- second above 59
number_of refusal.Second = 7
-- more than 18 fraction digits
number_of refusal.Digits = 8
-- known offset outside -1439..1439 minutes
number_of refusal.Offset = 9
-- month or finer, and no such calendar day (month 0 and day 0 included)
number_of refusal.NoDay = 10
-- local year below 1 or above 9999
number_of refusal.LocalYear = 11
-- packed pair the builder never gives
number_of refusal.Pair = 12
-- input ends inside a value, or inside a scan
number_of refusal.InputEnds = 13
-- first byte not 60 to 6E hexadecimal
number_of refusal.FirstByte = 14
-- body or length not a stamp's
number_of refusal.Body = 15
-- buffer shorter than the output
number_of refusal.ShortBuffer = 16
-- program input above 65,536 bytes
number_of refusal.LongInput = 17
-- text in none of the forms
number_of refusal.Form = 18
-- number of a scan padded, without an end mark in five bytes, or above 4,294,967,295
number_of refusal.Number = 19
-- fewer words than the report needs
number_of refusal.Words = 20
-- W above 86,400 seconds
number_of refusal.Window = 21
-- a 257th post, a site and a tag
number_of refusal.Posts = 22

-- of an answer
abbrev pub number_in : {A : Type 0} → Result A Refusal → ℕ
number_in (Ok a) = 0
number_in (Err r) = number_of r
