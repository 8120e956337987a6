-- The parts of a line that is put into a buffer. Assumes nothing.
use mathlib.Core.Path.{◌≡◌, sym, subst}
use mathlib.Core.List.{List, [], ◌∷◌, ◌++◌}
use Prim.Native.Nat.{ℕ, ◌≤◌, ◌<◌, max}
use native.Mathlib.Omega.{arith}
use lib.Dec.{lit<}
use lib.ListN.{length, length-append}
use Rattle.ion.specs.Pair.Pair.{word_in}
use Rattle.ion.specs.Pair.Word.{fields_of}
use Rattle.ion.specs.Text.Ascii.{ascii}
use Rattle.ion.specs.Numbers.Padded.{padded, digit_count}
use Rattle.ion.specs.Calls.Output.{Run}
use Rattle.ion.specs.Calls.Accepted.{Valid, Accepted}
use Rattle.ion.specs.Text.Format.{fields_text, text_of}
use Rattle.ion.specs.declared.Fields.{Fields}
use Rattle.ion.specs.declared.Timestamp.{Timestamp}
use Rattle.places.proofs.Laws.{fewest}
use Rattle.text.proofs.Digits.{length_padded}

-- ---- a text's line

module _ (s : Timestamp) {f : Fields} (e : f ≡ fields_of (word_in s)) where
  pub text_valid : Accepted s → Valid f s.attoseconds
  text_valid p = subst (λ (g : Fields). Valid g s.attoseconds) (sym e) p.fields

  pub text_run : {d g : List ℕ} {at n : ℕ} → Run d at (fields_text f s.attoseconds) g n → Run d at (text_of s) g n
  unfolding text_of
  text_run {d} {g} {at} {n} r = subst (λ (f : Fields). Run d at (fields_text f s.attoseconds) g n) e r

-- ---- the last line

pub two_digits : (n : ℕ) → n < 100 → max 1 (digit_count n) ≤ 2
two_digits n h = omega (arith, fewest 10 (lit< tt) 2 n (omega arith) (omega arith))

-- eight bytes at most
pub stop_length : (n : ℕ) → n < 100 → length (ascii "stop " ++ (padded 1 n ++ (10 ∷ []))) ≤ 8
stop_length n h = omega (arith, length-append (padded 1 n) (10 ∷ []), length_padded 1 n, two_digits n h)
