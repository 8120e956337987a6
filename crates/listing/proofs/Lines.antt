-- The values of an input and their lines. Assumes nothing.
use mathlib.Core.Path.{◌≡◌, ap, ◌∙◌}
use mathlib.Core.List.{List, ◌++◌, append-nil}
use Prim.Native.Nat.{ℕ, ◌≤◌, ◌<◌}
use native.Mathlib.Omega.{arith}
use borrow.Author.Tests.{le-ltb, lt-ltb}
use lib.ListN.{length}
use Rattle.std.specs.Prelude.{Result, Ok, Err}
use Rattle.ion.specs.Calls.Contents.{contents_with, contents, in_turn}
use Rattle.ion.specs.Calls.Stamps.{text_line, stop_line, lines_of, output_by, output_of}
use Rattle.ion.specs.Value.ReadPaddedValue.{read_padded_value}
use Rattle.ion.specs.declared.Timestamp.{Timestamp}
use Rattle.ion.specs.declared.refusal.Refusal.{Refusal}
use Rattle.ion.specs.declared.refusal.Refusal.TheVariants as refusal
use Rattle.padded_reader.proofs.PaddedLengths.{padded_within}
use Rattle.contents.proofs.Readers.{Advances}

pub value_advances : Advances read_padded_value
value_advances = record { some = λ b s n e. omega (arith, (padded_within b s n e).0); within = λ b s n e. (padded_within b s n e).1 }

-- ---- the output

pub output_long : (s : List ℕ) → 65536 < length s → output_of s ≡ stop_line refusal.LongInput
unfolding output_by
output_long s h = rw (lt-ltb 65536 (length s) h)

module _ (s : List ℕ) (h : length s ≤ 65536) {xs : List Timestamp} where
  lines : {e : Result Unit Refusal} → contents read_padded_value s ≡ contents_with xs e → output_of s ≡ lines_of (contents_with xs e)
  unfolding output_by
  lines e = rw (le-ltb 65536 (length s) h) (ap lines_of e)

  pub output_end : contents read_padded_value s ≡ contents_with xs (Ok tt) → output_of s ≡ in_turn text_line xs
  unfolding lines_of
  output_end e = lines e ∙ append-nil (in_turn text_line xs)

  pub output_stop : {r : Refusal} → contents read_padded_value s ≡ contents_with xs (Err r)
      → output_of s ≡ in_turn text_line xs ++ stop_line r
  unfolding lines_of
  output_stop e = lines e
