-- What a listing has put into a buffer after some of the input. Assumes nothing.
use mathlib.Core.Path.{◌≡◌, sym, ap, ◌∙◌}
use mathlib.Core.List.{List, [], ◌∷◌, ◌++◌}
use Prim.Native.Nat.{ℕ, ◌+◌, ◌-◌, ◌*◌, ◌≤◌, ◌<◌}
use native.Mathlib.Omega.{arith}
use lib.Dec.{lit<}
use lib.ListN.{length, take, drop}
use mathlib.Core.Bool.{true, false}
use borrow.Author.Tests.{eqb-true, eqb-false}
use Rattle.std.specs.Prelude.{Ok, Err, ◌==◌}
use Rattle.places.proofs.Below.{Below, below_take, below_drop}
use Rattle.ion.specs.Calls.Output.{Run}
use Rattle.ion.specs.Calls.Contents.{contents, in_turn}
use Rattle.ion.specs.Calls.Stamps.{text_line, stop_line, output_of}
use Rattle.ion.specs.Value.ReadPaddedValue.{read_padded_value}
use Rattle.ion.specs.declared.refusal.Refusal.{Refusal}
use Rattle.ion.specs.declared.Timestamp.{Timestamp}
use Rattle.output.proofs.Stores.{length_over}
use Rattle.output.proofs.Runs.{run_none, run_two, run_is}
use Rattle.contents.proofs.Items.{contents_stop}
use Rattle.contents.proofs.Passing.{Passed, pass_start, pass_end, pass_next, none_left, length_rest, pass_less, item_first}
use Rattle.ion.proofs.InTurn.{in_turn_last}
use Rattle.padded_reader.proofs.PaddedLengths.{padded_within}
use Rattle.listing.proofs.Lines.{value_advances, output_end, output_stop}

-- the input is values and the bytes left; the values are listed in the first `end` bytes of e, which was d and has room for all
pub record Listed (input left d e : List ℕ) (end : ℕ) : Type 0 where
  pub stamps : List Timestamp
  pub passed : Passed (contents read_padded_value input) (contents read_padded_value left) stamps
  pub run : Run d 0 (in_turn text_line stamps) e end
  pub few : end + 15 * length left ≤ 15 * length input
  pub room : 15 * length input + 8 ≤ length d
  pub below : Below 256 input → Below 256 left

pub start : (input d : List ℕ) → 15 * length input + 8 ≤ length d → Listed input input d d 0
unfolding in_turn
start input d h =
    record {
      stamps = [];
      passed = pass_start (contents read_padded_value input);
      run = run_none d 0;
      few = omega arith;
      room = h;
      below = λ b. b;
    }

module _ {input left d e : List ℕ} {end : ℕ} (p : Listed input left d e end) where
  pub last_room : end + 8 ≤ length d
  last_room = omega (arith, p.few, p.room)

  pub size : length e ≡ length d
  size = ap length p.run.bytes ∙ length_over d 0 (in_turn text_line p.stamps) (omega (arith, p.run.next, last_room))

  -- the end of the input
  pub finish : length input ≤ 65536 → (length left == 0) ≡ true → Run d 0 (output_of input) e end
  finish short h =
      let none = none_left read_padded_value left (eqb-true (length left) 0 h) in
      run_is p.run (sym (output_end input short (pass_end p.passed none)))

  -- the last line
  pub stop : {f : Refusal} → read_padded_value left ≡ Err f → length input ≤ 65536 → (length left == 0) ≡ false
      → {g : List ℕ} {n : ℕ} → Run e end (stop_line f) g n → n ≤ length d → Run d 0 (output_of input) g n
  stop z short h q l =
      let some = eqb-false (length left) 0 h in
      let stopped = contents_stop read_padded_value left (omega (arith, some)) z in
      run_is (run_two p.run q l) (sym (output_stop input short (pass_end p.passed stopped)))

  -- one more value
  module _ {s : Timestamp} {taken : ℕ} (z : read_padded_value left ≡ Ok (s, taken)) where
    few_next : end + 45 + 15 * (length left - taken) ≤ 15 * length input
    few_next = omega (arith, p.few, padded_within left s taken z)

    pub line_room : end + 45 ≤ length d
    line_room = omega (arith, few_next, p.room)

    pub next : {g : List ℕ} {n : ℕ} → Run e end (text_line s) g n → n ≤ end + 45
        → Listed input (take (length left - taken) (drop taken left)) d g n
    next q h =
        record {
          stamps = p.stamps ++ (s ∷ []);
          passed = pass_next p.passed (item_first value_advances z);
          run = run_is (run_two p.run q (omega (arith, line_room))) (sym (in_turn_last text_line p.stamps s));
          few = omega (arith, few_next, length_rest left taken);
          room = p.room;
          below = λ b. below_take 256 (length left - taken) (drop taken left) (lit< tt) (below_drop 256 taken left (p.below b));
        }

-- ---- for the code: a value ends within the bytes, and fewer are left after it

pub ends : (s : List ℕ) {x : Timestamp} {n : ℕ} → read_padded_value s ≡ Ok (x, n) → n ≤ length s
ends s {x} {n} e = (padded_within s x n e).1

pub less : (s : List ℕ) {x : Timestamp} {n : ℕ} → read_padded_value s ≡ Ok (x, n) → length (take (length s - n) (drop n s)) < length s
less s e = pass_less value_advances e

pub ruleset listing = (start, next, ends, less)
