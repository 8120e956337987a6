-- `text_formatter::put_two` meets its contract: two turns of the loop that stores from the back.
use Rattle.std.proofs.Common.{◌≡◌, refl, sym, ap, ◌∙◌, arith, ℕ, ◌+◌, ◌-◌, ◌/◌, ◌%◌, ◌≤◌, ◌<◌, List, length}
use Rattle.std.proofs.Math.ListN.{set}
use Rattle.std.proofs.Math.Nat.{mod-eq_of_lt}
use lib.Dec.{lit≤}
use Rattle.ion.specs.Calls.Output.{over}
use Rattle.ion.specs.Numbers.Padded.{digit, padded}
use Rattle.output.proofs.Stores.{storing_none, storing_next, storing_all}
use Rattle.text.proofs.Digits.{padded_digits, length_exact}
use Rattle.text.proofs.text_formatter.put_two.Goals as goal

two_stored : (d : List ℕ) (at v : ℕ) → at + 2 ≤ length d → v < 100
    → set (set d (at + 1) (48 + v % 10)) at (48 + v / 10) ≡ over d at (padded 2 v)
two_stored d at v h l =
    let last : at + 2 - 1 ≡ at + 1 = omega arith in
    let first : at + 1 - 1 ≡ at = omega arith in
    let tens : v / 10 % 10 ≡ v / 10 = mod-eq_of_lt (omega arith) in
    let one = storing_next (storing_none 10 digit d at 2 v (at + 2) refl) (omega arith) h in
    let two = storing_next one (omega arith) h in
    rw (last, first, tens) at (storing_all two (omega arith)) ∙ ap (over d at) (sym (padded_digits 2 v (lit≤ tt) l))

pub returns : goal.returns
returns c =
    let a = c.args in
    record {
      bytes = two_stored a.buf.now a.at a.value c.requires.0 c.requires.1;
      next = omega (arith, length_exact 2 a.value (lit≤ tt) c.requires.1);
    }
