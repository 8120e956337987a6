-- `check_both` meets its contract: a test says of its timestamp what the check does.
use Rattle.std.proofs.Common.{◌≡◌, sym, ◌∙◌, Bool, true}
use Rattle.std.specs.Result.{is_ok}
use Rattle.ion.specs.Calls.Accepted.{Accepted}
use Rattle.ion.specs.Calls.Check.{check_of}
use Rattle.ion.specs.declared.Timestamp.{Timestamp}
use Rattle.timestamp.proofs.Accepts.{check_gives}
use Rattle.order.proofs.Answers.{both_checked}
use Rattle.order.proofs.check_both.Goals as goal

tested : (s : Timestamp) {b : Bool} → b ≡ is_ok (check_of s) → b ≡ true → Accepted s
tested s e h = check_gives s (sym e ∙ h)

pub returns-clause-accepted : goal.returns-clause-accepted
returns-clause-accepted c = (
  tested c.args.s c.is_accepted.ensures c.if-not-is_accepted.false,
  tested c.args.t c.is_accepted-2.ensures c.if-not-is_accepted-2.false,
)

pub returns-clause-value : goal.returns-clause-value
returns-clause-value c = let h = returns-clause-accepted c in sym (both_checked c.args.s c.args.t h.0 h.1)
