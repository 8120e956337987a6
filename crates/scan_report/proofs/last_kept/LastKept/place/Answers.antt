-- `LastKept::place` meets its contract.
use Rattle.std.proofs.Common.{sym, ◌∙◌, rules, tests}
use Rattle.std.proofs.lemmas.Iterator.{YieldsList-from_slice}
use Rattle.std.proofs.lemmas.Iterator.Search.{position_from_yields_List}
use Rattle.scans.specs.Tally.{same_post}
use Rattle.scan_report.proofs.Kept.{kept_length, place_found, place_by}
use Rattle.scan_report.proofs.last_kept.LastKept.place.Goals as goal

pub returns-then-is_same_post : goal.returns-then-is_same_post
returns-then-is_same_post c = place_found c.self.invariant c.self.view_is c.args.x _ _ c.if-hint-self.true
    (sym c.is_same_post.ensures ∙ c.if-is_same_post.true)

pub returns : goal.returns
returns c =
    let found =
    position_from_yields_List (same_post c.args.x) _ _ c.position.result c.position.ensures.ran (YieldsList-from_slice c.args.self.now cc)
    (λ y b q k. search (rules, tests)) in
    c.unwrap_or.ensures ∙ place_by c.args.x c.args.self.now found (kept_length c.self.invariant c.self.view_is)
