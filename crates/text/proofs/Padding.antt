-- The loop that stores a padded number from the back until the width and the number are both done, for every base above 1.
-- Assumes nothing.
use mathlib.Core.Path.{◌≡◌, refl, sym, ap, ◌∙◌}
use mathlib.Core.List.{List}
use mathlib.Core.Logic.{◌⊎◌, inl, inr}
use Prim.Native.Nat.{ℕ, ◌+◌, ◌-◌, ◌/◌, ◌%◌, ◌≤◌, ◌<◌, max}
use native.Mathlib.Nat.{zero-div}
use native.Mathlib.Decide.{dec_le}
use native.Mathlib.Omega.{arith}
use lib.ListN.{length, set}
use Rattle.places.specs.Places.{place_count}
use Rattle.places.specs.Padded.{padded_places}
use Rattle.places.proofs.Laws.{place_some, place_next, place_last}
use Rattle.places.proofs.Padded.{places_padded}
use Rattle.ion.specs.Calls.Output.{over}
use Rattle.output.proofs.Stores.{Storing, storing_none, storing_next, storing_all}

-- before a turn: of the bytes from index at up to index end, those are left that the width or the number still asks for
pub record Padding (b : ℕ) (f : ℕ → ℕ) (d : List ℕ) (at end w v : ℕ) (l : List ℕ) (i q : ℕ) : Type 0 where
  pub ends : at + max w (place_count b v) ≡ end
  pub room : end ≤ length d
  pub stored : Storing b f d at (max w (place_count b v)) v l i q
  pub left : i ≡ at + max (w - (end - i)) (place_count b q)

pub padding_none : (b : ℕ) (f : ℕ → ℕ) (d : List ℕ) (at end w v : ℕ) → at + max w (place_count b v) ≡ end → end ≤ length d
    → Padding b f d at end w v d end v
padding_none b f d at end w v e h =
    record { ends = e; room = h; stored = storing_none b f d at (max w (place_count b v)) v end (sym e); left = omega arith }

module _ {b : ℕ} {f : ℕ → ℕ} {d : List ℕ} {at end w v : ℕ} {l : List ℕ} {i q : ℕ} (hb : 1 < b) (p : Padding b f d at end w v l i q) where
  pub padding_some : at < i
  padding_some = omega (arith, p.left, place_some b hb q)

  turned : Storing b f d at (max w (place_count b v)) v (set l (i - 1) (f (q % b))) (i - 1) (q / b)
  turned = storing_next p.stored padding_some (rw p.ends p.room)

  -- a turn after which the width or the number goes on
  pub padding_next : (end - (i - 1) < w) ⊎ (q / b ≡ 0 → ⊥) → Padding b f d at end w v (set l (i - 1) (f (q % b))) (i - 1) (q / b)
  padding_next g = record { ends = p.ends; room = p.room; stored = turned; left = go g (dec_le (q / b) 0) }
    where
      go : (end - (i - 1) < w) ⊎ (q / b ≡ 0 → ⊥) → Dec (q / b ≤ 0) → i - 1 ≡ at + max (w - (end - (i - 1))) (place_count b (q / b))
      go g (no h) = omega (arith, p.left, place_next b hb q (omega arith), p.stored.to, p.ends)
      go (inl h) (yes k) =
          let z : q / b ≡ 0 = omega arith in
          omega (arith, p.left, place_last b hb q z, place_last b hb (q / b) (rw z (zero-div b)), p.stored.to, p.ends)
      go (inr h) (yes k) = absurd (h (omega arith))

  -- and one after which both are done
  pub padding_all : w ≤ end - (i - 1) → q / b ≡ 0 → set l (i - 1) (f (q % b)) ≡ over d at (padded_places b f w v)
  padding_all g z =
      storing_all turned (omega (arith, p.left, place_last b hb q z, p.stored.to, p.ends))
      ∙ ap (over d at) (places_padded b f w v (max w (place_count b v)) refl)
