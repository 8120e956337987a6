-- What a reader answers after a header, by the parts of the body. Assumes nothing.
use mathlib.Core.Path.{◌≡◌, ap, sym, ◌∙◌}
use mathlib.Core.List.{List}
use Prim.Native.Nat.{ℕ, ◌+◌, ◌-◌, ◌≤◌, ◌<◌}
use borrow.Author.Tests.{lt-ltb, le-ltb}
use lib.ListN.{length, take, drop}
use Rattle.std.specs.Prelude.{Option, None, Some, Result, Ok, Err}
use Rattle.places.proofs.Slices.{rest_slice}
use Rattle.ion.specs.Value.Decode.{Numbers, body_by}
use Rattle.ion.specs.Value.ReadValue.{Reading, taking, read_after}
use Rattle.ion.specs.declared.Body.{Body}
use Rattle.ion.specs.declared.Timestamp.{Timestamp}
use Rattle.ion.specs.declared.refusal.Refusal.{Refusal}
use Rattle.ion.specs.declared.refusal.Refusal.TheVariants as refusal
use Rattle.value_decoder.specs.BodyParts.{PartsRead, parts_answer, stamp_by}
use Rattle.value_decoder.proofs.PartsTested.{parts_answered}

module _ (num : Numbers) (fraction : List ℕ → Option (ℕ × ℕ)) (len : List ℕ → Result (ℕ × ℕ) Refusal) (s : List ℕ) (h n : ℕ) where
  -- what stands after the header, as a slice
  abbrev rest : List ℕ
  rest = take (length s - h) (drop h s)

  abbrev answer : Reading
  answer = read_after (stamp_by num fraction) len h n (drop h s)

  pub input_ends : length rest < n → answer ≡ Err refusal.InputEnds
  unfolding read_after
  input_ends l = rw (lt-ltb (length (drop h s)) n (rw (rest_slice s h) at l))

  module _ (l : n ≤ length rest) where
    whole : (q : Option Body) → body_by num fraction (take n rest) ≡ q → answer ≡ taking (h + n) (parts_answer q)
    unfolding read_after stamp_by
    whole q e =
        rw (le-ltb (length (drop h s)) n (rw (rest_slice s h) at l))
        (ap (λ (x : Option Body). taking (h + n) (parts_answer x)) (rw (rest_slice s h) at e))

    pub no_parts : body_by num fraction (take n rest) ≡ None → answer ≡ Err refusal.Body
    no_parts e = whole None e

    module _ (x : Body) (e : body_by num fraction (take n rest) ≡ Some x) where
      pub parts_ok : (t : Timestamp) → PartsRead x (Ok t) → answer ≡ Ok (t, h + n)
      parts_ok t p = whole (Some x) e ∙ ap (taking (h + n)) (sym (parts_answered x (Ok t) p))

      pub parts_err : (r : Refusal) → PartsRead x (Err r) → answer ≡ Err r
      parts_err r p = whole (Some x) e ∙ ap (taking (h + n)) (sym (parts_answered x (Err r) p))

-- ---- a list of laws, for the code

pub ruleset readings = (input_ends, no_parts)
