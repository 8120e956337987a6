-- An offset that is all that is left of a text. Assumes nothing.
use mathlib.Core.Path.{◌≡◌, refl, ap}
use mathlib.Core.Bool.{Bool, false, ◌&&◌}
use mathlib.Core.List.{List, [], ◌∷◌}
use Prim.Native.Char.{code}
use Prim.Native.Nat.{ℕ}
use native.Mathlib.Omega.{arith}
use borrow.Author.Tests.{eq-eqb, ne_eqb}
use lib.Dec.{eqb}
use lib.ListN.{length, get_or}
use lib.Pointwise.{pointwise}
use Rattle.std.specs.Prelude.{Option, Some, None}
use Rattle.ion.specs.Text.ReadText.{read_digits, read_marked, on_value, signed_clock, read_clock}
use Rattle.ion.specs.Value.ReadValue.{same}
use Rattle.ion.specs.declared.BuilderOffset.{BuilderOffset}
use Rattle.ion.proofs.Same.{same_not}
use Rattle.text_reader.proofs.Runs.{two_alike}

-- the test of two lists as the code has it
pub pointwise_same : (s t : List ℕ) → pointwise eqb s t ≡ same s t
unfolding same
pointwise_same [] [] = refl
pointwise_same [] (y ∷ t) = refl
pointwise_same (x ∷ s) [] = refl
pointwise_same (x ∷ s) (y ∷ t) = ap (λ (b : Bool). eqb x y && b) (pointwise_same s t)

-- a list of another length is not this one
pub length_same : (s t : List ℕ) → (length s ≡ length t → ⊥) → same s t ≡ false
length_same s t h = same_not s t (λ e. h (ap length e))

-- ---- six bytes: a sign, hours, a colon and minutes

pub clock_length : (r : List ℕ) → (length r ≡ 6 → ⊥) → read_clock r ≡ None
unfolding read_clock
clock_length r h = rw (ne_eqb (length r) 6 h)

-- a property of the lists of six
six : (P : List ℕ → Type 0) → ((a b c d e f : ℕ) → P (a ∷ b ∷ c ∷ d ∷ e ∷ f ∷ [])) → (r : List ℕ) → length r ≡ 6 → P r
six P p [] h = absurd (omega arith)
six P p (a ∷ []) h = absurd (omega arith)
six P p (a ∷ b ∷ []) h = absurd (omega arith)
six P p (a ∷ b ∷ c ∷ []) h = absurd (omega arith)
six P p (a ∷ b ∷ c ∷ d ∷ []) h = absurd (omega arith)
six P p (a ∷ b ∷ c ∷ d ∷ e ∷ []) h = absurd (omega arith)
six P p (a ∷ b ∷ c ∷ d ∷ e ∷ f ∷ []) h = p a b c d e f
six P p (a ∷ b ∷ c ∷ d ∷ e ∷ f ∷ g ∷ r) h = absurd (omega arith)

none_then : (x : Option ℕ) → on_value {A = Option BuilderOffset} x None (λ h. None) ≡ None
none_then (Some h) = refl
none_then None = refl

pub clock_mark : (r : List ℕ) → length r ≡ 6 → (get_or r 3 0 ≡ code ":" → ⊥) → read_clock r ≡ None
unfolding read_clock read_marked
clock_mark =
    six (λ r. (get_or r 3 0 ≡ code ":" → ⊥) → read_clock r ≡ None) (λ c a b m d e n.
    rw (ne_eqb m (code ":") n) (none_then (read_digits 2 (a ∷ b ∷ m ∷ d ∷ e ∷ []))))

-- what they are read as
abbrev clock_in : List ℕ → Option BuilderOffset
clock_in r =
    on_value (read_digits 2 (get_or r 1 0 ∷ get_or r 2 0 ∷ [])) None
    (λ h. on_value (read_digits 2 (get_or r 4 0 ∷ get_or r 5 0 ∷ [])) None (signed_clock (get_or r 0 0) h))

pub clock_of : (r : List ℕ) → length r ≡ 6 → get_or r 3 0 ≡ code ":" → read_clock r ≡ clock_in r
unfolding read_clock read_marked
clock_of =
    six (λ r. get_or r 3 0 ≡ code ":" → read_clock r ≡ clock_in r) (λ c a b m d e n.
    rw (eq-eqb m (code ":") n, two_alike a b (m ∷ d ∷ e ∷ []) []))

-- ---- lists of laws, for the code

pub ruleset clocks = (clock_length, clock_mark, clock_of)

pub ruleset texts = (pointwise_same, length_same)
