-- Digits that stand in a row: how many there are, and what they make. Assumes nothing.
use mathlib.Core.Path.{◌≡◌, refl, sym, ap, ◌∙◌}
use mathlib.Core.Bool.{Bool, true, false, cond, ◌&&◌, and-true, and-eq-true_iff}
use mathlib.Core.List.{List, [], ◌∷◌, ◌++◌}
use Prim.Native.Nat.{ℕ, suc, ◌+◌, ◌-◌, ◌*◌, ◌≤◌, ◌<◌}
use native.Mathlib.Omega.{arith}
use borrow.Author.Tests.{lt-leb, leb-true, eq-eqb, ne_eqb}
use lib.Dec.{eqb, leb, leb-zero, leb-suc-zero, leb-suc-suc}
use lib.ListN.{length, drop, get_or, length-drop}
use lib.Seq.{get_or-drop, drop-drop, drop-cons, take-append_seam}
use Rattle.places.specs.Places.{value_from}
use Rattle.ion.specs.Text.ReadText.{is_digit, digit_run, digit_of, digits_value, read_digits, read_marked, on_value}
use Rattle.std.specs.Prelude.{Option, Some, None}

pub digit_within : (b : ℕ) → is_digit b ≡ true → (48 ≤ b) × (b ≤ 57)
digit_within b e =
    let h = (and-eq-true_iff (leb 48 b) (leb b 57)).0 e in
    (leb-true 48 b h.0, leb-true b 57 h.1)

abbrev all_digits : List ℕ → Bool
all_digits [] = true
all_digits (b ∷ w) = is_digit b && all_digits w

run_all : (w t : List ℕ) → leb (length w) (digit_run (w ++ t)) ≡ all_digits w
unfolding digit_run
run_all [] t = leb-zero (digit_run t)
run_all (b ∷ w) t = go (is_digit b) (run_all w t)
  where
    go : (p : Bool) → leb (length w) (digit_run (w ++ t)) ≡ all_digits w
        → leb (suc (length w)) (cond p (suc (digit_run (w ++ t))) 0) ≡ p && all_digits w
    go true e = leb-suc-suc (length w) (digit_run (w ++ t)) ∙ e
    go false e = leb-suc-zero (length w)

-- as many digits as w has bytes, whatever follows
digits_at : (w t : List ℕ) → read_digits (length w) (w ++ t) ≡ cond (all_digits w) (Some (value_from 10 digit_of 0 w)) None
unfolding read_digits digits_value
digits_at w t = rw (run_all w t, take-append_seam w t)

pub run_le : (s : List ℕ) → digit_run s ≤ length s
unfolding digit_run
run_le [] = omega arith
run_le (b ∷ s) = go (is_digit b) (run_le s)
  where
    go : (p : Bool) → digit_run s ≤ length s → cond p (suc (digit_run s)) 0 ≤ suc (length s)
    go true h = omega arith
    go false h = omega arith

cond_same : (t : Bool) → cond {A = Option ℕ} t None None ≡ None
cond_same true = refl
cond_same false = refl

pub digits_short : (k : ℕ) (s : List ℕ) → length s < k → read_digits k s ≡ None
unfolding read_digits
digits_short k s h = rw (lt-leb k (digit_run s) (omega (arith, run_le s)))

-- ---- two digits

pub two_alike : (a b : ℕ) (t u : List ℕ) → read_digits 2 (a ∷ b ∷ t) ≡ read_digits 2 (a ∷ b ∷ u)
two_alike a b t u = digits_at (a ∷ b ∷ []) t ∙ sym (digits_at (a ∷ b ∷ []) u)

pub two_yes : (a b : ℕ) (t : List ℕ) → (is_digit a && is_digit b) ≡ true → read_digits 2 (a ∷ b ∷ t) ≡ Some ((a - 48) * 10 + (b - 48))
unfolding value_from
two_yes a b t e = digits_at (a ∷ b ∷ []) t ∙ rw (and-true (is_digit b), e) (ap Some (omega arith))

pub two_no : (a b : ℕ) (t : List ℕ) → (is_digit a && is_digit b) ≡ false → read_digits 2 (a ∷ b ∷ t) ≡ None
two_no a b t e = digits_at (a ∷ b ∷ []) t ∙ rw (and-true (is_digit b), e)

-- four digits are two and two

four_of : (a b c d : ℕ) (t : List ℕ)
    → read_digits 4 (a ∷ b ∷ c ∷ d ∷ t)
    ≡ on_value (read_digits 2 (a ∷ b ∷ [])) None (λ u. on_value (read_digits 2 (c ∷ d ∷ [])) None (λ v. Some (u * 100 + v)))
unfolding value_from
four_of a b c d t =
    let value = value_from 10 digit_of 0 in
    let w = a ∷ b ∷ c ∷ d ∷ [] in
    digits_at w t
    ∙ go (is_digit a) (is_digit b) (is_digit c) (is_digit d) (value w) (value (a ∷ b ∷ [])) (value (c ∷ d ∷ [])) (omega arith)
    ∙ sym (rw (digits_at (a ∷ b ∷ []) [], digits_at (c ∷ d ∷ []) []))
  where
    go : (p q r s : Bool) (n u v : ℕ) → n ≡ u * 100 + v
        → cond (p && (q && (r && (s && true)))) (Some n) None
        ≡ on_value (cond (p && (q && true)) (Some u) None) None
        (λ u. on_value (cond (r && (s && true)) (Some v) None) None (λ v. Some (u * 100 + v)))
    go true true true true n u v e = ap Some e
    go true true true false n u v e = refl
    go true true false s n u v e = refl
    go true false r s n u v e = refl
    go false q r s n u v e = refl

-- and so at the beginning of a text
pub year_of_lem : (s : List ℕ) → 4 ≤ length s
    → read_digits 4 s
    ≡ on_value (read_digits 2 (get_or s 0 0 ∷ get_or s 1 0 ∷ [])) None
    (λ u. on_value (read_digits 2 (get_or s 2 0 ∷ get_or s 3 0 ∷ [])) None (λ v. Some (u * 100 + v)))
year_of_lem [] h = absurd (omega arith)
year_of_lem (a ∷ []) h = absurd (omega arith)
year_of_lem (a ∷ b ∷ []) h = absurd (omega arith)
year_of_lem (a ∷ b ∷ c ∷ []) h = absurd (omega arith)
year_of_lem (a ∷ b ∷ c ∷ d ∷ t) h = four_of a b c d t

-- ---- a mark at an index, and two digits

module _ (s : List ℕ) (at mark : ℕ) where
  at_mark : get_or (drop at s) 0 0 ≡ get_or s at 0
  at_mark = get_or-drop at s 0 0 ∙ ap (λ (i : ℕ). get_or s i 0) (omega arith)

  pub marked_short : length s < at + 3 → read_marked mark (drop at s) ≡ None
  unfolding read_marked
  marked_short h =
      rw (digits_short 2 (drop 1 (drop at s)) (omega (arith, length-drop at s, length-drop 1 (drop at s))))
      (cond_same (eqb (get_or (drop at s) 0 0) mark))

  pub marked_other : (get_or s at 0 ≡ mark → ⊥) → read_marked mark (drop at s) ≡ None
  unfolding read_marked
  marked_other h = rw (at_mark, ne_eqb (get_or s at 0) mark h)

  pub marked_two : at + 3 ≤ length s → get_or s at 0 ≡ mark
      → read_marked mark (drop at s) ≡ read_digits 2 (get_or s (at + 1) 0 ∷ get_or s (at + 2) 0 ∷ [])
  unfolding read_marked
  marked_two h e =
      let a : suc (at + 1) ≡ at + 2 = omega arith in
      let b : drop (at + 1) s ≡ get_or s (at + 1) 0 ∷ drop (suc (at + 1)) s = drop-cons s (at + 1) 0 (omega arith) in
      let c : drop (at + 2) s ≡ get_or s (at + 2) 0 ∷ drop (suc (at + 2)) s = drop-cons s (at + 2) 0 (omega arith) in
      rw (at_mark, eq-eqb (get_or s at 0) mark e, drop-drop 1 at s, b, a, c) (two_alike (get_or s (at + 1) 0) (get_or s (at + 2) 0) _ [])

-- ---- lists of laws, for the code

pub ruleset digits = (digit_within, two_yes, two_no)

pub ruleset marked_digits = (marked_short, marked_other, marked_two)

pub ruleset years = (digits_short, year_of_lem)
