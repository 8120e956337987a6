-- A text from which a number or a fraction is read begins with it, written with as many digits. Assumes nothing.
use mathlib.Core.Path.{◌≡◌, refl, sym, ap, subst, ◌∙◌}
use mathlib.Core.Bool.{true}
use mathlib.Core.List.{List, [], ◌∷◌, ◌++◌, append_assoc}
use Prim.Native.Char.{code}
use Prim.Native.Nat.{ℕ, zero, suc, ◌+◌, ◌^◌, ◌≤◌, ◌<◌, min}
use native.Mathlib.Nat.{mul-div_cancel}
use native.Mathlib.Omega.{arith}
use lib.Dec.{eqb, leb, lit<, lit≤}
use lib.ListN.{length, take, drop, get_or, take-append-drop}
use lib.Seq.{drop-drop}
use borrow.Author.Tests.{leb-true, eqb-true, ne_eqb}
use Rattle.std.specs.Prelude.{Option, Some, None}
use Rattle.places.proofs.Values.{Bytes, bytes_are, bytes_below}
use Rattle.ion.specs.Numbers.Padded.{digit, last_digits, padded}
use Rattle.ion.specs.Text.Format.{marked, fraction_text}
use Rattle.ion.specs.Text.ReadText.{is_digit, digit_run, digit_of, digits_value, read_digits, read_marked, digits_fraction}
use Rattle.fraction.proofs.Scales.{scale_pos}
use Rattle.text.proofs.Digits.{padded_digits}
use Rattle.text_reader.proofs.Forms.{on_test}
use Rattle.text_reader.proofs.Runs.{digit_within}

-- a digit is the byte of what it stands for
digit_byte : (b : ℕ) → is_digit b ≡ true → (digit_of b < 10) × (digit (digit_of b) ≡ b)
digit_byte b e =
    let h = digit_within b e in
    (omega arith, omega arith)

-- k bytes, each of them a digit
abbrev Digits : ℕ → List ℕ → Type 0
Digits k s = Bytes 10 digit digit_of s × (length s ≡ k)

run_digits : (k : ℕ) (s : List ℕ) → k ≤ digit_run s → Digits k (take k s)
unfolding digit_run
run_digits zero s h = (tt, refl)
run_digits (suc k) [] h = absurd (omega arith)
run_digits (suc k) (b ∷ s) h =
    on_test (λ (n : ℕ). suc k ≤ n → Digits (suc k) (b ∷ take k s)) (is_digit b) (λ e l.
    let r = run_digits k s (omega arith) in ((digit_byte b e, r.0), ap suc r.1)) (λ e l. absurd (omega arith)) h

-- the number that they make is below 10 ^ k, and they are its digits
pub run_value : (k : ℕ) (s : List ℕ) → k ≤ digit_run s → (digits_value k s < 10 ^ k) × (last_digits k (digits_value k s) ≡ take k s)
unfolding digits_value
run_value k s h =
    let r = run_digits k s h in
    (rw r.1 at (bytes_below 10 digit digit_of (take k s) r.0), rw r.1 at (bytes_are 10 digit digit_of (take k s) r.0))

-- what a reading of k digits says of the text
abbrev BeginsWith : ℕ → List ℕ → Option ℕ → Type 0
BeginsWith k s (Some n) = s ≡ padded k n ++ drop k s
BeginsWith k s None = Unit

digits_begin : (k : ℕ) (s : List ℕ) → 1 ≤ k → BeginsWith k s (read_digits k s)
unfolding read_digits
digits_begin k s h =
    on_test (BeginsWith k s) (leb k (digit_run s)) (λ e.
    let v = run_value k s (leb-true k (digit_run s) e) in
    sym (ap (λ (t : List ℕ). t ++ drop k s) (padded_digits k (digits_value k s) h v.0 ∙ v.1) ∙ take-append-drop k s)) (λ e. tt)

pub digits_exact : (k n : ℕ) (s : List ℕ) → 1 ≤ k → read_digits k s ≡ Some n → s ≡ padded k n ++ drop k s
digits_exact k n s h e = subst (BeginsWith k s) e (digits_begin k s h)

-- a byte that is not 0 is the first of the text
head_is : (c : ℕ) (r : List ℕ) → 0 < c → get_or r 0 0 ≡ c → r ≡ c ∷ drop 1 r
head_is c [] h e = absurd (omega arith)
head_is c (b ∷ r) h e = ap (λ (x : ℕ). x ∷ r) e

-- it is the mark of two digits that follow it
pub two_marked : (c n : ℕ) (r : List ℕ) → 0 < c → get_or r 0 0 ≡ c → read_digits 2 (drop 1 r) ≡ Some n → r ≡ marked c n ++ drop 3 r
unfolding marked
two_marked c n r h f e =
    head_is c r h f
    ∙ ap (λ (l : List ℕ). c ∷ l) (digits_exact 2 n (drop 1 r) (lit≤ tt) e ∙ ap (λ (l : List ℕ). padded 2 n ++ l) (drop-drop 2 1 r))

marked_exact : (mark n : ℕ) (r : List ℕ) → 0 < mark → read_marked mark r ≡ Some n → r ≡ marked mark n ++ drop 3 r
unfolding read_marked
marked_exact mark n r h =
    on_test (λ (x : Option ℕ). x ≡ Some n → r ≡ marked mark n ++ drop 3 r) (eqb (get_or r 0 0) mark)
    (λ t e. two_marked mark n r h (eqb-true (get_or r 0 0) mark t) e) (λ t e. absurd (let z : ◌≡◌ {A = ℕ} 0 1 = cc in omega arith))

-- the same from index at on, after w
pub next_marked : (s w : List ℕ) (at mark n : ℕ) → 0 < mark → s ≡ w ++ drop at s → read_marked mark (drop at s) ≡ Some n
    → s ≡ w ++ marked mark n ++ drop (at + 3) s
next_marked s w at mark n h b e =
    b
    ∙ ap (λ (l : List ℕ). w ++ l) (marked_exact mark n (drop at s) h e ∙ ap (λ (l : List ℕ). marked mark n ++ l) (drop-drop 3 at s))
    ∙ sym (append_assoc w (marked mark n) (drop (at + 3) s))

-- ---- a fraction

-- at most eighteen digits and their point are the text of the fraction that they are
fraction_digits : (t : List ℕ) → (digit_run t ≡ 0 → ⊥) → digit_run t ≤ 18
    → let x = digits_fraction (digit_run t) t in code "." ∷ take (digit_run t) t ≡ fraction_text x.digits x.attoseconds
unfolding fraction_text
fraction_digits t h l =
    let n = digit_run t in
    let v = run_value n t (omega arith) in
    let e₁ : min n 18 ≡ n = omega arith in
    let e₂ : min n 19 ≡ n = omega arith in
    rw (e₁, e₂, ne_eqb n 0 h, mul-div_cancel (digits_value n t) (scale_pos n))
    (ap (λ (b : List ℕ). code "." ∷ b) (sym (padded_digits n (digits_value n t) (omega arith) v.0 ∙ v.1)))

pub fraction_exact : (r : List ℕ) → get_or r 0 0 ≡ code "." → let t = drop 1 r in let n = digit_run t in let x = digits_fraction n t in
    (n ≡ 0 → ⊥) → x.digits ≤ 18 → r ≡ fraction_text x.digits x.attoseconds ++ drop n t
fraction_exact r p k l =
    let t = drop 1 r in
    let n = digit_run t in
    head_is (code ".") r (lit< tt) p
    ∙ ap (λ (b : List ℕ). code "." ∷ b) (sym (take-append-drop n t))
    ∙ ap (λ (b : List ℕ). b ++ drop n t) (fraction_digits t k (omega arith))
