-- A VarInt as the code reads it: a limit may be tested afterwards, and the loop keeps the magnitude or the largest of 64 bits. Assumes
-- nothing.
use mathlib.Core.Path.{◌≡◌, refl, sym, ap, ◌∙◌}
use mathlib.Core.Bool.{Bool, true, false, cond}
use mathlib.Core.List.{List, [], ◌∷◌}
use Prim.Native.Nat.{ℕ, zero, suc, ◌+◌, ◌-◌, ◌*◌, ◌%◌, ◌^◌, ◌≤◌, ◌<◌, min}
use native.Mathlib.Nat.{pow-suc, pow-le-pow_right}
use native.Mathlib.Numerals.{add-one}
use native.Mathlib.Omega.{arith}
use borrow.Author.Tests.{lt-ltb, le-ltb, ltb-true, ltb-false}
use lib.Dec.{leb, ltb, lit<}
use lib.ListN.{length, drop, get_or}
use lib.Seq.{drop-cons}
use Rattle.std.specs.Prelude.{Result, Ok, Err}
use Rattle.std.proofs.Common.{drop_of_length-le}
use Rattle.ion.specs.Numbers.VarUInt.{up_to, scan_from}
use Rattle.ion.specs.Numbers.VarInt.{signed_magnitude, unsign}
use Rattle.ion.specs.Numbers.PaddedNumbers.{longest, unlimited, with_sign, read_padded_var_int}
use Rattle.ion.specs.declared.number.NumberError.{NumberError}
use Rattle.ion.specs.declared.number.NumberError.TheVariants.{Cut, Bad}
use Rattle.ion.specs.declared.number.SignedMagnitude.{SignedMagnitude}
use Rattle.binary.proofs.Groups.{scan_more, scan_last, scan_marked, scan_passed, scan_ends, scan_done}
use Rattle.padded_reader.specs.Numbers.{saturated}

-- ---- a limit may be tested afterwards

abbrev scan_up_to : ℕ → Result (ℕ × ℕ) NumberError → Result (ℕ × ℕ) NumberError
scan_up_to l (Ok x) = up_to l x.0 x.1
scan_up_to l (Err e) = Err e

scan_limited : (l u n v k : ℕ) (s : List ℕ) → l ≤ u → scan_from l n v k s ≡ scan_up_to l (scan_from u n v k s)
unfolding scan_from
scan_limited l u zero v k s h = refl
scan_limited l u (suc n) v k [] h = refl
scan_limited l u (suc n) v k (c ∷ r) h = go (scan_limited l u n w (k + 1) r h) (leb 128 c) (ltb u w) refl
  where
    w : ℕ
    w = v * 128 + c % 128

    go : scan_from l n w (k + 1) r ≡ scan_up_to l (scan_from u n w (k + 1) r) → (t a : Bool) → ltb u w ≡ a
        → cond t (up_to l w (k + 1)) (scan_from l n w (k + 1) r)
        ≡ scan_up_to l (cond t (cond a (Err Bad) (Ok (w, k + 1))) (scan_from u n w (k + 1) r))
    go ih true true e = rw (lt-ltb l w (omega (arith, ltb-true u w e)))
    go ih true false e = refl
    go ih false a e = ih

abbrev pub int_up_to : ℕ → Result (SignedMagnitude × ℕ) NumberError → Result (SignedMagnitude × ℕ) NumberError
int_up_to l (Ok x) = cond (ltb l x.0.magnitude) (Err Bad) (Ok x)
int_up_to l (Err e) = Err e

pub read_limited : (l : ℕ) (s : List ℕ) → l < 2 ^ 64 - 1
    → read_padded_var_int l s ≡ int_up_to l (saturated (read_padded_var_int unlimited s))
unfolding read_padded_var_int
read_limited l [] h = refl
read_limited l (b ∷ r) h =
    let s = unsign b ∷ r in
    ap (with_sign g) (scan_limited l unlimited longest 0 0 s (omega arith)) ∙ go (scan_from unlimited longest 0 0 s)
  where
    g : Bool
    g = leb 64 (b % 128)

    at : (m n : ℕ) (t : Bool) → ltb l m ≡ t
        → with_sign g (cond t (Err Bad) (Ok (m, n))) ≡ int_up_to l (Ok (signed_magnitude g (min m (2 ^ 64 - 1)), n))
    at m n true e = rw (lt-ltb l (min m (2 ^ 64 - 1)) (omega (arith, ltb-true l m e)))
    at m n false e =
        let k : min m (2 ^ 64 - 1) ≡ m = omega (arith, ltb-false l m e) in
        rw (k, e)

    go : (x : Result (ℕ × ℕ) NumberError) → with_sign g (scan_up_to l x) ≡ int_up_to l (saturated (with_sign g x))
    go (Ok x) = at x.0 x.1 (ltb l x.0) refl
    go (Err e) = refl

pub minutes_limited : (s : List ℕ)
    → read_padded_var_int 1439 s ≡ int_up_to 1439 (saturated (read_padded_var_int unlimited (drop 0 s)))
minutes_limited s = read_limited 1439 s (lit< tt)

pub ruleset minutes = (minutes_limited)

-- ---- the reader's loop: g the sign, v the magnitude of the k groups from index at on, as far as 64 bits hold it

pub record Passed (s : List ℕ) (at : ℕ) (g : Bool) (v k : ℕ) : Type 0 where
  pub whole : ℕ
  pub held : whole < 128 ^ k
  pub capped : v ≡ min whole (2 ^ 64 - 1)
  pub read : read_padded_var_int unlimited (drop at s) ≡ with_sign g (scan_from unlimited (longest - k) whole k (drop (at + k) s))

-- what up to ten groups make is below any limit
found : (g : Bool) (x v n : ℕ) → x ≤ unlimited → min x (2 ^ 64 - 1) ≡ v
    → saturated (with_sign g (up_to unlimited x n)) ≡ Ok (signed_magnitude g v, n)
found g x v n h e = rw (le-ltb unlimited x h, e)

module _ (s : List ℕ) (at : ℕ) where
  pub read_ends : length s ≤ at → saturated (read_padded_var_int unlimited (drop at s)) ≡ Err Cut
  unfolding read_padded_var_int
  read_ends h = rw (drop_of_length-le s h)

  opened : at < length s → drop at s ≡ get_or s at 0 ∷ drop (at + 1) s
  opened h = rw (add-one at) (drop-cons s at 0 h)

  pub read_alone : (b : ℕ) → at < length s → b ≡ get_or s at 0 → 128 ≤ b → b < 256
      → saturated (read_padded_var_int unlimited (drop at s)) ≡ Ok (signed_magnitude (leb 64 (b % 128)) (b % 64), 1)
  unfolding read_padded_var_int
  read_alone b h e c d =
      let r = drop (at + 1) s in
      let g = leb 64 (b % 128) in
      let f = scan_last unlimited 9 0 0 (unsign b) (b % 64) r (omega arith) (omega arith) in
      ap (λ (x : List ℕ). saturated (read_padded_var_int unlimited x)) (opened h ∙ ap (λ (x : ℕ). x ∷ r) (sym e))
      ∙ ap (λ (x : Result (ℕ × ℕ) NumberError). saturated (with_sign g x)) f
      ∙ found g (b % 64) (b % 64) 1 (omega arith) (omega arith)

  pub passed_first : (b : ℕ) → at < length s → b ≡ get_or s at 0 → b < 128 → Passed s at (leb 64 (b % 128)) (b % 64) 1
  unfolding read_padded_var_int
  passed_first b h e c =
      let r = drop (at + 1) s in
      record {
        whole = b % 64;
        held = omega arith;
        capped = omega arith;
        read =
            ap (read_padded_var_int unlimited) (opened h ∙ ap (λ (x : ℕ). x ∷ r) (sym e))
            ∙ ap (with_sign (leb 64 (b % 128))) (scan_more unlimited 9 0 0 (unsign b) (b % 64) r (omega arith) (omega arith));
      }

module _ {s : List ℕ} {at k v : ℕ} {g : Bool} (p : Passed s at g v k) where
  pub passed_more : (b w : ℕ) → k < longest → at + k < length s → b ≡ get_or s (at + k) 0 → b < 128
      → w ≡ min (min (v * 128) (2 ^ 64 - 1) + b % 128) (2 ^ 64 - 1) → Passed s at g w (k + 1)
  passed_more b w l h e c f =
      let j : at + (k + 1) ≡ at + k + 1 = omega arith in
      record {
        whole = p.whole * 128 + b;
        held = rw (add-one k) (omega (arith, p.held, pow-suc 128 k));
        capped = omega (arith, p.capped);
        read = p.read ∙ rw (j, e) (ap (with_sign g) (scan_passed unlimited longest p.whole k s (at + k) l h (omega arith)));
      }

-- what the bytes that are left give, x the magnitude so far
module _ (x k : ℕ) (s : List ℕ) (i : ℕ) (g : Bool) where
  pub left_last : (v w : ℕ) → x < 128 ^ k → k < longest → i < length s → 128 ≤ get_or s i 0 → v ≡ min x (2 ^ 64 - 1)
      → w ≡ min (min (v * 128) (2 ^ 64 - 1) + get_or s i 0 % 128) (2 ^ 64 - 1)
      → saturated (with_sign g (scan_from unlimited (longest - k) x k (drop i s))) ≡ Ok (signed_magnitude g w, k + 1)
  left_last v w m l h c e f =
      let y = x * 128 + get_or s i 0 % 128 in
      let few : k ≤ 9 = omega arith in
      let power : 128 ^ k ≤ 128 ^ 9 = pow-le-pow_right {n = 128} (lit< tt) few in
      ap (λ (a : Result (ℕ × ℕ) NumberError). saturated (with_sign g a)) (scan_marked unlimited longest x k s i l h c)
      ∙ found g y w (k + 1) (omega arith) (omega arith)

  pub left_ends : k < longest → length s ≤ i → saturated (with_sign g (scan_from unlimited (longest - k) x k (drop i s))) ≡ Err Cut
  left_ends l h = ap (λ (a : Result (ℕ × ℕ) NumberError). saturated (with_sign g a)) (scan_ends unlimited longest x k s i l h)

  pub left_done : k ≡ longest → saturated (with_sign g (scan_from unlimited (longest - k) x k (drop i s))) ≡ Err Bad
  left_done e = ap (λ (a : Result (ℕ × ℕ) NumberError). saturated (with_sign g a)) (scan_done unlimited longest x k s i e)

pub ruleset reading = (read_ends, read_alone, left_last, left_ends, left_done)
