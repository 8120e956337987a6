-- The laws of a word made of fields, for every list of widths. Assumes nothing.
use mathlib.Core.Path.{◌≡◌, refl, sym, ap, ap₂, ◌∙◌}
use mathlib.Core.List.{List, [], ◌∷◌}
use mathlib.Core.Logic.{◌⊎◌, inl, inr}
use Prim.Native.Nat.{ℕ, ◌+◌, ◌*◌, ◌%◌, ◌^◌, ◌<◌}
use native.Mathlib.Nat.{mod-one, mul-le-mul_right}
use native.Mathlib.Omega.{arith}
use lib.Dec.{lit<}
use lib.Arith.{digits_lt}
use lib.Pow.{pow-add, high, low, mod-pow-add}
use Rattle.std.proofs.lemmas.Bool.{cases_order}
use Rattle.ion.specs.Pair.Layout.{total, join, parts, field_at, Within, Before}

-- the field of k bits between what stands above it and s bits below
field_at_lem : (hi x lo s k : ℕ) → x < 2 ^ k → lo < 2 ^ s → field_at s k ((hi * 2 ^ k + x) * 2 ^ s + lo) ≡ x
field_at_lem hi x lo s k hx hl = ap (λ (n : ℕ). n % 2 ^ k) (high (hi * 2 ^ k + x) s hl) ∙ low hi k hx

-- the first value joined to what stands above it
pub regroup : (hi x j k t : ℕ) → hi * 2 ^ (k + t) + (x * 2 ^ t + j) ≡ (hi * 2 ^ k + x) * 2 ^ t + j
regroup hi x j k t = rw (pow-add 2 k t) (omega arith)

pub join_lt : (ks xs : List ℕ) → Within ks xs → join ks xs < 2 ^ total ks
join_lt [] [] h = lit< tt
join_lt [] (x ∷ xs) h = elim h [ ]
join_lt (k ∷ ks) [] h = elim h [ ]
join_lt (k ∷ ks) (x ∷ xs) h = rw (pow-add 2 k (total ks)) (digits_lt h.0 (join_lt ks xs h.1))

parts_above : (ks xs : List ℕ) (hi : ℕ) → Within ks xs → parts ks (hi * 2 ^ total ks + join ks xs) ≡ xs
parts_above [] [] hi h = refl
parts_above [] (x ∷ xs) hi h = elim h [ ]
parts_above (k ∷ ks) [] hi h = elim h [ ]
parts_above (k ∷ ks) (x ∷ xs) hi h =
    ap (parts (k ∷ ks)) (regroup hi x (join ks xs) k (total ks))
    ∙ ap₂ ◌∷◌ (field_at_lem hi x (join ks xs) (total ks) k h.0 (join_lt ks xs h.1)) (parts_above ks xs (hi * 2 ^ k + x) h.1)

-- what is read is what was put in
pub parts_join : (ks xs : List ℕ) → Within ks xs → parts ks (join ks xs) ≡ xs
parts_join ks xs h = ap (parts ks) (omega arith) ∙ parts_above ks xs 0 h

-- what is read makes up the word again, up to the bits above all the fields
pub join_parts : (ks : List ℕ) (w : ℕ) → join ks (parts ks w) ≡ w % 2 ^ total ks
join_parts [] w = sym (mod-one w)
join_parts (k ∷ ks) w = ap (λ (n : ℕ). field_at (total ks) k w * 2 ^ total ks + n) (join_parts ks w) ∙ sym (mod-pow-add w k (total ks))

-- the order of words is that of the first field that differs
pub join_before : (ks xs ys : List ℕ) → Within ks xs → Within ks ys → Before xs ys → join ks xs < join ks ys
join_before [] [] [] hx hy b = absurd b
join_before [] [] (y ∷ ys) hx hy b = elim hy [ ]
join_before [] (x ∷ xs) ys hx hy b = elim hx [ ]
join_before (k ∷ ks) [] ys hx hy b = elim hx [ ]
join_before (k ∷ ks) (x ∷ xs) [] hx hy b = elim hy [ ]
join_before (k ∷ ks) (x ∷ xs) (y ∷ ys) hx hy (inl l) = omega (arith, mul-le-mul_right (2 ^ total ks) l, join_lt ks xs hx.1)
join_before (k ∷ ks) (x ∷ xs) (y ∷ ys) hx hy (inr (e, b)) =
    omega (arith, ap (λ (n : ℕ). n * 2 ^ total ks) e, join_before ks xs ys hx.1 hy.1 b)

before_cases : (x y j i p : ℕ) {B : Type 0} → i < p → (j < i → B) → x * p + j < y * p + i → (x ≡ y) ⊎ ((x < y) ⊎ (y < x))
    → (x < y) ⊎ ((x ≡ y) × B)
before_cases x y j i p hi go l (inr (inl a)) = inl a
before_cases x y j i p hi go l (inl e) = inr (e, go (omega (arith, ap (λ (m : ℕ). m * p) e)))
before_cases x y j i p hi go l (inr (inr b)) = absurd (omega (arith, mul-le-mul_right p b))

pub before_join : (ks xs ys : List ℕ) → Within ks xs → Within ks ys → join ks xs < join ks ys → Before xs ys
before_join [] [] [] hx hy l = omega arith
before_join [] [] (y ∷ ys) hx hy l = elim hy [ ]
before_join [] (x ∷ xs) ys hx hy l = elim hx [ ]
before_join (k ∷ ks) [] ys hx hy l = elim hx [ ]
before_join (k ∷ ks) (x ∷ xs) [] hx hy l = elim hy [ ]
before_join (k ∷ ks) (x ∷ xs) (y ∷ ys) hx hy l =
    before_cases x y (join ks xs) (join ks ys) (2 ^ total ks) (join_lt ks ys hy.1) (before_join ks xs ys hx.1 hy.1) l
    (cases_order x y)
