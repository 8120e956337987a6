-- A word assembled by shifts and ors of 64 bits, for every list of widths. Assumes nothing.
use mathlib.Core.Path.{◌≡◌, sym, ap, ◌∙◌}
use mathlib.Core.List.{List, [], ◌∷◌}
use Prim.Native.Nat.{ℕ, ◌+◌, ◌*◌, ◌%◌, ◌^◌, ◌≤◌, ◌<◌}
use native.Mathlib.Omega.{arith}
use lib.Pow.{pow-add, shl_exact, shl_lt}
use lib.Bits.{bit_or, or_shifted}
use Rattle.ion.specs.Pair.Layout.{total, join, Within}
use Rattle.packed.proofs.Joins.{regroup}

-- each value in its turn shifted to its place and put into what is there
abbrev pub ors : ℕ → List ℕ → List ℕ → ℕ
ors acc [] xs = acc
ors acc (k ∷ ks) [] = acc
ors acc (k ∷ ks) (x ∷ xs) = ors (bit_or acc (x * 2 ^ total ks % 2 ^ 64)) ks xs

place : (hi x k t : ℕ) → x < 2 ^ k → k + t ≤ 64 → bit_or (hi * 2 ^ (k + t)) (x * 2 ^ t % 2 ^ 64) ≡ (hi * 2 ^ k + x) * 2 ^ t
place hi x k t hx l =
    ap (bit_or (hi * 2 ^ (k + t))) (shl_exact k t 64 hx l)
    ∙ or_shifted hi (k + t) (x * 2 ^ t) (shl_lt k t hx)
    ∙ rw (pow-add 2 k t) (omega arith)

ors_above : (ks xs : List ℕ) (hi : ℕ) → Within ks xs → total ks ≤ 64 → ors (hi * 2 ^ total ks) ks xs ≡ hi * 2 ^ total ks + join ks xs
ors_above [] [] hi h l = omega arith
ors_above [] (x ∷ xs) hi h l = elim h [ ]
ors_above (k ∷ ks) [] hi h l = elim h [ ]
ors_above (k ∷ ks) (x ∷ xs) hi h l =
    ap (λ (n : ℕ). ors n ks xs) (place hi x k (total ks) h.0 l)
    ∙ ors_above ks xs (hi * 2 ^ k + x) h.1 (omega arith)
    ∙ sym (regroup hi x (join ks xs) k (total ks))

pub ors_join : (ks xs : List ℕ) → Within ks xs → total ks ≤ 64 → ors 0 ks xs ≡ join ks xs
ors_join ks xs h l = ap (λ (n : ℕ). ors n ks xs) (omega arith) ∙ ors_above ks xs 0 h l ∙ omega arith
