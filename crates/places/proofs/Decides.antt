-- A test decides a fact: where it is true the fact holds, and the other way round. Assumes nothing.
use mathlib.Core.Path.{◌≡◌, refl, sym}
use mathlib.Core.Bool.{Bool, true, false, ◌&&◌, ◌||◌, and-eq-true_iff}
use Prim.Native.Nat.{ℕ, ◌≤◌, ◌<◌}
use native.Mathlib.Decide.{dec_le}
use native.Mathlib.Omega.{arith}
use lib.Dec.{eqb, leb, ltb}
use borrow.Author.Tests.{le-leb, lt-leb, lt-ltb, eq-eqb, leb-true, ltb-true, eqb-true}

abbrev pub Decides : Bool → Type 0 → Type 0
Decides b P = (b ≡ true → P) × (P → b ≡ true)

pub le_decides : (m n : ℕ) → Decides (leb m n) (m ≤ n)
le_decides m n = (leb-true m n, le-leb m n)

pub lt_decides : (m n : ℕ) → Decides (ltb m n) (m < n)
lt_decides m n = (ltb-true m n, lt-ltb m n)

pub eq_decides : (m n : ℕ) → Decides (eqb m n) (m ≡ n)
eq_decides m n = (eqb-true m n, eq-eqb m n)

-- the second test, where the first fact holds
pub then_decides : {a b : Bool} {P Q : Type 0} → Decides a P → (P → Decides b Q) → Decides (a && b) (P × Q)
then_decides {a} {b} d e = (
  λ t. let k = (and-eq-true_iff a b).0 t in let p = d.0 k.0 in (p, (e p).0 k.1),
  λ q. (and-eq-true_iff a b).1 (d.1 q.0, (e q.0).1 q.1),
)

infixl 35 ◌and◌
pub ◌and◌ : {a b : Bool} {P Q : Type 0} → Decides a P → Decides b Q → Decides (a && b) (P × Q)
d and e = then_decides d (λ p. e)

-- a field that a precision below k does not have
pub below_decides : (k p : ℕ) {b : Bool} {P : Type 0} → Decides b P → Decides (leb k p || b) (p < k → P)
below_decides k p {b} {P} d = go (dec_le k p)
  where
    go : Dec (k ≤ p) → Decides (leb k p || b) (p < k → P)
    go (yes h) = (λ t l. absurd (omega arith), λ q. simp (le-leb k p h))
    go (no n) = let h : p < k = omega arith in simp (lt-leb k p h) (λ t l. d.0 t, λ q. d.1 (q h))

-- two tests of one fact are equal
pub decides_same : (a b : Bool) {P : Type 0} → Decides a P → Decides b P → a ≡ b
decides_same true b d e = sym (e.1 (d.0 refl))
decides_same false true d e = d.1 (e.0 refl)
decides_same false false d e = refl
