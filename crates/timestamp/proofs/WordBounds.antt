-- The fields of a packed word are in their bounds where the tests of the whole word say so. Assumes nothing.
use mathlib.Core.Path.{◌≡◌}
use mathlib.Core.Bool.{Bool, ◌&&◌}
use mathlib.Core.List.{List, [], ◌∷◌}
use Prim.Native.Nat.{ℕ, ◌*◌, ◌^◌, ◌≤◌, ◌<◌}
use native.Mathlib.Omega.{arith}
use lib.Dec.{eqb, leb, ltb, lit<}
use Rattle.ion.specs.Pair.Layout.{field_at}
use Rattle.ion.specs.Pair.Word.{fields_of}
use Rattle.packed.proofs.Limits.{Limited, limited, Fits, beyond, beyond_within, within_beyond}
use Rattle.packed.proofs.Words.{unpacked}
use Rattle.places.proofs.Decides.{Decides, le_decides, lt_decides, eq_decides, ◌and◌, decides_same}
use Rattle.timestamp.proofs.FieldTests.{bounds_test, Bounds, bounds_decides}

-- hour, second and digits
abbrev pub masked : List Limited
masked = limited 0 5 23 ∷ limited 5 6 59 ∷ limited 2 5 18 ∷ []

-- minute, precision and offset
abbrev pub others : List Limited
others = limited 0 6 59 ∷ limited 5 3 4 ∷ limited 4 12 2879 ∷ []

masked_fits : Fits masked
masked_fits = (lit< tt, (lit< tt, (lit< tt, tt)))

others_fits : Fits others
others_fits = (lit< tt, (lit< tt, (lit< tt, tt)))

abbrev pub word_test : ℕ → Bool
word_test w = leb (2 ^ 50) w && ltb w (10000 * 2 ^ 50) && eqb (beyond 16 masked w) 0 && eqb (beyond 4 others w) 0

pub word_decides : (w : ℕ) → w < 2 ^ 64 → Decides (word_test w) (Bounds (fields_of w))
word_decides w h =
    let u = unpacked w in
    let y = le_decides (2 ^ 50) w and lt_decides w (10000 * 2 ^ 50) in
    let d = y and eq_decides (beyond 16 masked w) 0 and eq_decides (beyond 4 others w) 0 in (
      λ t.
          let r = d.0 t in
          let y : (1 ≤ (fields_of w).year) × ((fields_of w).year ≤ 9999) = omega (arith, u.year, r.0.0) in
          let p = beyond_within 16 masked w masked_fits r.0.1 in
          let q = beyond_within 4 others w others_fits r.1 in (
            (
              (
                (
                  ((y, omega (arith, u.hour, p.0)), omega (arith, u.minute, q.0)),
                  omega (arith, u.second, p.1.0),
                ),
                omega (arith, u.precision, q.1.0),
              ),
              omega (arith, u.digits, p.1.1.0),
            ),
            omega (arith, u.offset, q.1.1.0),
          ),
      λ b.
          let hour : field_at 36 5 w ≤ 23 = omega (arith, u.hour, b.0.0.0.0.0.1) in
          let minute : field_at 30 6 w ≤ 59 = omega (arith, u.minute, b.0.0.0.0.1) in
          let second : field_at 24 6 w ≤ 59 = omega (arith, u.second, b.0.0.0.1) in
          let precision : field_at 21 3 w ≤ 4 = omega (arith, u.precision, b.0.0.1) in
          let digits : field_at 16 5 w ≤ 18 = omega (arith, u.digits, b.0.1) in
          let offset : field_at 4 12 w ≤ 2879 = omega (arith, u.offset, b.1) in
          d.1 (
            (
              (omega (arith, u.year, b.0.0.0.0.0.0.0), omega (arith, u.year, h, b.0.0.0.0.0.0.1)),
              within_beyond 16 masked w masked_fits (hour, (second, (digits, tt))),
            ),
            within_beyond 4 others w others_fits (minute, (precision, (offset, tt))),
          ),
    )

-- the tests of the whole word are those of its fields
pub word_bounds : (w : ℕ) → w < 2 ^ 64 → word_test w ≡ bounds_test (fields_of w)
word_bounds w h = decides_same (word_test w) (bounds_test (fields_of w)) (word_decides w h) (bounds_decides (fields_of w))
