-- What each writer of a padded number leaves, read from the back. Assumes nothing.
use mathlib.Core.Path.{◌≡◌, refl}
use mathlib.Core.List.{List}
use Prim.Native.Nat.{ℕ, ◌+◌, ◌≤◌, max}
use native.Mathlib.Omega.{arith}
use lib.Dec.{lit<}
use lib.ListN.{length}
use Rattle.std.specs.Prelude.{Ok}
use Rattle.places.proofs.Padded.{last_places}
use Rattle.ion.specs.Calls.Output.{put, wrote, Run}
use Rattle.ion.specs.Numbers.Padded.{digit, digit_count, padded}
use Rattle.output.proofs.Stores.{put_fits, has_room_lem}
use Rattle.output.proofs.Runs.{run_last}
use Rattle.text.specs.LastDigits.{LastDigits}
use Rattle.text.proofs.Digits.{length_padded}

-- a writer inside another: `put_digits`, `put_padded`, `put_two`, `put_four`
pub run_last_digits : {d e : List ℕ} {at end : ℕ} (w n : ℕ) → Run d at (padded w n) e end → end ≤ length d
    → LastDigits n e end (max w (digit_count n))
run_last_digits {d} {e} {at} {end} w n g h k l m =
    let c : k ≤ length (padded w n) = omega (arith, length_padded w n) in
    rw (last_places 10 digit (lit< tt) w n k l c) at (run_last g h k c)

-- the call `write_zero_padded`, which answers how many bytes it wrote
pub written_last_digits : (d : List ℕ) (at w n : ℕ) {k : ℕ} → wrote d at (padded w n) ≡ Ok k
    → LastDigits n (put d at (padded w n)) (at + k) k
written_last_digits d at w n {k} e j l m =
    let s = padded w n in
    let p = has_room_lem d at s e in
    let z = p.0 in
    rw (z, put_fits d at s p.1)
    (run_last_digits w n (record { bytes = refl; next = refl }) p.1 j l (omega (arith, length_padded w n)))
