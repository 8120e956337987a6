-- A scan's numbers: those written are read back, whatever is read was written so, and what the others are refused with. Assumes nothing.
use mathlib.Core.Path.{◌≡◌, refl, sym, ap, ◌∙◌}
use mathlib.Core.Logic.{◌⊎◌, inl, inr}
use mathlib.Core.List.{List, ◌++◌}
use Prim.Native.Nat.{ℕ, ◌≤◌, ◌<◌}
use native.Mathlib.Omega.{arith}
use lib.ListN.{length}
use Rattle.std.specs.Prelude.{Result, Ok, Err}
use Rattle.places.specs.Places.{count_in, count, place_count}
use Rattle.places.proofs.Below.{Below}
use Rattle.ion.specs.Numbers.VarUInt.{group_count, varuint, read_var_uint}
use Rattle.ion.specs.declared.number.NumberError.{NumberError}
use Rattle.ion.specs.declared.number.NumberError.TheVariants.{Cut, Bad}
use Rattle.ion.specs.declared.refusal.Refusal.{Refusal}
use Rattle.ion.specs.declared.refusal.Refusal.TheVariants as refusal
use Rattle.binary.proofs.VarUInts.{count_shortest, count_some, length_varuint, read_varuint, read_varuint_is, read_within}
use Rattle.binary.proofs.VarUInts.{CutShort, read_cut, cut_read, Unreadable, read_bad, bad_read}
use Rattle.contents.proofs.Readers.{WrittenSo}
use Rattle.scans.specs.Number.{largest, number_from, read_number}

pub five_groups : group_count largest ≡ 5
unfolding place_count count count_in
five_groups = refl

pub number_size : (v : ℕ) → v ≤ largest → (1 ≤ length (varuint v)) × (length (varuint v) ≤ 5)
number_size v h = (omega (arith, length_varuint v, count_some v), omega (arith, length_varuint v, count_shortest 4 v (omega arith)))

abbrev pub IsNumber : ℕ → Type 0
IsNumber v = v ≤ largest

-- a number is read back, whatever follows it
pub number_back : (v : ℕ) (r : List ℕ) → IsNumber v → read_number (varuint v ++ r) ≡ Ok (v, length (varuint v))
unfolding read_number
number_back v r h = ap number_from (read_varuint largest v r h) ∙ ap (λ (n : ℕ). Ok (v, n)) (sym (length_varuint v))

-- ---- what is read, by what the reader of VarUInts finds

module _ (s : List ℕ) where
  module _ (P : Result (ℕ × ℕ) Refusal → Type 0) (value : (v n : ℕ) → read_var_uint largest s ≡ Ok (v, n) → P (Ok (v, n)))
      (cut : read_var_uint largest s ≡ Err Cut → P (Err refusal.InputEnds))
      (bad : read_var_uint largest s ≡ Err Bad → P (Err refusal.Number)) where
    by_found : P (read_number s)
    unfolding read_number
    by_found = go (read_var_uint largest s) refl
      where
        go : (r : Result (ℕ × ℕ) NumberError) → read_var_uint largest s ≡ r → P (number_from r)
        go (Ok (v, n)) q = value v n q
        go (Err Cut) q = cut q
        go (Err Bad) q = bad q

  -- ---- accepted

  number_found : (v n : ℕ) → read_number s ≡ Ok (v, n) → read_var_uint largest s ≡ Ok (v, n)
  number_found v n =
      by_found (λ r. r ≡ Ok (v, n) → read_var_uint largest s ≡ Ok (v, n)) (λ w m q e. cc) (λ q e. absurd cc) (λ q e. absurd cc)

  pub number_is : (v n : ℕ) → Below 256 s → read_number s ≡ Ok (v, n) → WrittenSo read_number varuint IsNumber s v n
  number_is v n b e =
      let p = read_varuint_is largest s v n b (number_found v n e) in
      record { stored = p.0; taken = p.1 ∙ sym (length_varuint v); begins = p.2 }

  -- it takes a byte at least, and no more than there are
  pub number_within : (v n : ℕ) → read_number s ≡ Ok (v, n) → (0 < n) × (n ≤ length s)
  number_within v n e = read_within largest s v n (number_found v n e)

  -- ---- refused: as cut short exactly where it is, as a wrong number exactly where it is unreadable, and with nothing else

  pub number_cut : (read_number s ≡ Err refusal.InputEnds → CutShort largest s) × (CutShort largest s → read_number s ≡ Err refusal.InputEnds)
  unfolding read_number
  number_cut = (
    by_found (λ r. r ≡ Err refusal.InputEnds → CutShort largest s) (λ v n q e. absurd cc) (λ q e. cut_read largest s q) (λ q e. absurd cc),
    (λ c. ap number_from (read_cut largest s c)),
  )

  pub number_bad : Below 256 s
      → (read_number s ≡ Err refusal.Number → Unreadable largest s) × (Unreadable largest s → read_number s ≡ Err refusal.Number)
  unfolding read_number
  number_bad b = (
    by_found (λ r. r ≡ Err refusal.Number → Unreadable largest s) (λ v n q e. absurd cc) (λ q e. absurd cc) (λ q e. bad_read largest s b q),
    (λ u. ap number_from (read_bad largest s u)),
  )

  pub number_refused_lem : {r : Refusal} → read_number s ≡ Err r → (r ≡ refusal.InputEnds) ⊎ (r ≡ refusal.Number)
  number_refused_lem {r} =
      by_found (λ a. a ≡ Err r → (r ≡ refusal.InputEnds) ⊎ (r ≡ refusal.Number)) (λ v n q e. absurd cc) (λ q e. inl cc) (λ q e. inr cc)

-- ---- lists of laws, for the code

-- what was found has at most 32 bits
pub found_small : (s : List ℕ) {v n : ℕ} → Below 256 s → Ok (v, n) ≡ read_var_uint largest s → v ≤ largest
found_small s {v} {n} b e = (read_varuint_is largest s v n b (sym e)).0

pub ruleset found = (found_small)
