-- Whether an answer is the recorded one. Assumes nothing.
use Rattle.std.specs.Prelude.{ℕ, ◌+◌, List, Bool, cond, ◌&&◌, eqb, leb, length, drop, get_or, Option, None, Some, Result}
use Rattle.std.specs.Result.{result_unwrap_or, result_map_both}
use Rattle.std.specs.declared.cmp.Ordering.{Ordering}
use Rattle.std.specs.declared.cmp.Ordering.TheVariants.{Less, Equal, Greater}
use Rattle.ion.specs.Pair.Pair.{same_pair, no_stamp}
use Rattle.ion.specs.Calls.Check.{check_of}
use Rattle.ion.specs.Calls.Utc.{utc_of}
use Rattle.ion.specs.Calls.Order.{cmp_of, eq_of, ion_cmp_of, ion_eq_of, distance_of, distant}
use Rattle.ion.specs.Calls.Refusal.{number_in}
use Rattle.ion.specs.Text.ReadText.{read_text_of}
use Rattle.ion.specs.Value.ReadValue.{Reading, read_value}
use Rattle.ion.specs.Value.ReadPaddedValue.{read_padded_value}
use Rattle.ion.specs.declared.Timestamp.{Timestamp}
use Rattle.ion.specs.declared.refusal.Refusal.{Refusal}
use Rattle.test_field_sets.specs.FieldSets.{unknown_code, built_from}
use Rattle.test_answers.specs.Fields.{word_at, recorded_pair, field_set_at, is_field_set}

-- ---- an answer and what a record has from an index on: beside a refusal, zeros

-- a number and a pair
unfoldable pub is_built : Result Timestamp Refusal → List ℕ → ℕ → Bool
is_built a r at = eqb (number_in a) (get_or r at 0) && same_pair (result_unwrap_or a no_stamp) (recorded_pair r (at + 1))

-- of two timestamps: the number after them, and a byte
unfoldable pub is_byte : Result ℕ Refusal → List ℕ → ℕ → Bool
is_byte a r at = eqb (number_in a) (get_or r 32 0) && eqb (result_unwrap_or a 0) (get_or r at 0)

-- an order as a byte
abbrev pub order_byte : Ordering → ℕ
order_byte Less = 255
order_byte Equal = 0
order_byte Greater = 1

abbrev pub is_order : Result Ordering Refusal → List ℕ → ℕ → Bool
is_order a r at = is_byte (result_map_both order_byte (λ e. e) a) r at

-- 1 says equal, 0 says not
abbrev pub is_equality : Result Bool Refusal → List ℕ → ℕ → Bool
is_equality a r at = is_byte (result_map_both (λ equal. cond equal 1 0) (λ e. e) a) r at

-- ---- whole records: the call on what stands first, against what stands after it

-- what was built; where a code stands for nothing, its number and the pair (0, 0)
abbrev pub is_built_from : Option (Result Timestamp Refusal) → List ℕ → ℕ → Bool
is_built_from (Some a) r at = is_built a r at
is_built_from None r at = eqb unknown_code (get_or r at 0) && same_pair no_stamp (recorded_pair r (at + 1))

-- building
unfoldable pub build_agrees : List ℕ → Bool
build_agrees r = is_field_set r && is_built_from (built_from (field_set_at r)) r 48

-- the packed check
unfoldable pub check_agrees : List ℕ → Bool
check_agrees r = is_built (check_of (recorded_pair r 0)) r 16

-- the UTC form
unfoldable pub utc_agrees : List ℕ → Bool
utc_agrees r = is_built (utc_of (recorded_pair r 0)) r 16

-- order and equality by instant, and by pair
unfoldable pub order_agrees : List ℕ → Bool
order_agrees r =
    let s = recorded_pair r 0 in
    let t = recorded_pair r 16 in
    is_order (cmp_of s t) r 33 && is_equality (eq_of s t) r 34 && is_order (ion_cmp_of s t) r 35 && is_equality (ion_eq_of s t) r 36

-- the distance: an order, seconds and attoseconds
unfoldable pub distance_agrees : List ℕ → Bool
distance_agrees r =
    let a = distance_of (recorded_pair r 0) (recorded_pair r 16) in
    let d = result_unwrap_or a (distant Equal 0) in
    eqb (number_in a) (get_or r 32 0) && eqb (order_byte d.order) (get_or r 33 0)
    && eqb d.seconds (word_at r 34) && eqb d.attoseconds (word_at r 42)

-- what is read: the number, the pair, and how many bytes are taken
unfoldable pub is_reading : Reading → List ℕ → Bool
is_reading a r =
    let taken = (result_unwrap_or a (no_stamp, 0)).1 in
    is_built (result_map_both (λ x. x.0) (λ e. e) a) r 0 && eqb taken (get_or r 17 0)

-- reading: the input stands after the answer
unfoldable pub read_agrees : List ℕ → Bool
read_agrees r = leb 19 (length r) && is_reading (read_value (drop 19 r)) r

-- the same of a value in any form
unfoldable pub padded_read_agrees : List ℕ → Bool
padded_read_agrees r = leb 19 (length r) && is_reading (read_padded_value (drop 19 r)) r

-- reading a text, which stands after the number and the pair
unfoldable pub text_agrees : List ℕ → Bool
text_agrees r = leb 18 (length r) && is_built (read_text_of (drop 18 r)) r 0
