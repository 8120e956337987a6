-- The parts of a body as its writer puts them, one after another: the offset, the fields, the fraction. Assumes nothing.
use mathlib.Core.Path.{◌≡◌, refl, ap, ap₂, ◌∙◌}
use mathlib.Core.Bool.{true}
use mathlib.Core.List.{List, [], ◌++◌}
use Rattle.std.specs.Prelude.{Option}
use Prim.Native.Nat.{ℕ, zero, suc, ◌+◌, ◌/◌, ◌^◌, ◌≤◌, ◌<◌}
use native.Mathlib.Omega.{arith}
use lib.IntN.{pos, neg_ℤ, ◌-ℤ◌, +ℤ_idl}
use lib.ListN.{length, take}
use mir.Syntax.{w64}
use mir.Val.{to_z, of_z}
use Rattle.std.proofs.lemmas.Int.{to_z-of_z, to_z_pos}
use Rattle.integers.proofs.Parts.{minus_fits}
use Rattle.ion.specs.Numbers.VarInt.{signed, varint}
use Rattle.ion.specs.Numbers.Int.{int}
use Rattle.ion.specs.Numbers.Decimal.{decimal_bytes}
use Rattle.ion.specs.Pair.Fraction.{scale}
use Rattle.ion.specs.Pair.Offset.{offset_of}
use Rattle.ion.specs.Pair.Pair.{word_in}
use Rattle.ion.specs.Pair.Word.{fields_of}
use Rattle.ion.specs.Calls.Output.{Run}
use Rattle.ion.specs.Calls.Accepted.{Accepted}
use Rattle.ion.specs.Calls.Utc.{utc_fields}
use Rattle.ion.specs.Value.Encode.{offset_bytes, varuints, field_list, field_count, fraction_bytes, body_from, body_of}
use Rattle.ion.specs.declared.Fields.{Fields}
use Rattle.ion.specs.declared.offset.OffsetMinutes.{OffsetMinutes}
use Rattle.ion.specs.declared.Timestamp.{Timestamp}
use Rattle.output.proofs.Runs.{run_none, run_two, Room, room_next}
use Rattle.fraction.proofs.Scales.{scale_pos}
use Rattle.binary.proofs.Decimals.{decimal_fraction}
use Rattle.timestamp.proofs.UtcForm.{utc_is}

-- ---- the fraction, whose exponent is minus its number of digits

pub no_fraction : (d c : ℕ) → d ≡ 0 → fraction_bytes d c ≡ []
unfolding fraction_bytes
no_fraction d c e = rw e

fraction_some : (d c : ℕ) → (d ≡ 0 → ⊥) → decimal_bytes c (pos 0 -ℤ pos d) ≡ fraction_bytes d c
unfolding fraction_bytes
fraction_some zero c h = absurd (h refl)
fraction_some (suc d) c h = ap (decimal_bytes c) (+ℤ_idl (neg_ℤ (pos (suc d))))

-- as the code has its exponent
pub fraction_cast : (d c : ℕ) → d < 2 ^ 32 → (d ≡ 0 → ⊥) → decimal_bytes c (to_z w64 (of_z w64 (pos 0 -ℤ to_z w64 d))) ≡ fraction_bytes d c
fraction_cast d c l h =
    let f = minus_fits w64 d (omega arith) in
    rw (to_z_pos w64 d (omega arith), to_z-of_z w64 (pos 0 -ℤ pos d) f) (fraction_some d c h)

pub fraction_bytes_lem : (d c : ℕ) → fraction_bytes (suc d) c ≡ signed true (suc d) ++ int c
unfolding fraction_bytes varint
fraction_bytes_lem d c = decimal_fraction c d

-- ---- the body of an accepted timestamp

-- its offset, the fields that its precision has, and its fraction
body_parts : (s : Timestamp) → Accepted s → {f u : Fields} → f ≡ fields_of (word_in s) → u ≡ utc_fields f
    → body_of s
    ≡ offset_bytes (offset_of f.offset)
    ++ (varuints (take (field_count f.precision) (field_list u)) ++ fraction_bytes f.digits (s.attoseconds / scale f.digits))
unfolding body_of body_from
body_parts s p e k =
    let g = fields_of (word_in s) in
    let i = utc_is p.fields in
    let w = k ∙ ap utc_fields e in
    let o = offset_bytes (offset_of g.offset) in
    let l = field_list (utc_fields g) in
    let c = s.attoseconds / scale g.digits in
    rw (w, e) (ap₂ (λ (n d : ℕ). o ++ (varuints (take (field_count n) l) ++ fraction_bytes d c)) i.precision i.digits)

-- have room one after another
pub body_room : {s : Timestamp} {d : List ℕ} {at : ℕ} → Accepted s → at + length (body_of s) ≤ length d
    → {f u : Fields} {o : Option OffsetMinutes} {n : ℕ} → f ≡ fields_of (word_in s) → u ≡ utc_fields f → o ≡ offset_of f.offset
    → n ≡ field_count f.precision
    → Room d at (offset_bytes o) (varuints (take n (field_list u)) ++ fraction_bytes f.digits (s.attoseconds / scale f.digits)) (body_of s)
body_room {s} p h e k g m = record { is = rw (g, m) (body_parts s p e k); room = h }

-- of three parts the last two, after the first
pub room_after : {d e s t u v : List ℕ} {at r : ℕ} → Room d at s (t ++ u) v → Run d at s e r → length e ≡ length d → Room e r t u (t ++ u)
room_after r g h = record { is = refl; room = omega (arith, room_next r g) }

-- ---- lists of laws, for the code

pub ruleset fractions = (scale_pos, run_none, no_fraction, fraction_cast)
