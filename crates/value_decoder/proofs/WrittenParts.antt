-- The offset and the fields that are written, beside the forms of their numbers: they are in such forms, and what holds of each number's
-- form beside what is written of it holds of all. Assumes nothing.
use mathlib.Core.Bool.{Bool, true}
use mathlib.Core.List.{List, [], ◌∷◌, ◌++◌}
use Prim.Native.Nat.{ℕ, suc, ◌≤◌, ◌<◌}
use native.Mathlib.Omega.{arith}
use lib.IntN.{nat_abs}
use Rattle.std.specs.Prelude.{Option, None, Some}
use Rattle.places.proofs.Below.{Below}
use Rattle.ion.specs.Numbers.VarUInt.{varuint}
use Rattle.ion.specs.Numbers.VarInt.{is_negative, signed, varint}
use Rattle.ion.specs.Pair.Offset.{WithinDay}
use Rattle.ion.specs.Calls.Contents.{in_turn}
use Rattle.ion.specs.Value.Encode.{offset_bytes, varuints}
use Rattle.ion.specs.Value.Forms.{OffsetForm, FieldsForm}
use Rattle.ion.specs.declared.offset.OffsetMinutes.{OffsetMinutes}

module _ (UInt : ℕ → List ℕ → Type 0) (written : (v : ℕ) → v < 16384 → UInt v (varuint v)) where
  pub fields_written : (l : List ℕ) → Below 16384 l → FieldsForm UInt l (varuints l)
  unfolding in_turn
  fields_written [] h = FieldsForm.none
  fields_written (v ∷ l) h = FieldsForm.more (written v (h 0)) (fields_written l (λ i. h (suc i)))

module _ (Int : Bool → ℕ → List ℕ → Type 0) (written : (g : Bool) (m : ℕ) → m ≤ 1439 → Int g m (signed g m)) where
  pub offset_written : (o : Option OffsetMinutes) → WithinDay o → OffsetForm Int o (offset_bytes o)
  unfolding offset_bytes varint
  offset_written None h = written true 0 (omega arith)
  offset_written (Some m) h = written (is_negative m.0) (nat_abs m.0) (omega arith)

module _ (R : List ℕ → List ℕ → Type 0) where
  pub fields_beside : (UInt : ℕ → List ℕ → Type 0) → ((v : ℕ) (s : List ℕ) → UInt v s → R s (varuint v)) → R [] []
      → ((a b c d : List ℕ) → R a c → R b d → R (a ++ b) (c ++ d)) → {l s : List ℕ} → FieldsForm UInt l s → R s (varuints l)
  unfolding in_turn
  fields_beside UInt one none both FieldsForm.none = none
  fields_beside UInt one none both (FieldsForm.more {v = v} {l = l} {s = s} {t = t} f q) =
      both s t (varuint v) (varuints l) (one v s f) (fields_beside UInt one none both q)

  pub offset_beside : (Int : Bool → ℕ → List ℕ → Type 0) → ((g : Bool) (m : ℕ) (s : List ℕ) → Int g m s → R s (signed g m))
      → (o : Option OffsetMinutes) (s : List ℕ) → OffsetForm Int o s → R s (offset_bytes o)
  unfolding offset_bytes varint
  offset_beside Int one None s f = one true 0 s f
  offset_beside Int one (Some m) s f = one (is_negative m.0) (nat_abs m.0) s f
