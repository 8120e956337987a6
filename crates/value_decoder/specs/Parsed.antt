-- What the decoder of fields answers, as the definition has it. Assumes nothing.
use Rattle.std.specs.Prelude.{◌≡◌, List, ℕ, ◌≤◌, ◌<◌, get_or, length, take, drop, Option, None, Some, MatchOption}
use Rattle.ion.specs.Value.Decode.{Numbers, decode_fields, filled}
use Rattle.value_decoder.specs.declared.decoder.FieldsRead.{FieldsRead}

-- r tells the fields and what follows them in s, all that is decoded: nothing follows fewer than six; those that are not there have
-- their first values
pub record FieldsAre (s : List ℕ) (q : Option (List ℕ × List ℕ)) (r : FieldsRead) : Type 0 where
  pub decoded : q ≡ Some (take r.count r.values, drop r.next s)
  pub values : r.values ≡ filled (take r.count r.values)
  pub most : r.count ≤ 6
  pub fewer : r.count < 6 → length s ≤ r.next
  pub small : (i : ℕ) → get_or (take r.count r.values) i 0 < 16384

-- what is decoded of up to six fields in s from index at on
abbrev pub FieldsDecoded : Numbers → List ℕ → ℕ → Option FieldsRead → Type 0
FieldsDecoded n s at r =
    let q = decode_fields n 6 (drop at s) in
    MatchOption r (q ≡ None) (FieldsAre s q)
