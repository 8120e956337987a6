-- What the builder gives is valid, and valid fields make an accepted pair. Assumes nothing.
use mathlib.Core.Path.{◌≡◌, sym, ap, subst, ◌∙◌}
use Prim.Native.Nat.{ℕ, ◌<◌}
use native.Mathlib.Omega.{arith}
use Rattle.std.specs.Prelude.{Ok}
use Rattle.ion.specs.Calendar.Shift.{IsDateTime}
use Rattle.ion.specs.Pair.Offset.{WithinDay, raw_of, offset_of}
use Rattle.ion.specs.Pair.Word.{InRange, word_of, fields_of}
use Rattle.ion.specs.Pair.Pair.{word_in, packed_pair}
use Rattle.ion.specs.Calls.Build.{precision_number, to_offset, given_time, local_time, packed_of, build_checks, build_pair}
use Rattle.ion.specs.Calls.Accepted.{Staged, Valid, Accepted, time_in}
use Rattle.ion.specs.declared.DateTime.{DateTime}
use Rattle.ion.specs.declared.Fields.{Fields}
use Rattle.ion.specs.declared.BuilderFields.{BuilderFields}
use Rattle.ion.specs.declared.BuilderOffset.{BuilderOffset}
use Rattle.ion.specs.declared.Timestamp.{Timestamp}
use Rattle.ion.proofs.Offsets.{raw_lt, back_within}
use Rattle.packed.proofs.Words.{unpack_pack, pack_unpack, word_lt, word_low}
use Rattle.builder.proofs.Bounds.{precision_le}
use Rattle.builder.proofs.Times.{fields_in_range, build_local}

-- ---- what the builder gives

-- below precision 3 no offset moves the fields
unmoved : (b : BuilderFields) → Staged b → precision_number b.precision < 3 → local_time b b.offset ≡ given_time b
unmoved b s k = ap (local_time b) (s.offset k)

build_valid : (b : BuilderFields) → Staged b → build_checks b ≡ Ok tt
    → Valid (packed_of b (local_time b b.offset) (to_offset b.offset)) b.attoseconds
build_valid b s e =
    let p = build_local b e in
    let i = p.0 in
    let l = p.1 in
    record {
      from_year = l.from_year;
      to_year = l.to_year;
      date = l.time.date;
      hour = omega (arith, l.time.hours);
      minute = omega (arith, l.time.minutes);
      second = i.second;
      precision = precision_le b.precision;
      digits = i.digits;
      offset = raw_lt (to_offset b.offset) i.offset;
      attoseconds = i.attoseconds;
      multiple = s.multiple i.attoseconds;
      no_month = λ k. ap (λ (t : DateTime). t.month) (unmoved b s (omega arith)) ∙ s.month k;
      no_day = λ k. ap (λ (t : DateTime). t.day) (unmoved b s (omega arith)) ∙ s.day k;
      no_hour = λ k. ap (λ (t : DateTime). t.hour) (unmoved b s k) ∙ s.hour k;
      no_minute = λ k. ap (λ (t : DateTime). t.minute) (unmoved b s k) ∙ s.minute k;
      no_offset = λ k. ap (λ (o : BuilderOffset). (raw_of (to_offset o)).0) (s.offset k);
      no_second = s.second;
      no_digits = s.digits;
    }

-- ---- valid fields

-- the date and the time to the minute, and the offset
pub valid_time : {f : Fields} {a : ℕ} → Valid f a → IsDateTime (time_in f)
valid_time v = record { date = v.date; hours = omega (arith, v.hour); minutes = omega (arith, v.minute) }

pub valid_offset : {f : Fields} {a : ℕ} → Valid f a → WithinDay (offset_of f.offset)
valid_offset {f} v = back_within f.offset v.offset

pub valid_in_range : {f : Fields} {a : ℕ} → Valid f a → InRange f
valid_in_range {f} v =
    fields_in_range f (valid_time v) (omega (arith, v.to_year)) v.second v.precision v.digits v.offset

-- ---- accepted pairs

pub valid_accepted : {f : Fields} {a : ℕ} → Valid f a → Accepted (packed_pair (word_of f) a)
valid_accepted {f} {a} v =
    let r = valid_in_range v in
    record { fields = subst (λ (g : Fields). Valid g a) (sym (unpack_pack f r)) v; reserved = word_low f r; fits = word_lt f r }

pub build_accepted : (b : BuilderFields) → Staged b → build_checks b ≡ Ok tt → Accepted (build_pair b)
unfolding build_pair
build_accepted b s e = valid_accepted (build_valid b s e)

-- the word is that of its fields
pub accepted_word : {s : Timestamp} → Accepted s → word_of (fields_of (word_in s)) ≡ word_in s
accepted_word {s} t = pack_unpack (word_in s) t.fits t.reserved
