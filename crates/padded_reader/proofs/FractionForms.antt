-- Every form of a fraction is read as its digits and its coefficient, and whatever is so read is one. Assumes nothing.
use mathlib.Core.Path.{◌≡◌, refl, sym, ap, ap₂, subst, ◌∙◌}
use mathlib.Core.Bool.{Bool, true, false}
use mathlib.Core.List.{List, [], ◌∷◌, ◌++◌}
use Prim.Native.Nat.{ℕ, zero, suc, ◌^◌, ◌≤◌, ◌<◌}
use native.Mathlib.Nat.{pow-le-pow_right}
use native.Mathlib.Omega.{arith}
use borrow.Author.Tests.{le-leb, lt-ltb, eq-eqb, ne_eqb}
use lib.Dec.{lit<}
use lib.IntN.{ℤ, pos, negsuc}
use lib.ListN.{length, take, drop, take-append-drop, length-append}
use lib.Seq.{drop-append_seam}
use Rattle.std.specs.Prelude.{Option, Some, Result, Ok, Err, option_and_then}
use Rattle.places.proofs.Below.{Below, below_drop}
use Rattle.ion.specs.Numbers.VarInt.{signed_magnitude}
use Rattle.ion.specs.Numbers.PaddedNumbers.{unlimited, read_padded_var_int, padded_int_sign, padded_int_magnitude}
use Rattle.ion.specs.Value.ReadPaddedValue.{exponent_of, decimal_with, decimal_from, decode_padded_fraction}
use Rattle.ion.specs.Value.Forms.{VarIntForm, IntForm, FractionForm}
use Rattle.ion.specs.declared.Decimal.{Decimal}
use Rattle.ion.specs.declared.number.NumberError.{NumberError}
use Rattle.ion.specs.declared.number.SignedMagnitude.{SignedMagnitude}
use Rattle.value_decoder.proofs.Exact.{found_one}
use Rattle.padded_reader.specs.Fractions.{coefficient_units, padded_fraction}
use Rattle.padded_reader.proofs.NumberForms.{int_length, int_read}
use Rattle.padded_reader.proofs.NumbersRead.{int_is, coefficient_is}
use Rattle.padded_reader.proofs.IntForms.{coefficient}
use Rattle.padded_reader.proofs.BuiltParts.{IsUnits, Units, units_are}

-- ---- the digits and the coefficient of decimals

abbrev decimal_as : Bool → ℕ → ℤ → Decimal
decimal_as h c e = record { negative = h; coefficient = c; exponent = e }

-- a zero of either sign with an exponent of 0 or more
zero_units : (h : Bool) (n : ℕ) → coefficient_units (decimal_as h 0 (pos n)) ≡ Some (0, 0)
zero_units true n = refl
zero_units false n = refl

-- a coefficient that is not below 0, with digits
some_units : (h : Bool) (c d : ℕ) → (h ≡ true → c ≡ 0) → suc d ≤ 18 → c < 2 ^ 64
    → coefficient_units (decimal_as h c (negsuc d)) ≡ Some (suc d, c)
some_units false c d z l k = rw (ne_eqb (suc d) 0 (λ e. omega arith), le-leb (suc d) 18 l, lt-ltb c (2 ^ 64) k)
some_units true c d z l k = rw (ne_eqb (suc d) 0 (λ e. omega arith), le-leb (suc d) 18 l, lt-ltb c (2 ^ 64) k, eq-eqb c 0 (z refl))

-- ---- a form is read

decoded : (g : Bool) (m : ℕ) (s t : List ℕ) → VarIntForm g m s
    → decode_padded_fraction (s ++ t) ≡ Some (decimal_with (exponent_of g m) t)
unfolding decode_padded_fraction
decoded g m s t f = go (s ++ t) refl (omega (arith, length-append s t, int_length f, f.some))
  where
    most : m ≤ unlimited
    most = omega (arith, f.holds, pow-le-pow_right {n = 128} (lit< tt) f.most)

    go : (x : List ℕ) → s ++ t ≡ x → 0 < length x → decode_padded_fraction x ≡ Some (decimal_with (exponent_of g m) t)
    go [] e p = absurd (omega arith)
    go (b ∷ x) e p =
        let y = ap (read_padded_var_int unlimited) (sym e) ∙ int_read unlimited g m s t most f in
        let d : drop (length s) (b ∷ x) ≡ t = ap (drop (length s)) (sym e) ∙ drop-append_seam s t in
        ap (decimal_from (b ∷ x)) y ∙ ap (λ (w : List ℕ). Some (decimal_with (exponent_of g m) w)) d

read_as : {h : Bool} {c : ℕ} (g : Bool) (m : ℕ) (s t : List ℕ) → VarIntForm g m s → IntForm h c t
    → padded_fraction (s ++ t) ≡ coefficient_units (decimal_as h c (exponent_of g m))
unfolding padded_fraction
read_as {h} {c} g m s t f q =
    let k = coefficient q in
    ap (option_and_then coefficient_units) (decoded g m s t f)
    ∙ ap₂ (λ (n : Bool) (v : ℕ). coefficient_units (decimal_as n v (exponent_of g m))) k.sign k.magnitude

pub fraction_back : (d c : ℕ) (s : List ℕ) → d ≤ 18 → c < 2 ^ 64 → FractionForm d c s → padded_fraction s ≡ Some (d, c)
unfolding padded_fraction decode_padded_fraction padded_int_sign padded_int_magnitude
fraction_back d c s l k FractionForm.none = refl
fraction_back d c s l k (FractionForm.ignored {g = g} {h = h} {m = m} {s = u} {t = t} z f q) =
    read_as g m u t f q ∙ at g m z
  where
    at : (g : Bool) (m : ℕ) → (g ≡ true → m ≡ 0) → coefficient_units (decimal_as h 0 (exponent_of g m)) ≡ Some (0, 0)
    at false m z = zero_units h m
    at true zero z = zero_units h 0
    at true (suc m) z = absurd (let e = z refl in omega arith)
fraction_back d c s l k (FractionForm.digits {h = h} {d = n} {c = e} {s = u} {t = t} z f q) =
    read_as true (suc n) u t f q ∙ some_units h c n z l k

-- ---- what is read is in a form

pub record FractionIs (s : List ℕ) (d c : ℕ) : Type 0 where
  pub form : FractionForm d c s
  pub few : d ≤ 18
  pub low : c < 2 ^ 64
  pub none : d ≡ 0 → c ≡ 0

-- of the bytes u of an exponent and t of a coefficient
formed : (g : Bool) (m : ℕ) (u t : List ℕ) (d c : ℕ) → VarIntForm g m u → Below 256 t → IsUnits (decimal_with (exponent_of g m) t) d c
    → FractionForm d c (u ++ t)
formed false m u t d c f b i =
    let z : padded_int_magnitude t ≡ 0 = i.coefficient ∙ i.none (sym i.digits) in
    let q : IntForm (padded_int_sign t) 0 t = rw z at (coefficient_is t b) in
    rw (← i.digits, i.none (sym i.digits)) (FractionForm.ignored {g = false} {h = padded_int_sign t} {m = m} (λ e. absurd cc) f q)
formed true zero u t d c f b i =
    let z : padded_int_magnitude t ≡ 0 = i.coefficient ∙ i.none (sym i.digits) in
    let q : IntForm (padded_int_sign t) 0 t = rw z at (coefficient_is t b) in
    rw (← i.digits, i.none (sym i.digits)) (FractionForm.ignored {g = true} {h = padded_int_sign t} {m = 0} (λ e. refl) f q)
formed true (suc m) u t d c f b i =
    let q : IntForm (padded_int_sign t) c t = rw i.coefficient at (coefficient_is t b) in
    rw (← i.digits) (FractionForm.digits {h = padded_int_sign t} (λ e. sym i.coefficient ∙ i.above e) f q)

pub fraction_is : (s : List ℕ) (d c : ℕ) → Below 256 s → padded_fraction s ≡ Some (d, c) → FractionIs s d c
unfolding padded_fraction decode_padded_fraction padded_int_sign padded_int_magnitude
fraction_is [] d c h e =
    found_one (λ (p : ℕ × ℕ). FractionIs [] p.0 p.1) e
    (record { form = FractionForm.none; few = omega arith; low = lit< tt; none = λ q. refl })
fraction_is (b ∷ s) d c h e = first (read_padded_var_int unlimited (b ∷ s)) refl e
  where
    second : (g : Bool) (m n : ℕ) → read_padded_var_int unlimited (b ∷ s) ≡ Ok (signed_magnitude g m, n)
        → (o : Option (ℕ × ℕ)) → Units (decimal_with (exponent_of g m) (drop n (b ∷ s))) o → o ≡ Some (d, c) → FractionIs (b ∷ s) d c
    second g m n f o (Units.some x y i) e =
        let q = int_is unlimited (b ∷ s) g m n h f in
        let u = take n (b ∷ s) in
        let t = drop n (b ∷ s) in
        let w = formed g m u t x y q.form (below_drop 256 n (b ∷ s) h) i in
        found_one (λ (p : ℕ × ℕ). FractionIs (b ∷ s) p.0 p.1) e
        (record {
          form = subst (FractionForm x y) (take-append-drop n (b ∷ s)) w;
          few = i.few;
          low = i.low;
          none = i.none;
        })
    second g m n f o (Units.fine k) e = absurd cc
    second g m n f o (Units.large k) e = absurd cc

    first : (x : Result (SignedMagnitude × ℕ) NumberError) → read_padded_var_int unlimited (b ∷ s) ≡ x
        → option_and_then coefficient_units (decimal_from (b ∷ s) x) ≡ Some (d, c) → FractionIs (b ∷ s) d c
    first (Ok x) f e =
        second x.0.negative x.0.magnitude x.1 f _ (units_are (decimal_with (exponent_of x.0.negative x.0.magnitude) (drop x.1 (b ∷ s)))) e
    first (Err c) f e = absurd cc
