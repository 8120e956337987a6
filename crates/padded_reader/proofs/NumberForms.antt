-- Every form of a VarUInt or a VarInt is read back as the number, whatever follows it, and none is shorter than the shortest. Assumes
-- nothing.
use mathlib.Core.Path.{◌≡◌, refl, sym, ap, ◌∙◌}
use mathlib.Core.Bool.{Bool}
use mathlib.Core.List.{List, ◌++◌}
use Prim.Native.Nat.{ℕ, zero, suc, ◌*◌, ◌^◌, ◌≤◌, ◌<◌}
use native.Mathlib.Omega.{arith}
use borrow.Author.Tests.{le-ltb}
use lib.ListN.{length}
use Rattle.std.specs.Prelude.{Ok}
use Rattle.ion.specs.Numbers.VarUInt.{groups, group_count, scan_from}
use Rattle.ion.specs.Numbers.VarInt.{signed_count, signed_magnitude}
use Rattle.ion.specs.Numbers.PaddedNumbers.{longest, with_sign, read_padded_var_uint, read_padded_var_int}
use Rattle.ion.specs.Value.Forms.{VarUIntForm, VarIntForm}
use Rattle.binary.proofs.Groups.{length_groups, scan_groups}
use Rattle.binary.proofs.VarUInts.{count_shortest}
use Rattle.binary.proofs.VarInts.{length_sign, sign_read, signed_shortest}

-- ---- VarUInt

pub uint_length : {m : ℕ} {s : List ℕ} → (f : VarUIntForm m s) → length s ≡ f.width
uint_length {m} {s} f = ap length f.bytes ∙ length_groups f.width m

pub uint_read : (l m : ℕ) (s r : List ℕ) → m ≤ l → VarUIntForm m s → read_padded_var_uint l (s ++ r) ≡ Ok (m, length s)
unfolding read_padded_var_uint
uint_read l m s r h f =
    ap (λ (x : List ℕ). scan_from l longest 0 0 (x ++ r)) f.bytes
    ∙ scan_groups l longest f.width m r f.some f.most f.holds
    ∙ (rw (le-ltb l m h))
    ∙ ap (λ (k : ℕ). Ok (m, k)) (sym (uint_length f))

pub uint_shortest : {m : ℕ} {s : List ℕ} → VarUIntForm m s → group_count m ≤ length s
uint_shortest {m} {s} f = go f.width f.some f.holds (uint_length f)
  where
    go : (n : ℕ) → 0 < n → m < 128 ^ n → length s ≡ n → group_count m ≤ length s
    go zero z h e = absurd (omega arith)
    go (suc n) z h e = omega (arith, count_shortest n m h)

-- ---- VarInt

pub int_length : {g : Bool} {m : ℕ} {s : List ℕ} → (f : VarIntForm g m s) → length s ≡ f.width
int_length {g} {m} {s} f = ap length f.bytes ∙ length_sign g (groups f.width m) ∙ length_groups f.width m

pub int_read : (l : ℕ) (g : Bool) (m : ℕ) (s r : List ℕ) → m ≤ l → VarIntForm g m s
    → read_padded_var_int l (s ++ r) ≡ Ok (signed_magnitude g m, length s)
unfolding read_padded_var_int
int_read l g m s r h f =
    let n = f.width in
    let read_with = λ (b : Bool) (x : List ℕ). with_sign b (scan_from l longest 0 0 x) in
    let found : scan_from l longest 0 0 (groups n m ++ r) ≡ Ok (m, n) =
    scan_groups l longest n m r f.some f.most (omega (arith, f.holds)) ∙ rw (le-ltb l m h) in
    ap (λ (x : List ℕ). read_padded_var_int l (x ++ r)) f.bytes
    ∙ sign_read (read_padded_var_int l) read_with (λ b t. refl) g n m r f.some f.holds
    ∙ ap (with_sign g) found
    ∙ ap (λ (k : ℕ). Ok (signed_magnitude g m, k)) (sym (int_length f))

pub int_shortest : {g : Bool} {m : ℕ} {s : List ℕ} → VarIntForm g m s → signed_count m ≤ length s
int_shortest {g} {m} {s} f = go f.width f.some f.holds (int_length f)
  where
    go : (n : ℕ) → 0 < n → 2 * m < 128 ^ n → length s ≡ n → signed_count m ≤ length s
    go zero z h e = absurd (omega arith)
    go (suc n) z h e = omega (arith, signed_shortest n m h)
