-- Laws of two's complement, each over the width, and of the sums and differences of signed numbers.
-- Assumes nothing.
use Prim.Native.Nat.{ℕ, zero, suc, ◌+◌, ◌-◌, ◌^◌, ◌≤◌, ◌<◌}
use mathlib.Core.Path.{◌≡◌, refl, sym, ap, subst, ◌∙◌}
use mathlib.Core.Bool.{Bool, true, false, cond}
use native.Mathlib.Omega.{arith}
use native.Mathlib.Nat.{lt_of_lt_of_le}
use native.Mathlib.Decide.{dec_lt}
use borrow.Author.Tests.{ltb-true, lt-ltb, le-ltb}
use lib.Dec.{T}
use mathlib.Core.List.{List}
use lib.ListN.{length, get_or}
use Rattle.wire.specs.Wire.{bytes, read_le, splice}
use Rattle.wire.proofs.Laws.{read_same, read_lt}
use lib.IntN.{ℤ, pos, negsuc, nat_abs, sub_ℕ, ◌+ℤ◌, ◌-ℤ◌}
use lib.Signed.{mag, lt_z, non_neg}
use mir.Syntax.{Width}
use mir.Val.{Fits, SFits, bits, hbits, sel, to_z, of_z}
use mir.ValLaws.{half_full}
use mir.Facts.{to_z-of_z, of_z-to_z, Fits-of_z}

-- A value in the code is the bits of a number. One equation to the exact number is carried along, and these four use it.

-- What equals a number that fits, fits.
pub fit : {w : Width} {x z : ℤ} → x ≡ z → SFits w z → SFits w x
fit {w} e f = subst (SFits w) (sym e) f

-- The bits of what equals a number that fits stand for that number.
pub kept : {w : Width} {x z : ℤ} → x ≡ z → SFits w z → to_z w (of_z w x) ≡ z
kept {w} e f = ap (λ (y : ℤ). to_z w (of_z w y)) e ∙ to_z-of_z f

-- What a cast to an unsigned type asks.
pub unsigned : {w : Width} {x : ℤ} (n : ℕ) → x ≡ pos n → n < 2 ^ bits w → T (non_neg x) × Fits w (nat_abs x)
unsigned {w} n e h = subst (λ (y : ℤ). T (non_neg y) × Fits w (nat_abs y)) (sym e) (tt, record { fits = h })

-- A signed result that is handed on.
pub returned : (w : Width) {x z : ℤ} → mag x < 2 ^ hbits w → x ≡ z → to_z w (of_z w x) ≡ z
returned w h e = to_z-of_z (record { sfits = h }) ∙ e

-- The difference of two numbers of ℕ, where it is below 0 and where it is not.
pub sub_below : (a b : ℕ) → a < b → sub_ℕ a b ≡ negsuc (b - suc a)
sub_below a b h = ap (λ (t : Bool). cond t (negsuc (b - suc a)) (pos (a - b))) (lt-ltb a b h)

pub sub_above : (a b : ℕ) → b ≤ a → sub_ℕ a b ≡ pos (a - b)
sub_above a b h = ap (λ (t : Bool). cond t (negsuc (b - suc a)) (pos (a - b))) (le-ltb a b h)

pub diff : (a b : ℕ) → pos a -ℤ pos b ≡ sub_ℕ a b
diff a zero = let e : a + 0 ≡ a - 0 = omega arith in ap pos e ∙ sym (sub_above a 0 (omega arith))
diff a (suc b) = refl

-- A difference is no larger than the larger of its two numbers.
pub mag_sub : (a b m : ℕ) → a ≤ m → b ≤ suc m → mag (sub_ℕ a b) ≤ m
mag_sub a b m p q =
    elim (dec_lt a b) [
      | yes h ↦ subst (λ (z : ℤ). mag z ≤ m) (sym (sub_below a b h)) (omega arith)
      | no h ↦ subst (λ (z : ℤ). mag z ≤ m) (sym (sub_above a b (omega arith))) (omega arith)
    ]

pub mag-add : (x y : ℤ) {a b : ℕ} → mag x < a → mag y < b → mag (x +ℤ y) < a + b
mag-add (pos m) (pos n) p q = omega arith
mag-add (pos m) (negsuc n) {a} {b} p q = let h = mag_sub m (suc n) (m + n) (omega arith) (omega arith) in omega arith
mag-add (negsuc m) (pos n) {a} {b} p q = let h = mag_sub n (suc m) (m + n) (omega arith) (omega arith) in omega arith
mag-add (negsuc m) (negsuc n) p q = omega arith

-- A sum fits where the bounds of its two numbers together do.
pub sfits_add : (w : Width) (x y : ℤ) {a b : ℕ} → mag x < a → mag y < b → a + b ≤ 2 ^ hbits w → SFits w (x +ℤ y)
sfits_add w x y p q h = let k = mag-add x y p q in record { sfits = omega arith }

-- A difference fits where each of its two numbers does.
pub sfits_diff : (w : Width) (a b : ℕ) {m : ℕ} → a < m → b ≤ m → m ≤ 2 ^ hbits w → SFits w (pos a -ℤ pos b)
sfits_diff w a b {m} p q h =
    let k = mag_sub a b (m - 1) (omega arith) (omega arith) in
    fit (diff a b) (record { sfits = omega arith })

-- A word of the width w whose top bit is set stands for itself minus 2 ^ bits w.
pub to_z_high : (w : Width) (n : ℕ) → 2 ^ hbits w ≤ n → to_z w n ≡ negsuc (2 ^ bits w - suc n)
to_z_high w n h = ap (λ (t : Bool). sel t (pos n) (negsuc (2 ^ bits w - suc n))) (le-ltb n (2 ^ hbits w) h)

-- The word of a number below 0 is the number plus 2 ^ bits w; of any other it is the number itself.
pub word_below : (w : Width) (z : ℤ) → SFits w z → lt_z z (pos 0) ≡ true → z +ℤ pos (2 ^ bits w) ≡ pos (of_z w z)
word_below w (pos n) f h = let k = ltb-true n 0 h in absurd (omega arith)
word_below w (negsuc n) f h = sub_above (2 ^ bits w) (suc n) (half_full w f.sfits)

pub word_above : (w : Width) (z : ℤ) → lt_z z (pos 0) ≡ false → z ≡ pos (of_z w z)
word_above w (pos n) h = refl
word_above w (negsuc n) h = absurd (subst T h tt)

-- Signed numbers and words are the same, both ways.
pub signed_word : {w : Width} {z : ℤ} → SFits w z → to_z w (of_z w z) ≡ z
signed_word = to_z-of_z

pub word_signed : (w : Width) {n : ℕ} → n < 2 ^ bits w → of_z w (to_z w n) ≡ n
word_signed w h = of_z-to_z {w = w} (record { fits = h })

-- A signed number that was written is read back.
pub read_signed : (w : Width) (n : ℕ) (s : List ℕ) (at : ℕ) {z : ℤ} → 2 ^ bits w ≤ 256 ^ n → at + n ≤ length s → SFits w z → to_z w (read_le n (splice s at (bytes n (of_z w z))) at) ≡ z
read_signed w n s at {z} b h f =
    ap (to_z w) (read_same n s at (of_z w z) h (lt_of_lt_of_le (Fits-of_z f).fits b)) ∙ to_z-of_z f

-- What is read as a signed number and written again changes no byte.
pub bytes_signed : (w : Width) (n : ℕ) (s : List ℕ) (at : ℕ) → 256 ^ n ≤ 2 ^ bits w → ((i : ℕ) → get_or s i 0 < 256) → at + n ≤ length s → bytes n (of_z w (to_z w (read_le n s at))) ≡ bytes n (read_le n s at)
bytes_signed w n s at b small h = ap (bytes n) (word_signed w (lt_of_lt_of_le (read_lt s small n at h) b))

-- The size of a number below 0.
pub negated : (z : ℤ) → lt_z z (pos 0) ≡ true → pos 0 -ℤ z ≡ pos (nat_abs z)
negated (pos n) h = let k = ltb-true n 0 h in absurd (omega arith)
negated (negsuc n) h = let e : 0 + suc n ≡ suc n = omega arith in ap pos e
