-- Laws of printing: how long a number is, how texts written one after another are one text, and what is left of a text in a loop.
-- Assumes nothing.
use mathlib.Core.Bool.{true, false}
use mathlib.Core.Path.{◌≡◌, refl, sym, ap, subst, ◌∙◌}
use mathlib.Core.List.{List, [], ◌∷◌, ◌++◌, append_assoc}
use Prim.Native.Nat.{ℕ, zero, suc, ◌+◌, ◌-◌, ◌/◌, ◌%◌, ◌^◌, ◌≤◌, ◌<◌}
use native.Mathlib.Nat.{pow-suc, pow-le-pow_right, div-lt_iff_lt-mul, le-div_iff_mul-le}
use native.Mathlib.Decide.{dec_lt}
use native.Mathlib.Omega.{arith}
use borrow.Author.Tests.{le-leb, lt-leb, ltb-true}
use lib.Dec.{T}
use lib.IntN.{ℤ, pos, negsuc, nat_abs}
use lib.Signed.{lt_z}
use lib.ListN.{length, take, drop, set, length-append}
use lib.Seq.{set_split, drop_at, length-take-le, take-set-le}
use Rattle.wire.specs.Wire.{splice}
use Rattle.wire.proofs.Laws.{splice-none, splice_two}
use Rattle.print.specs.Ascii.{ascii}
use Rattle.print.specs.declared.Text.{Text}
use Rattle.print.specs.Print.{digits, width_to, width, decimal, signed_decimal, Wrote, HasRoom, Printed}

-- ---- how long a number is

width_small : (n x : ℕ) → x ≤ 9 → width_to n x ≡ 1
unfolding width_to
width_small zero x h = refl
width_small (suc n) x h = rw (le-leb x 9 h) refl

-- To count past x changes nothing.
width-enough : (n m x : ℕ) → x ≤ n → x ≤ m → width_to n x ≡ width_to m x
unfolding width_to
width-enough zero m x h g = sym (width_small m x (omega arith))
width-enough (suc n) zero x h g = width_small (suc n) x (omega arith)
width-enough (suc n) (suc m) x h g =
    elim (dec_lt 9 x) [
      | yes l ↦ rw (lt-leb x 9 l, width-enough n m (x / 10) (omega arith) (omega arith)) refl
      | no l ↦ rw (le-leb x 9 (omega arith)) refl
    ]

pub width_one : (x : ℕ) → x ≤ 9 → width x ≡ 1
unfolding width
width_one x h = width_small x x h

pub width-more : (x : ℕ) → 9 < x → width x ≡ suc (width (x / 10))
unfolding width width_to
width-more zero h = absurd (omega arith)
width-more (suc x) h = rw (lt-leb (suc x) 9 h, width-enough x (suc x / 10) (suc x / 10) (omega arith) (omega arith)) refl

pub width_short : (k x : ℕ) → x < 10 ^ suc k → width x ≤ suc k
width_short zero x h = omega (arith, width_one x (omega arith))
width_short (suc k) x h =
    elim (dec_lt 9 x) [
      | yes l ↦ omega (arith, width-more x l, width_short k (x / 10) ((div-lt_iff_lt-mul {k = 10} (omega arith)).1 (rw pow-suc at h)))
      | no l ↦ omega (arith, width_one x (omega arith))
    ]

powers : (i j : ℕ) → i ≤ j → 10 ^ i ≤ 10 ^ j
powers i j = pow-le-pow_right (omega arith)

pub width_some : (x : ℕ) → 1 ≤ width x
width_some x =
    elim (dec_lt 9 x) [
      | yes l ↦ omega (arith, width-more x l)
      | no l ↦ omega (arith, width_one x (omega arith))
    ]

-- A number that reaches 10 ^ n has more than n digits.
pub width-past : (n x : ℕ) → 10 ^ n ≤ x → n < width x
width-past zero x h = width_some x
width-past (suc n) x h =
    let g : 10 ^ n ≤ x / 10 = (le-div_iff_mul-le {k = 10} (omega arith)).1 (rw pow-suc at h) in
    let p = powers 0 n (omega arith) in
    omega (arith, width-more x (omega (arith, p, g)), width-past n (x / 10) g)

pub length_digits : (n x : ℕ) → length (digits n x) ≡ n
unfolding digits
length_digits zero x = refl
length_digits (suc n) x = length-append (digits n (x / 10)) ((48 + x % 10) ∷ []) ∙ omega (arith, length_digits n (x / 10))

pub length-decimal : (x : ℕ) → length (decimal x) ≡ width x
unfolding decimal
length-decimal x = length_digits (width x) x

-- A number below 10 ^ suc k has at most suc k digits.
pub decimal_short : (k x : ℕ) → x < 10 ^ suc k → length (decimal x) ≤ suc k
decimal_short k x h = omega (arith, length-decimal x, width_short k x h)

-- One place more for a minus sign.
pub signed_short : (k : ℕ) (z : ℤ) → nat_abs z < 10 ^ suc k → length (signed_decimal z) ≤ suc (suc k)
unfolding signed_decimal
signed_short k (pos n) h = omega (arith, decimal_short k n h)
signed_short k (negsuc n) h = omega (arith, decimal_short k (suc n) h)

-- ---- the text of a number z, which the code knows as y, with size n

pub plain_text : {n : ℕ} {y : ℤ} (z : ℤ) → y ≡ z → lt_z y (pos 0) ≡ false → n ≡ nat_abs y → signed_decimal z ≡ decimal n
unfolding signed_decimal
plain_text (pos n) e h m = ap decimal (sym (m ∙ ap nat_abs e))
plain_text (negsuc n) e h m = absurd (subst T (ap (λ (x : ℤ). lt_z x (pos 0)) (sym e) ∙ h) tt)

pub minus_text : {n : ℕ} {y : ℤ} (z : ℤ) → y ≡ z → lt_z y (pos 0) ≡ true → n ≡ nat_abs y → signed_decimal z ≡ ascii "-" ++ decimal n
unfolding signed_decimal
minus_text (pos n) e h m = absurd (let k = ltb-true n 0 (ap (λ (x : ℤ). lt_z x (pos 0)) (sym e) ∙ h) in omega arith)
minus_text (negsuc n) e h m = ap (λ (k : ℕ). ascii "-" ++ decimal k) (sym (m ∙ ap nat_abs e))

-- ---- one digit before those that are written

before-set : (s : List ℕ) (at b : ℕ) (p : List ℕ) → at + length p < length s → splice (set s (at + length p) b) at p ≡ splice s at (p ++ (b ∷ []))
unfolding splice
before-set s at b p h =
    let t : take at (set s (at + length p) b) ≡ take at s = take-set-le at s (at + length p) b (omega arith) in
    let n : length (take (at + length p) s) ≡ at + length p = length-take-le (at + length p) s (omega arith) in
    let d : drop (at + length p) (set s (at + length p) b) ≡ b ∷ drop (suc (at + length p)) s =
    ap (drop (at + length p)) (set_split s (at + length p) b h)
    ∙ drop_at (take (at + length p) s) (b ∷ drop (suc (at + length p)) s) (at + length p) n in
    let e : at + (length p + 1) ≡ suc (at + length p) = omega arith in
    rw (t, d, length-append p (b ∷ []), e) (simp append_assoc)

-- A turn of the loop that writes digits from the last to the first.
pub digits_more : (s : List ℕ) (at i x : ℕ) → 0 < i → at + i ≤ length s
    → splice (set s (at + (i - 1)) (48 + x % 10)) at (digits (i - 1) (x / 10)) ≡ splice s at (digits i x)
unfolding digits
digits_more s at zero x h g = absurd (omega arith)
digits_more s at (suc i) x h g =
    let l = length_digits i (x / 10) in
    let q : suc i - 1 ≡ i = omega arith in
    rw q (ap (λ (k : ℕ). splice (set s (at + k) (48 + x % 10)) at (digits i (x / 10))) (sym l)
    ∙ before-set s at (48 + x % 10) (digits i (x / 10)) (omega arith))

pub digits-none : (s : List ℕ) (at i x : ℕ) → i ≡ 0 → splice s at (digits i x) ≡ s
unfolding digits
digits-none s at zero x h = splice-none s at
digits-none s at (suc i) x h = absurd (omega arith)

-- ---- texts one after another

wrote_none : (s : List ℕ) (at : ℕ) → Wrote s at s at []
wrote_none s at = record { end = omega arith; bytes = sym (splice-none s at) }

-- Two texts written side by side are one.
both : {s s₁ s₂ : List ℕ} {at r₁ r₂ : ℕ} {a b : List ℕ} → at ≤ length s → Wrote s₁ r₁ s at a → Wrote s₂ r₂ s₁ r₁ b → Wrote s₂ r₂ s at (a ++ b)
both {s} {s₁} {s₂} {at} {r₁} {r₂} {a} {b} h p q =
    record {
      end = omega (arith, length-append a b, p.end, q.end);
      bytes = q.bytes ∙ (λ i. splice (p.bytes i) (p.end i) b) ∙ splice_two s at a b h;
    }

-- ---- what is printed into a buffer

-- Nothing more.
pub nothing : (t : Text) → HasRoom t 0 → Printed t t []
nothing t h = record { same = refl; wrote = wrote_none t.out.now t.end; size = refl; room = h }

-- Two texts printed one after the other are one.
pub more : {t u v : Text} {a b : List ℕ} → Printed u t a → Printed v u b → Printed v t (a ++ b)
more p q =
    record {
      same = q.same ∙ p.same;
      wrote = both (omega (arith, p.wrote.end, p.size, p.room)) p.wrote q.wrote;
      size = q.size ∙ p.size;
      room = q.room;
    }

pub printed_decimal : {t u : Text} {n : ℕ} (x : ℕ) → n ≡ width x → Printed u t (digits n x) → Printed u t (decimal x)
unfolding decimal
printed_decimal {t} {u} x e p = subst (λ (m : ℕ). Printed u t (digits m x)) e p

-- Where there was room for two texts, there is room for the second after the first.
pub rest : {t u : Text} (a b : List ℕ) → HasRoom t (length (a ++ b)) → Printed u t a → HasRoom u (length b)
rest a b h p = omega (arith, length-append a b, p.wrote.end, p.size)

-- What a text made of a buffer leaves there.
pub left_there : {new old : Text} {out after : List ℕ} {end : ℕ} {text : List ℕ} → old.out.now ≡ out → old.end ≡ 0 → Printed new old text → end ≡ new.end → after ≡ new.out.now → Wrote after end out 0 text
left_there {text = text} o z p e a =
    record { end = e ∙ p.wrote.end ∙ ap (λ (n : ℕ). n + length text) z; bytes = a ∙ p.wrote.bytes ∙ (λ i. splice (o i) (z i) text) }

-- In a loop: what is still to be printed makes of the text at the start what was to be printed there.
pub record Left (now first : Text) (rest text : List ℕ) : Type 0 where
  pub all : {last : Text} → Printed last now rest → Printed last first text
  pub size : length now.out.now ≡ length first.out.now
  pub room : HasRoom now 0

pub left_all : (t : Text) (text : List ℕ) → HasRoom t 0 → Left t t text text
left_all t text h = record { all = λ p. p; size = refl; room = h }

pub left_more : {now after first : Text} {a rest text : List ℕ} → Printed after now a → Left now first (a ++ rest) text → Left after first rest text
left_more p l = record { all = λ q. l.all (more p q); size = p.size ∙ l.size; room = p.room }

pub left_none : {now first : Text} {text : List ℕ} → Left now first [] text → Printed now first text
left_none {now} l = l.all (nothing now l.room)
