-- Laws of reading a command at the front of some bytes: which reading each test gives, and what a whole reading tells.
-- Assumes nothing.
use mathlib.Core.Bool.{Bool, true, false}
use Rattle.std.specs.Prelude.{None, Option, Some}
use mathlib.Core.Path.{◌≡◌, refl, sym, ap, subst, ◌∙◌}
use mathlib.Core.List.{List, [], ◌∷◌, ◌++◌, append_assoc}
use Prim.Native.Nat.{ℕ, zero, suc, ◌≤◌, ◌<◌}
use native.Mathlib.Omega.{arith}
use borrow.Author.Tests.{le-leb, lt-leb, leb-true, lt-ltb, le-ltb, ltb-true}
use lib.Dec.{leb, ltb}
use lib.ListN.{length, get_or, drop}
use mir.Syntax.{w16}
use lib.IntN.{ℤ}
use mir.Facts.{sfits_to_z}
use Rattle.wire.specs.Wire.{read_le, bytes}
use Rattle.wire.proofs.Laws.{read_lt, peel}
use Rattle.signed.specs.Signed.{signed16}
use Rattle.signed.proofs.Laws.{word_signed}
use Rattle.register.specs.Register.{bikes, max_reading, Valid}
use Rattle.register.specs.declared.Command.{Command}
use Rattle.register.specs.declared.Command.TheVariants.{Add, Fit, Read, Trim}
use Rattle.commands.specs.Book.{size_of, given, read_kind, read_command, encode_command, InRange}

module _ (s : List ℕ) where
  pub too_short : length s < 2 → None ≡ read_command s
  unfolding read_command
  too_short h = rw (lt-leb 2 (length s) h) refl

  pub no_bike : 2 ≤ length s → bikes ≤ get_or s 1 0 → None ≡ read_command s
  unfolding read_command
  no_bike h b = rw (le-leb 2 (length s) h, le-ltb (get_or s 1 0) bikes b) refl

  pub of_kind : (k : ℕ) {r : Option Command} → 2 ≤ length s → get_or s 1 0 < bikes → get_or s 0 0 ≡ k → r ≡ read_kind k s → r ≡ read_command s
  unfolding read_command
  of_kind k h b e q = rw (le-leb 2 (length s) h, lt-ltb (get_or s 1 0) bikes b, e) q

  pub add_whole : {km : ℕ} → 4 ≤ length s → km ≡ read_le 2 s 2 → Some (Add (get_or s 1 0) km) ≡ read_kind 1 s
  unfolding read_kind
  add_whole h e = rw (le-leb 4 (length s) h, e) refl

  pub add_cut : length s < 4 → None ≡ read_kind 1 s
  unfolding read_kind
  add_cut h = rw (lt-leb 4 (length s) h) refl

  pub fit_cut : length s < 10 → None ≡ read_kind 2 s
  unfolding read_kind
  fit_cut h = rw (lt-leb 10 (length s) h) refl

  pub fit_far : 10 ≤ length s → max_reading < read_le 4 s 6 → None ≡ read_kind 2 s
  unfolding read_kind
  fit_far h b = rw (le-leb 10 (length s) h, lt-leb (read_le 4 s 6) max_reading b) refl

  pub fit_whole : {dash start : ℕ} → 10 ≤ length s → read_le 4 s 6 ≤ max_reading → dash ≡ read_le 4 s 2 → start ≡ read_le 4 s 6 → Some (Fit (get_or s 1 0) dash start) ≡ read_kind 2 s
  unfolding read_kind
  fit_whole h b d e = rw (le-leb 10 (length s) h, le-leb (read_le 4 s 6) max_reading b, d, e) refl

  pub read_whole : Some (Read (get_or s 1 0)) ≡ read_kind 3 s
  unfolding read_kind
  read_whole = refl

  pub trim_cut : length s < 4 → None ≡ read_kind 4 s
  unfolding read_kind
  trim_cut h = rw (lt-leb 4 (length s) h) refl

  pub trim_whole : {km : ℤ} → 4 ≤ length s → km ≡ signed16 (read_le 2 s 2) → Some (Trim (get_or s 1 0) km) ≡ read_kind 4 s
  unfolding read_kind
  trim_whole h e = rw (le-leb 4 (length s) h, e) refl

  pub no_kind : (k : ℕ) → (k ≡ 1 → ⊥) → (k ≡ 2 → ⊥) → (k ≡ 3 → ⊥) → (k ≡ 4 → ⊥) → None ≡ read_kind k s
  unfolding read_kind
  no_kind zero a b c d = refl
  no_kind (suc zero) a b c d = absurd (a refl)
  no_kind (suc (suc zero)) a b c d = absurd (b refl)
  no_kind (suc (suc (suc zero))) a b c d = absurd (c refl)
  no_kind (suc (suc (suc (suc zero)))) a b c d = absurd (d refl)
  no_kind (suc (suc (suc (suc (suc n))))) a b c d = refl

-- What a whole reading tells of the bytes.
pub record Front (s : List ℕ) (c : Command) : Type 0 where
  -- the command's bytes are there
  pub size : size_of c ≤ length s
  -- bike and start are in range
  pub valid : Valid c
  -- so are the operands, of bytes below 256
  pub range : ((i : ℕ) → get_or s i 0 < 256) → InRange c
  -- the command written in front of what is left gives the bytes
  pub back : ((i : ℕ) → get_or s i 0 < 256) → encode_command c ++ drop (size_of c) s ≡ s

two_front : (s : List ℕ) → 2 ≤ length s → get_or s 0 0 ∷ get_or s 1 0 ∷ drop 2 s ≡ s
two_front [] h = absurd (omega arith)
two_front (a ∷ []) h = absurd (omega arith)
two_front (a ∷ b ∷ s) h = refl

module _ (s : List ℕ) (b : get_or s 1 0 < bikes) where
  add_front : get_or s 0 0 ≡ 1 → 4 ≤ length s → Front s (Add (get_or s 1 0) (read_le 2 s 2))
  add_front e h =
      record {
        size = h;
        valid = record { bike = b; start = omega arith };
        range = λ small. (b, read_lt s small 2 2 (omega arith));
        back = λ small. ap (λ (l : List ℕ). 1 ∷ get_or s 1 0 ∷ l) (peel s small 2 2 (omega arith)) ∙ ap (λ (k : ℕ). k ∷ get_or s 1 0 ∷ drop 2 s) (sym e) ∙ two_front s (omega arith);
      }

  fit_front : get_or s 0 0 ≡ 2 → 10 ≤ length s → read_le 4 s 6 ≤ max_reading → Front s (Fit (get_or s 1 0) (read_le 4 s 2) (read_le 4 s 6))
  fit_front e h g =
      record {
        size = h;
        valid = record { bike = b; start = g };
        range = λ small. (b, read_lt s small 4 2 (omega arith), g);
        back =
            λ small.
            ap (λ (l : List ℕ). 2 ∷ get_or s 1 0 ∷ l)
            (append_assoc (bytes 4 (read_le 4 s 2)) (bytes 4 (read_le 4 s 6)) (drop 10 s)
            ∙ ap (λ (l : List ℕ). bytes 4 (read_le 4 s 2) ++ l) (peel s small 4 6 (omega arith))
            ∙ peel s small 4 2 (omega arith))
            ∙ ap (λ (k : ℕ). k ∷ get_or s 1 0 ∷ drop 2 s) (sym e)
            ∙ two_front s (omega arith);
      }

  read_front : get_or s 0 0 ≡ 3 → 2 ≤ length s → Front s (Read (get_or s 1 0))
  read_front e h =
      record {
        size = h;
        valid = record { bike = b; start = omega arith };
        range = λ small. b;
        back = λ small. ap (λ (k : ℕ). k ∷ get_or s 1 0 ∷ drop 2 s) (sym e) ∙ two_front s h;
      }

  trim_front : get_or s 0 0 ≡ 4 → 4 ≤ length s → Front s (Trim (get_or s 1 0) (signed16 (read_le 2 s 2)))
  trim_front e h =
      record {
        size = h;
        valid = record { bike = b; start = omega arith };
        range = λ small. (b, sfits_to_z {w = w16} (record { fits = read_lt s small 2 2 (omega arith) }));
        back =
            λ small.
            ap (λ (n : ℕ). 4 ∷ get_or s 1 0 ∷ bytes 2 n ++ drop 4 s) (word_signed w16 (read_lt s small 2 2 (omega arith)))
            ∙ ap (λ (l : List ℕ). 4 ∷ get_or s 1 0 ∷ l) (peel s small 2 2 (omega arith))
            ∙ ap (λ (k : ℕ). k ∷ get_or s 1 0 ∷ drop 2 s) (sym e)
            ∙ two_front s (omega arith);
      }

pub given-true : (t : Bool) (r : Option Command) {c : Command} → given t r ≡ Some c → (t ≡ true) × (r ≡ Some c)
given-true true r h = (refl, h)
given-true false r h = absurd (let z : ◌≡◌ {A = ℕ} 0 1 = cc in omega arith)

by_kind : (k : ℕ) (s : List ℕ) {c : Command} → get_or s 0 0 ≡ k → 2 ≤ length s → get_or s 1 0 < bikes → read_kind k s ≡ Some c → Front s c
unfolding read_kind
by_kind zero s e h b q = absurd (let z : ◌≡◌ {A = ℕ} 0 1 = cc in omega arith)
by_kind (suc zero) s {c} e h b q =
    let g = given-true (leb 4 (length s)) _ q in
    let w : Add (get_or s 1 0) (read_le 2 s 2) ≡ c = cc g.1 in
    subst (λ (d : Command). Front s d) w (add_front s b e (leb-true 4 (length s) g.0))
by_kind (suc (suc zero)) s {c} e h b q =
    let g = given-true (leb 10 (length s)) _ q in
    let f = given-true (leb (read_le 4 s 6) max_reading) _ g.1 in
    let w : Fit (get_or s 1 0) (read_le 4 s 2) (read_le 4 s 6) ≡ c = cc f.1 in
    subst (λ (d : Command). Front s d) w (fit_front s b e (leb-true 10 (length s) g.0) (leb-true (read_le 4 s 6) max_reading f.0))
by_kind (suc (suc (suc zero))) s {c} e h b q =
    let w : Read (get_or s 1 0) ≡ c = cc in
    subst (λ (d : Command). Front s d) w (read_front s b e h)
by_kind (suc (suc (suc (suc zero)))) s {c} e h b q =
    let g = given-true (leb 4 (length s)) _ q in
    let w : Trim (get_or s 1 0) (signed16 (read_le 2 s 2)) ≡ c = cc g.1 in
    subst (λ (d : Command). Front s d) w (trim_front s b e (leb-true 4 (length s) g.0))
by_kind (suc (suc (suc (suc (suc n))))) s e h b q = absurd (let z : ◌≡◌ {A = ℕ} 0 1 = cc in omega arith)

pub front : (s : List ℕ) {c : Command} → read_command s ≡ Some c → Front s c
unfolding read_command
front s q =
    let g = given-true (leb 2 (length s)) _ q in
    let f = given-true (ltb (get_or s 1 0) bikes) _ g.1 in
    by_kind (get_or s 0 0) s refl (leb-true 2 (length s) g.0) (ltb-true (get_or s 1 0) bikes f.0) f.1
