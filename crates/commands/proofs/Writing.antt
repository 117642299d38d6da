-- Laws of writing commands: each kind by its parts, and a book command by command.
-- Assumes nothing.
use mathlib.Core.Path.{◌≡◌, refl, sym, ap, ◌∙◌}
use mathlib.Core.List.{List, [], ◌∷◌, append-nil}
use Prim.Native.Nat.{ℕ, ◌+◌, ◌≤◌}
use native.Mathlib.Omega.{arith}
use lib.IntN.{ℤ}
use lib.ListN.{length, length-append, take-append-drop}
use Rattle.wire.specs.Wire.{bytes, splice}
use Rattle.wire.proofs.Laws.{splice_two}
use mir.Syntax.{w16}
use mir.Val.{SFits}
use mir.Facts.{to_z-of_z}
use Rattle.signed.specs.Signed.{signed16, word16}
use Rattle.register.specs.declared.Command.{Command}
use Rattle.register.specs.declared.Command.TheVariants.{Add, Fit, Read, Trim}
use Rattle.commands.specs.Book.{size_of, commands_of, encode_command, encode_book}
use Rattle.commands.proofs.Walk.{rest, rest_all, Took}

pub length_command : (c : Command) → length (encode_command c) ≡ size_of c
unfolding bytes
length_command (Add b km) = refl
length_command (Fit b d t) = refl
length_command (Read b) = refl
length_command (Trim b km) = refl

module _ (s : List ℕ) (at : ℕ) {c : Command} {s₁ : List ℕ} (room : at + size_of c ≤ length s) where
  pub wrote_add : {b km : ℕ} {s₂ : List ℕ} → c ≡ Add b km → s₁ ≡ splice s at (1 ∷ b ∷ []) → s₂ ≡ splice s₁ (at + 2) (bytes 2 km)
      → (at + 4 ≡ at + size_of c) × (s₂ ≡ splice s at (encode_command c))
  wrote_add {b} {km} e e₁ e₂ = (
    ap (λ (d : Command). at + size_of d) (sym e),
    e₂
        ∙ ap (λ (l : List ℕ). splice l (at + 2) (bytes 2 km)) e₁
        ∙ splice_two s at (1 ∷ b ∷ []) (bytes 2 km) (omega arith)
        ∙ ap (λ (d : Command). splice s at (encode_command d)) (sym e),
  )

  pub wrote_fit : {b dash start : ℕ} {s₂ s₃ : List ℕ} → c ≡ Fit b dash start → s₁ ≡ splice s at (2 ∷ b ∷ []) → s₂ ≡ splice s₁ (at + 2) (bytes 4 dash) → s₃ ≡ splice s₂ (at + 6) (bytes 4 start)
      → (at + 10 ≡ at + size_of c) × (s₃ ≡ splice s at (encode_command c))
  unfolding bytes
  wrote_fit {b} {dash} {start} e e₁ e₂ e₃ = (
    ap (λ (d : Command). at + size_of d) (sym e),
    e₃
        ∙ ap (λ (l : List ℕ). splice l (at + 6) (bytes 4 start))
        (e₂ ∙ ap (λ (l : List ℕ). splice l (at + 2) (bytes 4 dash)) e₁ ∙ splice_two s at (2 ∷ b ∷ []) (bytes 4 dash) (omega arith))
        ∙ splice_two s at (2 ∷ b ∷ bytes 4 dash) (bytes 4 start) (omega arith)
        ∙ ap (λ (d : Command). splice s at (encode_command d)) (sym e),
  )

  pub wrote_read : {b : ℕ} → c ≡ Read b → s₁ ≡ splice s at (3 ∷ b ∷ []) → (at + 2 ≡ at + size_of c) × (s₁ ≡ splice s at (encode_command c))
  wrote_read e e₁ =
      (ap (λ (d : Command). at + size_of d) (sym e), e₁ ∙ ap (λ (d : Command). splice s at (encode_command d)) (sym e))

  pub wrote_trim : {b word : ℕ} {km : ℤ} {s₂ : List ℕ} → c ≡ Trim b km → SFits w16 km → word ≡ word16 (signed16 (word16 km)) → s₁ ≡ splice s at (4 ∷ b ∷ []) → s₂ ≡ splice s₁ (at + 2) (bytes 2 word)
      → (at + 4 ≡ at + size_of c) × (s₂ ≡ splice s at (encode_command c))
  wrote_trim {b} {word} e f w e₁ e₂ = (
    ap (λ (d : Command). at + size_of d) (sym e),
    e₂
        ∙ ap (λ (l : List ℕ). splice l (at + 2) (bytes 2 word)) e₁
        ∙ splice_two s at (4 ∷ b ∷ []) (bytes 2 word) (omega arith)
        ∙ ap (λ (n : ℕ). splice s at (4 ∷ b ∷ bytes 2 n)) (w ∙ ap word16 (to_z-of_z f))
        ∙ ap (λ (d : Command). splice s at (encode_command d)) (sym e),
  )

-- What is still to be written of a book, where some of it is left.
module _ (s : List ℕ) (k from : ℕ) where
  pub left_length : {c : Command} {z : ℕ} → Took s k from c z → length (encode_book (rest s k from)) ≡ size_of c + length (encode_book (rest s (k + 1) (from + z)))
  left_length {c} {z} t =
      ap (λ (cs : List Command). length (encode_book cs)) t.left
      ∙ length-append (encode_command c) (encode_book (rest s (k + 1) (from + z)))
      ∙ ap (λ (n : ℕ). n + length (encode_book (rest s (k + 1) (from + z)))) (length_command c)

  pub left_more : (out : List ℕ) {after : List ℕ} {c : Command} {z to past : ℕ} → Took s k from c z → to ≤ length out → past ≡ to + size_of c → after ≡ splice out to (encode_command c)
      → splice after past (encode_book (rest s (k + 1) (from + z))) ≡ splice out to (encode_book (rest s k from))
  left_more out {after} {c} {z} {to} t h p w =
      let l = length_command c in
      (λ i. splice (w i) ((p ∙ ap (λ (n : ℕ). to + n) (sym l)) i) (encode_book (rest s (k + 1) (from + z))))
      ∙ splice_two out to (encode_command c) (encode_book (rest s (k + 1) (from + z))) h
      ∙ ap (λ (cs : List Command). splice out to (encode_book cs)) (sym t.left)

  no_bytes : (cs : List Command) → length cs ≡ 0 → encode_book cs ≡ []
  no_bytes [] h = refl
  no_bytes (c ∷ cs) h = absurd (omega arith)

  pub left_none : (out : List ℕ) (to : ℕ) → length (rest s k from) ≡ 0 → (length (encode_book (rest s k from)) ≡ 0) × (splice out to (encode_book (rest s k from)) ≡ out)
  unfolding splice
  left_none out to h =
      let e = no_bytes (rest s k from) h in
      let q : to + 0 ≡ to = omega arith in
      (ap length e, rw (e, append-nil, q) (take-append-drop to out))

pub left_all : (s out : List ℕ) (at : ℕ) → (length (encode_book (rest s 0 0)) ≡ length (encode_book (commands_of s))) × (splice out at (encode_book (rest s 0 0)) ≡ splice out at (encode_book (commands_of s)))
left_all s out at =
    (ap (λ (cs : List Command). length (encode_book cs)) (rest_all s), ap (λ (cs : List Command). splice out at (encode_book cs)) (rest_all s))
