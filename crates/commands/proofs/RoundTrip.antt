-- Both round trips: commands in range that are written read back as themselves, and bytes that were read are written back as they were.
-- Assumes nothing.
use mathlib.Core.Path.{◌≡◌, refl, sym, ap, subst, ◌∙◌}
use Rattle.refusals.specs.Refusals.{accepted}
use Rattle.std.specs.Prelude.{None, Some, Option}
use mathlib.Core.List.{List, [], ◌∷◌, ◌++◌}
use Prim.Native.Nat.{ℕ, zero, suc, ◌+◌, ◌≤◌, ◌<◌}
use native.Mathlib.Omega.{arith}
use lib.ListN.{length, get_or, drop}
use lib.Seq.{drop_at, get_or-drop}
use mir.Syntax.{w16}
use mir.Facts.{Fits-of_z, to_z-of_z}
use Rattle.wire.specs.Wire.{bytes, read_le}
use Rattle.wire.proofs.Laws.{value-bytes}
use Rattle.signed.specs.Signed.{signed16, word16}
use Rattle.register.specs.declared.Command.{Command}
use Rattle.register.specs.declared.Command.TheVariants.{Add, Fit, Read, Trim}
use Rattle.commands.specs.Book.{max_commands, size_of, read_command, also, and_then, read_up_to, or_none, commands_of, verdict_of, judge_book, encode_command, encode_book, InRange, AllInRange}
use Rattle.commands.proofs.Laws.{of_kind, add_whole, fit_whole, read_whole, trim_whole, front}
use Rattle.commands.proofs.Walk.{whole_at}
use Rattle.commands.proofs.Writing.{length_command}

-- A written command reads back, whatever stands after it.
pub read-written : (c : Command) (s : List ℕ) → InRange c → read_command (encode_command c ++ s) ≡ Some c
unfolding bytes read_le
read-written (Add b km) s (f, g) =
    sym (of_kind (encode_command (Add b km) ++ s) 1 (omega arith) f refl (add_whole (encode_command (Add b km) ++ s) (omega arith) (sym (value-bytes 2 km g))))
read-written (Fit b d t) s (f, g, h) =
    let e = value-bytes 4 t (omega arith) in
    sym (of_kind (encode_command (Fit b d t) ++ s) 2 (omega arith) f refl (fit_whole (encode_command (Fit b d t) ++ s) (omega arith) (rw e h) (sym (value-bytes 4 d g)) (sym e)))
read-written (Read b) s f =
    sym (of_kind (encode_command (Read b) ++ s) 3 (omega arith) f refl (read_whole (encode_command (Read b) ++ s)))
read-written (Trim b km) s (f, g) =
    let e = value-bytes 2 (word16 km) (Fits-of_z {w = w16} g).fits in
    sym (of_kind (encode_command (Trim b km) ++ s) 4 (omega arith) f refl (trim_whole (encode_command (Trim b km) ++ s) (omega arith) (sym (ap signed16 e ∙ to_z-of_z g))))

not_empty : (c : Command) (s : List ℕ) → 0 < length (encode_command c ++ s)
not_empty (Add b km) s = omega arith
not_empty (Fit b d t) s = omega arith
not_empty (Read b) s = omega arith
not_empty (Trim b km) s = omega arith

up_to-written : (n : ℕ) (cs : List Command) → length cs ≤ n → AllInRange cs → read_up_to n (encode_book cs) ≡ Some cs
up_to-written zero [] h r = refl
up_to-written (suc n) [] h r = refl
up_to-written zero (c ∷ cs) h r = absurd (omega arith)
up_to-written (suc n) (c ∷ cs) h r =
    whole_at n (encode_command c ++ encode_book cs) (not_empty c (encode_book cs)) (read-written c (encode_book cs) r.0)
    ∙ ap (λ (l : List ℕ). also c (read_up_to n l)) (drop_at (encode_command c) (encode_book cs) (size_of c) (length_command c))
    ∙ ap (also c) (up_to-written n cs (omega arith) r.1)

-- Up to 64 commands in range that are written are a book that is taken, and are its commands.
pub commands_back : (cs : List Command) → length cs ≤ max_commands → AllInRange cs → commands_of (encode_book cs) ≡ cs
unfolding commands_of
commands_back cs h r = ap or_none (up_to-written max_commands cs h r)

pub judge_back : (cs : List Command) → length cs ≤ max_commands → AllInRange cs → judge_book (encode_book cs) ≡ accepted
unfolding judge_book
judge_back cs h r = ap verdict_of (up_to-written max_commands cs h r)

-- What a taken book tells of its bytes and commands.
record Wrote (s : List ℕ) (cs : List Command) : Type 0 where
  back : encode_book cs ≡ s
  range : AllInRange cs

abbrev Small : List ℕ → Type 0
Small s = (i : ℕ) → get_or s i 0 < 256

small_drop : (k : ℕ) (s : List ℕ) → Small s → Small (drop k s)
small_drop k s h i = rw (get_or-drop k s i 0) (h (k + i))

wrote_none : (s : List ℕ) (cs : List Command) → length s ≡ 0 → Some [] ≡ Some cs → Wrote s cs
wrote_none [] cs h e =
    let q : [] ≡ cs = cc in subst (λ (l : List Command). Wrote [] l) q (record { back = refl; range = tt })
wrote_none (b ∷ s) cs h e = absurd (omega arith)

module _ (s : List ℕ) (small : Small s) where
  wrote_whole : (c : Command) (o : Option (List Command)) (cs : List Command) → read_command s ≡ Some c → ((ds : List Command) → o ≡ Some ds → Wrote (drop (size_of c) s) ds) → also c o ≡ Some cs → Wrote s cs
  wrote_whole c None cs r f e = absurd (let z : ◌≡◌ {A = ℕ} 0 1 = cc in omega arith)
  wrote_whole c (Some ds) cs r f e =
      let q : c ∷ ds ≡ cs = cc in
      let w = f ds refl in
      let t = front s r in
      subst (λ (l : List Command). Wrote s l) q
      (record { back = ap (λ (l : List ℕ). encode_command c ++ l) w.back ∙ t.back small; range = (t.range small, w.range) })

  wrote_read : (n : ℕ) (r : Option Command) (cs : List Command) → read_command s ≡ r → ((c : Command) (ds : List Command) → read_up_to n (drop (size_of c) s) ≡ Some ds → Wrote (drop (size_of c) s) ds)
      → and_then r (λ c. also c (read_up_to n (drop (size_of c) s))) ≡ Some cs → Wrote s cs
  wrote_read n None cs r f e = absurd (let z : ◌≡◌ {A = ℕ} 0 1 = cc in omega arith)
  wrote_read n (Some c) cs r f e = wrote_whole c (read_up_to n (drop (size_of c) s)) cs r (f c) e

wrote : (n : ℕ) (s : List ℕ) → Small s → (cs : List Command) → read_up_to n s ≡ Some cs → Wrote s cs
wrote zero [] h cs e = wrote_none [] cs refl e
wrote zero (b ∷ s) h cs e = absurd (let z : ◌≡◌ {A = ℕ} 0 1 = cc in omega arith)
wrote (suc n) s h cs e = by_end s h e (λ l g ds q. wrote n l g ds q)
  where
    by_end : (l : List ℕ) → Small l → read_up_to (suc n) l ≡ Some cs → ((m : List ℕ) → Small m → (ds : List Command) → read_up_to n m ≡ Some ds → Wrote m ds) → Wrote l cs
    by_end [] h e f = wrote_none [] cs refl e
    by_end (b ∷ l) h e f =
        wrote_read (b ∷ l) h n (read_command (b ∷ l)) cs refl (λ c ds q. f (drop (size_of c) (b ∷ l)) (small_drop (size_of c) (b ∷ l) h) ds q) e

taken-some : (o : Option (List Command)) → verdict_of o ≡ accepted → o ≡ Some (or_none o)
taken-some None e = absurd (let z : ◌≡◌ {A = ℕ} 0 1 = cc in omega arith)
taken-some (Some cs) e = refl

module _ (s : List ℕ) (small : (i : ℕ) → get_or s i 0 < 256) (taken : judge_book s ≡ accepted) where
  written : Wrote s (commands_of s)
  unfolding commands_of judge_book
  written = wrote max_commands s small (or_none (read_up_to max_commands s)) (taken-some (read_up_to max_commands s) taken)

  -- The commands of a taken book written give its bytes.
  pub book_back : encode_book (commands_of s) ≡ s
  book_back = written.back

  -- They are in range.
  pub commands_in_range : AllInRange (commands_of s)
  commands_in_range = written.range
