-- The log that bytes are: its length, its first entries, and how it grows.
-- Assumes nothing.
use Rattle.std.specs.Prelude.{None, Some}
use mathlib.Core.Path.{◌≡◌, refl, sym, ap, ◌∙◌}
use mathlib.Core.List.{List, [], ◌∷◌, ◌++◌, append-nil}
use mathlib.Core.Logic.{◌⊎◌, inl, inr}
use Prim.Native.Nat.{ℕ, zero, suc, ◌+◌, ◌*◌, ◌/◌, ◌≤◌, ◌<◌}
use native.Mathlib.Numerals.{add-one}
use native.Mathlib.Omega.{arith}
use lib.ListN.{length, take, drop, length-append, length-take, take-append-drop}
use lib.Seq.{take_at, take-append-le}
use Rattle.theory.specs.Lists.{nth}
use Rattle.theory.specs.ListLaws.{nth-append, nth_last, nth_end}
use Rattle.theory.specs.Counting.{last_or_below}
use Rattle.protocol.specs.Recovery as recovery
use Rattle.entries.specs.declared.Entry.{Entry}
use Rattle.entries.specs.Entries.{entry_size, entry_of, entry_bytes, write_entry, view_entry, log_to, log_of}
use Rattle.entries.proofs.Bytes.{Fits, length_entry, entry_written, entry_other, entry_first, entry_appended}

pub log_none : (b : List ℕ) → log_to b 0 ≡ []
unfolding log_to
log_none b = refl

-- One entry more.
pub log_more : (b : List ℕ) (k : ℕ) → log_to b (k + 1) ≡ log_to b k ++ (view_entry (entry_of b k) ∷ [])
unfolding log_to
log_more b k = ap (log_to b) (add-one k)

pub log_length : (b : List ℕ) (k : ℕ) → length (log_to b k) ≡ k
unfolding log_to
log_length b zero = refl
log_length b (suc k) = length-append (log_to b k) (view_entry (entry_of b k) ∷ []) ∙ ap (λ (n : ℕ). n + 1) (log_length b k) ∙ add-one k

-- Bytes with the same entries are the same log.
pub log_same : (a b : List ℕ) (k : ℕ) → ((i : ℕ) → i < k → entry_of a i ≡ entry_of b i) → log_to a k ≡ log_to b k
unfolding log_to
log_same a b zero h = refl
log_same a b (suc k) h = λ i. log_same a b k (λ j l. h j (omega arith)) i ++ (view_entry (h k (omega arith) i) ∷ [])

-- The first entries of a log.
pub log_take : (b : List ℕ) (j k : ℕ) → j ≤ k → take j (log_to b k) ≡ log_to b j
unfolding log_to
log_take b j zero h = let q : j ≡ 0 = omega arith in rw q refl
log_take b j (suc k) h = go (last_or_below j (suc k) (omega arith)) (λ l. log_take b j k l)
  where
    go : (j ≡ suc k) ⊎ (j < suc k) → (j ≤ k → take j (log_to b k) ≡ log_to b j) → take j (log_to b k ++ (view_entry (entry_of b k) ∷ [])) ≡ log_to b j
    go (inl e) r =
        ap (λ (n : ℕ). take n (log_to b (suc k))) e
        ∙ ap (take (suc k)) (sym (append-nil (log_to b (suc k))))
        ∙ take_at (log_to b (suc k)) [] (suc k) (log_length b (suc k))
        ∙ ap (log_to b) (sym e)
    go (inr l) r =
        let z = log_length b k in
        take-append-le j (log_to b k) (view_entry (entry_of b k) ∷ []) (omega arith) ∙ r (omega arith)

-- The entry at a position.
pub log_nth : (b : List ℕ) (k i : ℕ) → i < k → nth (log_to b k) i ≡ Some (view_entry (entry_of b i))
unfolding log_to
log_nth b zero i h = absurd (omega arith)
log_nth b (suc k) i h = go (last_or_below i k h) (λ l. log_nth b k i l)
  where
    go : (i ≡ k) ⊎ (i < k) → (i < k → nth (log_to b k) i ≡ Some (view_entry (entry_of b i)))
        → nth (log_to b k ++ (view_entry (entry_of b k) ∷ [])) i ≡ Some (view_entry (entry_of b i))
    go (inl e) r =
        nth_last (log_to b k) (view_entry (entry_of b k)) i (e ∙ sym (log_length b k)) ∙ ap (λ (n : ℕ). Some (view_entry (entry_of b n))) (sym e)
    go (inr l) r =
        let z = log_length b k in
        nth-append (log_to b k) (view_entry (entry_of b k) ∷ []) i (omega arith) ∙ r l

-- There is none at its end.
pub log_end : (b : List ℕ) (k i : ℕ) → k ≤ i → nth (log_to b k) i ≡ None
log_end b k i h = nth_end (log_to b k) i (omega (arith, log_length b k))

-- An entry written after the first k.
pub log_written : (b : List ℕ) (k : ℕ) (e : Entry) → k * entry_size + entry_size ≤ length b → Fits e
    → log_to (write_entry b k e) (k + 1) ≡ log_to b k ++ (view_entry e ∷ [])
log_written b k e h f =
    log_more (write_entry b k e) k
    ∙ (λ i. log_same (write_entry b k e) b k (λ j l. entry_other b k e j h (λ q. omega arith)) i ++ (view_entry (entry_written b k e h f i) ∷ []))

-- The first entries of longer and of shorter bytes.
pub log_first : (b more : List ℕ) (k : ℕ) → k * entry_size ≤ length b → log_to (b ++ more) k ≡ log_to b k
log_first b more k h = log_same (b ++ more) b k (λ i l. entry_first b more i (omega arith))

pub log_part : (b : List ℕ) (n k : ℕ) → k * entry_size ≤ n → n ≤ length b → log_to (take n b) k ≡ log_to b k
log_part b n k h g =
    sym (log_first (take n b) (drop n b) k (omega (arith, length-take n b))) ∙ ap (λ (x : List ℕ). log_to x k) (take-append-drop n b)

-- One entry appended to whole entries.
pub log_appended : (b : List ℕ) (k : ℕ) (e : Entry) → length b ≡ k * entry_size → Fits e
    → log_to (b ++ entry_bytes e) (k + 1) ≡ log_to b k ++ (view_entry e ∷ [])
log_appended b k e h f =
    log_more (b ++ entry_bytes e) k
    ∙ (λ i. log_first b (entry_bytes e) k (omega arith) i ++ (view_entry (entry_appended b k e h f i) ∷ []))

-- The same of all the entries of bytes.
pub log_whole : (b : List ℕ) (k : ℕ) → length b ≡ k * entry_size → log_of b ≡ log_to b k
unfolding log_of
log_whole b k h = let q : length b / entry_size ≡ k = omega arith in ap (log_to b) q

pub log_of_appended : (b : List ℕ) (k : ℕ) (e : Entry) → length b ≡ k * entry_size → Fits e
    → log_of (b ++ entry_bytes e) ≡ log_of b ++ (view_entry e ∷ [])
log_of_appended b k e h f =
    log_whole (b ++ entry_bytes e) (k + 1) (omega (arith, length-append b (entry_bytes e), length_entry e))
    ∙ log_appended b k e h f
    ∙ ap (λ (l : recovery.Log). l ++ (view_entry e ∷ [])) (sym (log_whole b k h))

pub log_of-take : (b : List ℕ) (k : ℕ) → k ≤ length b / entry_size → take k (log_of b) ≡ log_to b k
unfolding log_of
log_of-take b k h = log_take b k (length b / entry_size) h

-- The first k entries are the log of the first 18 k bytes.
pub log_of_part : (b : List ℕ) (k : ℕ) → k ≤ length b / entry_size → take k (log_of b) ≡ log_of (take (k * entry_size) b)
log_of_part b k h =
    let l = length-take (k * entry_size) b in
    log_of-take b k h ∙ sym (log_part b (k * entry_size) k (omega arith) (omega arith))
    ∙ sym (log_whole (take (k * entry_size) b) k (omega arith))
