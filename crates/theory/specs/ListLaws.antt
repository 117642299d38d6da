-- Laws of contents, distinct, before, sift and nth.
-- Assumes nothing.
use Rattle.std.specs.Prelude.{◌≡◌, refl, Bool, true, false, ◌&&◌, ◌||◌, not, List, [], ◌∷◌, ◌++◌, ◌⊎◌, ℕ, zero, suc, ◌≤◌, ◌<◌, length, eqb, None, Some}
use Rattle.std.proofs.Common.{sym, ◌∙◌, ap, inl, inr, ⊎_elim, arith, eqb-true, eq-eqb}
use Rattle.theory.specs.Sets.{Set, pick}
use Rattle.theory.specs.Counting.{both, left, right, true_or, or_true, either, neither, not-true, never}
use Rattle.theory.specs.Lists.{contents, distinct, before, sift, nth}

pub contents-append : (a b : List ℕ) (m : ℕ) → contents (a ++ b) m ≡ (contents a m || contents b m)
contents-append [] b m = refl
contents-append (x ∷ a) b m = go (eqb m x) (contents-append a b m)
  where
    go : (e : Bool) → contents (a ++ b) m ≡ (contents a m || contents b m) → (e || contents (a ++ b) m) ≡ (e || contents a m || contents b m)
    go true h = refl
    go false h = h

pub contents_left : (a b : List ℕ) (m : ℕ) → contents a m ≡ true → contents (a ++ b) m ≡ true
contents_left a b m h = contents-append a b m ∙ true_or (contents a m) (contents b m) h

pub contents_right : (a b : List ℕ) (m : ℕ) → contents b m ≡ true → contents (a ++ b) m ≡ true
contents_right a b m h = contents-append a b m ∙ or_true (contents a m) (contents b m) h

-- Two lists without repetition and without a common number make one without repetition.
pub distinct_append : (a b : List ℕ) → distinct a ≡ true → distinct b ≡ true
    → ((m : ℕ) → contents a m ≡ true → contents b m ≡ false) → distinct (a ++ b) ≡ true
distinct_append [] b da db h = db
distinct_append (x ∷ a) b da db h =
    both (not (contents (a ++ b) x)) (distinct (a ++ b))
    (ap not (contents-append a b x ∙ go (contents a x) (contents b x) (not-true (contents a x) (left (not (contents a x)) (distinct a) da)) (h x (true_or (eqb x x) (contents a x) (eq-eqb x x refl)))))
    (distinct_append a b (right (not (contents a x)) (distinct a) da) db (λ m k. h m (or_true (eqb m x) (contents a m) k)))
  where
    go : (p q : Bool) → p ≡ false → q ≡ false → (p || q) ≡ false
    go true q hp hq = hp
    go false q hp hq = hq

pub distinct_left : (a b : List ℕ) → distinct (a ++ b) ≡ true → distinct a ≡ true
distinct_left [] b h = refl
distinct_left (x ∷ a) b h =
    both (not (contents a x)) (distinct a)
    (go (contents a x) (contents b x) (ap not (sym (contents-append a b x)) ∙ left (not (contents (a ++ b) x)) (distinct (a ++ b)) h))
    (distinct_left a b (right (not (contents (a ++ b) x)) (distinct (a ++ b)) h))
  where
    go : (p q : Bool) → not (p || q) ≡ true → not p ≡ true
    go true q k = k
    go false q k = refl

-- The two parts of a list without repetition have no number in common.
pub distinct_apart : (a b : List ℕ) → distinct (a ++ b) ≡ true → (m : ℕ) → contents a m ≡ true → contents b m ≡ false
distinct_apart [] b h m k = absurd (never false k refl)
distinct_apart (x ∷ a) b h m k = go (either (eqb m x) (contents a m) k) (distinct_apart a b (right (not (contents (a ++ b) x)) (distinct (a ++ b)) h) m)
  where
    here : contents b x ≡ false
    here =
        (neither (contents a x) (contents b x)
        (sym (contents-append a b x) ∙ not-true (contents (a ++ b) x) (left (not (contents (a ++ b) x)) (distinct (a ++ b)) h))).1

    go : (eqb m x ≡ true) ⊎ (contents a m ≡ true) → (contents a m ≡ true → contents b m ≡ false) → contents b m ≡ false
    go (inl e) r = ap (contents b) (eqb-true m x e) ∙ here
    go (inr e) r = r e

-- What stands before another stands in the list, and so does the other.
pub before_first : (a b : ℕ) (l : List ℕ) → before a b l ≡ true → contents l a ≡ true
before_first a b [] h = h
before_first a b (y ∷ l) h =
    ⊎_elim (λ z. true_or (eqb a y) (contents l a) (left (eqb a y) (contents l b) z)) (λ z. or_true (eqb a y) (contents l a) (before_first a b l z))
    (either (eqb a y && contents l b) (before a b l) h)

pub before_second : (a b : ℕ) (l : List ℕ) → before a b l ≡ true → contents l b ≡ true
before_second a b [] h = h
before_second a b (y ∷ l) h =
    or_true (eqb b y) (contents l b)
    (⊎_elim (right (eqb a y) (contents l b)) (before_second a b l) (either (eqb a y && contents l b) (before a b l) h))

-- What stands before a number of the first part stands in the first part too.
pub before_left : (a b : ℕ) (d rest : List ℕ) → distinct (d ++ rest) ≡ true → contents d b ≡ true → before a b (d ++ rest) ≡ true → before a b d ≡ true
before_left a b [] rest h k l = absurd (never false k refl)
before_left a b (x ∷ d) rest h k l =
    go (either (eqb a x && contents (d ++ rest) b) (before a b (d ++ rest)) l)
    (before_left a b d rest (right (not (contents (d ++ rest) x)) (distinct (d ++ rest)) h))
  where
    -- b stands in x ∷ d and so not in the rest
    apart : contents rest b ≡ false
    apart = distinct_apart (x ∷ d) rest h b k

    -- a number that stands in d and the rest together stands in d
    inside : contents (d ++ rest) b ≡ true → contents d b ≡ true
    inside e = ⊎_elim (λ z. z) (λ z. absurd (never (contents rest b) z apart)) (either (contents d b) (contents rest b) (sym (contents-append d rest b) ∙ e))

    later : before a b (d ++ rest) ≡ true → contents (d ++ rest) b ≡ true
    later e = before_second a b (d ++ rest) e

    go : ((eqb a x && contents (d ++ rest) b) ≡ true) ⊎ (before a b (d ++ rest) ≡ true)
        → (contents d b ≡ true → before a b (d ++ rest) ≡ true → before a b d ≡ true) → before a b (x ∷ d) ≡ true
    go (inl e) r =
        true_or (eqb a x && contents d b) (before a b d)
        (both (eqb a x) (contents d b) (left (eqb a x) (contents (d ++ rest) b) e) (inside (right (eqb a x) (contents (d ++ rest) b) e)))
    go (inr e) r = or_true (eqb a x && contents d b) (before a b d) (r (inside (later e)) e)

pub sift-append : (p : Set) (a b : List ℕ) → sift p (a ++ b) ≡ sift p a ++ sift p b
sift-append p [] b = refl
sift-append p (x ∷ a) b = go (p x) (sift-append p a b)
  where
    go : (e : Bool) → sift p (a ++ b) ≡ sift p a ++ sift p b
        → pick e (x ∷ sift p (a ++ b)) (sift p (a ++ b)) ≡ pick e (x ∷ sift p a) (sift p a) ++ sift p b
    go true h = ap (λ (l : List ℕ). x ∷ l) h
    go false h = h

-- A list whose numbers are all in a set is left whole by it.
pub sift-all : (p : Set) (l : List ℕ) → ((m : ℕ) → contents l m ≡ true → p m ≡ true) → sift p l ≡ l
sift-all p [] h = refl
sift-all p (x ∷ l) h = go (p x) (h x (true_or (eqb x x) (contents l x) (eq-eqb x x refl))) (sift-all p l (λ m k. h m (or_true (eqb m x) (contents l m) k)))
  where
    go : (e : Bool) → e ≡ true → sift p l ≡ l → pick e (x ∷ sift p l) (sift p l) ≡ x ∷ l
    go true e h = ap (λ (l : List ℕ). x ∷ l) h
    go false e h = absurd (never false e refl)

-- One whose numbers are not is left empty.
pub sift-none : (p : Set) (l : List ℕ) → ((m : ℕ) → contents l m ≡ true → p m ≡ false) → sift p l ≡ []
sift-none p [] h = refl
sift-none p (x ∷ l) h = go (p x) (h x (true_or (eqb x x) (contents l x) (eq-eqb x x refl))) (sift-none p l (λ m k. h m (or_true (eqb m x) (contents l m) k)))
  where
    go : (e : Bool) → e ≡ false → sift p l ≡ [] → pick e (x ∷ sift p l) (sift p l) ≡ []
    go true e h = absurd (never true refl e)
    go false e h = h

-- ---- an element by its number

pub nth-append : {A : Type 0} (l more : List A) (i : ℕ) → i < length l → nth (l ++ more) i ≡ nth l i
nth-append [] more i h = absurd (omega arith)
nth-append (x ∷ l) more zero h = refl
nth-append (x ∷ l) more (suc i) h = nth-append l more i (omega arith)

pub nth_last : {A : Type 0} (l : List A) (x : A) (i : ℕ) → i ≡ length l → nth (l ++ (x ∷ [])) i ≡ Some x
nth_last [] x i h = rw h refl
nth_last (y ∷ l) x zero h = absurd (omega arith)
nth_last (y ∷ l) x (suc i) h = nth_last l x i (omega arith)

pub nth_end : {A : Type 0} (l : List A) (i : ℕ) → length l ≤ i → nth l i ≡ None
nth_end [] i h = refl
nth_end (x ∷ l) zero h = absurd (omega arith)
nth_end (x ∷ l) (suc i) h = nth_end l i (omega arith)
