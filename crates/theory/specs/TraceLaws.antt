-- Laws of alike sequences: congruence, contents, order of conflicting commands, and the merge of two parts of a set without conflict.
-- Assumes nothing.
use Rattle.std.specs.Prelude.{◌≡◌, Bool, true, false, ◌&&◌, ◌||◌, not, ◌≢◌, eqb, length}
use Rattle.std.proofs.Math.Path.{refl}
use Rattle.std.proofs.Common.{sym, ◌∙◌, ap, subst, arith, eqb-true, eq-eqb}
use mathlib.Core.List.{List, [], ◌∷◌, ◌++◌, append-nil, append_assoc}
use Prim.Native.Nat.{ℕ, zero, suc, ◌<◌}
use Rattle.theory.specs.Sets.{Set, ◌∖◌, pick, members}
use Rattle.theory.specs.Counting.{left, true_or, or_true, never}
use Rattle.theory.specs.Lists.{contents, distinct, before, sift}
use Rattle.theory.specs.Members.{members_in}
use Rattle.theory.specs.Machine.{Machine, Exchange}
use Rattle.theory.specs.Traces.{Alike, same, swap, keep, chain}

or_swap : (p q r : Bool) → (p || (q || r)) ≡ (q || (p || r))
or_swap true true r = refl
or_swap true false r = refl
or_swap false q r = refl

module _ (M : Machine) where
  open M use {conflict}

  pub alike_equal : {a b : List ℕ} → a ≡ b → Alike M a b
  alike_equal {a} e = subst (λ (l : List ℕ). Alike M a l) e same

  pub alike-before : (c : List ℕ) {a b : List ℕ} → Alike M a b → Alike M (c ++ a) (c ++ b)
  alike-before [] h = h
  alike-before (x ∷ c) h = keep (alike-before c h)

  pub alike-after : {a b : List ℕ} (c : List ℕ) → Alike M a b → Alike M (a ++ c) (b ++ c)
  alike-after c same = same
  alike-after c (swap n h) = swap n h
  alike-after c (keep h) = keep (alike-after c h)
  alike-after c (chain h k) = chain (alike-after c h) (alike-after c k)

  -- Alike sequences hold the same commands,
  pub alike-contents : {a b : List ℕ} → Alike M a b → (m : ℕ) → contents a m ≡ contents b m
  alike-contents same m = refl
  alike-contents (swap {x} {y} {l} n h) m = or_swap (eqb m x) (eqb m y) (contents l m)
  alike-contents (keep {x} h) m = ap (λ (b : Bool). eqb m x || b) (alike-contents h m)
  alike-contents (chain h k) m = alike-contents h m ∙ alike-contents k m

  -- as many,
  pub alike-length : {a b : List ℕ} → Alike M a b → length a ≡ length b
  alike-length same = refl
  alike-length (swap n h) = refl
  alike-length (keep h) = ap suc (alike-length h)
  alike-length (chain h k) = alike-length h ∙ alike-length k

  -- each as often,
  pub alike-distinct : {a b : List ℕ} → Alike M a b → distinct a ≡ distinct b
  alike-distinct same = refl
  alike-distinct (swap {x} {y} {l} n h) = go (eqb x y) refl (eqb y x) refl
    where
      go : (p : Bool) → eqb x y ≡ p → (q : Bool) → eqb y x ≡ q
          → (not (p || contents l x) && (not (contents l y) && distinct l)) ≡ (not (q || contents l y) && (not (contents l x) && distinct l))
      go true ep q eq = absurd (n (eqb-true x y ep))
      go false ep true eq = absurd (n (sym (eqb-true y x eq)))
      go false ep false eq = and_swap (not (contents l x)) (not (contents l y)) (distinct l)
        where
          and_swap : (p q r : Bool) → (p && (q && r)) ≡ (q && (p && r))
          and_swap true q r = refl
          and_swap false true r = refl
          and_swap false false r = refl
  alike-distinct (keep {x} h) = λ i. not (alike-contents h x i) && alike-distinct h i
  alike-distinct (chain h k) = alike-distinct h ∙ alike-distinct k

  -- and what a set leaves of them is alike.
  pub alike-sift : (p : Set) {a b : List ℕ} → Alike M a b → Alike M (sift p a) (sift p b)
  alike-sift p same = same
  alike-sift p (swap {x} {y} {l} n h) = go (p x) (p y)
    where
      go : (u v : Bool) → Alike M (pick u (x ∷ pick v (y ∷ sift p l) (sift p l)) (pick v (y ∷ sift p l) (sift p l)))
          (pick v (y ∷ pick u (x ∷ sift p l) (sift p l)) (pick u (x ∷ sift p l) (sift p l)))
      go true true = swap n h
      go true false = same
      go false true = same
      go false false = same
  alike-sift p (keep {x} {a} {b} h) = go (p x) (alike-sift p h)
    where
      go : (u : Bool) → Alike M (sift p a) (sift p b) → Alike M (pick u (x ∷ sift p a) (sift p a)) (pick u (x ∷ sift p b) (sift p b))
      go true k = keep k
      go false k = k
  alike-sift p (chain h k) = chain (alike-sift p h) (alike-sift p k)

  -- A command moves past others that it does not conflict with.
  pub alike-past : (x : ℕ) (l : List ℕ) → ((y : ℕ) → contents l y ≡ true → (x ≢ y) × (conflict x y ≡ false)) → Alike M (x ∷ l) (l ++ (x ∷ []))
  alike-past x [] h = same
  alike-past x (y ∷ l) h =
      let k = h y (true_or (eqb y y) (contents l y) (eq-eqb y y refl)) in
      chain (swap k.0 k.1) (keep (alike-past x l (λ z e. h z (or_true (eqb z y) (contents l z) e))))

  -- Members of a set without conflict: those of a part first and then the rest are alike to all in number order.
  pub merge : (n : ℕ) (a p : Set) → ((m : ℕ) → m < n → a m ≡ true → p m ≡ true)
      → ((x y : ℕ) → x < n → y < n → p x ≡ true → p y ≡ true → conflict x y ≡ false)
      → Alike M (members n a ++ members n (p ∖ a)) (members n p)
  unfolding members
  merge zero a p within calm = same
  merge (suc n) a p within calm =
      go (a n) refl (p n) refl (merge n a p (λ m l. within m (omega arith)) (λ x y l k. calm x y (omega arith) (omega arith)))
    where
      A : List ℕ
      A = members n a

      B : List ℕ
      B = members n (p ∖ a)

      past : p n ≡ true → Alike M (n ∷ B) (B ++ (n ∷ []))
      past e =
          alike-past n B
          (λ y k. let w = members_in n (p ∖ a) y k in
          ((λ z. omega (arith, w.0)), calm n y (omega arith) (omega (arith, w.0)) e (left (p y) (not (a y)) w.1)))

      go : (u : Bool) → a n ≡ u → (v : Bool) → p n ≡ v → Alike M (A ++ B) (members n p)
          → Alike M ((A ++ pick u (n ∷ []) []) ++ (B ++ pick (v && not u) (n ∷ []) [])) (members n p ++ pick v (n ∷ []) [])
      go true eu true ev ih =
          chain (alike_equal ((λ i. (A ++ (n ∷ [])) ++ append-nil B i) ∙ append_assoc A (n ∷ []) B))
          (chain (alike-before A (past ev)) (chain (alike_equal (sym (append_assoc A B (n ∷ [])))) (alike-after (n ∷ []) ih)))
      go true eu false ev ih = absurd (never (p n) (within n (omega arith) eu) ev)
      go false eu true ev ih =
          chain (alike_equal ((λ i. append-nil A i ++ (B ++ (n ∷ []))) ∙ sym (append_assoc A B (n ∷ [])))) (alike-after (n ∷ []) ih)
      go false eu false ev ih =
          chain (alike_equal (λ i. append-nil A i ++ append-nil B i)) (chain ih (alike_equal (sym (append-nil (members n p)))))

  module _ (law : Exchange M) where
    -- Commands that conflict stand in the same order.
    pub alike_order : {l k : List ℕ} → Alike M l k → (a b : ℕ) → conflict a b ≡ true → before a b l ≡ before a b k
    alike_order same a b c = refl
    alike_order (swap {x} {y} {l} n h) a b c = go (eqb a x) refl (eqb a y) refl (eqb b x) refl (eqb b y) refl
      where
        forward : a ≡ x → b ≡ y → ⊥
        forward ea eb = never (conflict a b) c ((λ i. conflict (ea i) (eb i)) ∙ h)

        backward : a ≡ y → b ≡ x → ⊥
        backward ea eb = never (conflict a b) c ((λ i. conflict (ea i) (eb i)) ∙ law.symmetric y x ∙ h)

        go : (ax : Bool) → eqb a x ≡ ax → (ay : Bool) → eqb a y ≡ ay → (bx : Bool) → eqb b x ≡ bx → (b_y : Bool) → eqb b y ≡ b_y
            → (ax && (b_y || contents l b) || (ay && contents l b || before a b l)) ≡ (ay && (bx || contents l b) || (ax && contents l b || before a b l))
        go true eax ay eay bx ebx true eby = absurd (forward (eqb-true a x eax) (eqb-true b y eby))
        go true eax true eay bx ebx false eby = absurd (n (sym (eqb-true a x eax) ∙ eqb-true a y eay))
        go true eax false eay bx ebx false eby = refl
        go false eax true eay true ebx b_y eby = absurd (backward (eqb-true a y eay) (eqb-true b x ebx))
        go false eax true eay false ebx b_y eby = refl
        go false eax false eay bx ebx b_y eby = refl
    alike_order (keep {x} h) a b c = λ i. eqb a x && alike-contents h b i || alike_order h a b c i
    alike_order (chain h k) a b c = alike_order h a b c ∙ alike_order k a b c
