-- Delivering: one command, none, and one after another.
-- Assumes nothing.
use mathlib.Core.Path.{◌≡◌, refl, sym, ap, subst, ◌∙◌}
use mathlib.Core.Bool.{true}
use mathlib.Core.List.{List, [], ◌∷◌, ◌++◌, foldl, foldl-append}
use Prim.Native.Nat.{ℕ, suc, ◌+◌, ◌≤◌, ◌<◌}
use native.Mathlib.Numerals.{add-one}
use native.Mathlib.Omega.{arith}
use lib.Dec.{eqb}
use lib.IntN.{ℤ}
use lib.ListN.{length, length-append}
use borrow.Author.Tests.{eq-eqb}
use mir.Syntax.{w32}
use mir.Val.{SFits}
use Rattle.theory.specs.Lists.{contents}
use Rattle.theory.specs.Counting.{true_or, or_true}
use Rattle.theory.specs.Members.{members_in}
use Rattle.wire.specs.Wire.{splice}
use Rattle.wire.proofs.Laws.{length-splice, part_before, drop-after}
use Rattle.sets.specs.declared.Set.{Set}
use Rattle.sets.specs.Sets.{capacity, in_set, within_of}
use Rattle.sets.proofs.Laws.{within_at}
use Rattle.register.specs.declared.Command.{Command}
use Rattle.register.specs.Register.{Within, Valid, answer, execute}
use Rattle.register.specs.Lent.{register_of, Executed}
use Rattle.register.proofs.Laws.{kept-within, answer_fits}
use Rattle.commands.specs.Book.{commands_of, command_of}
use Rattle.commands.proofs.Places.{commands_valid}
use Rattle.protocol.specs.Site as protocol
use Rattle.system.specs.Dash.{dash, command_at}
use Rattle.layout.specs.Layout.{site_size, heard_place, register_place, deliveries_place, slot, delivery_bytes, deliveries_of, ledger_of}
use Rattle.layout.specs.Good.{GoodTables}
use Rattle.wire.proofs.Agree.{Agree, agree_before, agree_part}
use Rattle.layout.proofs.Agree.{register_agree, deliveries_agree}
use Rattle.layout.proofs.Deliveries.{length_delivery, deliveries_more}
use Rattle.layout.proofs.Tables.{executed_apart, tables_executed, tables_recorded}
use Rattle.deliver.specs.Delivering.{Delivered, in_order}

-- What the code of deliver does, in one step.
pub delivered_one : (book : List Command) (k m : ℕ) (b : List ℕ) {b₁ b₂ : List ℕ} {z y : ℤ} {c : Command} → length b ≡ site_size → Within (register_of b register_place)
    → k < capacity → m < length book → m < 256 → Valid (command_at book m) → c ≡ command_at book m → Executed c register_place b b₁ z
    → y ≡ z → b₂ ≡ splice b₁ (slot k) (delivery_bytes m y) → Delivered book k (m ∷ []) b b₂
delivered_one book k m b {b₁} {b₂} {z} size w hk hm small v ec x' ey eb =
    let e : b₂ ≡ splice b₁ (slot k) (delivery_bytes m z) = eb ∙ ap (λ (a : ℤ). splice b₁ (slot k) (delivery_bytes m a)) ey in
    let x : Executed (command_at book m) register_place b b₁ z = subst (λ (d : Command). Executed d register_place b b₁ z) ec x' in
    let a = executed_apart (command_at book m) b size v x in
    let s = a.size in
    let q = length_delivery m z in
    let long : length (splice b₁ (slot k) (delivery_bytes m z)) ≡ site_size = length-splice b₁ (slot k) (delivery_bytes m z) (omega arith) ∙ s in
    let before : Agree b₁ (splice b₁ (slot k) (delivery_bytes m z)) register_place (slot k) = agree_before b₁ (slot k) (delivery_bytes m z) register_place (omega arith) in
    let fits : SFits w32 z = subst (SFits w32) (sym x.answer) (answer_fits (command_at book m) (register_of b register_place) w) in
    let one : k + 1 ≡ suc k = add-one k in
    let state : register_of (splice b₁ (slot k) (delivery_bytes m z)) register_place ≡ execute (command_at book m) (register_of b register_place) =
    register_agree (agree_part register_place deliveries_place before (omega arith) (omega arith)) ∙ x.register in
    let listed : deliveries_of (suc k) (splice b₁ (slot k) (delivery_bytes m z)) ≡ deliveries_of k b ++ (record { command = m; answer = answer (command_at book m) (register_of b register_place) } ∷ []) =
    deliveries_more b₁ k m z s hk small fits
    ∙ (λ i. deliveries_agree k (agree_part deliveries_place (slot k) a.deliveries (omega arith) (omega arith)) i ++ (record { command = m; answer = x.answer i } ∷ [])) in
    subst (Delivered book k (m ∷ []) b) (sym e)
    (record {
      ledger = λ t. ap (λ (n : ℕ). ledger_of t book n (splice b₁ (slot k) (delivery_bytes m z))) one ∙ (λ i. record { state = state i; deliveries = listed i });
      tables =
          λ sites rows g.
          subst (λ (n : ℕ). GoodTables sites (length book) n rows (splice b₁ (slot k) (delivery_bytes m z))) (sym one)
          (tables_recorded sites (length book) k rows b₁ m z s hk hm small fits (tables_executed sites (length book) k rows (command_at book m) b size (omega arith) v x g));
      size = long;
      header = part_before b₁ (slot k) (delivery_bytes m z) register_place 0 (omega arith) (omega arith) ∙ a.header;
      rest = drop-after b₁ (slot k) (delivery_bytes m z) heard_place (omega arith) (omega arith) ∙ a.rest;
      readings = subst Within (sym state) (kept-within (command_at book m) (register_of b register_place) v w);
    })

pub delivered_none : (book : List Command) (k : ℕ) (b : List ℕ) → length b ≡ site_size → Within (register_of b register_place) → Delivered book k [] b b
delivered_none book k b size w =
    let e : k + 0 ≡ k = omega arith in
    record {
      ledger = λ t. ap (λ (n : ℕ). ledger_of t book n b) e;
      tables = λ sites rows g. subst (λ (n : ℕ). GoodTables sites (length book) n rows b) (sym e) g;
      size = size;
      header = refl;
      rest = refl;
      readings = w;
    }

-- One command, and then others.
pub delivered_more : (book : List Command) (k m : ℕ) (l : List ℕ) {a b c : List ℕ} → Delivered book k (m ∷ []) a b → Delivered book (k + 1) l b c
    → Delivered book k (m ∷ l) a c
delivered_more book k m l {a} {b} {c} p q =
    let e : k + suc (length l) ≡ k + 1 + length l = omega arith in
    record {
      ledger =
          λ t.
          ap (λ (n : ℕ). ledger_of t book n c) e ∙ q.ledger t
          ∙ ap (λ (g : protocol.Ledger (dash t book)). foldl (protocol.deliver (dash t book)) g l) (p.ledger t);
      tables = λ sites rows g. subst (λ (n : ℕ). GoodTables sites (length book) n rows c) (sym e) (q.tables sites rows (p.tables sites rows g));
      size = q.size;
      header = q.header ∙ p.header;
      rest = q.rest ∙ p.rest;
      readings = q.readings;
    }

-- Some commands, and then others.
pub delivered_append : (book : List Command) (k : ℕ) (l l' : List ℕ) {a b c : List ℕ} → Delivered book k l a b → Delivered book (k + length l) l' b c
    → Delivered book k (l ++ l') a c
delivered_append book k l l' {a} {b} {c} p q =
    let n = length-append l l' in
    let e : k + length (l ++ l') ≡ k + length l + length l' = omega arith in
    record {
      ledger =
          λ t.
          ap (λ (n : ℕ). ledger_of t book n c) e ∙ q.ledger t
          ∙ ap (λ (g : protocol.Ledger (dash t book)). foldl (protocol.deliver (dash t book)) g l') (p.ledger t)
          ∙ sym (foldl-append (protocol.deliver (dash t book)) (ledger_of t book k a) l l');
      tables = λ sites rows g. subst (λ (n : ℕ). GoodTables sites (length book) n rows c) (sym e) (q.tables sites rows (p.tables sites rows g));
      size = q.size;
      header = q.header ∙ p.header;
      rest = q.rest ∙ p.rest;
      readings = q.readings;
    }

-- On the way to the commands l after k others: so many are delivered, and the rest is still to be.
pub record Underway (book : List Command) (k : ℕ) (l a : List ℕ) (n : ℕ) (rest b : List ℕ) : Type 0 where
  pub size : length b ≡ site_size
  pub readings : Within (register_of b register_place)
  pub below : (m : ℕ) → contents rest m ≡ true → m < length book
  pub total : n + length rest ≡ k + length l
  pub leads : (c : List ℕ) → Delivered book n rest b c → Delivered book k l a c

module _ (book : List Command) (k : ℕ) where
  pub underway_none : {a : List ℕ} (x : Set) {y : Set} → length a ≡ site_size → Within (register_of a register_place) → within_of x (length book) ≡ true → y ≡ x
      → Underway book k (in_order x) a k (in_order y) a
  underway_none x size w h e =
      rw e
      (record {
        size = size;
        readings = w;
        below = λ m i. let q = members_in capacity (in_set x) m i in within_at x (length book) h m q.0 q.1;
        total = refl;
        leads = λ c d. d;
      })

  module _ {l a : List ℕ} {n : ℕ} {left b : List ℕ} (u : Underway book k l a n left b) where
    module _ {m : ℕ} {rest : List ℕ} (e : left ≡ m ∷ rest) where
      pub underway_next : k + length l ≤ capacity → (n < capacity) × (m < length book)
      underway_next room =
          let q = ap length e in
          let t = u.total in
          (omega arith, u.below m (ap (λ (x : List ℕ). contents x m) e ∙ true_or (eqb m m) (contents rest m) (eq-eqb m m refl)))

      pub underway_turn : {c : List ℕ} → Delivered book n (m ∷ []) b c → Underway book k l a (n + 1) rest c
      underway_turn d =
          let q = ap length e in
          let t = u.total in
          record {
            size = d.size;
            readings = d.readings;
            below = λ j i. u.below j (ap (λ (x : List ℕ). contents x j) e ∙ or_true (eqb j m) (contents rest j) i);
            total = omega arith;
            leads = λ c r. u.leads c (subst (λ (x : List ℕ). Delivered book n x b c) (sym e) (delivered_more book n m rest d r));
          }

    pub underway_done : left ≡ [] → (n ≡ k + length l) × Delivered book k l a b
    underway_done e =
        let q = ap length e in
        let t = u.total in
        (omega arith, u.leads b (subst (λ (x : List ℕ). Delivered book n x b b) (sym e) (delivered_none book n b u.size u.readings)))

-- The command at a place of the book.
pub command_at_lem : (s : List ℕ) (m : ℕ) → command_of s m ≡ command_at (commands_of s) m
unfolding command_of
command_at_lem s m = refl

pub command_valid : (s : List ℕ) (m : ℕ) → m < length (commands_of s) → Valid (command_at (commands_of s) m)
unfolding command_of
command_valid s m h = commands_valid s m h
