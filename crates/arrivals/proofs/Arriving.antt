-- Steps 01 to 05 on lent buffers: what each function's answer and bytes are, from what its callees promise.
-- Assumes nothing.
use mathlib.Core.Path.{◌≡◌, refl, sym, ap, ◌∙◌}
use Rattle.std.specs.Prelude.{Err, None, Option, Some}
use mathlib.Core.Bool.{Bool, true, false, ◌&&◌, not}
use mathlib.Core.List.{List}
use Prim.Native.Nat.{ℕ, pred, ◌≤◌, ◌<◌}
use native.Mathlib.Omega.{arith}
use lib.Dec.{leb}
use lib.ListN.{length, get_or}
use borrow.Author.Tests.{leb-true}
use Rattle.refusals.specs.declared.Refusal.{Refusal}
use Rattle.refusals.specs.Refusals.{Verdict, accepted}
use Rattle.refusals.specs.declared.Refusal.TheVariants.{Range, Role, Disabled}
use Rattle.theory.specs.Sets.{only}
use Rattle.theory.specs.Counting.{left}
use Rattle.theory.specs.Lists.{nth}
use Rattle.sets.specs.declared.Set.{Set}
use Rattle.sets.specs.Sets.{capacity, in_set, within_of}
use Rattle.table.specs.declared.SiteTable.{SiteTable}
use Rattle.table.specs.Table.{faulty_of}
use Rattle.register.specs.declared.Command.{Command}
use Rattle.protocol.specs.Site.{receive, hear, is_some}
use Rattle.protocol.specs.World.{Step, command, acknowledgment, check, false_acknowledgment, false_check, or_empty, put, judge}
use Rattle.system.specs.Dash.{dash}
use Rattle.site.specs.Steps.{Received, Commanded, Heard}
use Rattle.sent.specs.Sent.{acks_of, checks_of, said, numbered, Read}
use Rattle.sent.proofs.Laws.{numbered-nth}
use Rattle.world.specs.World.{known_to, world_of}
use Rattle.world.specs.Parts.{lent, AtSite, Arrived}
use Rattle.world.proofs.Past.{rows_grow}
use Rattle.world.proofs.Hold.{refused, one_site}
use Rattle.arrivals.specs.Messages.{message_verdict}
use Rattle.arrivals.proofs.Judging.{and_sent, Passed, command_site, command_number, command_role, command_taken, acknowledgment_judged, check_judged, false_acknowledgment_judged, false_check_judged}

module _ (t : SiteTable) (commands : ℕ) (sent sites : List ℕ) (small : (k : ℕ) → get_or sites k 0 < 256) where
  -- A refusal, by the verdict on it.
  refusal : (u : Step) (r : Refusal)
      → ((book : List Command) (log : List ℕ) (entries : ℕ) → commands ≡ length book → judge (dash t book) (world_of t book (lent sites log entries sent)) u ≡ Err r)
      → Arrived t commands u sent sites (Err r) sites
  refusal u r e = λ book log entries q g. refused t book (lent sites log entries sent) g u r (e book log entries q) small

  -- ---- 01
  module _ (i m : ℕ) where
    pub no_site : t.sites ≤ i → Arrived t commands (command i m) sent sites (Err Range) sites
    no_site h = refusal (command i m) Range (λ book log entries q. command_site t book (world_of t book (lent sites log entries sent)) i m h)

    pub no_command : i < t.sites → commands ≤ m → Arrived t commands (command i m) sent sites (Err Range) sites
    no_command a h =
        refusal (command i m) Range (λ book log entries q. command_number t book (world_of t book (lent sites log entries sent)) i m a (omega arith))

    pub faulty_site : i < t.sites → m < commands → {f : Bool} → f ≡ faulty_of t i → f ≡ true → Arrived t commands (command i m) sent sites (Err Role) sites
    faulty_site a b e h =
        refusal (command i m) Role
        (λ book log entries q. command_role t book (world_of t book (lent sites log entries sent)) i m a (omega arith) (sym e ∙ h))

    pub commanded : i < t.sites → m < commands → {f : Bool} → f ≡ faulty_of t i → f ≡ false → {after : List ℕ} → AtSite i (Commanded m) sites after
        → Arrived t commands (command i m) sent sites accepted after
    commanded a b e h p =
        λ book log entries q g.
        one_site t book (lent sites log entries sent) g (command i m) small i a p (receive (dash t book) (only m)) (omega arith) (p.did t book (g.site i a) (omega arith)) (g.position i a)
        (command_taken t book (world_of t book (lent sites log entries sent)) i m a (omega arith) (sym e ∙ h)) refl refl refl

  -- ---- 02 and 03
  module _ (i j r : ℕ) where
    module _ (a : ℕ) {f : Bool} (ef : f ≡ faulty_of t j) {v : Verdict} (ev : v ≡ message_verdict t i j r (leb 1 a && leb a capacity) (not f)) where
      judged : (book : List Command) (log : List ℕ) (entries : ℕ)
          → judge (dash t book) (world_of t book (lent sites log entries sent)) (acknowledgment i j r a) ≡ and_sent v (is_some (nth (acks_of sent j r) (pred a)))
      judged book log entries =
          acknowledgment_judged t book (world_of t book (lent sites log entries sent)) i j r a
          ∙ ap (λ (x : Verdict). and_sent x (is_some (nth (acks_of sent j r) (pred a)))) (sym (ev ∙ (λ k. message_verdict t i j r (leb 1 a && leb a capacity) (not (ef k)))))

      pub acknowledgment_refused : (x : Refusal) → v ≡ Err x → Arrived t commands (acknowledgment i j r a) sent sites (Err x) sites
      acknowledgment_refused x e =
          refusal (acknowledgment i j r a) x
          (λ book log entries q. judged book log entries ∙ ap (λ (y : Verdict). and_sent y (is_some (nth (acks_of sent j r) (pred a)))) e)

      module _ (e : v ≡ accepted) (p : Passed t i j r (leb 1 a && leb a capacity) (not f)) {m exact : Option Set} (read : Read m exact (numbered (acks_of sent j r) a)) where
        means : said m ≡ nth (acks_of sent j r) (pred a)
        means = read.means ∙ numbered-nth (acks_of sent j r) a (leb-true 1 a (left (leb 1 a) (leb a capacity) p.operands))

        pub acknowledgment_never : m ≡ None → Arrived t commands (acknowledgment i j r a) sent sites (Err Disabled) sites
        acknowledgment_never q =
            refusal (acknowledgment i j r a) Disabled
            (λ book log entries z.
            judged book log entries ∙ (λ k. and_sent (e k) (is_some (sym means k))) ∙ ap (λ (y : Option Set). and_sent accepted (is_some (said y))) q)

        pub acknowledged : (x : Set) → m ≡ Some x → {after : List ℕ} → AtSite i (Heard j r x) sites after
            → Arrived t commands (acknowledgment i j r a) sent sites accepted after
        acknowledged x q {after} h =
            λ book log entries z g.
            let b = lent sites log entries sent in
            let told : Some (in_set x) ≡ nth (acks_of sent j r) (pred a) = sym (ap said q) ∙ means in
            one_site t book b g (acknowledgment i j r a) small i p.receiver h (hear (dash t book) j r (in_set x)) (rows_grow _ r)
            (h.did t book (g.site i p.receiver) p.sender (ap (known_to (length book)) told ∙ g.acks j r (pred a))) (g.position i p.receiver)
            (judged book log entries ∙ (λ k. and_sent (e k) (is_some (sym told k))))
            (λ k. put (dash t book) i (hear (dash t book) j r (or_empty (sym told k)) ((world_of t book b).site i)) (world_of t book b)) refl refl

    module _ {f : Bool} (ef : f ≡ faulty_of t j) {v : Verdict} (ev : v ≡ message_verdict t i j r true (not f)) where
      check_told : (book : List Command) (log : List ℕ) (entries : ℕ)
          → judge (dash t book) (world_of t book (lent sites log entries sent)) (check i j r) ≡ and_sent v (is_some (checks_of sent j r))
      check_told book log entries =
          check_judged t book (world_of t book (lent sites log entries sent)) i j r
          ∙ ap (λ (x : Verdict). and_sent x (is_some (checks_of sent j r))) (sym (ev ∙ (λ k. message_verdict t i j r true (not (ef k)))))

      pub check_refused : (x : Refusal) → v ≡ Err x → Arrived t commands (check i j r) sent sites (Err x) sites
      check_refused x e =
          refusal (check i j r) x
          (λ book log entries q. check_told book log entries ∙ ap (λ (y : Verdict). and_sent y (is_some (checks_of sent j r))) e)

      module _ (e : v ≡ accepted) {m exact : Option Set} (read : Read m exact (checks_of sent j r)) where
        pub check_never : m ≡ None → Arrived t commands (check i j r) sent sites (Err Disabled) sites
        check_never q =
            refusal (check i j r) Disabled
            (λ book log entries z.
            check_told book log entries ∙ (λ k. and_sent (e k) (is_some (sym read.means k))) ∙ ap (λ (y : Option Set). and_sent accepted (is_some (said y))) q)

        pub checked : Passed t i j r true (not f) → (x : Set) → m ≡ Some x → {after : List ℕ} → AtSite i (Received x) sites after
            → Arrived t commands (check i j r) sent sites accepted after
        checked p x q {after} h =
            λ book log entries z g.
            let b = lent sites log entries sent in
            let told : Some (in_set x) ≡ checks_of sent j r = sym (ap said q) ∙ read.means in
            one_site t book b g (check i j r) small i p.receiver h (receive (dash t book) (in_set x)) (omega arith)
            (h.did t book (g.site i p.receiver) (ap (known_to (length book)) told ∙ g.checks j r)) (g.position i p.receiver)
            (check_told book log entries ∙ (λ k. and_sent (e k) (is_some (sym told k))))
            (λ k. put (dash t book) i (receive (dash t book) (or_empty (sym told k)) ((world_of t book b).site i)) (world_of t book b)) refl refl

    -- ---- 04 and 05
    module _ (x : Set) {v : Verdict} (ev : v ≡ message_verdict t i j r (within_of x commands) (faulty_of t j)) where
      false_told : (book : List Command) → commands ≡ length book → v ≡ message_verdict t i j r (within_of x (length book)) (faulty_of t j)
      false_told book q = ev ∙ (λ k. message_verdict t i j r (within_of x (q k)) (faulty_of t j))

      module _ (y : Refusal) (e : v ≡ Err y) where
        pub false_acknowledgment_refused : Arrived t commands (false_acknowledgment i j r (in_set x)) sent sites (Err y) sites
        false_acknowledgment_refused =
            refusal (false_acknowledgment i j r (in_set x)) y
            (λ book log entries q. false_acknowledgment_judged t book (world_of t book (lent sites log entries sent)) i j r x ∙ sym (false_told book q) ∙ e)

        pub false_check_refused : Arrived t commands (false_check i j r (in_set x)) sent sites (Err y) sites
        false_check_refused =
            refusal (false_check i j r (in_set x)) y
            (λ book log entries q. false_check_judged t book (world_of t book (lent sites log entries sent)) i j r x ∙ sym (false_told book q) ∙ e)

      module _ (e : v ≡ accepted) (p : Passed t i j r (within_of x commands) (faulty_of t j)) {after : List ℕ} where
        pub false_acknowledged : AtSite i (Heard j r x) sites after → Arrived t commands (false_acknowledgment i j r (in_set x)) sent sites accepted after
        false_acknowledged h =
            λ book log entries q g.
            one_site t book (lent sites log entries sent) g (false_acknowledgment i j r (in_set x)) small i p.receiver h (hear (dash t book) j r (in_set x)) (rows_grow _ r)
            (h.did t book (g.site i p.receiver) p.sender (ap (within_of x) (sym q) ∙ p.operands)) (g.position i p.receiver)
            (false_acknowledgment_judged t book (world_of t book (lent sites log entries sent)) i j r x ∙ sym (false_told book q) ∙ e) refl refl refl

        pub false-checked : AtSite i (Received x) sites after → Arrived t commands (false_check i j r (in_set x)) sent sites accepted after
        false-checked h =
            λ book log entries q g.
            one_site t book (lent sites log entries sent) g (false_check i j r (in_set x)) small i p.receiver h (receive (dash t book) (in_set x)) (omega arith)
            (h.did t book (g.site i p.receiver) (ap (within_of x) (sym q) ∙ p.operands)) (g.position i p.receiver)
            (false_check_judged t book (world_of t book (lent sites log entries sent)) i j r x ∙ sym (false_told book q) ∙ e) refl refl refl
