-- The verdicts on steps 01 to 06, as the code finds them.
-- Assumes nothing.
use mathlib.Core.Path.{◌≡◌, refl, sym, ap, ◌∙◌}
use Rattle.std.specs.Prelude.{Err, Ok}
use mathlib.Core.Bool.{Bool, true, false, ◌&&◌, not}
use mathlib.Core.List.{List}
use Prim.Native.Nat.{ℕ, ◌≤◌, ◌<◌}
use lib.Dec.{leb, ltb}
use lib.ListN.{length}
use borrow.Author.Tests.{lt-ltb, le-ltb, ltb-true, leb-true}
use Rattle.refusals.specs.Refusals.{Verdict, accepted}
use Rattle.refusals.specs.declared.Refusal.TheVariants.{Range, Role, Disabled, ThirdEntry}
use Rattle.theory.specs.Sets.{pick}
use Rattle.theory.specs.Counting.{left, right, never, not-true}
use Rattle.sets.specs.declared.Set.{Set}
use Rattle.sets.specs.Sets.{capacity, in_set, within_of}
use Rattle.table.specs.declared.SiteTable.{SiteTable}
use Rattle.table.specs.Table.{faulty_of}
use Rattle.register.specs.declared.Command.{Command}
use Rattle.protocol.specs.System.{granted, ◌else◌⨾◌, verdict}
use Rattle.protocol.specs.Recovery.{entries}
use Rattle.protocol.specs.Site.{is_some}
use Rattle.protocol.specs.World.{World, command, acknowledgment, check, false_acknowledgment, false_check, false_entry, judge, sent_acknowledgment}
use Rattle.system.specs.Dash.{dash, last_round}
use Rattle.layout.specs.Layout.{site_rounds}
use Rattle.entries.specs.Entries.{in_range_of}
use Rattle.arrivals.specs.Messages.{in_ranges, message_verdict}

-- ---- messages

-- A message that passed, and whether there is one.
abbrev pub and_sent : Verdict → Bool → Verdict
and_sent (Ok _) s = pick s accepted (Err Disabled)
and_sent (Err r) s = Err r

-- What is known of a message that passed.
pub record Passed (t : SiteTable) (i j r : ℕ) (other role : Bool) : Type 0 where
  pub receiver : i < t.sites
  pub sender : j < t.sites
  pub first : 1 ≤ r
  pub last : r ≤ site_rounds
  pub operands : other ≡ true
  pub correct : faulty_of t i ≡ false
  pub has_role : role ≡ true

module _ (t : SiteTable) (i j r : ℕ) (other role : Bool) where
  pub passed : {v : Verdict} → v ≡ message_verdict t i j r other role → v ≡ accepted → Passed t i j r other role
  passed ev h = go (in_ranges t i j r && other) (not (faulty_of t i) && role) refl refl (sym ev ∙ h)
    where
      go : (x y : Bool) → (in_ranges t i j r && other) ≡ x → (not (faulty_of t i) && role) ≡ y → pick x (pick y accepted (Err Role)) (Err Range) ≡ accepted
          → Passed t i j r other role
      go true true ex ey k =
          let a = left (in_ranges t i j r) other ex in
          let b = left (ltb i t.sites && ltb j t.sites && leb 1 r) (leb r site_rounds) a in
          let c = left (ltb i t.sites && ltb j t.sites) (leb 1 r) b in
          record {
            receiver = ltb-true i t.sites (left (ltb i t.sites) (ltb j t.sites) c);
            sender = ltb-true j t.sites (right (ltb i t.sites) (ltb j t.sites) c);
            first = leb-true 1 r (right (ltb i t.sites && ltb j t.sites) (leb 1 r) b);
            last = leb-true r site_rounds (right (ltb i t.sites && ltb j t.sites && leb 1 r) (leb r site_rounds) a);
            operands = right (in_ranges t i j r) other ex;
            correct = not-true (faulty_of t i) (left (not (faulty_of t i)) role ey);
            has_role = right (not (faulty_of t i)) role ey;
          }
      go true false ex ey k = absurd (never true refl (let z : true ≡ false = cc in z))
      go false y ex ey k = absurd (never true refl (let z : true ≡ false = cc in z))

  -- The verdict as the code comes to it.
  pub out_of_range : (in_ranges t i j r && other) ≡ false → Err Range ≡ message_verdict t i j r other role
  out_of_range e = sym (ap (λ (x : Bool). pick x (pick (not (faulty_of t i) && role) accepted (Err Role)) (Err Range)) e)

  module _ (e : (in_ranges t i j r && other) ≡ true) where
    in_range : pick (not (faulty_of t i) && role) accepted (Err Role) ≡ message_verdict t i j r other role
    in_range = sym (ap (λ (x : Bool). pick x (pick (not (faulty_of t i) && role) accepted (Err Role)) (Err Range)) e)

    pub faulty_receiver : faulty_of t i ≡ true → Err Role ≡ message_verdict t i j r other role
    faulty_receiver f = sym (ap (λ (x : Bool). pick (not x && role) accepted (Err Role)) f) ∙ in_range

    pub by_role : faulty_of t i ≡ false → pick role accepted (Err Role) ≡ message_verdict t i j r other role
    by_role f = sym (ap (λ (x : Bool). pick (not x && role) accepted (Err Role)) f) ∙ in_range

module _ (t : SiteTable) (book : List Command) (w : World (dash t book)) where
  -- 01
  pub command_site : (i m : ℕ) → t.sites ≤ i → judge (dash t book) w (command i m) ≡ Err Range
  command_site i m h = simp (le-ltb i t.sites h)

  pub command_number : (i m : ℕ) → i < t.sites → length book ≤ m → judge (dash t book) w (command i m) ≡ Err Range
  command_number i m a h = simp (lt-ltb i t.sites a, le-ltb m (length book) h)

  pub command_role : (i m : ℕ) → i < t.sites → m < length book → faulty_of t i ≡ true → judge (dash t book) w (command i m) ≡ Err Role
  command_role i m a b h = simp (lt-ltb i t.sites a, lt-ltb m (length book) b, h)

  pub command_taken : (i m : ℕ) → i < t.sites → m < length book → faulty_of t i ≡ false → judge (dash t book) w (command i m) ≡ accepted
  command_taken i m a b h = simp (lt-ltb i t.sites a, lt-ltb m (length book) b, h)

  -- 02
  pub acknowledgment_judged : (i j r a : ℕ)
      → judge (dash t book) w (acknowledgment i j r a)
      ≡ and_sent (message_verdict t i j r (leb 1 a && leb a capacity) (not (faulty_of t j))) (is_some (sent_acknowledgment (dash t book) w j r a))
  acknowledgment_judged i j r a =
      go (ltb i t.sites) (ltb j t.sites) (leb 1 r) (leb r site_rounds) (leb 1 a) (leb a capacity) (not (faulty_of t i)) (not (faulty_of t j))
      (is_some (sent_acknowledgment (dash t book) w j r a))
    where
      go : (a b c d e f g h s : Bool)
          → verdict (a else Range ⨾ b else Range ⨾ c else Range ⨾ d else Range ⨾ e else Range ⨾ f else Range ⨾ g else Role ⨾ h else Role ⨾ s else Disabled ⨾ granted)
          ≡ and_sent (pick (a && b && c && d && (e && f)) (pick (g && h) accepted (Err Role)) (Err Range)) s
      go false b c d e f g h s = refl
      go true false c d e f g h s = refl
      go true true false d e f g h s = refl
      go true true true false e f g h s = refl
      go true true true true false f g h s = refl
      go true true true true true false g h s = refl
      go true true true true true true false h s = refl
      go true true true true true true true false s = refl
      go true true true true true true true true false = refl
      go true true true true true true true true true = refl

  -- 03
  pub check_judged : (i j r : ℕ)
      → judge (dash t book) w (check i j r) ≡ and_sent (message_verdict t i j r true (not (faulty_of t j))) (is_some (w.checks j r))
  check_judged i j r =
      go (ltb i t.sites) (ltb j t.sites) (leb 1 r) (leb r site_rounds) (not (faulty_of t i)) (not (faulty_of t j)) (is_some (w.checks j r))
    where
      go : (a b c d g h s : Bool)
          → verdict (a else Range ⨾ b else Range ⨾ c else Range ⨾ d else Range ⨾ g else Role ⨾ h else Role ⨾ s else Disabled ⨾ granted)
          ≡ and_sent (pick (a && b && c && d && true) (pick (g && h) accepted (Err Role)) (Err Range)) s
      go false b c d g h s = refl
      go true false c d g h s = refl
      go true true false d g h s = refl
      go true true true false g h s = refl
      go true true true true false h s = refl
      go true true true true true false s = refl
      go true true true true true true false = refl
      go true true true true true true true = refl

  -- 04 and 05
  both_false : (a b c d e g h : Bool)
      → verdict (a else Range ⨾ b else Range ⨾ c else Range ⨾ d else Range ⨾ e else Range ⨾ g else Role ⨾ h else Role ⨾ granted)
      ≡ pick (a && b && c && d && e) (pick (g && h) accepted (Err Role)) (Err Range)
  both_false false b c d e g h = refl
  both_false true false c d e g h = refl
  both_false true true false d e g h = refl
  both_false true true true false e g h = refl
  both_false true true true true false g h = refl
  both_false true true true true true false h = refl
  both_false true true true true true true false = refl
  both_false true true true true true true true = refl

  pub false_acknowledgment_judged : (i j r : ℕ) (x : Set)
      → judge (dash t book) w (false_acknowledgment i j r (in_set x)) ≡ message_verdict t i j r (within_of x (length book)) (faulty_of t j)
  false_acknowledgment_judged i j r x =
      both_false (ltb i t.sites) (ltb j t.sites) (leb 1 r) (leb r site_rounds) (within_of x (length book)) (not (faulty_of t i)) (faulty_of t j)

  pub false_check_judged : (i j r : ℕ) (x : Set)
      → judge (dash t book) w (false_check i j r (in_set x)) ≡ message_verdict t i j r (within_of x (length book)) (faulty_of t j)
  false_check_judged i j r x =
      both_false (ltb i t.sites) (ltb j t.sites) (leb 1 r) (leb r site_rounds) (within_of x (length book)) (not (faulty_of t i)) (faulty_of t j)

  -- 06
  pub entry_judged : (j r : ℕ) (nc c : Set)
      → judge (dash t book) w (false_entry j r (in_set nc) (in_set c))
      ≡ pick (in_range_of t.sites (length book) (record { site = j; round = r; nc = nc; c = c }))
      (pick (faulty_of t j) (pick (ltb (entries j r w.log) 2) accepted (Err ThirdEntry)) (Err Role)) (Err Range)
  entry_judged j r nc c =
      go (ltb j t.sites) (leb 1 r) (leb r last_round) (within_of nc (length book)) (within_of c (length book)) (faulty_of t j) (ltb (entries j r w.log) 2)
    where
      go : (a b c d e f g : Bool)
          → verdict (a else Range ⨾ b else Range ⨾ c else Range ⨾ d else Range ⨾ e else Range ⨾ f else Role ⨾ g else ThirdEntry ⨾ granted)
          ≡ pick (a && b && c && d && e) (pick f (pick g accepted (Err ThirdEntry)) (Err Role)) (Err Range)
      go false b c d e f g = refl
      go true false c d e f g = refl
      go true true false d e f g = refl
      go true true true false e f g = refl
      go true true true true false f g = refl
      go true true true true true false g = refl
      go true true true true true true false = refl
      go true true true true true true true = refl
