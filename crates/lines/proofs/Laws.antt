-- How long the lines of a print are.
-- Assumes nothing.
use mathlib.Core.Path.{◌≡◌, ap, ◌∙◌}
use mathlib.Core.List.{List, [], ◌∷◌}
use Prim.Native.Nat.{ℕ, ◌+◌, ◌*◌, ◌^◌, ◌≤◌, ◌<◌}
use native.Mathlib.Omega.{arith}
use lib.IntN.{ℤ, pos, negsuc}
use lib.ListN.{length, length-append}
use mir.Syntax.{w32}
use mir.Val.{SFits}
use Rattle.print.specs.Print.{digits, decimal, signed_decimal}
use Rattle.print.proofs.Laws.{length_digits, decimal_short, signed_short}
use Rattle.theory.specs.Machine.{Delivery}
use Rattle.lines.specs.Lines.{numbered, run_line, step_line, refused_line, site_head, delivery_text, deliveries_text, site_line}

pub numbered-length : (x : ℕ) (text : List ℕ) → length (numbered x text) ≡ 2 + length text
numbered-length x text = length-append (digits 2 x) text ∙ ap (λ (n : ℕ). n + length text) (length_digits 2 x)

pub run_length : (sites faulty commands : ℕ) → length (run_line sites faulty commands) ≡ 28 + length (decimal sites) + length (decimal faulty) + length (decimal commands)
unfolding run_line
run_length sites faulty commands = simp length-append (omega arith)

pub step-length : (step refusal : ℕ) → length (step_line step refusal) ≡ 15 + length (decimal step) + length (decimal refusal)
unfolding step_line
step-length step refusal = simp length-append (omega arith)

pub refused_length : (refusal : ℕ) → length (refused_line refusal) ≡ 9 + length (decimal refusal)
unfolding refused_line
refused_length refusal = simp length-append (omega arith)

pub head-length : (site round : ℕ) → length (site_head site round) ≡ 26
unfolding site_head
head-length site round =
    let a = length_digits 2 site in
    let b = length_digits 2 round in
    simp length-append (omega arith)

pub delivery_length : (command : ℕ) (answer : ℤ) → length (delivery_text command answer) ≡ 4 + length (signed_decimal answer)
unfolding delivery_text
delivery_length command answer = let a = length_digits 2 command in simp length-append (omega arith)

-- 11 sites, 2 faulty ones and 64 commands at most.
pub run_short : (sites faulty commands : ℕ) → sites < 100 → faulty < 10 → commands < 100 → length (run_line sites faulty commands) ≤ 33
run_short sites faulty commands a b c =
    omega (arith, run_length sites faulty commands, decimal_short 1 sites a, decimal_short 0 faulty b, decimal_short 1 commands c)

-- A run of 60,000 bytes has at most 30,000 steps.
pub refused_short : (refusal : ℕ) → refusal < 100 → length (refused_line refusal) ≤ 11
refused_short refusal a = omega (arith, refused_length refusal, decimal_short 1 refusal a)

-- An answer of 4 bytes has at most ten digits and a minus sign.
pub answer_short : (answer : ℤ) → SFits w32 answer → length (signed_decimal answer) ≤ 11
answer_short (pos n) f = let h : n < 2 ^ 31 = f.sfits in signed_short 9 (pos n) (omega arith)
answer_short (negsuc n) f = let h : n < 2 ^ 31 = f.sfits in signed_short 9 (negsuc n) (omega arith)

pub delivery_short : (command : ℕ) (answer : ℤ) → SFits w32 answer → length (delivery_text command answer) ≤ 15
delivery_short command answer f = omega (arith, delivery_length command answer, answer_short answer f)

-- Every answer of a list of deliveries fits 4 bytes.
abbrev pub AllFit : List (Delivery ℤ) → Type 0
AllFit [] = Unit {0}
AllFit (d ∷ ds) = SFits w32 d.answer × AllFit ds

pub deliveries_short : (ds : List (Delivery ℤ)) → AllFit ds → length (deliveries_text ds) ≤ 15 * length ds
deliveries_short [] f = omega arith
deliveries_short (d ∷ ds) f =
    let a = delivery_short d.command d.answer f.0 in
    let b = deliveries_short ds f.1 in
    omega (arith, length-append (delivery_text d.command d.answer) (deliveries_text ds))

pub site_length : (site round : ℕ) (ds : List (Delivery ℤ)) → length (site_line site round ds) ≡ 27 + length (deliveries_text ds)
unfolding site_line
site_length site round ds = let a = head-length site round in simp length-append (omega arith)

-- A site's line of n deliveries.
pub site_short : (site round : ℕ) (ds : List (Delivery ℤ)) → AllFit ds → length (site_line site round ds) ≤ 27 + 15 * length ds
site_short site round ds f = omega (arith, site_length site round ds, deliveries_short ds f)
