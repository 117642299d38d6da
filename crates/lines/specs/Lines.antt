-- The lines of a run's print: document 01, "A run and its print". The words never change with their numbers.
-- Assumes nothing.
use Rattle.std.specs.Prelude.{List, [], ◌∷◌, ◌++◌, ℕ, ℤ}
use Rattle.theory.specs.Machine.{Delivery}
use Rattle.print.specs.Ascii.{ascii}
use Rattle.print.specs.Print.{digits, decimal, signed_decimal}

-- A number and the text after it.
abbrev pub counted : ℕ → List ℕ → List ℕ
counted x text = decimal x ++ text

-- A number of two digits, with a leading zero below 10, and the text after it.
abbrev pub numbered : ℕ → List ℕ → List ℕ
numbered x text = digits 2 x ++ text

-- The end of a line.
abbrev pub line_end : List ℕ
line_end = ascii "\n"

-- The first line: how many sites, how many bits set in the mask, how many commands.
unfoldable pub run_line : ℕ → ℕ → ℕ → List ℕ
run_line sites faulty commands =
    ascii "run " ++ counted sites (ascii " sites ") ++ counted faulty (ascii " liars ") ++ counted commands (ascii " commands\n")

-- The line of a refused step: its place among the steps, from 1, and the refusal's number.
unfoldable pub step_line : ℕ → ℕ → List ℕ
step_line step refusal = ascii "step " ++ counted step (ascii " refused ") ++ counted refusal line_end

-- All that a refused header, book or size prints.
unfoldable pub refused_line : ℕ → List ℕ
refused_line refusal = ascii "refused " ++ counted refusal line_end

-- The start of a site's line. A site without deliveries ends its line here.
unfoldable pub site_head : ℕ → ℕ → List ℕ
site_head site round = ascii "site " ++ numbered site (ascii " round ") ++ numbered round (ascii " delivered")

-- A delivery in a site's line: the command and its answer.
unfoldable pub delivery_text : ℕ → ℤ → List ℕ
delivery_text command answer = ascii " " ++ numbered command (ascii "=") ++ signed_decimal answer

-- Deliveries, the first first.
abbrev pub deliveries_text : List (Delivery ℤ) → List ℕ
deliveries_text [] = []
deliveries_text (d ∷ ds) = delivery_text d.command d.answer ++ deliveries_text ds

-- A site's line.
unfoldable pub site_line : ℕ → ℕ → List (Delivery ℤ) → List ℕ
site_line site round ds = site_head site round ++ deliveries_text ds ++ line_end
