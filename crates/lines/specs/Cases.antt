-- The lines that document 01 prints, as they stand there.
-- Assumes nothing.
use Rattle.std.specs.Prelude.{◌≡◌, refl, [], ◌∷◌, pos, negsuc}
use Rattle.print.specs.Ascii.{ascii}
use Rattle.print.specs.Print.{digits, width_to, width, decimal, signed_decimal}
use Rattle.lines.specs.Lines.{run_line, step_line, refused_line, site_head, delivery_text, site_line}

run_line_lem : run_line 1 0 2 ≡ ascii "run 1 sites 0 liars 2 commands\n"
unfolding run_line decimal width width_to digits
run_line_lem = refl

site_line_lem : site_line 0 2 (record { command = 0; answer = pos 0 } ∷ record { command = 1; answer = pos 14000 } ∷ [])
    ≡ ascii "site 00 round 02 delivered 00=0 01=14000\n"
unfolding site_line site_head delivery_text signed_decimal decimal width width_to digits
site_line_lem = refl

site_without_deliveries : site_line 10 33 [] ≡ ascii "site 10 round 33 delivered\n"
unfolding site_line site_head digits
site_without_deliveries = refl

answer_below_zero : delivery_text 7 (negsuc 4) ≡ ascii " 07=-5"
unfolding delivery_text signed_decimal decimal width width_to digits
answer_below_zero = refl

step_line_lem : step_line 3 6 ≡ ascii "step 3 refused 6\n"
unfolding step_line decimal width width_to digits
step_line_lem = refl

refused_line_lem : refused_line 2 ≡ ascii "refused 2\n"
unfolding refused_line decimal width width_to digits
refused_line_lem = refl
