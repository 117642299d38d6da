-- A step carried out on the first bytes of a lent site is the outcome of its call.
-- Assumes nothing.
use mathlib.Core.Path.{◌≡◌, sym, ap, ◌∙◌}
use Rattle.std.specs.Prelude.{Err, Ok}
use mathlib.Core.List.{List, ◌++◌, append_assoc}
use Prim.Native.Nat.{ℕ, ◌≤◌}
use native.Mathlib.Omega.{arith}
use lib.ListN.{length, take, drop, length-take, take-append-drop}
use lib.Seq.{drop-append-le}
use Rattle.wire.proofs.Small.{Small, take_small}
use Rattle.refusals.specs.Refusals.{Verdict}
use Rattle.refusals.specs.Refusals.{code_of, settled}
use Rattle.table.specs.declared.SiteTable.{SiteTable}
use Rattle.table.specs.Table.{table_in}
use Rattle.register.specs.declared.Command.{Command}
use Rattle.commands.specs.Book.{commands_of}
use Rattle.protocol.specs.Site as protocol
use Rattle.system.specs.Dash.{dash}
use Rattle.layout.specs.Layout.{site_size, site_rounds, row_at, encode}
use Rattle.layout.specs.Good.{Good, Holds, HoldsOver}
use Rattle.layout.specs.Step.{Carried}
use Rattle.layout.proofs.Encode.{spanned, encode-view}
use Rattle.judging.specs.Outcomes.{outcome, answered}
use Rattle.judging.specs.Judging.{system_of, span_in, site_in, with_site}

module _ (site : List ℕ) (sized : site_size ≤ length site) where
  -- Past a site of k rows stands what is left of its bytes, and then what is past them.
  past-rows : (k : ℕ) → k ≤ site_rounds → drop (row_at k) (take site_size site) ++ drop site_size site ≡ drop (row_at k) site
  past-rows k l =
      let e = length-take site_size site in
      sym (drop-append-le (row_at k) (take site_size site) (drop site_size site) (omega arith)) ∙ ap (drop (row_at k)) (take-append-drop site_size site)

  -- Bytes that hold a site, before what is past them.
  pub written : (t : SiteTable) (book : List Command) {k : ℕ} {b : List ℕ} {s : protocol.Site (dash t book)} → Holds t book k (take site_size site) b s
      → b ++ drop site_size site ≡ encode t book k s ++ drop (row_at k) site
  written t book {k} {b} {s} h =
      let rows : k ≤ site_rounds = let l = h.good.head.span in let e = h.span in let q = spanned b in omega arith in
      ap (λ (x : List ℕ). x ++ drop site_size site) (h.bytes ∙ ap (λ (x : List ℕ). encode t book k s ++ x) h.past)
      ∙ append_assoc (encode t book k s) (drop (row_at k) (take site_size site)) (drop site_size site)
      ∙ ap (λ (x : List ℕ). encode t book k s ++ x) (past-rows k rows)

module _ (table book site : List ℕ) (good : Good (table_in table).sites (length (commands_of book)) (take site_size site)) (small : Small site) where
  -- The site as it was.
  pub as_before : {b : List ℕ} → HoldsOver (table_in table) (commands_of book) (take site_size site) b (site_in table book site) → b ++ drop site_size site ≡ site
  as_before h =
      ap (λ (x : List ℕ). x ++ drop site_size site)
      (h.bytes
      ∙ ap (λ (x : List ℕ). encode (table_in table) (commands_of book) (span_in site) (site_in table book site) ++ x) h.past
      ∙ encode-view (table_in table) (commands_of book) (take site_size site) good (take_small site_size site small))
      ∙ take-append-drop site_size site

  -- A step that is judged.
  pub carried : (v : Verdict) (new : protocol.Site (system_of table book)) {r : Verdict} {b : List ℕ} {code : ℕ}
      → Carried (table_in table) (commands_of book) v new (site_in table book site) (take site_size site) r b → code ≡ code_of r
      → outcome code (b ++ drop site_size site) ≡ answered v (with_site table book (span_in site) site new) site
  carried v new {r} {b} {code} h e = go v (e ∙ ap code_of h.answer) h.site
    where
      sized : site_size ≤ length site
      sized = let l = length-take site_size site in let q = good.size in omega arith

      go : (v : Verdict) → code ≡ code_of v → HoldsOver (table_in table) (commands_of book) (take site_size site) b (settled v new (site_in table book site))
          → outcome code (b ++ drop site_size site) ≡ answered v (with_site table book (span_in site) site new) site
      go (Ok _) q o = λ i. outcome (q i) (written site sized (table_in table) (commands_of book) o i)
      go (Err x) q o = λ i. outcome (q i) (as_before o i)
