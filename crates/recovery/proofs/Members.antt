-- The words of a decision have the members of the protocol's sets: no set in the log has a command beyond the capacity.
-- Assumes nothing.
use Rattle.std.specs.Prelude.{Some}
use mathlib.Core.Path.{◌≡◌, refl, sym, ap, ◌∙◌}
use mathlib.Core.Bool.{Bool, false, ◌&&◌, ◌||◌, not}
use mathlib.Core.List.{List}
use mathlib.Core.Logic.{◌⊎◌, inl, inr}
use Prim.Native.Nat.{ℕ, zero, suc, ◌*◌, ◌≤◌, ◌<◌}
use native.Mathlib.Omega.{arith}
use lib.Dec.{leb}
use lib.ListN.{length, get_or}
use borrow.Author.Tests.{lt-leb}
use Rattle.theory.specs.Counting.{any_of_none, count_of_none}
use Rattle.sets.specs.Sets.{capacity, in_set}
use Rattle.sets.proofs.Laws.{in_above, set_back}
use Rattle.protocol.specs.System.{System}
use Rattle.protocol.specs.Recovery.{Entry, Standing, absent, valid, excluded, nc_of, c_of, Tally, decide, nc_set, c_set}
use Rattle.protocol.specs.StandingLaws.{Logged, logged_split, Backed}
use Rattle.protocol.proofs.StandingLaws.{decided_backed}
use Rattle.entries.specs.Entries.{entry_size, entry_of, view_entry, log_to}
use Rattle.entries.proofs.Bytes.{entry_fits}
use Rattle.recovery.specs.Decisions.{sets_of}

module _ (b : List ℕ) (small : (i : ℕ) → get_or b i 0 < 256) where
  logged_bounded : (k : ℕ) → k * entry_size ≤ length b → (e : Entry) → Logged e (log_to b k) → (m : ℕ) → capacity ≤ m
      → (e.nc m ≡ false) × (e.c m ≡ false)
  unfolding log_to
  logged_bounded zero h e g m l = absurd g
  logged_bounded (suc k) h e g m l =
      go (logged_split e (view_entry (entry_of b k)) (log_to b k) g) (λ w. logged_bounded k (omega arith) e w m l)
    where
      go : Logged e (log_to b k) ⊎ (e ≡ view_entry (entry_of b k)) → (Logged e (log_to b k) → (e.nc m ≡ false) × (e.c m ≡ false))
          → (e.nc m ≡ false) × (e.c m ≡ false)
      go (inl w) f = f w
      go (inr q) f =
          let z = entry_fits b small k (omega arith) in
          (ap (λ (x : Entry). x.nc m) q ∙ in_above (entry_of b k).nc m z.nc l, ap (λ (x : Entry). x.c m) q ∙ in_above (entry_of b k).c m z.c l)

  module _ (S : System) (r k : ℕ) (h : k * entry_size ≤ length b) (d : Tally) (decided : decide S r (log_to b k) ≡ Some d) where
    valid_bounded : (j m : ℕ) → capacity ≤ m → (nc_of (d j) m ≡ false) × (c_of (d j) m ≡ false)
    valid_bounded j m l = go (d j) (decided_backed S r (log_to b k) d decided j)
      where
        go : (x : Standing) → Backed S j r (log_to b k) x → (nc_of x m ≡ false) × (c_of x m ≡ false)
        go absent w = (refl, refl)
        go (valid nc c) w =
            let z = logged_bounded k h w.1.entry w.1.logged m l in
            (ap (λ (x : ℕ → Bool). x m) (sym w.1.same_nc) ∙ z.0, ap (λ (x : ℕ → Bool). x m) (sym w.1.same_c) ∙ z.1)
        go excluded w = (refl, refl)

    -- NC of the answer is the protocol's NCSet,
    pub members_nc : 1 ≤ S.majority → in_set (sets_of S d).nc ≡ nc_set S d
    members_nc g =
        set_back capacity (nc_set S d)
        (λ m l. ap (leb S.majority) (count_of_none S.sites (λ j. nc_of (d j) m) (λ j _. (valid_bounded j m l).0)) ∙ lt-leb S.majority 0 g)

    -- and C its CSet.
    pub members_c : in_set (sets_of S d).c ≡ c_set S d
    members_c =
        set_back capacity (c_set S d)
        (λ m l. ap (λ (x : Bool). x && not (nc_set S d m))
        (any_of_none S.sites (λ j. nc_of (d j) m || c_of (d j) m)
        (λ j f. λ i. (valid_bounded j m l).0 i || (valid_bounded j m l).1 i)))
