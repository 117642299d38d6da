-- Commands that are acked: no two of a round conflict, and each is in NC if the round is decided.
-- Rests on Promises, Heard and the quorum inequalities.
use Rattle.std.specs.Prelude.{◌≡◌, refl, Bool, true, false, ◌&&◌, ◌||◌, not, ◌⊎◌, ℕ, ◌<◌, Some}
use Rattle.std.proofs.Common.{sym, ◌∙◌, ap, inl, inr, ⊎_elim, arith, le-leb}
use Rattle.theory.specs.Sets.{Set, count}
use Rattle.theory.specs.Counting.{left, right, either, never, not-true, known, count_mono, count_minus, quorum, correct_common}
use Rattle.protocol.specs.System.{System, correct}
use Rattle.protocol.specs.Recovery.{Standing, absent, valid, excluded, is_valid, nc_of, Tally, decide, nc_set}
use Rattle.protocol.specs.StandingLaws.{Backed}
use Rattle.protocol.proofs.StandingLaws.{decided_backed}
use Rattle.protocol.specs.RecoveryLaws.{decided_count}
use Rattle.protocol.specs.World.{World}
use Rattle.agreement.specs.Promises.{said, Promises}
use Rattle.agreement.specs.Heard.{AllHeard}
use Rattle.agreement.specs.Acked.{Sizes, vouches, Acked}

module _ (S : System) where
  open S use {machine, commands, sites, faulty, n_ack, n_chk, majority}

  -- A correct site that vouches for a command has said it.
  voucher : (j : ℕ) (b : Bool) → faulty j ≡ false → (faulty j || b) ≡ true → b ≡ true
  voucher j b e h = ⊎_elim (λ z. absurd (never (faulty j) z e)) (λ z. z) (either (faulty j) b h)

  is_correct : (j : ℕ) → faulty j ≡ false → correct S j ≡ true
  is_correct j e = ap not e

  -- A fast delivery rests on an acked command.
  pub fast_acked : (w : World S) → AllHeard S w → (i m : ℕ) → (w.site i).fast m ≡ true → Acked S w.acks (w.site i).round m
  fast_acked w v i m h =
      omega (
        arith,
        (v i).enough m h,
        count_mono sites (λ j. (w.site i).heard j (w.site i).round m) (vouches S w.acks (w.site i).round m) (λ j l k. go j (known (faulty j)) k),
      )
    where
      go : (j : ℕ) → (faulty j ≡ true) ⊎ (faulty j ≡ false) → (w.site i).heard j (w.site i).round m ≡ true → vouches S w.acks (w.site i).round m j ≡ true
      go j (inl e) k = ap (λ (b : Bool). b || said (w.acks j (w.site i).round) m) e
      go j (inr e) k = or_said (faulty j) ((v i).sent j (w.site i).round m (is_correct j e) k)
        where
          or_said : (b : Bool) → said (w.acks j (w.site i).round) m ≡ true → (b || said (w.acks j (w.site i).round) m) ≡ true
          or_said true z = refl
          or_said false z = z

  module _ (f : ℕ) (sizes : Sizes S f) (w : World S) (promises : Promises S w) where
    -- Two acked commands of a round do not conflict: a correct site has said both.
    pub acked_calm : (r a b : ℕ) → a < commands → b < commands → Acked S w.acks r a → Acked S w.acks r b → machine.conflict a b ≡ false
    acked_calm r a b la lb ha hb =
        let q = sizes.quorums.common in
        let c = correct_common sites f (vouches S w.acks r a) (vouches S w.acks r b) faulty sizes.few (omega arith) in
        (promises c.0 (is_correct c.0 c.4)).calm r a b la lb (voucher c.0 _ c.4 c.2) (voucher c.0 _ c.4 c.3)

    -- An acked command of a decided round is in its NC: a majority of the valid sources are correct and said it.
    pub acked_decided : (r m : ℕ) (d : Tally) → Acked S w.acks r m → decide S r w.log ≡ Some d → nc_set S d m ≡ true
    acked_decided r m d h e =
        let p : ℕ → Bool = λ j. vouches S w.acks r m j && is_valid (d j) in
        let q = sizes.quorums.covers in
        le-leb majority (count sites (λ j. nc_of (d j) m))
        (omega (
          arith,
          decided_count S r w.log d e,
          quorum sites (vouches S w.acks r m) (λ j. is_valid (d j)),
          count_minus sites p faulty,
          sizes.few,
          count_mono sites (λ j. p j && not (faulty j)) (λ j. nc_of (d j) m) (λ j l k. has j (d j) (decided_backed S r w.log d e j) k),
        ))
      where
        has : (j : ℕ) (s : Standing) → Backed S j r w.log s → (vouches S w.acks r m j && is_valid s && not (faulty j)) ≡ true → nc_of s m ≡ true
        has j absent k z = absurd (never false (right (vouches S w.acks r m j) false (left (vouches S w.acks r m j && false) (not (faulty j)) z)) refl)
        has j (valid nc c) k z =
            let e = not-true (faulty j) (right (vouches S w.acks r m j && true) (not (faulty j)) z) in
            let s = voucher j (said (w.acks j r) m) e (left (vouches S w.acks r m j) true (left (vouches S w.acks r m j && true) (not (faulty j)) z)) in
            let b = k.1 in
            sym (ap (λ (x : Set). x m) b.same_nc)
            ∙ (promises j (is_correct j e)).kept b.entry b.logged b.source m (ap (λ (x : ℕ). said (w.acks j x) m) b.at ∙ s)
        has j excluded k z = absurd (never false (right (vouches S w.acks r m j) false (left (vouches S w.acks r m j && false) (not (faulty j)) z)) refl)
