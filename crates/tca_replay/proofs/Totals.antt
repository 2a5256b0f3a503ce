-- The bill of a book.
use Rattle.std.proofs.Common.{◌≡◌, ℕ, ◌<◌, List, [], ◌∷◌, length, get_or, None, refl, sym, ◌∙◌, arith, zero-add}
use Rattle.std.specs.Prelude.{map}
use Rattle.std.specs.List.{enumerate_from}
use Rattle.std.proofs.lemmas.List.FromFn.{get_or-enumerate_from, length-enumerate_from}
use Rattle.tca_join.specs.Sets.{in_order}
use Rattle.tca_report.specs.report.Reports.{PacketReport}
use Rattle.tca_meters.specs.Termed.{TermedMeter, termed_rule}
use Rattle.tca_log.specs.Disputes.{undisputed, disputed}
use Rattle.tca_accounts.specs.Plans.{AccountPlan, PlannedAccount}
use Rattle.tca_accounts.specs.Bills.{coloured_by, coloured_in, reports_of, tally_of, bill_of}
use Rattle.tca_accounts.specs.declared.tally.Tally.{Tally}
use Rattle.tca_replay.specs.Lanes.{LaneView, lane_resumed}
use Rattle.tca_replay.specs.Books.{BookView, Fits, AreLanes, AreEmpty, AreResumed, lane_tally}
use Rattle.tca_accounts.proofs.Bills.{same_maps}
use Rattle.tca_replay.proofs.Loops.{all_at}

pub resumed_all : (lanes : List (LaneView TermedMeter)) → AreResumed (map lane_resumed lanes)
resumed_all [] = tt
resumed_all (l ∷ lanes) = (refl, resumed_all lanes)

pub empty_resumed : (lanes : List (LaneView TermedMeter)) → AreEmpty lanes → AreResumed lanes
empty_resumed [] a = tt
empty_resumed (l ∷ lanes) a = (a.0.1, empty_resumed lanes a.1)

pub fits_nothing : (plan : AccountPlan) (k : ℕ) (lanes : List (LaneView TermedMeter)) → AreEmpty lanes → Fits [] (record { plan = plan; k = k; lanes = lanes; reports = 0; disputed = 0; unassigned = 0 })
unfolding undisputed disputed in_order
fits_nothing plan k lanes a = record {
  reports = refl;
  disputed_is = refl;
  unassigned_is = refl;
  rows = λ n l h. (all_at (λ (x : LaneView TermedMeter). (x.rows ≡ []) × (x.changed ≡ None)) n lanes l a h).0;
}

module _ (b : BookView) (a : AreLanes b.plan b.k b.lanes) (rs : List PacketReport) (fits : Fits rs b) where
  tally_at_place : (k : ℕ) (l : LaneView TermedMeter) (p : PlannedAccount) → k < length b.lanes → lane_tally (get_or b.lanes k l) ≡ tally_of b.plan.period (coloured_in (get_or b.plan.accounts k p) (reports_of b.plan k rs))
  tally_at_place k l p h =
      let is = a.each k p l (omega (arith, a.count)) in
      λ i. tally_of (is i).2 (coloured_by (termed_rule (is i).0) (is i).1 (fits.rows k l h i))

  tallies_are : map lane_tally b.lanes ≡ map (λ p. tally_of b.plan.period (coloured_in p.1 (reports_of b.plan p.0 rs))) (enumerate_from 0 b.plan.accounts)
  tallies_are =
      same_maps lane_tally (λ (p : ℕ × PlannedAccount). tally_of b.plan.period (coloured_in p.1 (reports_of b.plan p.0 rs))) b.lanes (enumerate_from 0 b.plan.accounts) (a.count ∙ sym (length-enumerate_from 0 b.plan.accounts)) (λ k l p h.
      let inside : k < length b.plan.accounts = omega (arith, a.count) in
      let at = get_or-enumerate_from 0 b.plan.accounts k p inside in
      rw (at, zero-add k) (tally_at_place k l p.1 h))

  pub bill_is : (tallies : List Tally) → tallies ≡ map lane_tally b.lanes → record { reports = b.reports; disputed = b.disputed; unassigned = b.unassigned; accounts = tallies } ≡ bill_of b.plan rs
  bill_is tallies is = λ i. record { reports = fits.reports i; disputed = fits.disputed_is i; unassigned = fits.unassigned_is i; accounts = (is ∙ tallies_are) i }
