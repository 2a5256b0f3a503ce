-- The bill of shards.
use Rattle.std.proofs.Common.{◌≡◌, ℕ, Bool, true, false, not, List, [], ◌∷◌, map, filter, is_none, refl, sym, ap, ◌∙◌}
use Rattle.std.specs.List.{AllByRecursion, list_all, enumerate_from}
use Rattle.std.proofs.lemmas.Bool.{false≢true}
use Rattle.tca_join.specs.SetLaws.{union}
use Rattle.tca_report.specs.report.Reports.{PacketReport, report_cmp}
use Rattle.tca_meters.specs.Packets.{coloured}
use Rattle.tca_log.specs.Disputes.{undisputed}
use Rattle.tca_accounts.specs.Plans.{AccountPlan, PlannedAccount, owns, pair_of, account_of}
use Rattle.tca_accounts.specs.Bills.{bill_of, is_number, coloured_in, reports_of, tally_of}
use Rattle.tca_accounts.specs.declared.tally.Tally.{Tally}
use Rattle.tca_shards.specs.Shards.{added_tallies, added_accounts, added_bills, is_one_sided, SidesAddUp, ShardsAddUp}
use Rattle.tca_shards.proofs.Kept.{either, filter_within, filter_apart, length_split}
use Rattle.tca_shards.proofs.Sides.{on_side, undisputed_of_side, kept_split, disputed_split, first_side, second_side}
use Rattle.tca_shards.proofs.AddedUp.{nothing_right, nothing_left}
use Rattle.tca_shards.proofs.Owned.{owners_own, all_numbered, owned_side}

pub off_it : (b : Bool) → not b ≡ true → b ≡ false
off_it true h = absurd (false≢true h)
off_it false h = refl

on_it : (b : Bool) → b ≡ true → not b ≡ false
on_it b h = ap not h

none_coloured : (a : PlannedAccount) → coloured_in a [] ≡ []
unfolding coloured
none_coloured a = refl

module _ (plan : AccountPlan) where
  abbrev tally : List PacketReport → ℕ × PlannedAccount → Tally
  tally rs a = tally_of plan.period (coloured_in a.1 (reports_of plan a.0 rs))

  abbrev Owns : ℕ × PlannedAccount → Type 0
  Owns a = (r : PacketReport) → is_number a.0 (account_of plan r) ≡ true → owns a.1 (pair_of r) ≡ true

  -- an account whose pairs are all on a side has all of its reports there
  pub reports_all : (side : ℕ → Bool) (rs : List PacketReport) (a : ℕ × PlannedAccount) → Owns a → list_all (λ (p : ℕ × ℕ). side p.0) a.1.pairs ≡ true
      → reports_of plan a.0 (filter (on_side side) rs) ≡ reports_of plan a.0 rs
  reports_all side rs a own all =
      ap (filter (λ r. is_number a.0 (account_of plan r))) (undisputed_of_side side rs)
      ∙ filter_within (λ r. is_number a.0 (account_of plan r)) (on_side side) (undisputed rs) (λ r h. owned_side side (pair_of r) a.1.pairs all (own r h))

  -- and none on another
  pub reports_none : (side its : ℕ → Bool) → ((d : ℕ) → its d ≡ true → side d ≡ false) → (rs : List PacketReport) (a : ℕ × PlannedAccount) → Owns a
      → list_all (λ (p : ℕ × ℕ). its p.0) a.1.pairs ≡ true → reports_of plan a.0 (filter (on_side side) rs) ≡ []
  reports_none side its clash rs a own all =
      ap (filter (λ r. is_number a.0 (account_of plan r))) (undisputed_of_side side rs)
      ∙ filter_apart (λ r. is_number a.0 (account_of plan r)) (on_side side) (undisputed rs) (λ r h. clash r.domain (owned_side its (pair_of r) a.1.pairs all (own r h)))

  module _ (side : ℕ → Bool) (rs : List PacketReport) where
    abbrev here : List PacketReport
    here = filter (on_side side) rs

    abbrev there : List PacketReport
    there = filter (λ (r : PacketReport). not (side r.domain)) rs

    abbrev off : ℕ → Bool
    off d = not (side d)

    tally_none : (a : ℕ × PlannedAccount) (part : List PacketReport) → reports_of plan a.0 part ≡ [] → tally part a ≡ tally_of plan.period []
    tally_none a part none = ap (λ (l : List PacketReport). tally_of plan.period (coloured_in a.1 l)) none ∙ ap (tally_of plan.period) (none_coloured a.1)

    tally_all : (a : ℕ × PlannedAccount) (part : List PacketReport) → reports_of plan a.0 part ≡ reports_of plan a.0 rs → tally part a ≡ tally rs a
    tally_all a part same = ap (λ (l : List PacketReport). tally_of plan.period (coloured_in a.1 l)) same

    pub tally_split : (a : ℕ × PlannedAccount) → Owns a → is_one_sided side a.1 ≡ true → tally rs a ≡ added_tallies (tally here a) (tally there a)
    tally_split a own one =
        either (list_all (λ (p : ℕ × ℕ). side p.0) a.1.pairs) (list_all (λ (p : ℕ × ℕ). not (side p.0)) a.1.pairs)
        (λ t. sym (
        (λ i. added_tallies (tally_all a here (reports_all side rs a own t) i) (tally_none a there (reports_none off side (λ d. on_it (side d)) rs a own t) i))
        ∙ nothing_right plan.period (coloured_in a.1 (reports_of plan a.0 rs))))
        (λ t. sym (
        (λ i. added_tallies (tally_none a here (reports_none side off (λ d. off_it (side d)) rs a own t) i) (tally_all a there (reports_all off rs a own t) i))
        ∙ nothing_left plan.period (coloured_in a.1 (reports_of plan a.0 rs))))
        one

    tallies_split : (accounts : List (ℕ × PlannedAccount)) → AllByRecursion Owns accounts → AllByRecursion (λ (a : ℕ × PlannedAccount). is_one_sided side a.1 ≡ true) accounts
        → map (tally rs) accounts ≡ added_accounts (map (tally here) accounts) (map (tally there) accounts)
    unfolding added_accounts
    tallies_split [] own one = refl
    tallies_split (a ∷ accounts) own one = λ i. tally_split a own.0 one.0 i ∷ tallies_split accounts own.1 one.1 i

pub sides_add_up : SidesAddUp
sides_add_up plan side rs one = λ i. record {
  reports = length_split (on_side side) rs i;
  disputed = disputed_split side rs i;
  unassigned = kept_split side rs (λ r. is_none (account_of plan r)) i;
  accounts = tallies_split plan side rs (enumerate_from 0 plan.accounts) (owners_own plan) (all_numbered (λ a. is_one_sided side a ≡ true) 0 plan.accounts one) i;
}

pub shards_add_up : ShardsAddUp
shards_add_up plan side xs ys s =
    sides_add_up plan side (union report_cmp xs ys) s.accounts
    ∙ (λ i. added_bills (bill_of plan (first_side side xs ys s.first s.second s.within s.apart i)) (bill_of plan (second_side side xs ys s.first s.second s.within s.apart i)))
