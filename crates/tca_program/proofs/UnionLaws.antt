-- What was united is the union of what the inputs hold.
use Rattle.std.proofs.Common.{◌≡◌, ◌∙◌, ◌||◌, List, [], ◌∷◌, ◌++◌, sym, ap, append_assoc}
use Rattle.std.proofs.lemmas.List.{append-nil}
use Rattle.std.specs.List.{flat_map}
use Rattle.std.specs.List.Sorted.{IsStrictlySortedBy}
use Rattle.std.proofs.lemmas.List.Concat.{flat_map-cons}
use Rattle.tca_join.specs.Sets.{has, in_order}
use Rattle.tca_join.proofs.Sets.{has-append, has-in_order}
use Rattle.tca_join.proofs.Merge.{in_order_of_rising, in_order_alike}
use Rattle.tca_report.specs.report.Reports.{PacketReport, report_cmp}
use Rattle.tca_report.proofs.lemmas.report.Order.{report_total, report_exact}
use Rattle.tca_report.specs.input.Inputs.{InputView}
use Rattle.tca_program.specs.Unions.{HoldsReports, HoldReports, IsUnion}

-- the reports that the inputs hold, together with a set
pub record IsUnionWith (held : List PacketReport) (inputs : List InputView) (rs : List PacketReport) : Type 0 where
  pub lists : List (List PacketReport)
  pub hold : HoldReports inputs lists
  pub whole : rs ≡ in_order report_cmp (held ++ flat_map (λ rs. rs) lists)

pub no_input : (held : List PacketReport) → IsStrictlySortedBy report_cmp held → IsUnionWith held [] held
unfolding HoldReports
no_input held rises = record {
  lists = [];
  hold = tt;
  whole = sym (ap (in_order report_cmp) (append-nil held) ∙ in_order_of_rising report_cmp report_total report_exact held rises);
}

-- a set inside a union may be any list of its members
pub inside : (a b : List PacketReport) → in_order report_cmp (in_order report_cmp a ++ b) ≡ in_order report_cmp (a ++ b)
inside a b = in_order_alike report_cmp report_total report_exact (in_order report_cmp a ++ b) (a ++ b) (λ q.
    has-append report_cmp report_total (in_order report_cmp a) b q
    ∙ ap (λ x. x || has report_cmp b q) (has-in_order report_cmp report_total a q)
    ∙ sym (has-append report_cmp report_total a b q))

-- one input more in front
pub in_front : (held first more rs : List PacketReport) (input : InputView) (inputs : List InputView) → HoldsReports input first → more ≡ in_order report_cmp (held ++ first)
    → IsUnionWith more inputs rs → IsUnionWith held (input ∷ inputs) rs
unfolding HoldReports
in_front held first more rs input inputs holds is all =
    let rest = flat_map (λ rs. rs) all.lists in
    record {
      lists = first ∷ all.lists;
      hold = (holds, all.hold);
      whole =
          all.whole
          ∙ ap (λ (l : List PacketReport). in_order report_cmp (l ++ rest)) is
          ∙ inside (held ++ first) rest
          ∙ ap (in_order report_cmp) (append_assoc held first rest ∙ ap (λ (l : List PacketReport). held ++ l) (sym (flat_map-cons (λ rs. rs) first all.lists)));
    }

pub as_union : (inputs : List InputView) (rs : List PacketReport) → IsUnionWith [] inputs rs → IsUnion inputs rs
as_union inputs rs all = record { lists = all.lists; hold = all.hold; whole = all.whole }
