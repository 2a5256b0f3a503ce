-- Metering a list of reports one by one.
use Rattle.std.proofs.Common.{◌≡◌, ◌<◌, ◌≤◌, List, [], ◌∷◌, ◌++◌, length, refl, sym, ap, ◌∙◌, arith}
use Rattle.std.specs.List.{AllByRecursion}
use Rattle.std.specs.List.Sorted.{IsStrictlySortedBy}
use Rattle.std.proofs.lemmas.List.{append_assoc, append-nil, length-append}
use Rattle.tca_report.specs.report.Reports.{PacketReport, report_cmp}
use Rattle.tca_meters.specs.declared.colour.Colour.{Colour}
use Rattle.tca_meters.specs.declared.colour.Colour.TheVariants.{Green}
use Rattle.tca_meters.specs.Packets.{Rule, coloured, colours}
use Rattle.tca_accounts.specs.Sums.{packet_of, sums_of, with_packet}
use Rattle.tca_accounts.specs.Metering.{HasRoom, answer_for, metered_none, metered_with}
use Rattle.tca_accounts.specs.declared.metered.Metered.{Metered}
use Rattle.tca_accounts.proofs.Bills.{coloured_length, from_zero, rest_later}
use Rattle.tca_accounts.proofs.Counting.{packets_few, sums_push}

-- where metering stands before its later reports: the colours so far, and those that the meter gives from here on, are the
-- whole, and the sums are those of the reports so far
pub record IsMetering {S : Type 0} (rule : Rule S) (whole : List (PacketReport × Colour)) (later : List PacketReport) (m : Metered S) : Type 0 where
  pub sofar : List (PacketReport × Colour)
  pub split : sofar ++ coloured rule (packet_of Green) m.state m.time later ≡ whole
  pub total : m.total ≡ sums_of sofar
  pub limit : length whole ≤ 4194304
  pub rises : IsStrictlySortedBy report_cmp later
  pub times : AllByRecursion (λ (r : PacketReport). m.time ≤ r.time) later

-- before the first report
pub metering_begun : {S : Type 0} (rule : Rule S) (reports : List PacketReport) → IsStrictlySortedBy report_cmp reports → length reports ≤ 4194304
    → IsMetering rule (colours rule (packet_of Green) reports) reports (metered_none rule)
metering_begun rule reports rises few = record {
  sofar = [];
  split = refl;
  total = refl;
  limit = omega (arith, coloured_length rule (packet_of Green) rule.opening 0 reports, few);
  rises = rises;
  times = from_zero reports;
}

module _ {S : Type 0} (rule : Rule S) (whole : List (PacketReport × Colour)) (m : Metered S) where
  -- before another report there is room for it
  pub room : (r : PacketReport) (rest : List PacketReport) → IsMetering rule whole (r ∷ rest) m → HasRoom m.total
  room r rest k c =
      let split = ap length k.split in
      let all = length-append k.sofar (coloured rule (packet_of Green) m.state m.time (r ∷ rest)) in
      let left = coloured_length rule (packet_of Green) m.state m.time (r ∷ rest) in
      let few : length k.sofar < 4194304 = omega (arith, split, all, left, k.limit) in
      rw k.total (omega (arith, packets_few c k.sofar))

  -- that report in the sums
  pub metering_more : (r : PacketReport) (rest : List PacketReport) → IsMetering rule whole (r ∷ rest) m → IsMetering rule whole rest (metered_with rule Green m r)
  unfolding coloured
  metering_more r rest k =
      let found = answer_for rule Green m r in
      let pair : PacketReport × Colour = (r, found.0) in
      let after = rest_later r rest k.rises in
      record {
        sofar = k.sofar ++ pair ∷ [];
        split = append_assoc k.sofar (pair ∷ []) _ ∙ k.split;
        total = ap (with_packet found.0 r.octets) k.total ∙ sym (sums_push k.sofar r found.0);
        limit = k.limit;
        rises = after.1;
        times = after.0;
      }

  -- once no report is left the sums are whole
  pub metering_done : IsMetering rule whole [] m → m.total ≡ sums_of whole
  unfolding coloured
  metering_done k = k.total ∙ ap sums_of (sym (append-nil k.sofar) ∙ k.split)
