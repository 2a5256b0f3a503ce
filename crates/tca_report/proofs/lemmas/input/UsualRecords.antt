-- A usual record makes the report of its numbers.
use Rattle.std.proofs.Common.{◌≡◌, ℕ, Bool, true, false, cond, List, length, Option, Some, None, Result, Ok, refl, sym, ap, ◌∙◌, arith}
use Rattle.std.proofs.lemmas.Bool.Decides.{nat_tests}
use Rattle.std.specs.Prelude.{◌==◌, ◌&&◌, nat_lt, nat_le, IfSome, option_map, option_and_then, unwrap_or}
use Rattle.std.specs.Option.{option_or}
use Rattle.byteorder.specs.Endian.{big_number}
use Rattle.tca_templates.specs.declared.numbers.Numbers.{Numbers}
use Rattle.tca_templates.specs.Records.{PlacedView}
use Rattle.tca_templates.specs.Chosen as fields
use Rattle.tca_templates.specs.Chosen.{choice}
use Rattle.tca_templates.specs.Numbers.{most_of, IsNumber, IsSize, IsPoint, IsInterface, AreNumbers}
use Rattle.tca_report.specs.report.Reports.{PacketReport, ranged, reported, time_end, most_octets, most_dscp}
use Rattle.tca_report.specs.input.Extract.{unsigned, date_time_milliseconds, size_value, code_point_value, header_in, time_in, section_in, octets_in, code_point_in, interface_in, judged, identity_in, extract_of}
use Rattle.tca_report.specs.declared.report.Identity.{Identity}
use Rattle.tca_report.specs.declared.report.Content.{Content}
use Rattle.tca_report.specs.declared.input.extraction.NotReport.{NotReport}
use Rattle.tca_report.proofs.lemmas.export.ReadingLoop.{ranged_some}
use Rattle.tca_report.proofs.lemmas.input.ChosenFields.{time_told, section_told, octets_told, code_point_told, interface_told}

milliseconds : (v : List ℕ) → length v ≡ 8 → date_time_milliseconds v ≡ Ok (Some (big_number 8 v))
milliseconds v long = rw long refl

number_fits : (most : ℕ) (v : List ℕ) (n : ℕ) → IsNumber most v n → unsigned most v ≡ Ok n
number_fits most v n is =
    let fits : (nat_le 1 (length v) && nat_le (length v) most) ≡ true = grind (arith, nat_tests, is.some, is.bound) in
    rw fits (ap (λ (m : ℕ). Ok m) (sym is.number))

size_fits : (e : ℕ) (v : List ℕ) (n : ℕ) → IsNumber (most_of e) v n → size_value e v ≡ Ok n
size_fits e v n is = go (e == 190) is
  where
    go : (b : Bool) → IsNumber (cond b 2 8) v n → cond b (unsigned 2 v) (unsigned 8 v) ≡ Ok n
    go true is = number_fits 2 v n is
    go false is = number_fits 8 v n is

sized : (o : Option (ℕ × List ℕ)) (section : Option (ℕ × ℕ)) (n : ℕ) → IsSize o n → option_or (option_map (λ (x : ℕ × List ℕ). size_value x.0 x.1) o) (option_map (λ x. Ok x.0) section) ≡ Some (Ok n)
sized None section n is = absurd is
sized (Some x) section n is = ap (λ (r : Result ℕ NotReport). Some r) (size_fits x.0 x.1 n is)

pointed : (o s : Option (ℕ × List ℕ)) (n : ℕ) → IsPoint o s n
    → unwrap_or (option_or (option_map (λ (x : ℕ × List ℕ). code_point_value x.0 x.1) o) (option_map (λ x. Ok x.1) (option_and_then header_in (option_map (λ (x : ℕ × List ℕ). x.1) s)))) (Ok 0) ≡ Ok n
pointed None None n is = ap (λ (m : ℕ). Ok m) (sym is)
pointed None (Some s) n is = absurd is
pointed (Some x) s n is = rw is.0 (number_fits 1 x.1 n is.1)

interfaced : (o : Option (ℕ × List ℕ)) (n : ℕ) → IsInterface o n → unwrap_or (option_map (λ (x : ℕ × List ℕ). unsigned 4 x.1) o) (Ok 0) ≡ Ok n
interfaced None n is = ap (λ (m : ℕ). Ok m) (sym is)
interfaced (Some x) n is = number_fits 4 x.1 n is

module _ (r : PlacedView) (n : Numbers) (are : AreNumbers r n) where
  usual_time : time_in r.fields ≡ Some (Ok (Some n.time))
  usual_time =
      sym (time_told r.fields (Some (323, are.value)) (sym are.time_told))
      ∙ ap (λ (x : Result (Option ℕ) NotReport). Some x) (milliseconds are.value are.time_length ∙ ap (λ (m : ℕ). Ok (Some m)) (sym are.time))

  usual_octets : octets_in r.fields (section_in r.fields) ≡ Some (Ok n.size)
  usual_octets = sym (octets_told r.fields (section_in r.fields) (choice fields.sizes r.fields) refl) ∙ sized (choice fields.sizes r.fields) (section_in r.fields) n.size are.size

  usual_point : code_point_in r.fields (section_in r.fields) ≡ Ok n.code_point
  usual_point =
      ap (code_point_in r.fields) (sym (section_told r.fields (choice fields.sections r.fields) refl))
      ∙ sym (code_point_told r.fields (option_and_then header_in (option_map (λ (x : ℕ × List ℕ). x.1) (choice fields.sections r.fields))) (choice fields.code_points r.fields) refl)
      ∙ pointed (choice fields.code_points r.fields) (choice fields.sections r.fields) n.code_point are.code_point

  usual_interface : interface_in r.fields ≡ Ok n.interface
  usual_interface = sym (interface_told r.fields (choice fields.interfaces r.fields) refl) ∙ interfaced (choice fields.interfaces r.fields) n.interface are.interface

  pub usual_judged : extract_of r ≡ judged (Ok (Some n.time)) (Ok n.size) (Ok n.code_point) (Ok n.interface) (identity_in r)
  unfolding extract_of
  usual_judged = rw (are.plain, usual_time, usual_octets, usual_point, usual_interface) refl

judged_well : (i : Identity) (c : Content) (q : PacketReport) → Some q ≡ ranged (reported i c) → judged (Ok (Some c.time)) (Ok c.octets) (Ok c.dscp) (Ok c.iface) i ≡ Ok q
judged_well i c q e =
    let found = ranged_some (reported i c) q e in
    let time : nat_lt c.time time_end ≡ true = grind (arith, nat_tests, found.0) in
    let size : (nat_le 1 c.octets && nat_le c.octets most_octets) ≡ true = grind (arith, nat_tests, found.0) in
    let point : nat_le c.dscp most_dscp ≡ true = grind (arith, nat_tests, found.0) in
    rw (time, size, point) (ap (λ (x : PacketReport). Ok x) (sym found.1))

-- a report in range of these numbers is that of the record
pub usual_report : (r : PlacedView) (n : Numbers) (i : Identity) (c : Content) (q : PacketReport) → AreNumbers r n → i ≡ identity_in r → c ≡ record { time = n.time; octets = n.size; dscp = n.code_point; iface = n.interface }
    → Some q ≡ ranged (reported i c) → extract_of r ≡ Ok q
usual_report r n i c q are identity content e =
    usual_judged r n are
    ∙ ap (λ (x : Content). judged (Ok (Some x.time)) (Ok x.octets) (Ok x.dscp) (Ok x.iface) (identity_in r)) (sym content)
    ∙ ap (λ (x : Identity). judged (Ok (Some c.time)) (Ok c.octets) (Ok c.dscp) (Ok c.iface) x) (sym identity)
    ∙ judged_well i c q e

-- what is returned of a usual record
pub usual_returned : (r : PlacedView) (n : Numbers) (i : Identity) (o : Option PacketReport) → AreNumbers r n → i ≡ identity_in r
    → o ≡ ranged (reported i (record { time = n.time; octets = n.size; dscp = n.code_point; iface = n.interface })) → IfSome o (λ q. extract_of r ≡ Ok q)
usual_returned r n i None are identity e = tt
usual_returned r n i (Some q) are identity e = usual_report r n i (record { time = n.time; octets = n.size; dscp = n.code_point; iface = n.interface }) q are identity refl e
