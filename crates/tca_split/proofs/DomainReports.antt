-- The reports of a message are of its domain.
use Rattle.std.proofs.Common.{◌≡◌, ℕ, ◌+◌, Bool, true, false, cond, List, [], ◌∷◌, Result, Ok, Err, refl, ap, ◌∙◌}
use Rattle.std.specs.Prelude.{◌==◌, IfOk, ok_or, nat_lt, nat_le, ◌&&◌, not, Option, Some, None}
use Rattle.tca_join.specs.Results.{◌>>=◌}
use Rattle.tca_templates.specs.declared.source.Source.{Source}
use Rattle.tca_templates.specs.Records.{PlacedView}
use Rattle.tca_templates.specs.Sessions.{ArePlaced}
use Rattle.tca_report.specs.report.Reports.{PacketReport, reported, time_end, most_octets, most_dscp}
use Rattle.tca_report.specs.input.Extract.{extract_of, judged, identity_in, section_in, time_in, octets_in, code_point_in, interface_in, only_if}
use Rattle.tca_report.specs.input.Inputs.{reports_of, or_left_out}
use Rattle.tca_report.specs.declared.report.Identity.{Identity}
use Rattle.tca_report.specs.declared.input.extraction.NotReport.{NotReport}
use Rattle.tca_report.specs.declared.input.extraction.NotReport.TheVariants.{Options, NoTime, NoSize, BadTime, BadSize, BadDscp}
use Rattle.tca_split.specs.Losses.{reports_in}

judged_of : (time : Result (Option ℕ) NotReport) (octets point interface : Result ℕ NotReport) (i : Identity) → IfOk (judged time octets point interface i) (λ r. r.domain ≡ i.domain)
judged_of (Err f) octets point interface i = tt
judged_of (Ok moment) (Err f) point interface i = tt
judged_of (Ok moment) (Ok size) (Err f) interface i = tt
judged_of (Ok moment) (Ok size) (Ok dscp) (Err f) i = tt
judged_of (Ok None) (Ok size) (Ok dscp) (Ok iface) i = tt
judged_of (Ok (Some ms)) (Ok size) (Ok dscp) (Ok iface) i = go (nat_lt ms time_end) (nat_le 1 size && nat_le size most_octets) (nat_le dscp most_dscp)
  where
    go : (a b c : Bool) → IfOk (only_if a BadTime >>= (λ early. only_if b BadSize >>= (λ sized. only_if c BadDscp >>= (λ short. Ok (reported i (record { time = ms; octets = size; dscp = dscp; iface = iface })))))) (λ r. r.domain ≡ i.domain)
    go false b c = tt
    go true false c = tt
    go true true false = tt
    go true true true = refl

extracted_of : (r : PlacedView) → IfOk (extract_of r) (λ p. p.domain ≡ r.domain)
unfolding extract_of
extracted_of r = go (not r.options) (time_in r.fields) (octets_in r.fields (section_in r.fields))
  where
    go : (b : Bool) (t : Option (Result (Option ℕ) NotReport)) (o : Option (Result ℕ NotReport))
        → IfOk (only_if b Options >>= (λ plain. ok_or t NoTime >>= (λ time. ok_or o NoSize >>= (λ octets. judged time octets (code_point_in r.fields (section_in r.fields)) (interface_in r.fields) (identity_in r)))))
        (λ p. p.domain ≡ r.domain)
    go false t o = tt
    go true None o = tt
    go true (Some t) None = tt
    go true (Some t) (Some o) = judged_of t o (code_point_in r.fields (section_in r.fields)) (interface_in r.fields) (identity_in r)

-- the reports of a domain among those of records that are all of one
pub reports_of_source : (d : ℕ) (h : Source) (i : ℕ) (rs : List PlacedView) → ArePlaced h i rs → reports_in d (reports_of rs) ≡ cond (d == h.domain) (reports_of rs) []
reports_of_source d h i [] all = go (d == h.domain)
  where
    go : (b : Bool) → let none : List PacketReport = [] in none ≡ cond b [] []
    go true = refl
    go false = refl
reports_of_source d h i (r ∷ rs) all = go (reports_of_source d h (i + 1) rs all.3) (extract_of r) (extracted_of r)
  where
    own : (p : PacketReport) → p.domain ≡ h.domain → (b : Bool) → (d == h.domain) ≡ b → reports_in d (reports_of rs) ≡ cond b (reports_of rs) []
        → cond b (p ∷ reports_in d (reports_of rs)) (reports_in d (reports_of rs)) ≡ cond b (p ∷ reports_of rs) []
    own p is true q more = ap (λ (l : List PacketReport). p ∷ l) more
    own p is false q more = more

    go : reports_in d (reports_of rs) ≡ cond (d == h.domain) (reports_of rs) [] → (x : Result PacketReport NotReport) → IfOk x (λ p. p.domain ≡ r.domain)
        → reports_in d (or_left_out x (reports_of rs)) ≡ cond (d == h.domain) (or_left_out x (reports_of rs)) []
    go more (Err e) is = more
    go more (Ok p) is =
        let same : p.domain ≡ h.domain = is ∙ all.1 in
        ap (λ n. cond (d == n) (p ∷ reports_in d (reports_of rs)) (reports_in d (reports_of rs))) same ∙ own p same (d == h.domain) refl more
