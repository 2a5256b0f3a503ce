-- The fields of a report in a line.
use Rattle.std.specs.Prelude.{ℕ, List, [], ◌∷◌}
use Rattle.std.specs.Fmt.{decimal}
use Rattle.tca_report.specs.report.Reports.{PacketReport}

-- time, domain, session, place, octets, code point and interface
abbrev pub report_fields : PacketReport → List (List ℕ)
report_fields r = decimal r.time ∷ decimal r.domain ∷ decimal r.session ∷ decimal r.place ∷ decimal r.octets ∷ decimal r.dscp ∷ decimal r.iface ∷ []
