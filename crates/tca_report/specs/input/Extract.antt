-- Which fields of a data record make a report.
use Rattle.std.specs.Prelude.{ℕ, ◌+◌, ◌-◌, ◌*◌, ◌/◌, ◌%◌, ◌==◌, nat_lt, nat_le, Bool, not, ◌&&◌, if◌then◌else◌, List, [], ◌∷◌, length, drop, slice_index, Option, Some, None, ok_or, option_and_then, option_map, unwrap_or, Result, Ok, Err}
use Rattle.std.specs.Option.{option_or}
use Rattle.tca_join.specs.Results.{◌>>=◌}
use Rattle.byteorder.specs.Endian.{big_number}
use Rattle.tca_report.specs.report.Reports.{PacketReport, reported, time_end, most_octets, most_dscp}
use Rattle.tca_templates.specs.Records.{FieldView, PlacedView}
use Rattle.tca_templates.specs.Chosen.{octet_delta_count, ip_class_of_service, ingress_interface, total_length_ipv4, ip_diff_serv_code_point, ip_total_length, ip_header_packet_section, observation_time_seconds, observation_time_milliseconds, observation_time_microseconds, observation_time_nanoseconds, first}
use Rattle.tca_report.specs.declared.report.Identity.{Identity}
use Rattle.tca_report.specs.declared.input.extraction.NotReport.{NotReport}
use Rattle.tca_report.specs.declared.input.extraction.NotReport.TheVariants.{Options, NoTime, NoSize, BadTime, BadSize, BadDscp, FieldLength}

-- what has to hold, else this is the reason
abbrev pub only_if : Bool → NotReport → Result Unit NotReport
only_if holds reason = if holds then Ok tt else Err reason

-- what the first of these elements that is there holds; each stands with what its octets are
abbrev pub chosen : {X : Type 0} → List (ℕ × (List ℕ → X)) → List FieldView → Option X
chosen [] fs = None
chosen (e ∷ es) fs = option_or (option_map e.1 (first e.0 fs)) (chosen es fs)

-- unsigned8 to unsigned64: a number of one octet to so many, since fewer than its type has may be sent (RFC 7011, section 6.2)
abbrev pub unsigned : ℕ → List ℕ → Result ℕ NotReport
unsigned most v = do
  fits ← only_if (nat_le 1 (length v) && nat_le (length v) most) FieldLength
  Ok (big_number (length v) v)

-- milliseconds from 1970 of seconds from 1900 and a fraction in units of 1 / 2^32 second, none before 1970
abbrev pub since_1970 : ℕ → ℕ → Option ℕ
since_1970 seconds fraction = if nat_lt seconds 2208988800 then None else Some ((seconds - 2208988800) * 1000 + fraction * 1000 / 4294967296)

-- dateTimeSeconds: seconds from 1970 (RFC 7011, section 6.1.7)
abbrev pub date_time_seconds : List ℕ → Result (Option ℕ) NotReport
date_time_seconds v = do
  fits ← only_if (length v == 4) FieldLength
  Ok (Some (big_number 4 v * 1000))

-- dateTimeMilliseconds: milliseconds from 1970 (section 6.1.8)
abbrev pub date_time_milliseconds : List ℕ → Result (Option ℕ) NotReport
date_time_milliseconds v = do
  fits ← only_if (length v == 8) FieldLength
  Ok (Some (big_number 8 v))

-- dateTimeMicroseconds: seconds from 1900 and a fraction, whose low 11 bits count as zero (section 6.1.9)
abbrev pub date_time_microseconds : List ℕ → Result (Option ℕ) NotReport
date_time_microseconds v = do
  fits ← only_if (length v == 8) FieldLength
  Ok (since_1970 (big_number 4 v) (big_number 4 (drop 4 v) / 2048 * 2048))

-- dateTimeNanoseconds: seconds from 1900 and a fraction (section 6.1.10)
abbrev pub date_time_nanoseconds : List ℕ → Result (Option ℕ) NotReport
date_time_nanoseconds v = do
  fits ← only_if (length v == 8) FieldLength
  Ok (since_1970 (big_number 4 v) (big_number 4 (drop 4 v)))

-- the code point of a type of service or a traffic class: its high six bits (RFC 2474)
abbrev pub high_six_bits : List ℕ → Result ℕ NotReport
high_six_bits v = do
  octet ← unsigned 1 v
  Ok (octet / 4)

-- the elements that give the time, the first choice first
abbrev pub times : List (ℕ × (List ℕ → Result (Option ℕ) NotReport))
times =
    (observation_time_milliseconds, date_time_milliseconds)
    ∷ (observation_time_microseconds, date_time_microseconds)
    ∷ (observation_time_nanoseconds, date_time_nanoseconds)
    ∷ (observation_time_seconds, date_time_seconds)
    ∷ []

-- what an element that tells a time says
abbrev pub time_value : ℕ → List ℕ → Result (Option ℕ) NotReport
time_value element v =
    if element == observation_time_milliseconds then date_time_milliseconds v
    else (if element == observation_time_microseconds then date_time_microseconds v
    else (if element == observation_time_nanoseconds then date_time_nanoseconds v
    else date_time_seconds v))

-- what an element that tells the octets of the packet says
abbrev pub size_value : ℕ → List ℕ → Result ℕ NotReport
size_value element v = if element == total_length_ipv4 then unsigned 2 v else unsigned 8 v

-- what an element that tells the code point says
abbrev pub code_point_value : ℕ → List ℕ → Result ℕ NotReport
code_point_value element v = if element == ip_class_of_service then high_six_bits v else unsigned 1 v

-- the elements that give the octets of the packet, the first choice first
abbrev pub sizes : List (ℕ × (List ℕ → Result ℕ NotReport))
sizes = (ip_total_length, unsigned 8) ∷ (total_length_ipv4, unsigned 2) ∷ (octet_delta_count, unsigned 8) ∷ []

-- the elements that give the code point, the first choice first
abbrev pub code_points : List (ℕ × (List ℕ → Result ℕ NotReport))
code_points = (ip_diff_serv_code_point, unsigned 1) ∷ (ip_class_of_service, high_six_bits) ∷ []

-- the elements that give the interface
abbrev pub interfaces : List (ℕ × (List ℕ → Result ℕ NotReport))
interfaces = (ingress_interface, unsigned 4) ∷ []

-- the eight bits behind the version, which is the first four bits of an IPv6 header
abbrev pub traffic_class : List ℕ → ℕ
traffic_class v = big_number 2 v / 16 % 256

-- octets and code point of the header of an IP packet, where enough of it is there: of IPv4 the total length and the high six bits
-- of the type of service, of IPv6 the payload length with the 40 octets of the header, and the high six bits of the traffic class
abbrev pub header_in : List ℕ → Option (ℕ × ℕ)
header_in v =
    if nat_lt (length v) 4 then None
    else (if slice_index v 0 / 16 == 4 then Some (big_number 2 (drop 2 v), slice_index v 1 / 4)
    else (if (slice_index v 0 / 16 == 6) && nat_le 6 (length v) then Some (40 + big_number 2 (drop 4 v), traffic_class v / 4)
    else None))

-- octets and code point of the packet's section, where there is one that has them
abbrev pub section_in : List FieldView → Option (ℕ × ℕ)
section_in fs = option_and_then header_in (first ip_header_packet_section fs)

-- the time, where an element gives one: its milliseconds, or none where it is before 1970
unfoldable pub time_in : List FieldView → Option (Result (Option ℕ) NotReport)
time_in fs = chosen times fs

-- the octets of the packet: of an element, or else of the section
unfoldable pub octets_in : List FieldView → Option (ℕ × ℕ) → Option (Result ℕ NotReport)
octets_in fs section = option_or (chosen sizes fs) (option_map (λ x. Ok x.0) section)

-- the code point: of an element, or else of the section, or else 0
unfoldable pub code_point_in : List FieldView → Option (ℕ × ℕ) → Result ℕ NotReport
code_point_in fs section = unwrap_or (option_or (chosen code_points fs) (option_map (λ x. Ok x.1) section)) (Ok 0)

-- the interface, or else 0
unfoldable pub interface_in : List FieldView → Result ℕ NotReport
interface_in fs = unwrap_or (chosen interfaces fs) (Ok 0)

-- the tests of what was taken, in their order: first the lengths of all of it, then what it says
abbrev pub judged : Result (Option ℕ) NotReport → Result ℕ NotReport → Result ℕ NotReport → Result ℕ NotReport → Identity
    → Result PacketReport NotReport
judged time octets point interface identity = do
  moment ← time
  size ← octets
  dscp ← point
  iface ← interface
  milliseconds ← ok_or moment BadTime
  early ← only_if (nat_lt milliseconds time_end) BadTime
  sized ← only_if (nat_le 1 size && nat_le size most_octets) BadSize
  short ← only_if (nat_le dscp most_dscp) BadDscp
  Ok (reported identity (record { time = milliseconds; octets = size; dscp = dscp; iface = iface }))

-- which record it is
abbrev pub identity_in : PlacedView → Identity
identity_in r = record { domain = r.domain; session = r.session; place = r.place }

-- the report that a data record makes, or the first reason why it makes none
unfoldable pub extract_of : PlacedView → Result PacketReport NotReport
extract_of r = do
  plain ← only_if (not r.options) Options
  time ← ok_or (time_in r.fields) NoTime
  octets ← ok_or (octets_in r.fields (section_in r.fields)) NoSize
  judged time octets (code_point_in r.fields (section_in r.fields)) (interface_in r.fields) (identity_in r)
