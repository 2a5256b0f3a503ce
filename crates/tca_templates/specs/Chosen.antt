-- The fields that are looked for in a data record: of several elements the first that the record has, and of it the first field that no
-- enterprise has.
use Rattle.std.specs.Prelude.{ℕ, ◌==◌, Bool, ◌&&◌, if◌then◌else◌, List, [], ◌∷◌, Option, Some, None, option_map}
use Rattle.std.specs.Option.{is_none, option_or}
use Rattle.std.specs.List.{list_any}
use Rattle.tca_templates.specs.declared.template.FieldSpec.{FieldSpec}
use Rattle.tca_templates.specs.Records.{FieldView}

-- octetDeltaCount: octets since the last report; unsigned64, 1 to 8 octets
abbrev pub octet_delta_count : ℕ
octet_delta_count = 1

-- ipClassOfService: the type of service or the traffic class; unsigned8, 1 octet
abbrev pub ip_class_of_service : ℕ
ip_class_of_service = 5

-- ingressInterface; unsigned32, 1 to 4 octets
abbrev pub ingress_interface : ℕ
ingress_interface = 10

-- totalLengthIPv4: octets of the IPv4 packet; unsigned16, 1 or 2 octets
abbrev pub total_length_ipv4 : ℕ
total_length_ipv4 = 190

-- ipDiffServCodePoint; unsigned8, 1 octet
abbrev pub ip_diff_serv_code_point : ℕ
ip_diff_serv_code_point = 195

-- ipTotalLength: octets of the IP packet; unsigned64, 1 to 8 octets
abbrev pub ip_total_length : ℕ
ip_total_length = 224

-- ipHeaderPacketSection: the packet's first octets, from its IP header on; octetArray, any octets
abbrev pub ip_header_packet_section : ℕ
ip_header_packet_section = 313

-- observationTimeSeconds; dateTimeSeconds, 4 octets
abbrev pub observation_time_seconds : ℕ
observation_time_seconds = 322

-- observationTimeMilliseconds; dateTimeMilliseconds, 8 octets
abbrev pub observation_time_milliseconds : ℕ
observation_time_milliseconds = 323

-- observationTimeMicroseconds; dateTimeMicroseconds, 8 octets
abbrev pub observation_time_microseconds : ℕ
observation_time_microseconds = 324

-- observationTimeNanoseconds; dateTimeNanoseconds, 8 octets
abbrev pub observation_time_nanoseconds : ℕ
observation_time_nanoseconds = 325

-- the elements that tell the time of a packet, the octets that it has, its code point, its interface, and its first octets; of each the
-- first choice first
abbrev pub times : List ℕ
times = observation_time_milliseconds ∷ (observation_time_microseconds ∷ (observation_time_nanoseconds ∷ (observation_time_seconds ∷ [])))

abbrev pub sizes : List ℕ
sizes = ip_total_length ∷ (total_length_ipv4 ∷ (octet_delta_count ∷ []))

abbrev pub code_points : List ℕ
code_points = ip_diff_serv_code_point ∷ (ip_class_of_service ∷ [])

abbrev pub interfaces : List ℕ
interfaces = ingress_interface ∷ []

abbrev pub sections : List ℕ
sections = ip_header_packet_section ∷ []

-- the value of the first field of this element that no enterprise has
unfoldable pub first : ℕ → List FieldView → Option (List ℕ)
first element [] = None
first element (f ∷ fs) = if is_none f.enterprise && (f.element == element) then Some f.value else first element fs

-- the first of these elements that is there, and its value
unfoldable pub choice : List ℕ → List FieldView → Option (ℕ × List ℕ)
choice [] fs = None
choice (e ∷ es) fs = option_or (option_map (λ v. (e, v)) (first e fs)) (choice es fs)

-- a specifier of this element that no enterprise has
abbrev pub is_field_of : ℕ → FieldSpec → Bool
is_field_of element s = is_none s.enterprise && (s.element == element)

-- the first of these elements that a template has
unfoldable pub chosen_of : List ℕ → List FieldSpec → Option ℕ
chosen_of [] specs = None
chosen_of (e ∷ es) specs = if list_any (is_field_of e) specs then Some e else chosen_of es specs
