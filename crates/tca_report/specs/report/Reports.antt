-- A report of one packet, and the order of reports.
use Rattle.std.specs.Prelude.{ℕ, ◌<◌, ◌≤◌, ◌^◌, Bool, ◌&&◌, nat_lt, nat_le, Option, Some, None, if◌then◌else◌}
use Rattle.std.specs.Ordering.{nat_cmp, ordering_then}
use Rattle.std.specs.Cmp.{IsTotalOrder, nat_cmp_total}
use Rattle.std.proofs.lemmas.Cmp.{on_total, then_total}
use Rattle.std.specs.declared.cmp.Ordering.{Ordering}
use Rattle.tca_report.specs.declared.report.Identity.{Identity}
use Rattle.tca_report.specs.declared.report.Content.{Content}

-- what contracts see of a report
pub record PacketReport : Type 0 where
  pub time : ℕ
  pub domain : ℕ
  pub session : ℕ
  pub place : ℕ
  pub octets : ℕ
  pub dscp : ℕ
  pub iface : ℕ

-- times are below it, in milliseconds from 1970
abbrev pub time_end : ℕ
time_end = 2 ^ 48

-- the most octets of a packet: 40 of an IPv6 header, and 65,535 behind it
abbrev pub most_octets : ℕ
most_octets = 65575

-- the highest code point, of six bits
abbrev pub most_dscp : ℕ
most_dscp = 63

-- the most reports of a log, and so of an export
abbrev pub most_reports : ℕ
most_reports = 4194304

-- times are below 2^48 ms; a packet has 1 to 65,575 octets and a code point of six bits
pub record InRange (r : PacketReport) : Type 0 where
  pub time : r.time < time_end
  pub some : 1 ≤ r.octets
  pub octets : r.octets ≤ most_octets
  pub dscp : r.dscp ≤ most_dscp
  pub domain : r.domain < 2 ^ 32
  pub session : r.session < 2 ^ 32
  pub place : r.place < 2 ^ 32
  pub iface : r.iface < 2 ^ 32

-- the same range as a test, of numbers that have their types: domain, session, place and interface have 32 bits
abbrev pub in_range : PacketReport → Bool
in_range r = nat_lt r.time time_end && (nat_le 1 r.octets && (nat_le r.octets most_octets && nat_le r.dscp most_dscp))

-- the report of this identity with this content
abbrev pub reported : Identity → Content → PacketReport
reported i c = record { time = c.time; domain = i.domain; session = i.session; place = i.place; octets = c.octets; dscp = c.dscp; iface = c.iface }

-- a report where it is in range, else none
abbrev pub ranged : PacketReport → Option PacketReport
ranged r = if in_range r then Some r else None

-- by time, domain, session, place, octets, code point and interface, each ascending
abbrev pub report_cmp : PacketReport → PacketReport → Ordering
report_cmp a b =
    ordering_then (nat_cmp a.time b.time)
    (ordering_then (nat_cmp a.domain b.domain)
    (ordering_then (nat_cmp a.session b.session)
    (ordering_then (nat_cmp a.place b.place)
    (ordering_then (nat_cmp a.octets b.octets)
    (ordering_then (nat_cmp a.dscp b.dscp) (nat_cmp a.iface b.iface))))))

-- that order is total
pub report_total : IsTotalOrder report_cmp
report_total =
    then_total (on_total (λ r. r.time) nat_cmp_total)
    (then_total (on_total (λ r. r.domain) nat_cmp_total)
    (then_total (on_total (λ r. r.session) nat_cmp_total)
    (then_total (on_total (λ r. r.place) nat_cmp_total)
    (then_total (on_total (λ r. r.octets) nat_cmp_total)
    (then_total (on_total (λ r. r.dscp) nat_cmp_total) (on_total (λ r. r.iface) nat_cmp_total))))))
