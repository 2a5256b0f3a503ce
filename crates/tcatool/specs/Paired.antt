-- What the command `pairs` writes, and what it is refused for.
use Rattle.std.specs.Prelude.{◌≡◌, ℕ, ◌≤◌, ◌==◌, Bool, ◌&&◌, List, [], ◌∷◌, length, filter, map, codes, sum_by, Ok}
use Rattle.std.specs.List.{AllByRecursion, Contains}
use Rattle.std.specs.Fmt.{decimal}
use Rattle.std.specs.Ordering.{nat_cmp, ordering_then}
use Rattle.std.specs.declared.cmp.Ordering.{Ordering}
use Rattle.tca_join.specs.Sets.{in_order}
use Rattle.tca_report.specs.report.Reports.{PacketReport}
use Rattle.tca_report.specs.input.Inputs.{InputView}
use Rattle.tca_log.specs.Disputes.{undisputed}
use Rattle.tca_program.specs.declared.fault.RunFault.{RunFault}
use Rattle.tca_program.specs.Devices.{Device, IsCutOff, Receives}
use Rattle.tca_program.specs.Outcomes.{IsCommandRefused}
use Rattle.tca_program.specs.Unions.{IsUnion, IsUnitingRefused, united}
use Rattle.tcatool.specs.Csv.{csv_line, csv_text}
use Rattle.tcatool.specs.declared.pairs.Pair.{Pair}
use Rattle.tcatool.specs.declared.pairs.PairUsage.{PairUsage}

-- by observation domain, then interface, each ascending
abbrev pub pair_cmp : Pair → Pair → Ordering
pair_cmp p q = ordering_then (nat_cmp p.domain q.domain) (nat_cmp p.interface q.interface)

-- the observation domain and the interface of a report
abbrev pub pair_of : PacketReport → Pair
pair_of r = record { domain = r.domain; interface = r.iface }

-- whether two pairs are the same
abbrev pub same_pair : Pair → Pair → Bool
same_pair p q = (p.domain == q.domain) && (p.interface == q.interface)

-- the pairs that reports have, each once and ascending
abbrev pub pairs_of : List PacketReport → List Pair
pairs_of rs = in_order pair_cmp (map pair_of rs)

-- the reports of a pair
abbrev pub of_pair : Pair → List PacketReport → List PacketReport
of_pair p rs = filter (λ r. same_pair p (pair_of r)) rs

-- The usage of a pair of a set: how many reports it has, how many settled ones and their octets, and of the times of all the least and
-- the greatest. Settled are those whose identity no other report of the set has.
pub record IsUsage (rs : List PacketReport) (u : PairUsage) : Type 0 where
  pub reports : u.reports ≡ length (of_pair u.pair rs)
  pub packets : u.packets ≡ length (of_pair u.pair (undisputed rs))
  pub octets : u.octets ≡ sum_by (λ r. r.octets) (of_pair u.pair (undisputed rs))
  pub first : Contains (map (λ r. r.time) (of_pair u.pair rs)) u.first
  pub least : AllByRecursion (λ r. u.first ≤ r.time) (of_pair u.pair rs)
  pub last : Contains (map (λ r. r.time) (of_pair u.pair rs)) u.last
  pub greatest : AllByRecursion (λ r. r.time ≤ u.last) (of_pair u.pair rs)

-- the usage of each pair that a report of a set has, ascending
pub record AreUsages (rs : List PacketReport) (us : List PairUsage) : Type 0 where
  pub pairs : map (λ u. u.pair) us ≡ pairs_of rs
  pub each : AllByRecursion (IsUsage rs) us

-- the inputs hold together what these are the usages of
pub record IsPaired (inputs : List InputView) (us : List PairUsage) : Type 0 where
  pub reports : List PacketReport
  pub union : IsUnion inputs reports
  pub taken : united inputs ≡ Ok reports
  pub usages : AreUsages reports us

abbrev pub pairs_header : List ℕ
pairs_header = codes "domain,interface,reports,packets,octets,first,last\n"

-- the line of a pair: the pair, how many reports it has, how many settled ones and their octets, and the least and the greatest time
abbrev pub pair_line : PairUsage → List ℕ
pair_line u =
    csv_line
    (decimal u.pair.domain
    ∷ decimal u.pair.interface
    ∷ decimal u.reports
    ∷ decimal u.packets
    ∷ decimal u.octets
    ∷ decimal u.first
    ∷ decimal u.last
    ∷ [])

abbrev pub pairs_text : List PairUsage → List ℕ
pairs_text us = csv_text pairs_header pair_line us

-- Each input is a log export or a capture, and a line was written for each pair that a report of their union has.
pub record IsPairsDone (inputs : List InputView) (old new : Device) : Type 0 where
  pub usages : List PairUsage
  pub paired : IsPaired inputs usages
  pub written : Receives (pairs_text usages) old new

-- Of the lines only a part went out.
pub record IsPairsCutOff (inputs : List InputView) (old new : Device) : Type 0 where
  pub usages : List PairUsage
  pub paired : IsPaired inputs usages
  pub part : IsCutOff (pairs_text usages) old new

-- what a refusal is, and what it leaves of the device
abbrev pub IsPairsRefused : List InputView → Device → Device → RunFault → Type 0
IsPairsRefused inputs = IsCommandRefused (IsUnitingRefused inputs) (IsPairsCutOff inputs)
