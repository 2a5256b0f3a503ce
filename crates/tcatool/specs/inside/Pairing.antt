-- What is kept of pairs while their reports are counted. No public contract cites this: it serves private functions and their proofs alone.
use Rattle.std.specs.Prelude.{ℕ, List, [], ◌∷◌, length, sum_by}
use Rattle.tca_report.specs.report.Reports.{PacketReport}
use Rattle.tcatool.specs.Paired.{of_pair}
use Rattle.tcatool.specs.declared.pairs.Pair.{Pair}
use Rattle.tcatool.specs.declared.pairs.PairUsage.{PairUsage}

-- the time of the first of reports, and of the last; 0 where there is none
abbrev pub first_time : List PacketReport → ℕ
first_time [] = 0
first_time (r ∷ rs) = r.time

abbrev pub last_time : List PacketReport → ℕ
last_time [] = 0
last_time (r ∷ []) = r.time
last_time (r ∷ q ∷ rs) = last_time (q ∷ rs)

-- what is kept of a pair, where these reports and these settled ones were counted
abbrev pub usage_so_far : List PacketReport → List PacketReport → Pair → PairUsage
usage_so_far rs settled p = record {
  pair = p;
  reports = length (of_pair p rs);
  packets = length (of_pair p settled);
  octets = sum_by (λ r. r.octets) (of_pair p settled);
  first = first_time (of_pair p rs);
  last = last_time (of_pair p rs);
}
