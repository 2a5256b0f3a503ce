use Rattle.std.proofs.Common.{◌≡◌, ◌+◌, ◌++◌, ℕ, List, Some, length}
use Rattle.tca_split.specs.inside.Surveying.{Surveys, IsFramed}
use Rattle.tca_split.proofs.survey.first_reading.Given as goal

-- what was read, in front of the rest
abbrev pub invariant-loop-turn : goal.invariant-loop-turn
invariant-loop-turn g l = record {
  room : length l.piece.items ≡ 65536;
  so_far : (octets : List ℕ) → g.R.Read.left l.initial.reader ≡ Some octets → (done : List ℕ) × (rest : List ℕ) × (ms : List (List ℕ)) × (octets ≡ done ++ rest)
      × (g.R.Read.left l.reader ≡ Some rest) × IsFramed done ms l.framer × Surveys ms l.survey;
  calm : g.R.Read.failures l.reader ≡ g.R.Read.failures l.initial.reader;
  turns : g.R.Read.reads l.reader ≡ g.R.Read.reads l.initial.reader + l._turn;
}
