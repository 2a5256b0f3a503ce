use Rattle.std.proofs.Common.{◌≡◌, ◌+◌, ◌≤◌, ℕ, List, length}
use Rattle.tca_templates.specs.Records.{PlacedView}
use Rattle.tca_templates.specs.Fields.{template_of}
use Rattle.tca_templates.specs.Taking.{Took}
use Rattle.tca_templates.proofs.TakingSteps.{Walked}
use Rattle.tca_templates.proofs.record.read_fixed.Given as goal

abbrev pub invariant-loop-rest : goal.invariant-loop-rest
invariant-loop-rest g l = record {
  so_far : (start : _) (records : List PlacedView) (at : ℕ) → Took g.T.TakesRecords.took start l.fn.taker l.fn.count records
      → (here : ℕ) × Walked g.T.TakesRecords.took l.source (template_of l.template) start l.taker l.count here l.rest records at l.octets;
  few : l.count + length l.rest ≤ l.fn.count + length l.octets;
  size : l.size ≡ l.template.shortest;
}

abbrev pub decreases-loop-rest : goal.decreases-loop-rest
decreases-loop-rest g l = length l.rest
