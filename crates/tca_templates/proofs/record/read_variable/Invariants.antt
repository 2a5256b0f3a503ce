use Rattle.std.proofs.Common.{◌≡◌, ◌+◌, ◌≤◌, List, length}
use Rattle.tca_templates.specs.Records.{PlacedView}
use Rattle.tca_templates.specs.Fields.{template_of}
use Rattle.tca_templates.specs.Taking.{Took}
use Rattle.tca_templates.proofs.TakingSteps.{Walked}
use Rattle.tca_templates.proofs.record.read_variable.Given as goal

abbrev pub invariant-loop-rest : goal.invariant-loop-rest
invariant-loop-rest g l = record {
  so_far : (start : _) (records : List PlacedView) → Took g.T.TakesRecords.took start l.fn.taker l.fn.count records
      → Walked g.T.TakesRecords.took l.source (template_of l.template) start l.taker l.count l.at l.rest records l.fn.at l.octets;
  few : l.count + length l.rest ≤ l.fn.count + length l.octets;
  place : l.at + length l.rest ≡ l.fn.at + length l.octets;
  shortest : l.shortest ≡ l.template.shortest;
}

abbrev pub decreases-loop-rest : goal.decreases-loop-rest
decreases-loop-rest g l = length l.rest
