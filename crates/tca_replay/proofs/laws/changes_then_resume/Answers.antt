use Rattle.tca_replay.proofs.Changes.{tally_after, rows_rise, rows_left, tally_same}
use Rattle.tca_replay.proofs.laws.changes_then_resume.Goals as goal

pub returns : goal.returns
returns g c = record {
  tally = tally_after g.M.Meter.rule;
  order = rows_rise;
  left = rows_left;
  same = tally_same g.M.Meter.rule;
}
