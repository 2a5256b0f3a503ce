use Rattle.std.proofs.Common.{◌≡◌, ◌≤◌, ◌++◌, length, map, drop}
use Rattle.tca_report.specs.input.Inputs.{input_view}
use Rattle.tca_program.specs.Unions.{views_of}
use Rattle.tca_commands.proofs.ShareLaws.{share_from}
use Rattle.tca_commands.proofs.replicas.share_of.Given as goal

-- the share of the inputs so far, and behind it that of the others
abbrev pub invariant-loop-n : goal.invariant-loop-n
invariant-loop-n l = record {
  within : length l.share.items ≤ l.n;
  whole : map (λ s. input_view s.now) l.share.items ++ share_from l.n l.remainder l.divisor (views_of (drop l.n l.inputs)) ≡ share_from 0 l.remainder l.divisor (views_of l.inputs);
}
