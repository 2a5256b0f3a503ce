use Rattle.std.proofs.Common.{◌≡◌, length, map, take}
use Rattle.tca_report.specs.declared.input.Input.{Input}
use Rattle.tca_program.specs.declared.word.Asked.{Asked}
use Rattle.tca_program.proofs.files.read_asked.Given as goal

abbrev pub invariant-loop-n : goal.invariant-loop-n
invariant-loop-n g l = record {
  count : length l.inputs.items ≡ l.n;
  sessions : map (λ (i : Input). i.session) l.inputs.items ≡ map (λ (a : Asked). a.session) (take l.n l.asked);
}
