use Rattle.tca_report.proofs.lemmas.input.UsualRecords.{usual_returned}
use Rattle.tca_report.proofs.input.extraction.extract_usual.Goals as goal

pub returns : goal.returns
returns c = usual_returned c.args.next.now c.in_ok-numbers.numbers c.identity.result c.new.result c.in_ok-numbers.ensures c.identity.ensures c.new.ensures
