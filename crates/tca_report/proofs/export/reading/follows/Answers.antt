use Rattle.tca_report.proofs.export.reading.follows.Goals as goal

pub returns-in-Some : goal.returns-in-Some
returns-in-Some c = rw c.in-Some.is (cc)
