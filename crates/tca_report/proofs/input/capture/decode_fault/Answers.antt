use Rattle.tca_report.proofs.input.capture.decode_fault.Goals as goal

pub returns-in-Memory-clause-memory : goal.returns-in-Memory-clause-memory
returns-in-Memory-clause-memory c = λ _. c.in-Memory.is
