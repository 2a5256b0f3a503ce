use Rattle.std.proofs.Common.{rules}
use Rattle.tca_figures.proofs.Texts.{follows_utf8}
use Rattle.tca_figures.proofs.reader.Reader.take_octets.Goals as goal

pub returns-in-Err-clause-only : goal.returns-in-Err-clause-only
returns-in-Err-clause-only c q h e = c.in-Err.ensures.cases.0 (follows_utf8 c.args.self.now c.args.line.now q h)

pub returns-in-Err-clause-memory : goal.returns-in-Err-clause-memory
returns-in-Err-clause-memory c = search rules
