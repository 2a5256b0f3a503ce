use Rattle.std.proofs.Common.{◌∙◌, sym}
use Rattle.tca_statements.specs.Statements.{statement_text}
use Rattle.tca_commands.proofs.laws.equal_summaries_make_one_statement.Goals as goal

pub returns : goal.returns
returns c m w i j v u coupled here there same =
    let laws = c.shown_laws.ensures in
    let plan = laws.plan m w i v coupled here ∙ sym (laws.plan m w j u coupled there) in
    let bill = (laws.summaries m w i j v u coupled here there same).1 in
    λ k. statement_text (plan k) (bill k)
