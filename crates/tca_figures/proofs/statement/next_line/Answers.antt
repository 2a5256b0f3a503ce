use Rattle.tca_figures.proofs.Cuts.{first_part, only_part}
use Rattle.tca_figures.proofs.statement.next_line.Goals as goal

pub returns-in_err-at-clause-none : goal.returns-in_err-at-clause-none
returns-in_err-at-clause-none c h = only_part c.args.octets.now c.in_err-at.ensures

pub returns-clause-first : goal.returns-clause-first
returns-clause-first c =
    let first = c.in_ok-at.ensures in
    first_part c.args.octets.now c.in_ok-at.at first.0.high first.1 first.0.before
