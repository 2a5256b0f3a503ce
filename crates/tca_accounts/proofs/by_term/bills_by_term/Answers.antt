use Rattle.tca_accounts.proofs.TermBills.{as_one, by_term}
use Rattle.tca_accounts.proofs.by_term.bills_by_term.Goals as goal

pub returns-clause-terms : goal.returns-clause-terms
returns-clause-terms c = λ account is reports rises. by_term account is reports rises

pub returns-clause-plain : goal.returns-clause-plain
returns-clause-plain c = λ account none reports. as_one account none reports
