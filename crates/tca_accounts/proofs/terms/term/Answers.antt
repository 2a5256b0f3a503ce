use Rattle.std.proofs.Common.{rules}
use Rattle.tca_accounts.proofs.terms.term.Goals as goal

pub returns-in_err-told-clause-value : goal.returns-in_err-told-clause-value
returns-in_err-told-clause-value c = search rules

pub returns-clause-value : goal.returns-clause-value
returns-clause-value c = search rules

pub returns-then-not-has_only-clause-value : goal.returns-then-not-has_only-clause-value
returns-then-not-has_only-clause-value c = search rules

pub returns-in_err-from-clause-value : goal.returns-in_err-from-clause-value
returns-in_err-from-clause-value c = search rules

pub returns-in_err-aware-clause-value : goal.returns-in_err-aware-clause-value
returns-in_err-aware-clause-value c = search rules

pub returns-in_err-meter-clause-value : goal.returns-in_err-meter-clause-value
returns-in_err-meter-clause-value c = search rules
