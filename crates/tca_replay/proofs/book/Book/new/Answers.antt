use Rattle.tca_replay.proofs.Totals.{fits_nothing, empty_resumed}
use Rattle.tca_replay.proofs.book.Book.new.Goals as goal

pub returns-clause-fits : goal.returns-clause-fits
returns-clause-fits g c = fits_nothing c.args.plan c.args.k c.in_ok-lanes.lanes.items c.in_ok-lanes.ensures.empty

pub returns-clause-resumed : goal.returns-clause-resumed
returns-clause-resumed g c = empty_resumed c.in_ok-lanes.lanes.items c.in_ok-lanes.ensures.empty
