use Rattle.tca_templates.proofs.SessionMaps.{session_opens, session_stays, known_define, define_order, known_withdraw, known_others, reading_places}
use Rattle.tca_templates.proofs.reading.session_laws.Goals as goal

pub returns-clause-opens : goal.returns-clause-opens
returns-clause-opens c = session_opens

pub returns-clause-stays : goal.returns-clause-stays
returns-clause-stays c = session_stays

pub returns-clause-defined : goal.returns-clause-defined
returns-clause-defined c = known_define

pub returns-clause-order : goal.returns-clause-order
returns-clause-order c = define_order

pub returns-clause-withdrawn : goal.returns-clause-withdrawn
returns-clause-withdrawn c k j ts session = known_withdraw k j ts session.once

pub returns-clause-all_withdrawn : goal.returns-clause-all_withdrawn
returns-clause-all_withdrawn c domain options j ts session = known_others domain options j ts session.once

pub returns-clause-places : goal.returns-clause-places
returns-clause-places c = reading_places
