-- The course that a standing of the code is.
use Rattle.std.specs.Prelude.{List}
use Rattle.tca_meters.specs.Packets.{Rule}
use Rattle.tca_accounts.specs.declared.span.Span.{Span}
use Rattle.tca_replay.specs.declared.run.Standing.{Standing}
use Rattle.tca_replay.specs.declared.run.Terms.{Terms}
use Rattle.tca_replay.specs.inside.Course.{Metering, Course}

-- a meter's rule under these terms
abbrev pub metering : {S : Type 0} → Rule S → Terms → Metering S
metering rule t = record { rule = rule; other = t.other; period = t.period }

-- a standing, and the spans that ended
abbrev pub course_at : {S : Type 0} → Standing S → List Span → Course S
course_at standing closed = record { metered = standing.metered; closed = closed; current = standing.current }
