use Rattle.std.proofs.lemmas.Grind.{common_steps}
use Rattle.std.proofs.Common.{ap, length, rules, arith, length-drop, length-take, ℕ}
use Rattle.tca_report.specs.export.Reading.{header_of}
use Rattle.tca_report.proofs.export.reading.read_header.Goals as goal

pub returns-clause-exact : goal.returns-clause-exact
unfolding header_of
returns-clause-exact c = search rules

pub returns-clause-whole : goal.returns-clause-whole
returns-clause-whole c = omega (arith, length-drop {A = ℕ}, length-take {A = ℕ}, ap length c.u32_at-count.ensures.rest)

pub returns-then-octets-lt4-clause-exact : goal.returns-then-octets-lt4-clause-exact
unfolding header_of
returns-then-octets-lt4-clause-exact c = grind (arith, common_steps)

pub returns-then-octets-lt4-clause-whole : goal.returns-then-octets-lt4-clause-whole
unfolding header_of
returns-then-octets-lt4-clause-whole c = grind (arith, common_steps)

pub returns-then-octets-lt4-clause-no_memory : goal.returns-then-octets-lt4-clause-no_memory
unfolding header_of
returns-then-octets-lt4-clause-no_memory c = grind (arith, common_steps)

pub returns-then-octets-ne84-clause-exact : goal.returns-then-octets-ne84-clause-exact
unfolding header_of
returns-then-octets-ne84-clause-exact c = grind (arith, common_steps)

pub returns-then-octets-ne84-clause-whole : goal.returns-then-octets-ne84-clause-whole
unfolding header_of
returns-then-octets-ne84-clause-whole c = grind (arith, common_steps)

pub returns-then-octets-ne84-clause-no_memory : goal.returns-then-octets-ne84-clause-no_memory
unfolding header_of
returns-then-octets-ne84-clause-no_memory c = grind (arith, common_steps)

pub returns-then-octets-lt10-clause-exact : goal.returns-then-octets-lt10-clause-exact
unfolding header_of
returns-then-octets-lt10-clause-exact c = grind (arith, common_steps)

pub returns-then-octets-lt10-clause-whole : goal.returns-then-octets-lt10-clause-whole
unfolding header_of
returns-then-octets-lt10-clause-whole c = grind (arith, common_steps)

pub returns-then-octets-lt10-clause-no_memory : goal.returns-then-octets-lt10-clause-no_memory
unfolding header_of
returns-then-octets-lt10-clause-no_memory c = grind (arith, common_steps)

pub returns-in_default-clause-exact : goal.returns-in_default-clause-exact
unfolding header_of
returns-in_default-clause-exact c = grind (arith, common_steps)

pub returns-in_default-clause-whole : goal.returns-in_default-clause-whole
unfolding header_of
returns-in_default-clause-whole c = grind (arith, common_steps)

pub returns-in_default-clause-no_memory : goal.returns-in_default-clause-no_memory
unfolding header_of
returns-in_default-clause-no_memory c = grind (arith, common_steps)

pub returns-then-records-wanted-clause-exact : goal.returns-then-records-wanted-clause-exact
unfolding header_of
returns-then-records-wanted-clause-exact c = grind (arith, common_steps)

pub returns-then-records-wanted-clause-whole : goal.returns-then-records-wanted-clause-whole
unfolding header_of
returns-then-records-wanted-clause-whole c = grind (arith, common_steps)

pub returns-then-records-wanted-2-clause-exact : goal.returns-then-records-wanted-2-clause-exact
unfolding header_of
returns-then-records-wanted-2-clause-exact c = grind (arith, common_steps)

pub returns-then-records-wanted-2-clause-whole : goal.returns-then-records-wanted-2-clause-whole
unfolding header_of
returns-then-records-wanted-2-clause-whole c = grind (arith, common_steps)

pub returns-clause-no_memory : goal.returns-clause-no_memory
unfolding header_of
returns-clause-no_memory c = grind (arith, common_steps)
