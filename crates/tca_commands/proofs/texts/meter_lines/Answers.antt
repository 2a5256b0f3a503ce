use Rattle.std.proofs.lemmas.Grind.{common_steps}
use Rattle.std.proofs.Common.{refl, arith}
use Rattle.tca_commands.proofs.texts.meter_lines.Goals as goal

pub returns : goal.returns
returns c =
    rw (c.in_ok-push_str-2.ensures.bytes, c.in_ok-push_str.ensures.bytes, c.as_str.ensures.value, c.as_str-2.ensures.value, c.in_ok-text.ensures, c.in_ok-colour_line.ensures, c.in_ok-colour_line-2.ensures, c.octets-octets.ensures.value, c.packets-packets.ensures.value) refl

pub bounds-octets-0 : goal.bounds-octets-0
bounds-octets-0 c = grind (arith, common_steps)

pub bounds-packets-0 : goal.bounds-packets-0
bounds-packets-0 c = grind (arith, common_steps)

pub returns-in_err-text : goal.returns-in_err-text
returns-in_err-text c = grind (arith, common_steps)

pub bounds-octets-1 : goal.bounds-octets-1
bounds-octets-1 c = grind (arith, common_steps)

pub bounds-packets-1 : goal.bounds-packets-1
bounds-packets-1 c = grind (arith, common_steps)

pub returns-in_err-colour_line : goal.returns-in_err-colour_line
returns-in_err-colour_line c = grind (arith, common_steps)

pub returns-in_err-push_str : goal.returns-in_err-push_str
returns-in_err-push_str c = grind (arith, common_steps)

pub bounds-octets-2 : goal.bounds-octets-2
bounds-octets-2 c = grind (arith, common_steps)

pub bounds-packets-2 : goal.bounds-packets-2
bounds-packets-2 c = grind (arith, common_steps)

pub returns-in_err-colour_line-2 : goal.returns-in_err-colour_line-2
returns-in_err-colour_line-2 c = grind (arith, common_steps)

pub returns-in_err-push_str-2 : goal.returns-in_err-push_str-2
returns-in_err-push_str-2 c = grind (arith, common_steps)
