use Rattle.std.proofs.Common.{◌∙◌, rules, sym}
use Rattle.std.proofs.lemmas.Fmt.{parse-decimal}
use Rattle.tca_figures.proofs.fields.number_of.Goals as goal

pub returns-in_default-clause-only : goal.returns-in_default-clause-only
returns-in_default-clause-only c n h e =
    let read = parse-decimal 64 n c.args.text.now c.parse.result h h e c.parse.ensures.value.0 in
    let bad = sym c.in_default.is ∙ read in
    cc

pub returns-then-eq-clause-only : goal.returns-then-eq-clause-only
returns-then-eq-clause-only c n h e =
    let read = parse-decimal 64 n c.args.text.now c.parse.result h h e c.parse.ensures.value.0 in
    let same = sym c.in-Ok.is ∙ read in
    cc

pub returns-else-eq-clause-only : goal.returns-else-eq-clause-only
returns-else-eq-clause-only c n h e =
    let read = parse-decimal 64 n c.args.text.now c.parse.result h h e c.parse.ensures.value.0 in
    let same = sym c.in-Ok.is ∙ read in
    search rules
