use Rattle.std.proofs.Common.{◌∙◌, sym}
use Rattle.tca_figures.proofs.Spaces.{cut}
use Rattle.tca_figures.proofs.fields.next_of.Goals as goal

pub returns-in_default-clause-only : goal.returns-in_default-clause-only
returns-in_default-clause-only c n rest h e =
    let m = cut c.args.text.now n rest c.split_once.result c.split_once.ensures.cases h e in
    rw c.in_default.is at m

pub returns-in_default-number_of-clause-only : goal.returns-in_default-number_of-clause-only
returns-in_default-number_of-clause-only c n rest h e =
    let m = rw c.in-Some.is at (cut c.args.text.now n rest c.split_once.result c.split_once.ensures.cases h e) in
    let bad = sym c.in_default-number_of.is ∙ c.number_of.ensures.only n h m.0 in
    cc

pub returns-clause-only : goal.returns-clause-only
returns-clause-only c n rest h e =
    let m = rw c.in-Some.is at (cut c.args.text.now n rest c.split_once.result c.split_once.ensures.cases h e) in
    let same = sym c.in-Some-number_of.is ∙ c.number_of.ensures.only n h m.0 in
    (cc, m.1)
