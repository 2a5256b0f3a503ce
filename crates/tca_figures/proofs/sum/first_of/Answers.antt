use Rattle.std.proofs.Common.{rules}
use Rattle.std.proofs.lemmas.Cmp.{ranked}
use Rattle.std.specs.declared.cmp.Ordering.TheVariants.{Equal, Greater, Less}
use Rattle.tca_figures.proofs.Firsts.{only_left, when_equal, when_greater, when_less, when_wide}
use Rattle.tca_figures.proofs.sum.first_of.Goals as goal

pub returns-in_default-split_first-clause-first : goal.returns-in_default-split_first-clause-first
returns-in_default-split_first-clause-first c =
    only_left c.args.left.now c.args.right.now c.requires.left c.requires.right c.in-Some.span.now c.in-Some.left_behind.now c.in-Some.ensures.cases.0 c.in_default-split_first.ensures.cases

pub returns-in_err-sum-in-Equal-clause-range : goal.returns-in_err-sum-in-Equal-clause-range
returns-in_err-sum-in-Equal-clause-range c =
    let x = c.in-Some.span.now in
    let y = c.in-Some-split_first.other.now in
    let e = ranked x.index y.index Equal c.in-Equal.ensures in
    let range = c.in_err-sum-in-Equal.ensures.range in
    let wide = when_wide c.args.left.now c.args.right.now c.requires.left c.requires.right x c.in-Some.left_behind.now y c.in-Some-split_first.right_behind.now
    c.in-Some.ensures.cases.0 c.in-Some-split_first.ensures.cases.0 e range.1 in
    search (rules, wide, range.0)

pub returns-in-Less-clause-first : goal.returns-in-Less-clause-first
returns-in-Less-clause-first c =
    let x = c.in-Some.span.now in
    let y = c.in-Some-split_first.other.now in
    when_less c.args.left.now c.args.right.now c.requires.left c.requires.right x c.in-Some.left_behind.now y c.in-Some-split_first.right_behind.now
    c.in-Some.ensures.cases.0 c.in-Some-split_first.ensures.cases.0 (ranked x.index y.index Less c.in-Less.ensures)

pub returns-in-Greater-clause-first : goal.returns-in-Greater-clause-first
returns-in-Greater-clause-first c =
    let x = c.in-Some.span.now in
    let y = c.in-Some-split_first.other.now in
    when_greater c.args.left.now c.args.right.now c.requires.left c.requires.right x c.in-Some.left_behind.now y c.in-Some-split_first.right_behind.now
    c.in-Some.ensures.cases.0 c.in-Some-split_first.ensures.cases.0 (ranked x.index y.index Greater c.in-Greater.ensures)

pub returns-in_ok-sum-in-Equal-clause-first : goal.returns-in_ok-sum-in-Equal-clause-first
returns-in_ok-sum-in-Equal-clause-first c =
    let x = c.in-Some.span.now in
    let y = c.in-Some-split_first.other.now in
    let sum = c.in_ok-sum-in-Equal.ensures.added in
    when_equal c.args.left.now c.args.right.now c.requires.left c.requires.right x c.in-Some.left_behind.now y c.in-Some-split_first.right_behind.now
    c.in-Some.ensures.cases.0 c.in-Some-split_first.ensures.cases.0 c.in_ok-sum-in-Equal.sum (ranked x.index y.index Equal c.in-Equal.ensures) sum.0 sum.1
