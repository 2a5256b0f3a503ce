use Rattle.std.proofs.Common.{◌≡◌, length, rules}
use Rattle.std.specs.Prelude.{None}
use Rattle.tca_program.specs.Words.{session_in}
use Rattle.tca_program.proofs.Splitting.{none_split, empty_split, other_split}
use Rattle.tca_program.proofs.word.split_word.Goals as goal

pub returns-in_default : goal.returns-in_default
returns-in_default c = none_split c.args.word.now c.in_default.ensures.cases

pub returns-then-is_empty : goal.returns-then-is_empty
returns-then-is_empty c =
    let none : length c.in-Some.path.now ≡ 0 = search rules in
    empty_split c.args.word.now c.in-Some.front c.in-Some.path c.in-Some.ensures.cases none

pub returns-in-None : goal.returns-in-None
returns-in-None c =
    let none : session_in c.in-Some.front.now ≡ None = search rules in
    other_split c.args.word.now c.in-Some.front c.in-Some.path c.in-Some.ensures.cases none
