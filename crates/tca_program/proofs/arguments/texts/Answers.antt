use Rattle.std.proofs.lemmas.Grind.{common_steps}
use Rattle.std.proofs.Common.{◌≤◌, arith, length, take_all, ◌≡◌, ◌∙◌, Some, ap}
use Rattle.tca_program.specs.Words.{texts}
use Rattle.clap.specs.Words.{found_of}
use Rattle.clap.proofs.WalkLemmas.{raw_values-rows}
use Rattle.tca_program.proofs.arguments.texts.Goals as goal

pub returns-in_default : goal.returns-in_default
returns-in_default c = c.in_default.ensures ∙ raw_values-rows (found_of c.args.matches.now) c.args.id.now

pub returns : goal.returns
returns c =
    let past : length c.in-Some.words.now ≤ c.loop-word.word-index = omega (arith, c.loop-word-test.false) in
    let all : texts c.loop-word.list.items ≡ texts c.in-Some.words.now = c.loop-word.invariant ∙ ap texts (take_all _ c.in-Some.words.now past) in
    ap Some all ∙ c.in-Some.ensures ∙ raw_values-rows (found_of c.args.matches.now) c.args.id.now

pub loop-word-preserved : goal.loop-word-preserved
loop-word-preserved c = grind (arith, common_steps)
