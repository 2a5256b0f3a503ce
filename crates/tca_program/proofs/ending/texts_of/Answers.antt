use Rattle.std.proofs.lemmas.Grind.{common_steps}
use Rattle.std.proofs.Common.{◌≤◌, ◌∙◌, arith, ap, length, map, string_bytes, take_all}
use Rattle.tca_program.proofs.ending.texts_of.Goals as goal

pub returns : goal.returns
returns c =
    let past : length c.args.words.now ≤ c.loop-word.word-index = omega (arith, c.loop-word-test.false) in
    c.loop-word.invariant ∙ ap (map (λ s. string_bytes s)) (take_all _ c.args.words.now past)

pub loop-word-preserved : goal.loop-word-preserved
loop-word-preserved c = grind (arith, common_steps)
