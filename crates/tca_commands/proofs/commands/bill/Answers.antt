use Rattle.std.proofs.Common.{arith, ◌≡◌, ◌∙◌, ◌||◌, Bool, false, codes, ap₂}
use Rattle.std.proofs.lemmas.Grind.{common_steps}
use Rattle.clap.specs.Words.{app_of, new_app, with_rule}
use Rattle.clap.specs.declared.builder.command.Command.TheViews.{out-Command}
use Rattle.tca_commands.proofs.commands.bill.Goals as goal

pub returns : goal.returns
returns c =
    let none : app_of c.named-command.result ≡ new_app (codes "bill") = c.named-command.ensures.command in
    let first = c.in_ok-command.ensures.shape c.number_up_to.ensures.local ∙ ap₂ with_rule none c.number_up_to.ensures.rule in
    let second = c.in_ok-command-2.ensures.shape c.number_up_to-2.ensures.local ∙ ap₂ with_rule first c.number_up_to-2.ensures.rule in
    let third = c.in_ok-command-3.ensures.shape c.option_word.ensures.local ∙ ap₂ with_rule second c.option_word.ensures.rule in
    let fourth = c.in_ok-command-4.ensures.shape c.one_word.ensures.local ∙ ap₂ with_rule third c.one_word.ensures.rule in
    let fifth = c.in_ok-arg.ensures.shape c.many_words.ensures.local ∙ ap₂ with_rule fourth c.many_words.ensures.rule in
    let or = λ (a b : Bool). a || b in
    let start : (out-Command c.named-command.result).has_globals ≡ false = c.named-command.ensures.local in
    let one = c.in_ok-command.ensures.globals ∙ ap₂ or start c.number_up_to.ensures.local in
    let two = c.in_ok-command-2.ensures.globals ∙ ap₂ or one c.number_up_to-2.ensures.local in
    let three = c.in_ok-command-3.ensures.globals ∙ ap₂ or two c.option_word.ensures.local in
    let four = c.in_ok-command-4.ensures.globals ∙ ap₂ or three c.one_word.ensures.local in
    (fifth, c.in_ok-arg.ensures.globals ∙ ap₂ or four c.many_words.ensures.local)

pub many_words-requires : goal.many_words-requires
many_words-requires c = grind (arith, common_steps)
