use Rattle.std.proofs.Common.{◌≡◌, ◌∙◌, ◌||◌, Bool, false, codes, ap₂}
use Rattle.clap.specs.Words.{app_of, new_app, with_rule}
use Rattle.clap.specs.declared.builder.command.Command.TheViews.{out-Command}
use Rattle.tca_commands.proofs.commands.audit.Goals as goal

pub returns : goal.returns
returns c =
    let none : app_of c.named-command.result ≡ new_app (codes "audit") = c.named-command.ensures.command in
    let first = c.in_ok-command.ensures.shape c.one_word.ensures.local ∙ ap₂ with_rule none c.one_word.ensures.rule in
    let second = c.in_ok-command-2.ensures.shape c.one_word-2.ensures.local ∙ ap₂ with_rule first c.one_word-2.ensures.rule in
    let third = c.in_ok-arg.ensures.shape c.one_word-3.ensures.local ∙ ap₂ with_rule second c.one_word-3.ensures.rule in
    let or = λ (a b : Bool). a || b in
    let start : (out-Command c.named-command.result).has_globals ≡ false = c.named-command.ensures.local in
    let one = c.in_ok-command.ensures.globals ∙ ap₂ or start c.one_word.ensures.local in
    let two = c.in_ok-command-2.ensures.globals ∙ ap₂ or one c.one_word-2.ensures.local in
    (third, c.in_ok-arg.ensures.globals ∙ ap₂ or two c.one_word-3.ensures.local)
