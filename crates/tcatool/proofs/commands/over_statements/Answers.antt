use Rattle.std.proofs.Common.{◌∙◌, ap, ap₂}
use Rattle.clap.specs.Words.{App, app_of, with_subcommand}
use Rattle.tcatool.proofs.commands.over_statements.Goals as goal

pub returns : goal.returns
returns c =
    let top = λ (a : App). a.top in
    let first = c.in_ok-command.ensures.shape c.in_ok-table.ensures.1 ∙ ap (with_subcommand (app_of c.args.command)) (ap top c.in_ok-table.ensures.0) in
    let second = c.in_ok-command-2.ensures.shape c.in_ok-json.ensures.1 ∙ ap₂ with_subcommand first (ap top c.in_ok-json.ensures.0) in
    let third = c.in_ok-command-3.ensures.shape c.in_ok-page.ensures.1 ∙ ap₂ with_subcommand second (ap top c.in_ok-page.ensures.0) in
    c.in_ok-subcommand.ensures.shape c.in_ok-add.ensures.1 ∙ ap₂ with_subcommand third (ap top c.in_ok-add.ensures.0)
