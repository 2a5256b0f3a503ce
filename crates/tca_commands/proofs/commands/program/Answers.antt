use Rattle.std.proofs.Common.{◌≡◌, ◌∙◌, true, codes, ap, ap₂, rules}
use Rattle.clap.specs.Words.{App, app_of, new_app, with_subcommand}
use Rattle.tca_commands.proofs.commands.program.Goals as goal

pub returns : goal.returns
returns c =
    let top = λ (a : App). a.top in
    let none : app_of c.subcommand_required-command.result ≡ record (new_app (codes "tcacct")) { top = record (new_app (codes "tcacct")).top { subcommand_required = true } } = search rules in
    let first = c.in_ok-command.ensures.shape c.in_ok-meter.ensures.1 ∙ ap₂ with_subcommand none (ap top c.in_ok-meter.ensures.0) in
    let second = c.in_ok-command-2.ensures.shape c.in_ok-combine.ensures.1 ∙ ap₂ with_subcommand first (ap top c.in_ok-combine.ensures.0) in
    let third = c.in_ok-command-3.ensures.shape c.in_ok-bill.ensures.1 ∙ ap₂ with_subcommand second (ap top c.in_ok-bill.ensures.0) in
    c.in_ok-subcommand.ensures.shape c.in_ok-audit.ensures.1 ∙ ap₂ with_subcommand third (ap top c.in_ok-audit.ensures.0)
