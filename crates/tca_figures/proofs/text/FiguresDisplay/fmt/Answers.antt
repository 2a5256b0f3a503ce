use Rattle.std.proofs.Common.{◌≡◌, ◌∙◌, ◌++◌, rules, subst, take}
use Rattle.std.proofs.Output.{has_written_append, has_written_of_eq}
use Rattle.std.proofs.lemmas.List.{take_all}
use Rattle.std.specs.Fmt.{HasWritten}
use Rattle.tca_figures.specs.Lines.{octets_of, opening_lines}
use Rattle.tca_figures.proofs.Shown.{account_octets, all_octets}
use Rattle.tca_figures.proofs.text.FiguresDisplay.fmt.Goals as goal

pub returns-clause-writes : goal.returns-clause-writes
returns-clause-writes g c p ok =
    let accounts = c.accounts-accounts.result.now in
    let whole : take c.loop-account.account-index accounts ≡ c.args.self.now.accounts = take_all c.loop-account.account-index accounts c.loop-account-test.false ∙ c.accounts-accounts.ensures in
    let front = subst (λ z. HasWritten g.W.Write.write_str_gives c.args.f.now (octets_of (opening_lines c.args.self.now) ++ account_octets z) c.loop-account.f) whole (c.loop-account.invariant p) in
    has_written_of_eq _ _ _ _ _ (all_octets c.args.self.now) (has_written_append _ _ _ _ _ _ front (search rules))
