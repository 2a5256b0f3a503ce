use Rattle.std.proofs.Common.{◌++◌, take}
use Rattle.std.specs.Fmt.{HasWritten, IsPlainFormatter}
use Rattle.tca_figures.specs.Lines.{octets_of, opening_lines}
use Rattle.tca_figures.proofs.Shown.{account_octets}
use Rattle.tca_figures.proofs.text.FiguresDisplay.fmt.Given as goal

abbrev pub invariant-loop-account : goal.invariant-loop-account
invariant-loop-account g l = IsPlainFormatter l.fn.f → HasWritten g.W.Write.write_str_gives l.fn.f
    (octets_of (opening_lines l.self) ++ account_octets (take l.account-index l.accounts)) l.f
