use Rattle.std.proofs.Common.{◌∷◌, map, take}
use Rattle.std.specs.Fmt.{HasWritten, IsPlainFormatter}
use Rattle.tca_figures.specs.Lines.{name_line, octets_of, span_line, total_line}
use Rattle.tca_figures.proofs.text.AccountFiguresDisplay.fmt.Given as goal

abbrev pub invariant-loop-span : goal.invariant-loop-span
invariant-loop-span g l = IsPlainFormatter l.fn.f → HasWritten g.W.Write.write_str_gives l.fn.f
    (octets_of (name_line l.self.name ∷ total_line l.self.total ∷ map span_line (take l.span-index l.spans))) l.f
