use Rattle.std.proofs.Common.{◌∙◌, sym, ◌∷◌, drop}
use Rattle.std.proofs.lemmas.List.{append_cancel_left}
use Rattle.std.specs.Prelude.{decimal}
use Rattle.tca_figures.proofs.lines.number_behind.Goals as goal

pub returns-in_default-strip_prefix-clause-only : goal.returns-in_default-strip_prefix-clause-only
unfolding lib.Utf8.encode
returns-in_default-strip_prefix-clause-only c n h e =
    let a = c.in-Some.ensures.cases in
    let b = c.in_default-strip_prefix.ensures.cases in
    let same = append_cancel_left c.args.word.now (drop a.0 c.args.line.now) (32 ∷ decimal n) (sym a.1.1 ∙ e) in
    absurd (b (decimal n) (a.2 ∙ same))
