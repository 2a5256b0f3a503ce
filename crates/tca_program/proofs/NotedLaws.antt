-- The notes of the inputs, gathered one by one.
use Rattle.std.proofs.Common.{List, [], ◌∷◌, ◌++◌, append_assoc, sym, subst}
use Rattle.std.proofs.lemmas.List.{append-nil}
use Rattle.tca_report.specs.declared.input.Notes.{Notes}
use Rattle.tca_report.specs.input.Inputs.{InputView}
use Rattle.tca_program.specs.Noted.{AreNotes, IsNoted}

-- notes of what is left complete those so far
abbrev pub Completed : List InputView → List InputView → List Notes → Type 0
Completed inputs rest so_far = (more : List Notes) → AreNotes rest more → AreNotes inputs (so_far ++ more)

pub one_noted : (inputs rest : List InputView) (input : InputView) (so_far : List Notes) (notes : Notes) → IsNoted input notes → Completed inputs (input ∷ rest) so_far → Completed inputs rest (so_far ++ (notes ∷ []))
unfolding AreNotes
one_noted inputs rest input so_far notes is done more rest_is = subst (AreNotes inputs) (sym (append_assoc so_far (notes ∷ []) more)) (done (notes ∷ more) (is, rest_is))

pub all_noted : (inputs : List InputView) (so_far : List Notes) → Completed inputs [] so_far → AreNotes inputs so_far
unfolding AreNotes
all_noted inputs so_far done = subst (AreNotes inputs) (append-nil so_far) (done [] tt)
