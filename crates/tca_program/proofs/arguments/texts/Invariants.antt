use Rattle.std.proofs.Common.{◌≡◌, take}
use Rattle.tca_program.specs.Words.{texts}
use Rattle.tca_program.proofs.arguments.texts.Given as goal

abbrev pub invariant-loop-word : goal.invariant-loop-word
invariant-loop-word l = texts l.list.items ≡ texts (take l.word-index l.words)
