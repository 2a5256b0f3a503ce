use Rattle.std.proofs.Common.{take}
use Rattle.tca_program.specs.Words.{AreAsked, texts}
use Rattle.tca_program.proofs.word.asked_by.Given as goal

abbrev pub invariant-loop-word : goal.invariant-loop-word
invariant-loop-word l = AreAsked (texts (take l.word-index l.words)) l.all.items
