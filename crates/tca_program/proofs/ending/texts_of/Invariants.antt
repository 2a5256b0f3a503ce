use Rattle.std.proofs.Common.{◌≡◌, map, string_bytes, take}
use Rattle.tca_program.proofs.ending.texts_of.Given as goal

abbrev pub invariant-loop-word : goal.invariant-loop-word
invariant-loop-word l = map (λ s. s.now) l.texts.items ≡ map (λ s. string_bytes s) (take l.word-index l.words)
